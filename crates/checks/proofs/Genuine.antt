-- A message is genuine exactly if each tag is good: for every signer, and for every board of the proof.
-- Layers above take from a genuine message the good tag of the board that they ask for.
use Rattle.std.proofs.Common.{◌≡◌, ℕ, true, not, ◌||◌, Decides, ⊎_elim}
use Rattle.std.proofs.lemmas.Bool.{and_from, and_parts, both_ways, cases_Bool, not_from_false, not-true, or_cases, or_left, or_right}
use Rattle.boards.specs.Boards.{member}
use Rattle.boards.proofs.Chosen.{every_at, every_true}
use Rattle.boards.proofs.Members.{member_below}
use Rattle.schemes.specs.Meaning.{Good}
use Rattle.wire.specs.Messages.{Msg}
use Rattle.checks.specs.declared.Part.{Part}
use Rattle.checks.specs.declared.Part.TheVariants.{Signers, Proof}
use Rattle.checks.specs.Checks.{boards_in, good_in, part_genuine, genuine, GenuineMeans}

pub part_means : (part : Part) (good : Good) (m : Msg) → Decides (part_genuine part good m) ((b : ℕ) → member (boards_in part m) b ≡ true → good_in part good m b ≡ true)
part_means part good m = (
  (λ e b i.
      ⊎_elim (λ no. absurd (both_ways (member (boards_in part m) b) (not-true _ no) i)) (λ y. y)
      (or_cases _ _ (every_at (λ k. not (member (boards_in part m) k) || good_in part good m k) 8 b e (member_below (boards_in part m) b i)))),
  (λ f. every_true (λ k. not (member (boards_in part m) k) || good_in part good m k) 8 (λ k _.
      ⊎_elim (λ y. or_right _ _ (f k y)) (λ no. or_left _ _ (not_from_false _ no)) (cases_Bool (member (boards_in part m) k)))),
)

pub genuine_part : (part : Part) (good : Good) (m : Msg) → genuine good m ≡ true → part_genuine part good m ≡ true
genuine_part Signers good m e = (and_parts (part_genuine Signers good m) (part_genuine Proof good m) e).0
genuine_part Proof good m e = (and_parts (part_genuine Signers good m) (part_genuine Proof good m) e).1

pub genuine_means : GenuineMeans
genuine_means good m = (
  (λ e part. (part_means part good m).0 (genuine_part part good m e)),
  (λ f. and_from _ _ ((part_means Signers good m).1 (f Signers)) ((part_means Proof good m).1 (f Proof))),
)
