-- Audits: the boards of each part of a message by whether their tags are good for their words under the boards' keys.
-- Which tags are good is the keyed scheme's to say; what a tag stands for is said in crate wire.
use Rattle.std.specs.Prelude.{◌≡◌, ℕ, ◌*◌, Bool, true, false, not, ◌&&◌, List, [], ◌∷◌, map, take, drop, Some, None, Option}
use Rattle.boards.specs.Boards.{member}
use Rattle.schemes.specs.Meaning.{Good}
use Rattle.wire.specs.Messages.{Msg}
use Rattle.checks.specs.declared.Part.{Part}
use Rattle.checks.specs.declared.Part.TheVariants.{Signers, Proof}
use Rattle.checks.specs.Checks.{boards_in, good_in}
use Rattle.script.specs.declared.audit.Verdict.{Verdict}
use Rattle.script.specs.declared.audit.Audit.{Audit}

-- Board b's key in the bytes of all: 16 bytes.
abbrev pub key_of : ℕ → List ℕ → List ℕ
key_of b bs = take 16 (drop (16 * b) bs)

-- The keys of the eight boards, board 0's first.
abbrev pub keys_of : List ℕ → List (List ℕ)
keys_of bs = map (λ b. key_of b bs) (0 ∷ 1 ∷ 2 ∷ 3 ∷ 4 ∷ 5 ∷ 6 ∷ 7 ∷ [])

-- The boards of a part: the good ones are those whose tags are good, the bad ones all others.
pub record Judged (part : Part) (good : Good) (m : Msg) (v : Verdict) : Type 0 where
  pub good_ones : (b : ℕ) → member v.good.bits b ≡ (member (boards_in part m) b && good_in part good m b)
  pub bad_ones : (b : ℕ) → member v.bad.bits b ≡ (member (boards_in part m) b && not (good_in part good m b))

-- The kinds that have a proof: last and suggest-last.
abbrev pub has_proof : Msg → Bool
has_proof (Msg.notify v c s t) = false
has_proof (Msg.suggest v c s t) = false
has_proof (Msg.ack v r c s t) = false
has_proof (Msg.proposal v r c s t) = false
has_proof (Msg.ready v r c s t) = false
has_proof (Msg.change v r c s t) = false
has_proof (Msg.deputy v r s t) = false
has_proof (Msg.query v r s t) = false
has_proof (Msg.last v r s e p a) = true
has_proof (Msg.suggest_last v r s es p a) = true
has_proof (Msg.init v s n k p t) = false
has_proof (Msg.echo v s n k p b t) = false
has_proof (Msg.commit v s n k p b t) = false

-- The boards of the proof are judged exactly in the kinds that have one.
abbrev pub ProofJudged : Good → Msg → Option Verdict → Type 0
ProofJudged good m (Some v) = (has_proof m ≡ true) × Judged Proof good m v
ProofJudged good m None = has_proof m ≡ false

-- The audit of a message: its signers and the boards of its proof.
pub record Audits (good : Good) (m : Msg) (a : Audit) : Type 0 where
  pub signed : Judged Signers good m a.signers
  pub proved : ProofJudged good m a.proof
