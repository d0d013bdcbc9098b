-- One vote a level: two votes of a row in the same view and at the same level are the same vote.
-- So a row acks one change at a rank, since a second vote there would need a floor above it.
use Rattle.std.proofs.Common.{◌≡◌, ℕ, ◌<◌, sym, ap, ◌∙◌, ⊎_elim, arith}
use Rattle.views_agree.proofs.Deeds.{Vote, level, More}
use Rattle.views_agree.proofs.Floor.{Floor, above_floor}

abbrev pub OneVote : (ℕ → Vote → Type 0) → Type 0
OneVote did = (x : ℕ) (v w : Vote) → did x v → did x w → level v ≡ level w → v ≡ w

-- An ack is its change.
pub one_ack : {did : ℕ → Vote → Type 0} → OneVote did → (x k c d : ℕ) → did x (Vote.Ack k c) → did x (Vote.Ack k d) → c ≡ d
one_ack p x k c d u w = let e = p x (Vote.Ack k c) (Vote.Ack k d) u w (λ i. level (Vote.Ack k c)) in cc

-- One vote more.
pub one_vote_voted : {now floor : ℕ} {did : ℕ → Vote → Type 0} → Floor now floor did → OneVote did → (y : ℕ) (v : Vote) → y ≡ now → level v < floor → OneVote (More did y v)
one_vote_voted f p y v same low x u w du dw l =
    ⊎_elim
    (λ a. ⊎_elim (λ b. a.1 ∙ sym b.1) (λ b. absurd (omega (arith, ap level a.1, above_floor f x w (a.0 ∙ same) b))) dw)
    (λ a. ⊎_elim (λ b. absurd (omega (arith, ap level b.1, above_floor f x u (b.0 ∙ same) a))) (λ b. p x u w a b l) dw)
    du
