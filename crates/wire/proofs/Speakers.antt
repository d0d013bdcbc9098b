-- A set of just one board tells the board.
-- `speaker` undoes `only` for the eight boards, and each set of one board is `only` of its speaker.
use Rattle.std.proofs.Common.{◌≡◌, ℕ, ◌<◌, true, cond, eqb, ltb, sym, refl, ap, ◌∙◌, ⊎_elim, arith}
use Rattle.std.proofs.lemmas.Bool.{cases_lt, cases_Bool, both_ways, eq-eqb, ne_eqb, eqb-true, ltb-true}
use Rattle.boards.specs.Boards.{member, only, every, size}
use Rattle.boards.proofs.Chosen.{every_at}
use Rattle.boards.proofs.Members.{member_only, only_above, same_set}
use Rattle.boards.proofs.Sets.{size_none, place_some, place_below, same_place}
use Rattle.wire.specs.Fields.{lone}

-- The board of a set that has just one.
abbrev pub speaker : ℕ → ℕ
speaker s =
    cond (eqb s 128) 0 (cond (eqb s 64) 1 (cond (eqb s 32) 2 (cond (eqb s 16) 3 (cond (eqb s 8) 4 (cond (eqb s 4) 5 (cond (eqb s 2) 6 7))))))

pub speaker_only : (b : ℕ) → b < 8 → speaker (only b) ≡ b
unfolding only every
speaker_only b h = eqb-true (speaker (only b)) b (every_at (λ k. eqb (speaker (only k)) k) 8 b refl h)

only_below_256 : (b : ℕ) → b < 8 → only b < 256
unfolding only every
only_below_256 b h = ltb-true (only b) 256 (every_at (λ k. ltb (only k) 256) 8 b refl h)

pub lone_size : (s : ℕ) → lone s ≡ true → size s ≡ 1
unfolding lone
lone_size s e = eqb-true (size s) 1 e

pub lone_below : (b : ℕ) → lone (only b) ≡ true → b < 8
lone_below b e =
    ⊎_elim (λ l. l) (λ g. absurd (omega (arith, lone_size (only b) e, ap size (only_above b g), size_none))) (cases_lt b 8)

pub lone_is : (s : ℕ) → s < 256 → lone s ≡ true → s ≡ only (speaker s)
lone_is s h e =
    let one = lone_size s e in
    let r = place_some s 0 (omega (arith, one)) in
    let b = r.0 in
    let same : (k : ℕ) → k < 8 → member s k ≡ eqb k b = λ k l.
    ⊎_elim (λ m. m ∙ sym (eq-eqb k b (same_place s k b m r.2 (omega (arith, place_below s k m, one, r.3)))))
    (λ m. m ∙ sym (ne_eqb k b (λ q. both_ways (member s k) m (ap (member s) q ∙ r.2)))) (cases_Bool (member s k)) in
    let is : s ≡ only b = same_set s (only b) h (only_below_256 b r.1) (λ k l. same k l ∙ sym (member_only b k l)) in
    is ∙ ap only (sym (ap speaker is ∙ speaker_only b r.1))
