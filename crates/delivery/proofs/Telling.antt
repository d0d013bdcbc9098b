-- One board more, and one view more: how what is told of the boards or views so far goes on.
-- For the loops of src/endings.rt.
use Rattle.std.proofs.Common.{◌≡◌, ℕ, zero, suc, ◌+◌, ◌≤◌, max, Bool, true, false, cond, ◌&&◌, leb, Some, None, refl, ap, ◌∙◌, add-one, arith}
use Rattle.std.proofs.lemmas.Bool.{and_from, cond-true, cond-false, le-leb}
use Rattle.boards.specs.Boards.{every}
use Rattle.row.specs.States.{highest}
use Rattle.delivery.specs.Endings.{largest, lowest_from}

pub highest_more : (P : ℕ → Bool) (n : ℕ) → highest P (n + 1) ≡ cond (P n) n (highest P n)
unfolding highest
highest_more P n = ap (highest P) (add-one n)

pub none_yet : (P : ℕ → Bool) → highest P 0 ≡ 8
unfolding highest
none_yet P = refl

pub every_none : (P : ℕ → Bool) → every P 0 ≡ true
unfolding every
every_none P = refl

pub largest_more : (f : ℕ → ℕ) (n : ℕ) → largest f (n + 1) ≡ max (largest f n) (f n)
unfolding largest
largest_more f n = ap (largest f) (add-one n)

pub largest_none : (f : ℕ → ℕ) → largest f 0 ≡ 0
unfolding largest
largest_none f = refl

pub lowest_here : (P : ℕ → Bool) (v n : ℕ) → 1 ≤ n → P v ≡ true → lowest_from P v n ≡ Some v
unfolding lowest_from
lowest_here P v zero low is = absurd (omega arith)
lowest_here P v (suc n) low is = cond-true (P v) (Some v) (lowest_from P (v + 1) n) is

pub lowest_on : (P : ℕ → Bool) (v n m : ℕ) → n ≡ m + 1 → P v ≡ false → lowest_from P v n ≡ lowest_from P (v + 1) m
unfolding lowest_from
lowest_on P v n m e is = ap (lowest_from P v) (e ∙ add-one m) ∙ cond-false (P v) (Some v) (lowest_from P (v + 1) m) is

pub lowest_over : (P : ℕ → Bool) (v n : ℕ) → n ≡ 0 → lowest_from P v n ≡ None
unfolding lowest_from
lowest_over P v n e = ap (lowest_from P v) e

-- A number from 1 to 64 is that of a view.
pub placed : (v : ℕ) → 1 ≤ v → v ≤ 64 → (leb 1 v && leb v 64) ≡ true
placed v low high = and_from _ _ (le-leb 1 v low) (le-leb v 64 high)
