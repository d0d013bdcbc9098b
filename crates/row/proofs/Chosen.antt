-- The laws of the highest board that passes a test.
-- Only this file opens `highest`; whether some or all boards pass is a matter of crate boards.
use Rattle.std.proofs.Common.{◌≡◌, ℕ, zero, suc, ◌<◌, ◌≤◌, Bool, true, false, cond, sym, refl, ap, ◌∙◌, ⊎_elim, arith}
use Rattle.std.proofs.lemmas.Bool.{both_ways, cases_eq, cond-true, cond-false}
use Rattle.row.specs.States.{highest}

-- The highest board that passes is the one above which none does.
pub highest_is : (P : ℕ → Bool) (n b : ℕ) → b < n → P b ≡ true → ((k : ℕ) → b < k → k < n → P k ≡ false) → highest P n ≡ b
unfolding highest
highest_is P zero b h e above = absurd (omega arith)
highest_is P (suc n) b h e above =
    ⊎_elim
    (λ same. cond-true (P n) n (highest P n) (ap P (sym same) ∙ e) ∙ sym same)
    (λ ne. cond-false (P n) n (highest P n) (above n (omega arith) (omega arith)) ∙ highest_is P n b (omega arith) e (λ k l m. above k l (omega arith)))
    (cases_eq b n)

pub highest_none : (P : ℕ → Bool) (n : ℕ) → ((k : ℕ) → k < n → P k ≡ false) → highest P n ≡ 8
unfolding highest
highest_none P zero h = refl
highest_none P (suc n) h = cond-false (P n) n (highest P n) (h n (omega arith)) ∙ highest_none P n (λ k l. h k (omega arith))

-- Where one passes, the highest passes.
pub highest_passes : (P : ℕ → Bool) (n k : ℕ) → k < n → P k ≡ true → (highest P n < n) × (P (highest P n) ≡ true) × (k ≤ highest P n)
unfolding highest
highest_passes P zero k h e = absurd (omega arith)
highest_passes P (suc n) k h e =
    let Goal : ℕ → Type 0 = λ x. (x < suc n) × (P x ≡ true) × (k ≤ x) in
    let pick : (b : Bool) → P n ≡ b → Goal (cond b n (highest P n)) =
    λ b. elim b as (λ v. P n ≡ v → Goal (cond v n (highest P n))) [
      | true ↦ λ y. (omega arith, y, omega arith)
      | false ↦ λ y.
          let below : k < n = ⊎_elim (λ same. absurd (both_ways (P n) y (ap P (sym same) ∙ e))) (λ ne. omega arith) (cases_eq k n) in
          let r = highest_passes P n k below e in
          (omega (arith, r.0), r.1, r.2)
    ] in
    pick (P n) refl

-- Tests that agree below n have one highest board.
pub highest_same : (P Q : ℕ → Bool) (n : ℕ) → ((k : ℕ) → k < n → P k ≡ Q k) → highest P n ≡ highest Q n
unfolding highest
highest_same P Q zero h = refl
highest_same P Q (suc n) h = λ i. cond (h n (omega arith) i) n (highest_same P Q n (λ k l. h k (omega arith)) i)
