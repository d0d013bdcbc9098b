-- The laws of a test over the boards below a number: whether some pass, and whether all do.
-- A test that computes is shown at each board by `every_at` and `refl`.
use Rattle.std.proofs.Common.{◌≡◌, ℕ, zero, suc, ◌+◌, ◌<◌, Bool, true, false, ◌&&◌, ◌||◌, sym, refl, ap, ◌∙◌, ⊎_elim, add-one, arith}
use Rattle.std.proofs.lemmas.Bool.{and_from, and_parts, both_ways, cases_Bool, cases_eq, or_cases, or_from, or_left, or_right}
use Rattle.boards.specs.Boards.{any, every}

-- One that passes is enough.
pub any_true : (P : ℕ → Bool) (n k : ℕ) → k < n → P k ≡ true → any P n ≡ true
unfolding any
any_true P zero k h e = absurd (omega arith)
any_true P (suc n) k h e =
    ⊎_elim (λ same. or_right (any P n) (P n) (ap P (sym same) ∙ e)) (λ ne. or_left (any P n) (P n) (any_true P n k (omega arith) e)) (cases_eq k n)

pub any_false : (P : ℕ → Bool) (n : ℕ) → ((k : ℕ) → k < n → P k ≡ false) → any P n ≡ false
unfolding any
any_false P zero h = refl
any_false P (suc n) h = or_from (any P n) (P n) (any_false P n (λ k l. h k (omega arith))) (h n (omega arith))

-- Where some pass there is one.
pub any_some : (P : ℕ → Bool) (n : ℕ) → any P n ≡ true → (k : ℕ) × (k < n) × (P k ≡ true)
unfolding any
any_some P zero e = absurd (both_ways false refl e)
any_some P (suc n) e =
    ⊎_elim (λ l. let r = any_some P n l in (r.0, omega (arith, r.1), r.2)) (λ here. (n, omega arith, here)) (or_cases (any P n) (P n) e)

pub any_none : (P : ℕ → Bool) (n : ℕ) → any P n ≡ false → (k : ℕ) → k < n → P k ≡ false
any_none P n e k h = ⊎_elim (λ y. absurd (both_ways (any P n) e (any_true P n k h y))) (λ no. no) (cases_Bool (P k))

pub any_first : (P : ℕ → Bool) → any P 0 ≡ false
unfolding any
any_first P = refl

pub any_next : (P : ℕ → Bool) (n : ℕ) → any P (n + 1) ≡ (any P n || P n)
unfolding any
any_next P n = ap (any P) (add-one n)

-- Tests that agree below n agree whether some pass.
pub any_same : (P Q : ℕ → Bool) (n : ℕ) → ((k : ℕ) → k < n → P k ≡ Q k) → any P n ≡ any Q n
unfolding any
any_same P Q zero h = refl
any_same P Q (suc n) h = λ i. any_same P Q n (λ k l. h k (omega arith)) i || h n (omega arith) i

pub every_true : (P : ℕ → Bool) (n : ℕ) → ((k : ℕ) → k < n → P k ≡ true) → every P n ≡ true
unfolding every
every_true P zero h = refl
every_true P (suc n) h = and_from (every P n) (P n) (every_true P n (λ k l. h k (omega arith))) (h n (omega arith))

-- Where all pass each does.
pub every_at : (P : ℕ → Bool) (n k : ℕ) → every P n ≡ true → k < n → P k ≡ true
unfolding every
every_at P zero k e h = absurd (omega arith)
every_at P (suc n) k e h =
    let p = and_parts (every P n) (P n) e in
    ⊎_elim (λ same. ap P same ∙ p.1) (λ ne. every_at P n k p.0 (omega arith)) (cases_eq k n)

pub every_false : (P : ℕ → Bool) (n k : ℕ) → k < n → P k ≡ false → every P n ≡ false
every_false P n k h e = ⊎_elim (λ y. absurd (both_ways (P k) e (every_at P n k y h))) (λ no. no) (cases_Bool (every P n))

pub every_next : (P : ℕ → Bool) (n : ℕ) → every P (n + 1) ≡ (every P n && P n)
unfolding every
every_next P n = ap (every P) (add-one n)
