-- How many of the boards below n pass a test: the laws of a tally, for any test.
-- Nothing here knows of bits or bytes; Sets has the same laws in the words of a set.
use Rattle.std.proofs.Common.{◌≡◌, ℕ, zero, suc, ◌+◌, ◌<◌, ◌≤◌, Bool, true, false, sym, refl, ap, ◌∙◌, ⊎_elim, arith}
use Rattle.std.proofs.lemmas.Bool.{cases_eq, cases_lt}
use Rattle.boards.specs.Boards.{one, tally}

one_le : (b : Bool) → one b ≤ 1
one_le true = omega arith
one_le false = omega arith

one_within : (a b : Bool) → (a ≡ true → b ≡ true) → one a ≤ one b
one_within true b h = omega (arith, ap one (h refl))
one_within false b h = omega arith

-- What counts has passed.
pub one_passed : (b : Bool) → 0 < one b → b ≡ true
one_passed true h = refl
one_passed false h = absurd (omega arith)

pub tally_le : (P : ℕ → Bool) (n : ℕ) → tally P n ≤ n
unfolding tally
tally_le P zero = omega arith
tally_le P (suc n) = omega (arith, tally_le P n, one_le (P n))

pub tally_grows : (P : ℕ → Bool) (b n : ℕ) → b ≤ n → tally P b ≤ tally P n
unfolding tally
tally_grows P b zero h = let e : b ≡ 0 = omega arith in omega (arith, ap (tally P) e)
tally_grows P b (suc n) h =
    ⊎_elim (λ e. omega (arith, ap (tally P) e)) (λ ne. omega (arith, tally_grows P b n (omega arith))) (cases_eq b (suc n))

-- A board that passes is counted from the next board on.
pub tally_rises : (P : ℕ → Bool) (b n : ℕ) → b < n → P b ≡ true → tally P b < tally P n
unfolding tally
tally_rises P b n h e = let next : tally P b + one (P b) ≤ tally P n = tally_grows P (suc b) n h in omega (arith, next, ap one e)

-- Each count below the tally is that of the boards before one that passes.
pub tally_some : (P : ℕ → Bool) (n p : ℕ) → p < tally P n → (b : ℕ) × (b < n) × (P b ≡ true) × (tally P b ≡ p)
unfolding tally
tally_some P zero p h = absurd (omega arith)
tally_some P (suc n) p h =
    ⊎_elim
    (λ below. let r = tally_some P n p below in (r.0, omega (arith, r.1), r.2, r.3))
    (λ above. (n, omega arith, one_passed (P n) (omega arith), omega (arith, one_le (P n))))
    (cases_lt p (tally P n))

pub tally_within : (A B : ℕ → Bool) (n : ℕ) → ((k : ℕ) → k < n → A k ≡ true → B k ≡ true) → tally A n ≤ tally B n
unfolding tally
tally_within A B zero h = omega arith
tally_within A B (suc n) h = omega (arith, tally_within A B n (λ k l. h k (omega arith)), one_within (A n) (B n) (h n (omega arith)))

pub tally_same : (A B : ℕ → Bool) (n : ℕ) → ((k : ℕ) → k < n → A k ≡ B k) → tally A n ≡ tally B n
tally_same A B n h = omega (arith, tally_within A B n (λ k l e. sym (h k l) ∙ e), tally_within B A n (λ k l e. h k l ∙ e))

-- Two tests that differ at most at board b have tallies that differ by what b counts for.
pub tally_but : (A B : ℕ → Bool) (b n : ℕ) → b < n → ((k : ℕ) → k < n → (k ≡ b → ⊥) → A k ≡ B k) → tally B n + one (A b) ≡ tally A n + one (B b)
unfolding tally
tally_but A B b zero l h = absurd (omega arith)
tally_but A B b (suc n) l h =
    ⊎_elim
    (λ e. omega (arith, tally_same A B n (λ k i. h k (omega arith) (λ o. omega arith)), ap (λ k. one (A k)) e, ap (λ k. one (B k)) e))
    (λ ne. omega (arith, tally_but A B b n (omega arith) (λ k i. h k (omega arith)), ap one (h n (omega arith) (λ o. ne (sym o)))))
    (cases_eq b n)
