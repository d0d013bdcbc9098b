-- Sums over the boards of a set, such as the bytes that its boards take up.
-- What each board gives bounds or fixes the sum by the size of the set.
use Rattle.std.proofs.Common.{◌≡◌, ℕ, zero, suc, ◌+◌, ◌*◌, ◌<◌, ◌≤◌, Bool, true, false, cond, refl, add-mul, one-mul, zero-mul, arith}
use Rattle.boards.specs.Boards.{member, one, tally, size}

-- What the boards below n that pass a test give together.
unfoldable pub given : (ℕ → ℕ) → (ℕ → Bool) → ℕ → ℕ
given f P zero = 0
given f P (suc n) = given f P n + cond (P n) (f n) 0

-- The sum of f over the boards of a set.
unfoldable pub sum : (ℕ → ℕ) → ℕ → ℕ
sum f s = given f (member s) 8

gives_at_most : (b : Bool) (x c : ℕ) → (b ≡ true → x ≤ c) → cond b x 0 ≤ one b * c
gives_at_most true x c h = omega (arith, h refl, one-mul c)
gives_at_most false x c h = omega arith

gives_at_least : (b : Bool) (x c : ℕ) → (b ≡ true → c ≤ x) → one b * c ≤ cond b x 0
gives_at_least true x c h = omega (arith, h refl, one-mul c)
gives_at_least false x c h = omega (arith, zero-mul c)

given_at_most : (f : ℕ → ℕ) (P : ℕ → Bool) (c n : ℕ) → ((k : ℕ) → k < n → P k ≡ true → f k ≤ c) → given f P n ≤ tally P n * c
unfolding given tally
given_at_most f P c zero h = omega arith
given_at_most f P c (suc n) h =
    omega (arith, given_at_most f P c n (λ k l. h k (omega arith)), gives_at_most (P n) (f n) c (h n (omega arith)), add-mul (tally P n) (one (P n)) c)

given_at_least : (f : ℕ → ℕ) (P : ℕ → Bool) (c n : ℕ) → ((k : ℕ) → k < n → P k ≡ true → c ≤ f k) → tally P n * c ≤ given f P n
unfolding given tally
given_at_least f P c zero h = omega (arith, zero-mul c)
given_at_least f P c (suc n) h =
    omega (arith, given_at_least f P c n (λ k l. h k (omega arith)), gives_at_least (P n) (f n) c (h n (omega arith)), add-mul (tally P n) (one (P n)) c)

pub sum_at_most : (f : ℕ → ℕ) (s c : ℕ) → ((k : ℕ) → k < 8 → member s k ≡ true → f k ≤ c) → sum f s ≤ size s * c
unfolding sum size
sum_at_most f s c h = given_at_most f (member s) c 8 h

pub sum_at_least : (f : ℕ → ℕ) (s c : ℕ) → ((k : ℕ) → k < 8 → member s k ≡ true → c ≤ f k) → size s * c ≤ sum f s
unfolding sum size
sum_at_least f s c h = given_at_least f (member s) c 8 h

-- Boards that all give c give c times the size.
pub sum_each : (f : ℕ → ℕ) (s c : ℕ) → ((k : ℕ) → k < 8 → member s k ≡ true → f k ≡ c) → sum f s ≡ size s * c
sum_each f s c h = omega (arith, sum_at_most f s c (λ k l e. omega (arith, h k l e)), sum_at_least f s c (λ k l e. omega (arith, h k l e)))
