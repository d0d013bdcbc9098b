-- Sets of the eight boards, one byte a set: the top bit stands for board 0, the lowest for board 7.
-- All that is said of a set is said of its members; only `member` and `only` know a bit.
use Rattle.std.specs.Prelude.{◌≡◌, ℕ, zero, suc, ◌+◌, ◌-◌, ◌*◌, ◌/◌, ◌%◌, ◌^◌, ◌<◌, ◌≤◌, Bool, true, false, not, ◌&&◌, ◌||◌, ◌⊎◌, List, [], ◌∷◌, ◌++◌, cond, Some, None, Option, ◌==◌, bit_and, nat_lt}

-- Board b is a member of set s when its bit is set; a board above 7 is a member of none.
unfoldable pub member : ℕ → ℕ → Bool
member s b = nat_lt b 8 && s / 2 ^ (7 - b) % 2 == 1

-- The set of just board b; it is empty for a board above 7.
unfoldable pub only : ℕ → ℕ
only b = 128 / 2 ^ b

-- What a board counts for: 1 if it passes a test, 0 if not.
abbrev pub one : Bool → ℕ
one true = 1
one false = 0

-- How many of the boards below n pass a test.
unfoldable pub tally : (ℕ → Bool) → ℕ → ℕ
tally P zero = 0
tally P (suc n) = tally P n + one (P n)

-- Whether all of the boards below n pass a test.
unfoldable pub every : (ℕ → Bool) → ℕ → Bool
every P zero = true
every P (suc n) = every P n && P n

-- Whether some board below n passes a test.
unfoldable pub any : (ℕ → Bool) → ℕ → Bool
any P zero = false
any P (suc n) = any P n || P n

-- How many boards a set has.
unfoldable pub size : ℕ → ℕ
size s = tally (member s) 8

-- How many boards of a set stand before board b.
unfoldable pub place : ℕ → ℕ → ℕ
place s b = tally (member s) b

-- Every board of a is one of v.
abbrev pub Within : ℕ → ℕ → Type 0
Within a v = (k : ℕ) → k < 8 → member a k ≡ true → member v k ≡ true

-- Set r has the boards of s and board b.
abbrev pub With : ℕ → ℕ → ℕ → Type 0
With s b r = (k : ℕ) → k < 8 → member r k ≡ (member s k || k == b)

-- Set r has the boards of s but for board b.
abbrev pub Without : ℕ → ℕ → ℕ → Type 0
Without s b r = (k : ℕ) → k < 8 → member r k ≡ (member s k && not (k == b))

-- Set r has the boards of a that are not in b.
abbrev pub Minus : ℕ → ℕ → ℕ → Type 0
Minus a b r = (k : ℕ) → k < 8 → member r k ≡ (member a k && not (member b k))

-- The rank of a member is its place from 1, by rising board number; no other board has one.
abbrev pub Rank : ℕ → ℕ → Option ℕ → Type 0
Rank s b (Some r) = (member s b ≡ true) × (r ≡ place s b + 1)
Rank s b None = member s b ≡ false

-- Each rank from 1 to the size belongs to one member; there is no board at another.
abbrev pub Holder : ℕ → ℕ → Option ℕ → Type 0
Holder s r (Some b) = (b < 8) × (member s b ≡ true) × (place s b + 1 ≡ r)
Holder s r None = (r ≡ 0) ⊎ (size s < r)

-- The boards below n that pass a test, each once, by rising number.
unfoldable pub passing : (ℕ → Bool) → ℕ → List ℕ
passing P zero = []
passing P (suc n) = passing P n ++ cond (P n) (n ∷ []) []

-- The boards of a set, each once, by rising number.
unfoldable pub boards : ℕ → List ℕ
boards s = passing (member s) 8

-- A walk over set s gives the first of its boards and leaves the others, which are those of set t; none if there is none.
abbrev pub First : ℕ → Option ℕ → ℕ → Type 0
First s (Some b) t = (b < 8) × (boards s ≡ b ∷ boards t)
First s None t = (boards s ≡ []) × (boards t ≡ [])

-- From the back it gives the last of them and leaves the others.
abbrev pub Last : ℕ → Option ℕ → ℕ → Type 0
Last s (Some b) t = (b < 8) × (boards s ≡ boards t ++ b ∷ [])
Last s None t = (boards s ≡ []) × (boards t ≡ [])

-- Sets a and b have a board in common that is not in f.
abbrev pub Meet : ℕ → ℕ → ℕ → Type 0
Meet a b f = (k : ℕ) × (k < 8) × (member a k ≡ true) × (member b k ≡ true) × (member f k ≡ false)

-- Two sets of at least q boards of v meet outside f, if f has at most m boards of v and the two overlap by more than m.
abbrev pub QuorumsMeet : Type 0
QuorumsMeet =
    (v a b f q m : ℕ) → Within a v → Within b v → q ≤ size a → q ≤ size b → size (bit_and f v) ≤ m → size v + m < 2 * q → Meet a b f

-- A set of more than m boards of v has one outside f, if f has at most m boards of v.
abbrev pub OneIsCorrect : Type 0
OneIsCorrect =
    (v a f m : ℕ) → Within a v → size (bit_and f v) ≤ m → m < size a → (k : ℕ) × (k < 8) × (member a k ≡ true) × (member f k ≡ false)
