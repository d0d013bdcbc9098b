-- The lines of a script and their words, as bytes of ASCII text.
-- A number sign starts a comment; spaces and tabs stand between words; a carriage return at the end of a line is blank.
use Rattle.std.specs.Prelude.{◌≡◌, ℕ, suc, ◌-◌, Bool, cond, not, ◌&&◌, ◌||◌, List, [], ◌∷◌, length, take, drop, Some, None, Option, ◌==◌, nat_le, nat_lt, slice_index}
use Rattle.std.specs.Borrow.{Bor}

-- How many bytes at the front pass a test.
unfoldable pub lead : (ℕ → Bool) → List ℕ → ℕ
lead P [] = 0
lead P (b ∷ bs) = cond (P b) (suc (lead P bs)) 0

-- Each byte passes.
abbrev pub Whole : (ℕ → Bool) → List ℕ → Type 0
Whole P bs = lead P bs ≡ length bs

-- A space or a tab.
abbrev pub blank : ℕ → Bool
blank b = b == 32 || b == 9

-- A byte of text: a blank or a printable character.
abbrev pub plain : ℕ → Bool
plain b = blank b || (nat_lt 32 b && nat_lt b 127)

-- A decimal digit.
abbrev pub digit_sign : ℕ → Bool
digit_sign b = nat_le 48 b && nat_le b 57

-- A hexadecimal digit, in either case.
abbrev pub hex_sign : ℕ → Bool
hex_sign b = digit_sign b || ((nat_le 65 b && nat_le b 70) || (nat_le 97 b && nat_le b 102))

-- The bytes before the first mark; all of them if there is none.
abbrev pub before : ℕ → List ℕ → List ℕ
before m bs = take (lead (λ b. not (b == m)) bs) bs

-- The bytes past the first mark; none if there is none.
abbrev pub past : ℕ → List ℕ → List ℕ
past m bs = drop 1 (drop (lead (λ b. not (b == m)) bs) bs)

-- The line without a carriage return at its end.
abbrev pub chomped : List ℕ → List ℕ
chomped bs = cond (slice_index bs (length bs - 1) == 13) (take (length bs - 1) bs) bs

-- What a line says: all before its comment.
abbrev pub body : List ℕ → List ℕ
body line = before 35 (chomped line)

-- A byte put before the first piece.
abbrev pub onto : ℕ → List (List ℕ) → List (List ℕ)
onto b [] = (b ∷ []) ∷ []
onto b (p ∷ ps) = (b ∷ p) ∷ ps

-- Bytes cut at each blank.
unfoldable pub pieces : List ℕ → List (List ℕ)
pieces [] = [] ∷ []
pieces (b ∷ bs) = cond (blank b) ([] ∷ pieces bs) (onto b (pieces bs))

-- The pieces that are not empty.
unfoldable pub kept : List (List ℕ) → List (List ℕ)
kept [] = []
kept ([] ∷ ps) = kept ps
kept ((b ∷ bs) ∷ ps) = (b ∷ bs) ∷ kept ps

-- The words: what stands between blanks.
unfoldable pub words : List ℕ → List (List ℕ)
words bs = kept (pieces bs)

-- The first word and what comes after it; none if there is no word.
abbrev pub NextWord : List ℕ → Option (Bor (List ℕ) × Bor (List ℕ)) → Type 0
NextWord bs None = words bs ≡ []
NextWord bs (Some r) = words bs ≡ r.0.now ∷ words r.1.now
