-- The texts that answers are made of, as bytes of ASCII text.
-- A number stands in decimal digits, as the library writes it; bytes stand in hexadecimal, upper case.
use Rattle.std.specs.Prelude.{ℕ, zero, suc, ◌+◌, ◌/◌, ◌%◌, cond, List, [], ◌∷◌, ◌++◌, map, length, codes, decimal, ◌==◌, nat_lt}
use Rattle.boards.specs.Boards.{member}
use Rattle.wire.specs.declared.message.Entry.{Entry}
use Rattle.wire.specs.Messages.{Reply, listed}
use Rattle.wire.specs.Acts.{tag_at}

-- The digit of a number below 16: 0 to 9, then A to F.
abbrev pub hex_digit : ℕ → ℕ
hex_digit n = cond (nat_lt n 10) (48 + n) (55 + n)

-- Bytes in hexadecimal: two digits each, the higher first.
unfoldable pub hex : List ℕ → List ℕ
hex [] = []
hex (b ∷ bs) = hex_digit (b / 16) ∷ hex_digit (b % 16) ∷ hex bs

-- A field: a space, its name, an equals sign, its value.
unfoldable pub field : List ℕ → List ℕ → List ℕ
field name value = 32 ∷ (name ++ 61 ∷ value)

-- Bytes that may be none: a dash for none.
abbrev pub or_dash : List ℕ → List ℕ
or_dash [] = codes "-"
or_dash (b ∷ bs) = hex (b ∷ bs)

-- A payload: how many bytes, and which.
abbrev pub payload_text : List ℕ → List ℕ
payload_text p = field (codes "len") (decimal (length p)) ++ field (codes "payload") (or_dash p)

-- Items with commas between them.
unfoldable pub listing : List (List ℕ) → List ℕ
listing [] = []
listing (x ∷ []) = x
listing (x ∷ y ∷ ys) = x ++ 44 ∷ listing (y ∷ ys)

-- The same where there may be none: a dash for none.
unfoldable pub commas : List (List ℕ) → List ℕ
commas [] = codes "-"
commas (x ∷ xs) = listing (x ∷ xs)

-- The boards of a set, by rising number.
abbrev pub boards_text : ℕ → List ℕ
boards_text s = commas (listed (member s) decimal 8)

-- The tags in bytes, eight bytes each; one that is cut short counts.
unfoldable pub tags_in : ℕ → List ℕ → List (List ℕ)
tags_in zero t = []
tags_in (suc n) t = tags_in n t ++ hex (tag_at n t) ∷ []

abbrev pub tags_text : List ℕ → List ℕ
tags_text t = commas (tags_in ((length t + 7) / 8) t)

-- An entry: its earlier rank and its change, or that there is none.
abbrev pub entry_text : Entry → List ℕ
entry_text e = cond (e.earlier == 0) (codes "none") (decimal e.earlier ++ 58 ∷ decimal e.change)

-- The entries of replies, and their tags.
abbrev pub entries_text : List Reply → List ℕ
entries_text es = commas (map (λ e. entry_text e.entry) es)

abbrev pub replied_text : List Reply → List ℕ
replied_text es = commas (map (λ e. hex e.tag) es)
