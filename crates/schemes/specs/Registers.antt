-- The register: rows of a board and words, the first of them used; a tag is the number of a row.
-- Its own account of signing, row by row, and of what a run of calls leaves.
use Rattle.std.specs.Prelude.{◌≡◌, ℕ, ◌+◌, Bool, true, ◌&&◌, List, length, None, Ok, Err, Result, ◌==◌, ◌≢◌, nat_le, nat_lt, slice_index_or}
use Rattle.std.specs.Str.{bytes_eq}
use Rattle.bounded.specs.Held.{held, nothing}
use Rattle.schemes.specs.Meaning.{Good, signable, sign_refusal, Refused}
use Rattle.schemes.specs.declared.SignRefusal.{SignRefusal}
use Rattle.schemes.specs.declared.register.Entry.{Entry}
use Rattle.schemes.specs.declared.register.Register.{Register}

-- An entry that holds nothing; such ones stand past the rows too.
abbrev pub blank_entry : Entry
blank_entry = record { board = 0; words = nothing }

-- An entry holds a board and words.
abbrev pub holds : Entry → ℕ → List ℕ → Bool
holds e b w = e.board == b && bytes_eq (held e.words) w

-- Row t is one of the rows and used.
abbrev pub in_use : List Entry → ℕ → ℕ → Bool
in_use rows used t = nat_lt t used && nat_lt t (length rows)

-- Good: what can be signed, under the number of a used row that holds it.
abbrev pub register_good : List Entry → ℕ → Good
register_good rows used b w t = signable b w && (in_use rows used t && holds (slice_index_or rows t blank_entry) b w)

-- Spent: all rows are used.
abbrev pub register_spent : List Entry → ℕ → Bool
register_spent rows used = nat_le (length rows) used

-- What a register means: its rows, as far as they are used.
abbrev pub good_in : Register → Good
good_in r = register_good r.rows.now r.used

-- Whether a register is spent.
abbrev pub spent_in : Register → Bool
spent_in r = register_spent r.rows.now r.used

-- An accepted call: the lowest unused row takes the board and the words, its number is the tag, the other rows stay, and one more is used.
pub record Entered (rows : List Entry) (used board : ℕ) (words : List ℕ) (tag : ℕ) (rows2 : List Entry) (used2 : ℕ) : Type 0 where
  pub accepted : sign_refusal board words (register_spent rows used) ≡ None
  pub lowest : tag ≡ used
  pub held : holds (slice_index_or rows2 used blank_entry) board words ≡ true
  pub others : (t : ℕ) → t ≢ used → slice_index_or rows2 t blank_entry ≡ slice_index_or rows t blank_entry
  pub as_many : length rows2 ≡ length rows
  pub counted : used2 ≡ used + 1

-- What a call of sign does to a register, which goes from r to r2.
abbrev pub Entering : Register → Register → ℕ → List ℕ → Result ℕ SignRefusal → Type 0
Entering r r2 board words (Ok tag) = Entered r.rows.now r.used board words tag r2.rows.now r2.used
Entering r r2 board words (Err e) = Refused r r2 (spent_in r) board words e
