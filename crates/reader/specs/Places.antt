-- What a reader meets, in terms of the format: for each step, what the format says of the bytes left before and after it.
-- "Whatever comes after" is the argument k of each clause, so that steps follow one another as equations.
use Rattle.std.specs.Prelude.{◌≡◌, ℕ, ◌+◌, ◌-◌, ◌*◌, ◌/◌, ◌%◌, ◌^◌, ◌<◌, ◌≤◌, Bool, true, List, [], ◌∷◌, length, take, drop, Ok, Err, Result, slice_index}
use Rattle.std.specs.Borrow.{Bor}
use Rattle.grammar.specs.declared.fault.Layer.TheVariants.{Bytes, Field}
use Rattle.grammar.specs.declared.fault.Fault.{Fault}
use Rattle.grammar.specs.Bits.{bits}
use Rattle.grammar.specs.Grammar.{Grammar, Item, outcome, more, fault, from_to}
use Rattle.boards.specs.declared.Set.{Set}
use Rattle.boards.specs.Boards.{only}
use Rattle.wire.specs.Fields.{lone}
use Rattle.reader.specs.declared.place.Reader.{Reader}
use Rattle.reader.specs.declared.place.At.{At}

-- The bits before a reader's place.
abbrev pub at : Reader → ℕ
at r = 8 * r.byte + r.bit

-- The bytes that it reads.
abbrev pub src : Reader → List ℕ
src r = r.src.now

-- What a grammar says of what is left to read.
unfoldable pub met : Grammar → Reader → Result (List Item) Fault
met g r = outcome g (drop (at r) (bits (src r))) (at r)

-- A reader at the first bit of these bytes.
pub record Begun (bs : List ℕ) (r : Reader) : Type 0 where
  pub on : (g : Grammar) → outcome g (bits bs) 0 ≡ met g r
  pub place : at r ≡ 0

-- The fault of bits that are missing.
abbrev pub missing : Reader → Fault
missing r = fault Bytes (length (src r))

-- The fault of a value that is not allowed.
abbrev pub refused : Reader → Fault
refused r = fault Field r.byte

-- Two bytes as one number, the first on top; 0 stands past the end.
abbrev pub pair : List ℕ → ℕ → ℕ
pair bs i = slice_index bs i * 256 + slice_index bs (i + 1)

-- The number in the w bits that begin at bit p.
abbrev pub field_at : List ℕ → ℕ → ℕ → ℕ
field_at bs p w = pair bs (p / 8) / 2 ^ (16 - (p % 8 + w)) % 2 ^ w

-- Where a field's number stands. This and the next are shut, so that a search that has no use for them passes them by.
unfoldable pub Found : Reader → ℕ → ℕ → Reader → Type 0
Found s w v t = (v ≡ field_at (src s) (at s) w) × (src t ≡ src s)

-- Where n bytes stand.
unfoldable pub Cut : Reader → ℕ → List ℕ → Reader → Type 0
Cut s n xs t = (xs ≡ take n (drop s.byte (src s))) × (src t ≡ src s)

-- The number in the next w bits, allowed or not.
pub record Got (s : Reader) (w v : ℕ) : Type 0 where
  pub inside : at s + w ≤ 8 * length (src s)
  pub value : v ≡ field_at (src s) (at s) w
  pub below : v < 2 ^ w

-- That number was found, or the bytes end before it does.
abbrev pub NumberAt : Reader → ℕ → Result ℕ Fault → Type 0
NumberAt s w (Ok v) = Got s w v
NumberAt s w (Err e) = (8 * length (src s) < at s + w) × (e ≡ missing s)

-- The place moved over w bits.
abbrev pub Moved : Reader → ℕ → Reader → Type 0
Moved s w t = (src t ≡ src s) × (at t ≡ at s + w)

-- A field of w bits was read, and the place moved.
pub record Read (w : ℕ) (ok : ℕ → Bool) (s : Reader) (v : ℕ) (t : Reader) : Type 0 where
  pub on : (k : ℕ → Grammar) → met (Grammar.field w ok k) s ≡ more (Item.num w v ∷ []) (met (k v) t)
  pub allowed : ok v ≡ true
  pub moved : at t ≡ at s + w
  pub found : Found s w v t

-- A field of w bits has this fault.
abbrev pub Refused : ℕ → (ℕ → Bool) → Reader → Fault → Type 0
Refused w ok s e = (k : ℕ → Grammar) → met (Grammar.field w ok k) s ≡ Err e

-- A field whose values are from a to b.
abbrev pub ValueRead : ℕ → ℕ → ℕ → Reader → Result ℕ Fault → Reader → Type 0
ValueRead w a b s (Ok v) t = Read w (from_to a b) s v t
ValueRead w a b s (Err e) t = Refused w (from_to a b) s e

-- A set whose byte is from a to b.
abbrev pub SetRead : ℕ → ℕ → Reader → Result (Set × At 0) Fault → Type 0
SetRead a b s (Ok x) = Read 8 (from_to a b) s x.0.bits x.1.reader
SetRead a b s (Err e) = Refused 8 (from_to a b) s e

-- A set of just one board, read as the board.
abbrev pub LoneRead : Reader → Result (ℕ × At 0) Fault → Type 0
LoneRead s (Ok x) = Read 8 lone s (only x.0) x.1.reader
LoneRead s (Err e) = Refused 8 lone s e

-- Whole bytes were read, n of them, and the place moved.
pub record Part (n : ℕ) (s : Reader) (v : Bor (List ℕ)) (t : Reader) : Type 0 where
  pub on : (k : List ℕ → Grammar) → met (Grammar.part n k) s ≡ more (Item.raw v.now ∷ []) (met (k v.now) t)
  pub moved : at t ≡ at s + 8 * n
  pub long : length v.now ≡ n
  pub found : Cut s n v.now t

-- Whole bytes, n of them.
abbrev pub PartRead : ℕ → Reader → Result (Bor (List ℕ) × At 0) Fault → Type 0
PartRead n s (Ok x) = Part n s x.0 x.1.reader
PartRead n s (Err e) = (k : List ℕ → Grammar) → met (Grammar.part n k) s ≡ Err e

-- Nothing more.
abbrev pub Ended : Reader → Result (Unit {0}) Fault → Type 0
Ended s (Ok u) = met Grammar.done s ≡ Ok []
Ended s (Err e) = met Grammar.done s ≡ Err e
