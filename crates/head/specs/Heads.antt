-- Heads as numbers: which fields a head has, and how a grammar goes on after them.
-- All is said for any grammar and for whatever comes after, so that a head is built field by field.
use Rattle.std.specs.Prelude.{◌≡◌, ℕ, ◌+◌, ◌-◌, ◌^◌, ◌<◌, ◌≤◌, Bool, true, false, ◌&&◌, List, ◌++◌, Some, None, Option, nat_lt}
use Rattle.std.specs.List.{AllByRecursion}
use Rattle.grammar.specs.Bits.{bits, bits_of}
use Rattle.grammar.specs.Grammar.{Grammar, Item, After, spell}
use Rattle.head.specs.declared.number.Head.{Head}

-- A head has these fields of what grammar g allows, and then h may follow.
pub record Holds (g : Grammar) (a : Head) (is : List Item) (h : Grammar) : Type 0 where
  pub form : bits_of a.width a.number ≡ spell is
  pub goes : After g is h

-- These items may not stand first.
abbrev pub Barred : Grammar → List Item → Type 0
Barred g is = (any : Grammar) → After g is any → ⊥

-- A head with these fields of what grammar g allows, after which h may follow; none if they may not stand first.
pub record Begins (g : Grammar) (is : List Item) (h : Grammar) (r : Option Head) : Type 0 where
  pub holds : (a : Head) → r ≡ Some a → Holds g a is h
  pub none : r ≡ None → Barred g is

-- There is room for one more field in a head.
abbrev pub Room : Head → ℕ → Type 0
Room a w = (w ≤ 8) × (a.width + w ≤ 32)

-- Head b is head a with one more field of value v, which is allowed.
pub record Longer (a : Head) (w v : ℕ) (allowed : Bool) (b : Head) : Type 0 where
  pub form : bits_of b.width b.number ≡ bits_of a.width a.number ++ bits_of w v
  pub fits : v < 2 ^ w
  pub good : allowed ≡ true

-- Head a with one more field of value v; none if the value is not allowed or too large for the field, and none without room for it.
pub record Joined (a : Head) (w v : ℕ) (allowed : Bool) (r : Option Head) : Type 0 where
  pub longer : (b : Head) → r ≡ Some b → Longer a w v allowed b
  pub none : r ≡ None → Room a w → (allowed && nat_lt v (2 ^ w)) ≡ false
  pub full : (Room a w → ⊥) → r ≡ None

-- The four bytes of a head: its fields, and zeros after them.
pub record BytesOf (a : Head) (bs : List ℕ) : Type 0 where
  pub form : bits bs ≡ bits_of a.width a.number ++ bits_of (32 - a.width) 0
  pub fit : AllByRecursion (λ x. x < 256) bs

-- The number of a head moved up to the top of 32 bits.
abbrev pub Raised : Head → ℕ → Type 0
Raised a x = bits_of 32 x ≡ bits_of a.width a.number ++ bits_of (32 - a.width) 0
