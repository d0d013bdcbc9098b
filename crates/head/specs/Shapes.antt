-- What kinds open with: the fields after kind and view, for any table of what may follow these.
-- Messages have such a table and signed words another; where both have a shape of head, both have it from here.
use Rattle.std.specs.Prelude.{◌≡◌, ℕ, Bool, true, cond, List, [], ◌∷◌, ◌++◌, length, None, Option, ◌==◌}
use Rattle.grammar.specs.Grammar.{Grammar, Item, from_to}
use Rattle.wire.specs.declared.message.Content.{Content}
use Rattle.wire.specs.declared.message.Entry.{Entry}
use Rattle.wire.specs.declared.message.Sort.{Sort}
use Rattle.wire.specs.Fields.{view, zeros, change, most_change, graded, rank, carried}
use Rattle.wire.specs.Messages.{sort_number}
use Rattle.wire.specs.Format.{opening, graded_values}
use Rattle.head.specs.declared.number.Head.{Head}
use Rattle.head.specs.Heads.{Begins, Holds, Room}

-- A table: the kinds that it has, and for each what follows kind and view.
abbrev pub table : (ℕ → Bool) → (ℕ → Grammar) → Grammar
table has body = Grammar.field 4 has (λ k. view (body k))

-- What a kind opens with, whatever the table: if it has for the kind what `from` makes of something, then `on` makes of that what follows these fields.
pub record Opens (kind : ℕ) (is : List Item) {X : Type 0} (from on : X → Grammar) (r : Option Head) : Type 0 where
  pub begins : (has : ℕ → Bool) (body : ℕ → Grammar) (x : X) → has kind ≡ true → body kind ≡ from x → Begins (table has body) is (on x) r

-- Kind and view.
abbrev pub Opened : ℕ → ℕ → Option Head → Type 0
Opened k v r = Opens k (opening k v []) (λ g. g) (λ g. g) r

-- A change after them.
abbrev pub Noted : ℕ → ℕ → ℕ → Option Head → Type 0
Noted k v c r = Opens k (opening k v (Item.num 1 0 ∷ Item.num 3 c ∷ [])) (λ g. zeros 1 (change g)) (λ g. g) r

-- A rank after them.
abbrev pub Ranked : ℕ → ℕ → ℕ → Option Head → Type 0
Ranked k v s r = Opens k (opening k v (Item.num 4 s ∷ [])) rank (λ g. g) r

-- A rank and a change after them.
abbrev pub Graded : ℕ → ℕ → ℕ → ℕ → Option Head → Type 0
Graded k v s c r = Opens k (opening k v (graded_values s c [])) graded (λ g. g) r

-- All of a content after them but the payload itself, which comes next.
abbrev pub Carried : ℕ → ℕ → Content → Option Head → Type 0
Carried k v c r =
    Opens k (opening k v (Item.num 3 c.sender ∷ Item.num 8 c.number ∷ Item.num 3 (sort_number c.sort) ∷ Item.num 6 (length c.payload.now) ∷ []))
    carried (λ g. Grammar.part (length c.payload.now) (λ _. g c.sender)) r

-- An entry; what follows may depend on the earlier rank.
abbrev pub entry_byte : (ℕ → Grammar) → Grammar
entry_byte k = Grammar.field 4 (from_to 0 8) (λ e. zeros 1 (Grammar.field 3 (from_to 0 (most_change e)) (λ _. k e)))

-- The fields of an entry.
abbrev pub entry_values : Entry → List Item
entry_values e = Item.num 4 e.earlier ∷ Item.num 1 0 ∷ Item.num 3 e.change ∷ []

-- An entry behind the fields of a head, in any grammar that allows one there; none without room for it.
pub record Entered (a : Head) (e : Entry) (r : Option Head) : Type 0 where
  pub begins : (g : Grammar) (is : List Item) (k : ℕ → Grammar) → Room a 8 → Holds g a is (entry_byte k) → Begins g (is ++ entry_values e) (k e.earlier) r
  pub full : (Room a 8 → ⊥) → r ≡ None
