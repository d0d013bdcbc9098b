-- What the words of an act open with: a head that has all its fields, but for a payload, which follows.
-- The shapes of heads stand in the specs of crate head, for any table; here is which of them the words of an act have.
use Rattle.std.specs.Prelude.{◌≡◌, ℕ, ◌%◌, ◌≤◌, List, [], ◌∷◌, ◌++◌, length, Some, Option}
use Rattle.grammar.specs.Grammar.{Grammar, Item}
use Rattle.head.specs.declared.number.Head.{Head}
use Rattle.head.specs.Heads.{Begins}
use Rattle.wire.specs.Acts.{Act, signed, signed_values}
use Rattle.bounded.specs.declared.Bytes.{Bytes}
use Rattle.words.specs.Said.{Spelt}

-- What an act carries behind its fields: a payload, or nothing.
abbrev pub load : Act → List ℕ
load (Act.notify v c) = []
load (Act.ack v r c) = []
load (Act.ready v r c) = []
load (Act.deputy v r) = []
load (Act.last v r e) = []
load (Act.init v s n k p) = p
load (Act.echo v s n k p) = p

-- The same as items.
abbrev pub loaded : Act → List Item
loaded (Act.notify v c) = []
loaded (Act.ack v r c) = []
loaded (Act.ready v r c) = []
loaded (Act.deputy v r) = []
loaded (Act.last v r e) = []
loaded (Act.init v s n k p) = Item.raw p ∷ []
loaded (Act.echo v s n k p) = Item.raw p ∷ []

-- What the table of signed words has there.
abbrev pub room : Act → Grammar
room (Act.notify v c) = Grammar.done
room (Act.ack v r c) = Grammar.done
room (Act.ready v r c) = Grammar.done
room (Act.deputy v r) = Grammar.done
room (Act.last v r e) = Grammar.done
room (Act.init v s n k p) = Grammar.part (length p) (λ _. Grammar.done)
room (Act.echo v s n k p) = Grammar.part (length p) (λ _. Grammar.done)

-- A head of whole bytes with all that is signed for an act but its payload; none if a field of it is not allowed.
pub record Stated (a : Act) (r : Option Head) : Type 0 where
  pub fields : List Item
  pub split : signed_values a ≡ fields ++ loaded a
  pub begins : Begins signed fields (room a) r
  pub whole : (h : Head) → r ≡ Some h → h.width % 8 ≡ 0
  pub short : (h : Head) → r ≡ Some h → length (load a) ≤ 48

-- A head and then a payload as words: those of any act that the head states and whose load the payload is.
abbrev pub PutTogether : Head → List ℕ → Bytes 52 → Type 0
PutTogether h p w = (a : Act) → Stated a (Some h) → load a ≡ p → Spelt a (Some w)
