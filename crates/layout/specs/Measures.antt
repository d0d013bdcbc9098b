-- What is tested of tags and entries before they are written.
-- Both are measured against the set that they stand beside.
use Rattle.std.specs.Prelude.{◌≡◌, ℕ, ◌+◌, ◌-◌, ◌*◌, ◌<◌, Bool, true, ◌&&◌, List, ◌++◌, length, Some, None, Option, ◌==◌, slice_index, slice_index_or}
use Rattle.std.specs.List.{AllByRecursion}
use Rattle.boards.specs.Boards.{size, member, place}
use Rattle.grammar.specs.Grammar.{Grammar, After, from_to}
use Rattle.wire.specs.declared.message.Tags.{Tags}
use Rattle.wire.specs.declared.message.Tagged.{Tagged}
use Rattle.wire.specs.declared.message.Entry.{Entry}
use Rattle.wire.specs.declared.message.Entries.{Entries}
use Rattle.wire.specs.declared.message.Entries.TheVariants.{Heard, Stored}
use Rattle.wire.specs.Fields.{entries, most_change, proof}
use Rattle.wire.specs.Messages.{Reply, tags_of, tags_by, tag_bytes, none, reply_at, replies_of, listed}
use Rattle.wire.specs.Format.{replies_values, set_values}

-- Numbers that are bytes.
abbrev pub Bytes : List ℕ → Type 0
Bytes xs = AllByRecursion (λ x. x < 256) xs

-- Whether the tags are eight bytes for each board of their set.
pub record Measured (q : Tagged) (r : Bool) : Type 0 where
  pub told : r ≡ (length (tags_by q) == 8 * size q.set.bits)
  pub fit : Bytes (tags_by q)

-- The bytes that entries and tags of a set have: as heard those that there are, as stored nine for each board.
abbrev pub extent : ℕ → Entries → ℕ
extent s (Heard xs) = length xs.now
extent s (Stored es ts) = 9 * size s

-- Entries and tags are nine bytes for each board of the set.
abbrev pub Even : ℕ → Entries → Type 0
Even s es = extent s es ≡ 9 * size s

-- Whether they are; what is heard is bytes.
abbrev pub Evened : ℕ → Entries → Bool → Type 0
Evened s (Heard xs) r = (r ≡ (length xs.now == 9 * size s)) × Bytes xs.now
Evened s (Stored es ts) r = r ≡ true

-- Board b's reply: by its place among what is heard, or by its number among what is stored.
abbrev pub reply_of : ℕ → Entries → ℕ → Reply
reply_of s (Heard xs) b = reply_at xs.now (9 * place s b)
reply_of s (Stored es ts) b = record { entry = slice_index_or es.now b none; tag = tag_bytes (slice_index ts.now b) }

-- The bytes of board b's reply are not all there.
abbrev pub Short : ℕ → Entries → ℕ → Type 0
Short s (Heard xs) b = length xs.now < 9 * place s b + 9
Short s (Stored es ts) b = ⊥

-- Board b's entry and tag, or that it is not of the set or its bytes are not there.
abbrev pub Replied : ℕ → Entries → ℕ → Option (Entry × Tags) → Type 0
Replied s es b (Some x) = (member s b ≡ true) × (x.0 ≡ (reply_of s es b).entry) × (tags_of s x.1 ≡ (reply_of s es b).tag) × (length (tags_of s x.1) ≡ 8)
Replied s es b None = member s b ≡ true → Short s es b

-- An entry that the format allows.
abbrev pub proper : Entry → Bool
proper e = from_to 0 8 e.earlier && from_to 0 (most_change e.earlier) e.change

-- A reply's tag is eight bytes.
abbrev pub WholeTag : Reply → Type 0
WholeTag e = (length e.tag ≡ 8) × Bytes e.tag

-- The replies of the boards below b are allowed, and the highest earlier rank among them is top.
pub record Going (s : ℕ) (es : Entries) (b top : ℕ) : Type 0 where
  pub goes : (k : ℕ → Grammar) → After (entries (size s) 0 k) (replies_values (listed (member s) (reply_of s es) b)) (entries (size s - place s b) top k)
  pub tags : AllByRecursion WholeTag (listed (member s) (reply_of s es) b)

-- All the replies are allowed, and the highest earlier rank among them is top.
pub record Gathers (s : ℕ) (es : Entries) (top : ℕ) : Type 0 where
  pub goes : (k : ℕ → Grammar) → After (entries (size s) 0 k) (replies_values (replies_of s es)) (k top)
  pub tags : AllByRecursion WholeTag (replies_of s es)

-- The replies may not stand before a proof.
abbrev pub Ungathered : ℕ → Entries → Type 0
Ungathered s es = (p : ℕ) (a : List ℕ) → After (entries (size s) 0 (λ top. proof top Grammar.done)) (replies_values (replies_of s es) ++ set_values p a) Grammar.done → ⊥
