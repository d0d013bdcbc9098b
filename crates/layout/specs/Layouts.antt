-- The bytes of a layout, and when it is the layout of a message.
-- Fields of a message are items in the order in which they are written; their bytes are `packed`.
use Rattle.std.specs.Prelude.{◌≡◌, ℕ, ◌*◌, ◌/◌, ◌%◌, ◌<◌, ◌≤◌, Bool, true, false, List, [], ◌∷◌, ◌++◌, length, Some, None, Option}
use Rattle.std.specs.Borrow.{Bor}
use Rattle.boards.specs.Boards.{size, only}
use Rattle.grammar.specs.Bits.{bits, bits_of, bytes_of}
use Rattle.grammar.specs.Grammar.{Grammar, Item, After, from_to, spell}
use Rattle.head.specs.declared.number.Head.{Head}
use Rattle.head.specs.Heads.{Barred, Holds}
use Rattle.wire.specs.declared.message.Content.{Content}
use Rattle.wire.specs.declared.message.Entry.{Entry}
use Rattle.wire.specs.declared.message.Tags.{Tags}
use Rattle.wire.specs.declared.message.Tagged.{Tagged}
use Rattle.wire.specs.declared.message.Replies.{Replies as RepliesOf}
use Rattle.wire.specs.Fields.{carried, entered, entries, lone, proof}
use Rattle.wire.specs.Messages.{Msg, Reply, entry_byte, tags_of, tags_by, replies_by}
use Rattle.wire.specs.Format.{message, body, opening, content_values, packed, reply_values, replies_values, set_values, values}
use Rattle.layout.specs.declared.plan.Front.{Front}
use Rattle.layout.specs.declared.plan.Layout.{Layout}
use Rattle.layout.specs.declared.plan.Middle.{Middle}
use Rattle.layout.specs.declared.plan.Middle.TheVariants.{Nothing, Payload, Tag, Replies}
use Rattle.layout.specs.declared.plan.Gathered.{Gathered}
use Rattle.layout.specs.Measures.{Bytes, Gathers, Ungathered}

-- The bytes of a head: its bits, eight a byte.
abbrev pub head_bytes : Head → List ℕ
head_bytes h = bytes_of (h.width / 8) (bits_of h.width h.number)

-- The bytes of replies: each entry before its tag.
unfoldable pub replies_bytes : List Reply → List ℕ
replies_bytes [] = []
replies_bytes (e ∷ es) = entry_byte e.entry ∷ (e.tag ++ replies_bytes es)

-- The bytes of what stands between the head and the last set.
abbrev pub middle_bytes : Middle → List ℕ
middle_bytes Nothing = []
middle_bytes (Payload p) = p.now
middle_bytes (Tag q) = tags_by q
middle_bytes (Replies q) = replies_bytes (replies_by q.replies)

-- The bytes of what stands before the last set.
abbrev pub front_bytes : Front → List ℕ
front_bytes f = head_bytes f.head ++ middle_bytes f.middle

-- The bytes of a layout, part after part.
abbrev pub layout_bytes : Layout → List ℕ
layout_bytes l = front_bytes l.front ++ (l.by.set.bits ∷ tags_by l.by)

-- What stands before the last set is whole bytes, and they are those of these fields, after which a message may go on as g.
pub record Fronts (f : Front) (is : List Item) (g : Grammar) : Type 0 where
  pub form : bits (front_bytes f) ≡ spell is
  pub whole : f.head.width % 8 ≡ 0
  pub some : 8 ≤ f.head.width
  pub fit : Bytes (middle_bytes f.middle)
  pub short : length (middle_bytes f.middle) ≤ 72
  pub goes : After message is g

-- The layout of the message with these fields.
pub record Lays (is : List Item) (l : Layout) : Type 0 where
  pub allowed : After message is Grammar.done
  pub form : layout_bytes l ≡ packed is
  pub whole : l.front.head.width % 8 ≡ 0
  pub some : 8 ≤ l.front.head.width
  pub short : length (layout_bytes l) ≤ 141

-- Fields that the format allows have a layout, and no others.
abbrev pub Laid : List Item → Option Layout → Type 0
Laid is (Some l) = Lays is l
Laid is None = After message is Grammar.done → ⊥

-- Just this board and its tag; none for a number above 7.
pub record Own (b : ℕ) (t : Tags) (r : Option Tagged) : Type 0 where
  pub one : (q : Tagged) → r ≡ Some q → (b < 8) × (q.set.bits ≡ only b) × (q.tags ≡ t)
  pub none : r ≡ None → 8 ≤ b

-- A front before any set that the format allows there, with tags that are as many as it wants.
abbrev pub Sealed : Front → Tagged → Option Layout → Type 0
Sealed f q r =
    (is : List Item) (ok : ℕ → Bool) (n : ℕ → ℕ) → Fronts f is (Grammar.field 8 ok (λ x. Grammar.part (n x) (λ _. Grammar.done))) → (q.set.bits < 256 → ok q.set.bits ≡ true) → n q.set.bits ≡ 8 * size q.set.bits → Laid (is ++ set_values q.set.bits (tags_by q)) r

-- A front before just one board and its tag, where the format allows that set exactly if there is such a board.
abbrev pub Alone : Front → ℕ → Tags → Option Layout → Type 0
Alone f b t r =
    (is : List Item) (ok : ℕ → Bool) → Fronts f is (Grammar.field 8 ok (λ _. Grammar.part 8 (λ _. Grammar.done))) → (b < 8 → ok (only b) ≡ true) → (8 ≤ b → ok (only b) ≡ false) → Laid (is ++ set_values (only b) (tags_of (only b) t)) r

-- A front before a proof for the highest earlier rank.
abbrev pub Proven : Front → ℕ → Tagged → Option Layout → Type 0
Proven f top q r = (is : List Item) → Fronts f is (proof top Grammar.done) → Laid (is ++ set_values q.set.bits (tags_by q)) r

-- The layout of a message, or that it has no bytes.
abbrev pub LaidOut : Msg → Option Layout → Type 0
LaidOut m r = Laid (values m) r

-- A head alone stands before the set.
abbrev pub Bare : Head → Front → Type 0
Bare h f = f ≡ record { head = h; middle = Nothing }

-- A head and a payload stand before the set; what the payload has are bytes.
abbrev pub Behind : Head → Bor (List ℕ) → Front → Type 0
Behind h p f = (f ≡ record { head = h; middle = Payload p }) × Bytes p.now

-- All of a content, for a kind that the table has a content for; none if such a message may not open so.
pub record Loaded (kind v : ℕ) (c : Content) (r : Option Front) : Type 0 where
  pub fronts : (f : Front) → r ≡ Some f → from_to 1 13 kind ≡ true → (k : ℕ → Grammar) → body kind ≡ carried k → Fronts f (opening kind v (content_values c.sender c.number c.sort c.payload.now [])) (k c.sender)
  pub none : r ≡ None → from_to 1 13 kind ≡ true → (k : ℕ → Grammar) → body kind ≡ carried k → Barred message (opening kind v (content_values c.sender c.number c.sort c.payload.now []))

-- Replies with their highest earlier rank; none if they may not stand before a proof.
pub record MayGather (q : RepliesOf) (r : Option Gathered) : Type 0 where
  pub some : (x : Gathered) → r ≡ Some x → (x.replies ≡ q) × Gathers q.set.bits q.entries x.top
  pub none : r ≡ None → Ungathered q.set.bits q.entries

-- The layout of a last whose head so far has kind, view and rank, with the tag of its own board.
abbrev pub LaidLast : Head → Entry → Tagged → Tagged → Option Layout → Type 0
LaidLast h e q p l =
    (v r : ℕ) → Holds message h (opening 9 v (Item.num 4 r ∷ [])) (Grammar.field 8 lone (λ _. entered (λ x. proof x Grammar.done))) → lone q.set.bits ≡ true
    → Laid (opening 9 v (Item.num 4 r ∷ Item.num 8 q.set.bits ∷ reply_values (record { entry = e; tag = tags_by q }) (set_values p.set.bits (tags_by p)))) l

-- The layout of a suggest-last whose head so far has kind, view and rank.
abbrev pub LaidSuggestLast : Head → RepliesOf → Tagged → Option Layout → Type 0
LaidSuggestLast h q p l =
    (v r : ℕ) → Holds message h (opening 10 v (Item.num 4 r ∷ [])) (Grammar.field 8 (from_to 0 255) (λ s. entries (size s) 0 (λ top. proof top Grammar.done)))
    → Laid (opening 10 v (Item.num 4 r ∷ Item.num 8 q.set.bits ∷ (replies_values (replies_by q) ++ set_values p.set.bits (tags_by p)))) l
