-- The format: the table of the thirteen kinds, and the bytes that spell a message.
-- A reader holds the table against docs/FRAMES.md line by line.
use Rattle.std.specs.Prelude.{ℕ, ◌/◌, List, [], ◌∷◌, ◌++◌, length, slice_index_or}
use Rattle.boards.specs.Boards.{size, only}
use Rattle.grammar.specs.Bits.{bytes_of}
use Rattle.grammar.specs.Grammar.{Grammar, Item, After, from_to, spell}
use Rattle.wire.specs.declared.message.Sort.{Sort}
use Rattle.wire.specs.Fields.{view, zeros, rank, change, carried, lone, lone_tag, own_tag, tagged, entered, entries, proof, graded}
use Rattle.wire.specs.Messages.{Msg, Reply, sort_number}

-- The table: what follows kind and view.
abbrev pub bodies : List Grammar
bodies =
    Grammar.done  -- 0 is no kind
    ∷ zeros 1 (change (lone_tag Grammar.done))  -- 1 notify
    ∷ zeros 1 (change (tagged Grammar.done))  -- 2 suggest
    ∷ graded (lone_tag Grammar.done)  -- 3 ack
    ∷ graded (tagged Grammar.done)  -- 4 proposal
    ∷ graded (lone_tag Grammar.done)  -- 5 ready
    ∷ graded (tagged Grammar.done)  -- 6 change
    ∷ rank (lone_tag Grammar.done)  -- 7 deputy
    ∷ rank (tagged Grammar.done)  -- 8 query
    ∷ rank (Grammar.field 8 lone (λ _. entered (λ e. proof e Grammar.done)))  -- 9 last
    ∷ rank (Grammar.field 8 (from_to 0 255) (λ s. entries (size s) 0 (λ top. proof top Grammar.done)))  -- 10 suggest-last
    ∷ carried own_tag  -- 11 init
    ∷ carried (λ _. lone_tag Grammar.done)  -- 12 echo
    ∷ carried (λ _. tagged Grammar.done)  -- 13 commit
    ∷ []

abbrev pub body : ℕ → Grammar
body k = slice_index_or bodies k Grammar.done

-- A message: its kind, its view, and what the table has for the kind.
abbrev pub message : Grammar
message = Grammar.field 4 (from_to 1 13) (λ k. view (body k))

-- The fields of a message in the order in which they are written.
abbrev pub opening : ℕ → ℕ → List Item → List Item
opening k v is = Item.num 4 k ∷ Item.num 8 v ∷ is

abbrev pub graded_values : ℕ → ℕ → List Item → List Item
graded_values r c is = Item.num 4 r ∷ Item.num 5 0 ∷ Item.num 3 c ∷ is

abbrev pub content_values : ℕ → ℕ → Sort → List ℕ → List Item → List Item
content_values s n k p is = Item.num 3 s ∷ Item.num 8 n ∷ Item.num 3 (sort_number k) ∷ Item.num 6 (length p) ∷ Item.raw p ∷ is

abbrev pub set_values : ℕ → List ℕ → List Item
set_values s t = Item.num 8 s ∷ Item.raw t ∷ []

abbrev pub reply_values : Reply → List Item → List Item
reply_values e is = Item.num 4 e.entry.earlier ∷ Item.num 1 0 ∷ Item.num 3 e.entry.change ∷ Item.raw e.tag ∷ is

unfoldable pub replies_values : List Reply → List Item
replies_values [] = []
replies_values (e ∷ es) = reply_values e (replies_values es)

abbrev pub values : Msg → List Item
values (Msg.notify v c s t) = opening 1 v (Item.num 1 0 ∷ Item.num 3 c ∷ set_values (only s) t)
values (Msg.suggest v c s t) = opening 2 v (Item.num 1 0 ∷ Item.num 3 c ∷ set_values s t)
values (Msg.ack v r c s t) = opening 3 v (graded_values r c (set_values (only s) t))
values (Msg.proposal v r c s t) = opening 4 v (graded_values r c (set_values s t))
values (Msg.ready v r c s t) = opening 5 v (graded_values r c (set_values (only s) t))
values (Msg.change v r c s t) = opening 6 v (graded_values r c (set_values s t))
values (Msg.deputy v r s t) = opening 7 v (Item.num 4 r ∷ set_values (only s) t)
values (Msg.query v r s t) = opening 8 v (Item.num 4 r ∷ set_values s t)
values (Msg.last v r s e p a) = opening 9 v (Item.num 4 r ∷ Item.num 8 (only s) ∷ reply_values e (set_values p a))
values (Msg.suggest_last v r s es p a) = opening 10 v (Item.num 4 r ∷ Item.num 8 s ∷ (replies_values es ++ set_values p a))
values (Msg.init v s n k p t) = opening 11 v (content_values s n k p (set_values (only s) t))
values (Msg.echo v s n k p b t) = opening 12 v (content_values s n k p (set_values (only b) t))
values (Msg.commit v s n k p b t) = opening 13 v (content_values s n k p (set_values b t))

-- A message is formed when the format allows its fields: no other has bytes.
abbrev pub Formed : Msg → Type 0
Formed m = After message (values m) Grammar.done

-- The whole bytes that items make.
unfoldable pub packed : List Item → List ℕ
packed is = bytes_of (length (spell is) / 8) (spell is)

-- The bytes of a message.
abbrev pub form : Msg → List ℕ
form m = packed (values m)
