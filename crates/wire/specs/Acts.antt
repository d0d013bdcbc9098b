-- Acts: what a board signs. Each tag in a message stands for an act of its board, and the words of an act are the bytes signed for it.
-- A message that gathers many boards' tags has the words of the lone kind it gathers.
use Rattle.std.specs.Prelude.{ℕ, ◌*◌, Bool, cond, not, ◌&&◌, ◌||◌, List, [], ◌∷◌, take, drop, ◌==◌, nat_lt, slice_index_or}
use Rattle.boards.specs.Boards.{place, only}
use Rattle.grammar.specs.Bits.{bits, number_of}
use Rattle.grammar.specs.Grammar.{Grammar, Item, After, from_to}
use Rattle.wire.specs.declared.message.Sort.{Sort}
use Rattle.wire.specs.declared.message.Entry.{Entry}
use Rattle.wire.specs.Fields.{view, zeros, rank, change, most_change, graded, carried}
use Rattle.wire.specs.Messages.{Msg, Reply, none, view_of}
use Rattle.wire.specs.Format.{opening, graded_values, content_values, packed}

-- The seven lone kinds, without speaker and tag.
pub data Act : Type 0 where
  notify : (view change : ℕ) → Act
  ack : (view rank change : ℕ) → Act
  ready : (view rank change : ℕ) → Act
  deputy : (view rank : ℕ) → Act
  last : (view rank : ℕ) (entry : Entry) → Act
  init : (view sender number : ℕ) (sort : Sort) (payload : List ℕ) → Act
  echo : (view sender number : ℕ) (sort : Sort) (payload : List ℕ) → Act

-- The fields signed for an act: the head of its lone kind, and in a last the entry.
abbrev pub signed_values : Act → List Item
signed_values (Act.notify v c) = opening 1 v (Item.num 1 0 ∷ Item.num 3 c ∷ [])
signed_values (Act.ack v r c) = opening 3 v (graded_values r c [])
signed_values (Act.ready v r c) = opening 5 v (graded_values r c [])
signed_values (Act.deputy v r) = opening 7 v (Item.num 4 r ∷ [])
signed_values (Act.last v r e) = opening 9 v (Item.num 4 r ∷ Item.num 4 e.earlier ∷ Item.num 1 0 ∷ Item.num 3 e.change ∷ [])
signed_values (Act.init v s n k p) = opening 11 v (content_values s n k p [])
signed_values (Act.echo v s n k p) = opening 12 v (content_values s n k p [])

-- The words of an act: the very bytes that are signed and checked for it.
abbrev pub words : Act → List ℕ
words a = packed (signed_values a)

-- The table of words: what follows kind and view.
abbrev pub signed_bodies : List Grammar
signed_bodies =
    Grammar.done
    ∷ zeros 1 (change Grammar.done)  -- 1 notify
    ∷ Grammar.done
    ∷ graded Grammar.done  -- 3 ack
    ∷ Grammar.done
    ∷ graded Grammar.done  -- 5 ready
    ∷ Grammar.done
    ∷ rank Grammar.done  -- 7 deputy
    ∷ Grammar.done
    ∷ rank (Grammar.field 4 (from_to 0 8) (λ e. zeros 1 (Grammar.field 3 (from_to 0 (most_change e)) (λ _. Grammar.done))))  -- 9 last
    ∷ Grammar.done
    ∷ carried (λ _. Grammar.done)  -- 11 init
    ∷ carried (λ _. Grammar.done)  -- 12 echo
    ∷ []

abbrev pub lone_kind : ℕ → Bool
lone_kind k = k == 1 || (k == 3 || (k == 5 || (k == 7 || (k == 9 || (k == 11 || k == 12)))))

abbrev pub signed : Grammar
signed = Grammar.field 4 lone_kind (λ k. view (slice_index_or signed_bodies k Grammar.done))

-- An act is allowed when the format allows its fields.
abbrev pub Allowed : Act → Type 0
Allowed a = After signed (signed_values a) Grammar.done

-- The boards whose tags a message has.
abbrev pub signers : Msg → ℕ
signers (Msg.notify v c s t) = only s
signers (Msg.suggest v c s t) = s
signers (Msg.ack v r c s t) = only s
signers (Msg.proposal v r c s t) = s
signers (Msg.ready v r c s t) = only s
signers (Msg.change v r c s t) = s
signers (Msg.deputy v r s t) = only s
signers (Msg.query v r s t) = s
signers (Msg.last v r s e p a) = only s
signers (Msg.suggest_last v r s es p a) = s
signers (Msg.init v s n k p t) = only s
signers (Msg.echo v s n k p b t) = only b
signers (Msg.commit v s n k p b t) = b

abbrev pub no_reply : Reply
no_reply = record { entry = none; tag = [] }

-- The act that board b's tag stands for, where b is among the signers; only in a suggest-last it is the board's own.
abbrev pub act_of : Msg → ℕ → Act
act_of (Msg.notify v c s t) b = Act.notify v c
act_of (Msg.suggest v c s t) b = Act.notify v c
act_of (Msg.ack v r c s t) b = Act.ack v r c
act_of (Msg.proposal v r c s t) b = Act.ack v r c
act_of (Msg.ready v r c s t) b = Act.ready v r c
act_of (Msg.change v r c s t) b = Act.ready v r c
act_of (Msg.deputy v r s t) b = Act.deputy v r
act_of (Msg.query v r s t) b = Act.deputy v r
act_of (Msg.last v r s e p a) b = Act.last v r e.entry
act_of (Msg.suggest_last v r s es p a) b = Act.last v r (slice_index_or es (place s b) no_reply).entry
act_of (Msg.init v s n k p t) b = Act.init v s n k p
act_of (Msg.echo v s n k p b' t) b = Act.echo v s n k p
act_of (Msg.commit v s n k p b' t) b = Act.echo v s n k p

-- The eight bytes at a place among tags.
abbrev pub tag_at : ℕ → List ℕ → List ℕ
tag_at i t = take 8 (drop (8 * i) t)

-- The number that a tag's bytes make, the top one first.
unfoldable pub tag_number : List ℕ → ℕ
tag_number t = number_of (bits t)

-- Board b's tag, where b is among the signers: the one at its place, by rising board number.
abbrev pub tag_of : Msg → ℕ → List ℕ
tag_of (Msg.notify v c s t) b = tag_at (place (only s) b) t
tag_of (Msg.suggest v c s t) b = tag_at (place s b) t
tag_of (Msg.ack v r c s t) b = tag_at (place (only s) b) t
tag_of (Msg.proposal v r c s t) b = tag_at (place s b) t
tag_of (Msg.ready v r c s t) b = tag_at (place (only s) b) t
tag_of (Msg.change v r c s t) b = tag_at (place s b) t
tag_of (Msg.deputy v r s t) b = tag_at (place (only s) b) t
tag_of (Msg.query v r s t) b = tag_at (place s b) t
tag_of (Msg.last v r s e p a) b = e.tag
tag_of (Msg.suggest_last v r s es p a) b = (slice_index_or es (place s b) no_reply).tag
tag_of (Msg.init v s n k p t) b = tag_at (place (only s) b) t
tag_of (Msg.echo v s n k p b' t) b = tag_at (place (only b') b) t
tag_of (Msg.commit v s n k p b' t) b = tag_at (place b' b) t

-- Whether an entry has a lower earlier rank than another; rank 0 is none, and not the lowest.
abbrev pub undercuts : Entry → Entry → Bool
undercuts e low = not (e.earlier == 0) && (low.earlier == 0 || nat_lt e.earlier low.earlier)

-- Of two entries the one with the lower earlier rank, 0 never counted; the first where they are equal.
abbrev pub lower : Entry → Entry → Entry
lower a b = cond (undercuts b a) b a

-- The entry of the lowest earlier rank, that of the lowest board where several have it; `none` if there is no earlier rank.
unfoldable pub lowest : List Reply → Entry
lowest [] = none
lowest (e ∷ es) = lower e.entry (lowest es)

-- A proof: the boards that acknowledged the kept proposal that it is for, and their tags.
pub record Proof : Type 0 where
  pub boards : ℕ
  pub entry : Entry
  pub acks : List ℕ

abbrev pub no_proof : Proof
no_proof = record { boards = 0; entry = none; acks = [] }

-- The proof of a message, which only lasts and suggest-lasts have: for the lowest earlier rank and its change.
abbrev pub proof_of : Msg → Proof
proof_of (Msg.notify v c s t) = no_proof
proof_of (Msg.suggest v c s t) = no_proof
proof_of (Msg.ack v r c s t) = no_proof
proof_of (Msg.proposal v r c s t) = no_proof
proof_of (Msg.ready v r c s t) = no_proof
proof_of (Msg.change v r c s t) = no_proof
proof_of (Msg.deputy v r s t) = no_proof
proof_of (Msg.query v r s t) = no_proof
proof_of (Msg.last v r s e p a) = record { boards = p; entry = e.entry; acks = a }
proof_of (Msg.suggest_last v r s es p a) = record { boards = p; entry = lowest es; acks = a }
proof_of (Msg.init v s n k p t) = no_proof
proof_of (Msg.echo v s n k p b t) = no_proof
proof_of (Msg.commit v s n k p b t) = no_proof

-- The act that every tag of a message's proof stands for.
abbrev pub proved_act : Msg → Act
proved_act m = Act.ack (view_of m) (proof_of m).entry.earlier (proof_of m).entry.change
