-- Messages as plain data, and what the program's values mean: where bytes lie, heard, stored or fresh, is no part of a message.
-- Numbers stand for themselves, a set for its byte, tags for their bytes in rising board number, eight a board.
use Rattle.std.specs.Prelude.{◌≡◌, ℕ, zero, suc, ◌+◌, ◌*◌, ◌/◌, ◌%◌, ◌^◌, ◌<◌, Bool, cond, List, [], ◌∷◌, ◌++◌, length, take, drop, codes, Result, MatchResult, slice_index, slice_index_or}
use Rattle.boards.specs.Boards.{member, only}
use Rattle.wire.specs.declared.kind.Unknown.{Unknown}
use Rattle.wire.specs.declared.message.Sort.{Sort}
use Rattle.wire.specs.declared.message.Sort.TheVariants.{Report, End}
use Rattle.wire.specs.declared.message.Entry.{Entry}
use Rattle.wire.specs.declared.message.Tags.{Tags}
use Rattle.wire.specs.declared.message.Tags.TheVariants.{Heard, Stored, Fresh}
use Rattle.wire.specs.declared.message.Entries.{Entries}
use Rattle.wire.specs.declared.message.Entries.TheVariants.{Heard as HeardEntries, Stored as StoredEntries}
use Rattle.wire.specs.declared.message.Tagged.{Tagged}
use Rattle.wire.specs.declared.message.Replies.{Replies}
use Rattle.wire.specs.declared.message.Spoken.{Spoken}
use Rattle.wire.specs.declared.message.Message.{Message}
use Rattle.wire.specs.declared.message.Body.{Body}
use Rattle.wire.specs.declared.message.Body.TheVariants.{Notify, Suggest, Ack, Proposal, Ready, Change, Deputy, Query, Last, SuggestLast, Init, Echo, Commit}

-- A board's reply to a query, with its tag.
pub record Reply : Type 0 where
  pub entry : Entry
  pub tag : List ℕ

-- The thirteen kinds.
pub data Msg : Type 0 where
  notify : (view change speaker : ℕ) (tag : List ℕ) → Msg
  suggest : (view change set : ℕ) (tags : List ℕ) → Msg
  ack : (view rank change speaker : ℕ) (tag : List ℕ) → Msg
  proposal : (view rank change set : ℕ) (tags : List ℕ) → Msg
  ready : (view rank change speaker : ℕ) (tag : List ℕ) → Msg
  change : (view rank change set : ℕ) (tags : List ℕ) → Msg
  deputy : (view rank speaker : ℕ) (tag : List ℕ) → Msg
  query : (view rank set : ℕ) (tags : List ℕ) → Msg
  last : (view rank speaker : ℕ) (reply : Reply) (proof : ℕ) (acks : List ℕ) → Msg
  suggest_last : (view rank set : ℕ) (replies : List Reply) (proof : ℕ) (acks : List ℕ) → Msg
  init : (view sender number : ℕ) (sort : Sort) (payload tag : List ℕ) → Msg
  echo : (view sender number : ℕ) (sort : Sort) (payload : List ℕ) (speaker : ℕ) (tag : List ℕ) → Msg
  commit : (view sender number : ℕ) (sort : Sort) (payload : List ℕ) (set : ℕ) (tags : List ℕ) → Msg

-- The number of each kind.
abbrev pub kind : Msg → ℕ
kind (Msg.notify v c s t) = 1
kind (Msg.suggest v c s t) = 2
kind (Msg.ack v r c s t) = 3
kind (Msg.proposal v r c s t) = 4
kind (Msg.ready v r c s t) = 5
kind (Msg.change v r c s t) = 6
kind (Msg.deputy v r s t) = 7
kind (Msg.query v r s t) = 8
kind (Msg.last v r s e p a) = 9
kind (Msg.suggest_last v r s es p a) = 10
kind (Msg.init v s n k p t) = 11
kind (Msg.echo v s n k p b t) = 12
kind (Msg.commit v s n k p b t) = 13

-- The view that a message is for.
abbrev pub view_of : Msg → ℕ
view_of (Msg.notify v c s t) = v
view_of (Msg.suggest v c s t) = v
view_of (Msg.ack v r c s t) = v
view_of (Msg.proposal v r c s t) = v
view_of (Msg.ready v r c s t) = v
view_of (Msg.change v r c s t) = v
view_of (Msg.deputy v r s t) = v
view_of (Msg.query v r s t) = v
view_of (Msg.last v r s e p a) = v
view_of (Msg.suggest_last v r s es p a) = v
view_of (Msg.init v s n k p t) = v
view_of (Msg.echo v s n k p b t) = v
view_of (Msg.commit v s n k p b t) = v

-- The number of each sort.
abbrev pub sort_number : Sort → ℕ
sort_number Report = 0
sort_number End = 1

-- Its name.
abbrev pub sort_name : Sort → List ℕ
sort_name Report = codes "report"
sort_name End = codes "end"

-- The sort with a number; no sort exactly if it is not 0 or 1.
abbrev pub SortNumbered : ℕ → Result Sort Unknown → Type 0
SortNumbered n r = MatchResult r (λ s. sort_number s ≡ n) (λ e. (e.0 ≡ n) × (1 < n))

-- A tag's eight bytes, the top one first.
abbrev pub tag_bytes : ℕ → List ℕ
tag_bytes t = t / 2 ^ 56 % 256 ∷ t / 2 ^ 48 % 256 ∷ t / 2 ^ 40 % 256 ∷ t / 2 ^ 32 % 256 ∷ t / 2 ^ 24 % 256 ∷ t / 2 ^ 16 % 256 ∷ t / 2 ^ 8 % 256 ∷ t % 256 ∷ []

-- What f says of the boards below n that pass a test, by rising board number.
unfoldable pub listed : {X : Type 0} → (ℕ → Bool) → (ℕ → X) → ℕ → List X
listed P f zero = []
listed P f (suc n) = listed P f n ++ cond (P n) (f n ∷ []) []

-- Lists one after another.
unfoldable pub joined : {X : Type 0} → List (List X) → List X
joined [] = []
joined (x ∷ xs) = x ++ joined xs

-- The bytes of the tags of set s, stored by board number.
abbrev pub stored_tags : ℕ → List ℕ → List ℕ
stored_tags s ts = joined (listed (member s) (λ b. tag_bytes (slice_index ts b)) 8)

-- The bytes of the tags of set s.
abbrev pub tags_of : ℕ → Tags → List ℕ
tags_of s (Heard t) = t.now
tags_of s (Stored ts) = stored_tags s ts.now
tags_of s (Fresh t) = tag_bytes t

-- No proposal kept.
abbrev pub none : Entry
none = record { earlier = 0; change = 0 }

-- The entry in a byte: the earlier rank on top, the change in the lowest three bits.
abbrev pub entry_in : ℕ → Entry
entry_in b = record { earlier = b / 16; change = b % 8 }

-- An entry's byte: the earlier rank on top, a zero bit, the change.
abbrev pub entry_byte : Entry → ℕ
entry_byte e = e.earlier % 16 * 16 + e.change % 8

-- The reply that begins at byte i: a byte with the entry, then the tag.
abbrev pub reply_at : List ℕ → ℕ → Reply
reply_at xs i = record { entry = entry_in (slice_index xs i); tag = take 8 (drop (i + 1) xs) }

-- The n replies that stand first in bytes, nine bytes each.
unfoldable pub replies_in : ℕ → List ℕ → List Reply
replies_in zero xs = []
replies_in (suc n) xs = replies_in n xs ++ reply_at xs (9 * n) ∷ []

-- The replies in bytes; one that is cut short counts.
abbrev pub heard_replies : List ℕ → List Reply
heard_replies xs = replies_in ((length xs + 8) / 9) xs

-- The replies of the boards of set s, stored by board number.
abbrev pub stored_replies : ℕ → List Entry → List ℕ → List Reply
stored_replies s es ts = listed (member s) (λ b. record { entry = slice_index_or es b none; tag = tag_bytes (slice_index ts b) }) 8

abbrev pub replies_of : ℕ → Entries → List Reply
replies_of s (HeardEntries xs) = heard_replies xs.now
replies_of s (StoredEntries es ts) = stored_replies s es.now ts.now

-- The bytes of a set's tags, and the replies of a set.
abbrev pub tags_by : Tagged → List ℕ
tags_by q = tags_of q.set.bits q.tags

abbrev pub replies_by : Replies → List Reply
replies_by q = replies_of q.set.bits q.entries

-- The bytes of a lone board's tag.
abbrev pub tag_by : Spoken → List ℕ
tag_by q = tags_of (only q.speaker) q.tag

-- What the body of a message for view v means.
abbrev pub said_in : ℕ → Body → Msg
said_in v (Notify c q) = Msg.notify v c q.speaker (tag_by q)
said_in v (Suggest c q) = Msg.suggest v c q.set.bits (tags_by q)
said_in v (Ack r c q) = Msg.ack v r c q.speaker (tag_by q)
said_in v (Proposal r c q) = Msg.proposal v r c q.set.bits (tags_by q)
said_in v (Ready r c q) = Msg.ready v r c q.speaker (tag_by q)
said_in v (Change r c q) = Msg.change v r c q.set.bits (tags_by q)
said_in v (Deputy r q) = Msg.deputy v r q.speaker (tag_by q)
said_in v (Query r q) = Msg.query v r q.set.bits (tags_by q)
said_in v (Last r e q p) = Msg.last v r q.speaker (record { entry = e; tag = tag_by q }) p.set.bits (tags_by p)
said_in v (SuggestLast r es p) = Msg.suggest_last v r es.set.bits (replies_by es) p.set.bits (tags_by p)
said_in v (Init c t) = Msg.init v c.sender c.number c.sort c.payload.now (tags_of (only c.sender) t)
said_in v (Echo c q) = Msg.echo v c.sender c.number c.sort c.payload.now q.speaker (tag_by q)
said_in v (Commit c q) = Msg.commit v c.sender c.number c.sort c.payload.now q.set.bits (tags_by q)

-- What a value of the program means.
abbrev pub meaning : Message → Msg
meaning m = said_in m.view m.body
