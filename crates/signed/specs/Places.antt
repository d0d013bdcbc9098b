-- The steps to a board's tag or entry: where it lies, heard, stored or fresh.
-- Only the functions behind the public calls speak of these.
use Rattle.std.specs.Prelude.{◌≡◌, ℕ, true, false, List, length, Some, None, Option, ◌≢◌, slice_index_or}
use Rattle.boards.specs.Boards.{member, place}
use Rattle.wire.specs.declared.message.Entry.{Entry}
use Rattle.wire.specs.declared.message.Replies.{Replies}
use Rattle.wire.specs.declared.message.Tagged.{Tagged}
use Rattle.wire.specs.Messages.{Msg, tag_bytes, tags_by, replies_by}
use Rattle.wire.specs.Acts.{proof_of, no_reply}

-- Bytes as one number, the first on top: there is one exactly if they are eight.
abbrev pub Eight : List ℕ → Option ℕ → Type 0
Eight t (Some x) = tag_bytes x ≡ t
Eight t None = length t ≢ 8

-- The entry of board b of a set; none exactly if the board is not in the set.
abbrev pub EntryAmong : Replies → ℕ → Option Entry → Type 0
EntryAmong q b (Some e) = (member q.set.bits b ≡ true) × (e ≡ (slice_index_or (replies_by q) (place q.set.bits b) no_reply).entry)
EntryAmong q b None = member q.set.bits b ≡ false

-- The boards of a message's proof, with their tags.
abbrev pub ProofLies : Msg → Tagged → Type 0
ProofLies m q = (q.set.bits ≡ (proof_of m).boards) × (tags_by q ≡ (proof_of m).acks)
