-- The tags of a message that a row answers: that they are whole, and what it keeps of them.
-- The whole of each vote is `heard` of crate row.
use Rattle.std.specs.Prelude.{◌≡◌, ℕ, true, length}
use Rattle.boards.specs.Boards.{member}
use Rattle.wire.specs.Acts.{signers, tag_of}
use Rattle.wire.specs.Messages.{Msg}
use Rattle.row.specs.declared.state.Count.{Count}
use Rattle.row.specs.States.{the_set}
use Rattle.row.specs.Effects.{heard_tag, each_board}

-- Each signer of a message has a tag of eight bytes.
abbrev pub WholeTags : Msg → Type 0
WholeTags m = (b : ℕ) → member (signers m) b ≡ true → length (tag_of m b) ≡ 8

-- The tags of the signers of a message, by board number.
abbrev pub heard_count : Msg → Count
heard_count m = record { set = the_set (signers m); tags = each_board (heard_tag m (signers m)) }
