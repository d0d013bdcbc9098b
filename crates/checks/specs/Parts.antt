-- What a board's tag in a part of a message stands for, and when it holds.
-- Only the functions behind the public calls speak of these.
use Rattle.std.specs.Prelude.{◌≡◌, ℕ, true, false, Some, None, Option}
use Rattle.boards.specs.Boards.{member}
use Rattle.schemes.specs.Meaning.{Good}
use Rattle.wire.specs.Messages.{Msg}
use Rattle.wire.specs.Acts.{Act, Allowed, words}
use Rattle.words.specs.declared.statement.Statement.{Statement}
use Rattle.words.specs.Said.{said}
use Rattle.checks.specs.declared.Part.{Part}
use Rattle.checks.specs.Checks.{boards_in, act_in}

-- What board b's tag stands for; nothing exactly if the board is not of the part.
abbrev pub StatedIn : Part → Msg → ℕ → Option Statement → Type 0
StatedIn part m b (Some s) = (member (boards_in part m) b ≡ true) × (said s ≡ act_in part m b)
StatedIn part m b None = member (boards_in part m) b ≡ false

-- Board b's tag x holds for an act: the act may be signed, and the tag is good for its words.
abbrev pub StandsFor : Good → ℕ → Act → ℕ → Type 0
StandsFor good b a x = Allowed a × (good b (words a) x ≡ true)
