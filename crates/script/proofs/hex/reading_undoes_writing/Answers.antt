-- Reading hexadecimal undoes writing it.
-- The law is in Undoing.
use Rattle.script.proofs.Undoing.{undone}
use Rattle.script.proofs.hex.reading_undoes_writing.Goals as goal

pub returns : goal.returns
returns c = undone
