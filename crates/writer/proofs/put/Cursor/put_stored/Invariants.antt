-- The tags put so far, joined with those of the boards that are left, are all.
-- Each turn takes one board off the walk.
use Rattle.boards.specs.Boards.{boards}
use Rattle.wire.specs.Messages.{stored_tags}
use Rattle.writer.proofs.Puts.{Through}
use Rattle.writer.proofs.Rows.{tags_at}
use Rattle.writer.proofs.put.Cursor.put_stored.Given as goal

abbrev pub invariant-loop-board : goal.invariant-loop-board
invariant-loop-board l = Through l.initial.self (stored_tags l.fn.set.bits l.row) (tags_at l.row (boards l.board-iterator.left.bits)) l.self
