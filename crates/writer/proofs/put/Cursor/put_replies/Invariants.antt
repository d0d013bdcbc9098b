-- The replies put so far, joined with those of the boards that are left, are all.
-- The boards left are of the set, and the filter asks for each of them.
use Rattle.std.proofs.Common.{◌≡◌}
use Rattle.boards.specs.Boards.{boards}
use Rattle.layout.specs.Layouts.{replies_bytes}
use Rattle.wire.specs.Messages.{replies_by}
use Rattle.writer.proofs.Puts.{Through}
use Rattle.writer.proofs.Rows.{answers_at, Of}
use Rattle.writer.proofs.put.Cursor.put_replies.Given as goal

abbrev pub invariant-loop-entry : goal.invariant-loop-entry
invariant-loop-entry l =
    let q = l.fn.gathered.replies in
    Through l.initial.self (replies_bytes (replies_by q)) (answers_at q (boards l.entry-iterator.iter.left.bits)) l.self
    × Of q.set.bits (boards l.entry-iterator.iter.left.bits) × (l.entry-iterator.f ≡ l.initial.entry-iterator.f)
