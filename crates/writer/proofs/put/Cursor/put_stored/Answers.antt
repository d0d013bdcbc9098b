-- Each turn puts the tag of the first of the boards that are left.
-- There is room for one tag for each.
use Rattle.std.proofs.Common.{length, ap, ◌∙◌, arith}
use Rattle.boards.specs.Boards.{boards}
use Rattle.layout.proofs.Stored.{stored_long}
use Rattle.writer.proofs.Puts.{starts, room, turn, ends}
use Rattle.writer.proofs.Rows.{tags_at, tags_none, tags_first, tags_boards}
use Rattle.writer.proofs.put.Cursor.put_stored.Goals as goal

pub loop-board-init : goal.loop-board-init
loop-board-init c =
    let of = ap (λ w. w.left) c.into_iter-board-iterator.ensures.into_iter_gives ∙ c.boards-board-items.ensures in
    starts (ap (λ s. tags_at c.args.row.now (boards s.bits)) of ∙ tags_boards c.args.set.bits c.args.row.now)

pub put_tag-requires : goal.put_tag-requires
put_tag-requires c =
    let left = room (omega (arith, c.requires, stored_long c.args.set.bits c.args.row.now)) c.loop-board.invariant in
    omega (arith, left, ap length (tags_first c.args.row.now c.in-Some.ensures.steps.1 c.from.ensures))

pub loop-board-preserved : goal.loop-board-preserved
loop-board-preserved c = turn (tags_first c.args.row.now c.in-Some.ensures.steps.1 c.from.ensures) (omega (arith, c.requires)) c.loop-board.invariant c.put_tag.ensures

pub returns : goal.returns
returns c = ends (tags_none c.args.row.now c.in-None.ensures.steps.0) c.loop-board.invariant
