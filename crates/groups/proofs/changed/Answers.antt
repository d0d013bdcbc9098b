-- One change after another: each turn adds the line of the latest view, and makes a change.
-- The laws are in Walks.
use Rattle.std.proofs.Common.{arith}
use Rattle.std.proofs.lemmas.List.{drop_all, drop_more}
use Rattle.groups.proofs.Walks.{going_more, going_over, going_shut}
use Rattle.groups.proofs.changed.Goals as goal

pub returns-in-Err : goal.returns-in-Err
returns-in-Err c =
    going_shut c.loop-digit.invariant c.latest.ensures (drop_more c.args.changes.now c.loop-digit.digit-index 0 c.loop-digit-test.true) c.board.ensures c.in_ok-text.ensures
    c.in-Err.ensures.0

pub loop-digit-preserved : goal.loop-digit-preserved
loop-digit-preserved c =
    going_more c.loop-digit.invariant c.latest.ensures (drop_more c.args.changes.now c.loop-digit.digit-index 0 c.loop-digit-test.true) c.board.ensures c.in_ok-text.ensures
    c.in_default.ensures

pub returns : goal.returns
returns c = going_over c.loop-digit.invariant c.latest-2.ensures (drop_all c.loop-digit.digit-index c.args.changes.now (omega (arith, c.loop-digit-test.false)))
