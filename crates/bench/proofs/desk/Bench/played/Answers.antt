-- The moves of a list, one after another.
-- The laws are in Desks.
use Rattle.bench.proofs.Desks.{more_left, none_left}
use Rattle.bench.proofs.desk.Bench.played.Goals as goal

pub loop-one-preserved : goal.loop-one-preserved
loop-one-preserved c = λ end rest.
    c.loop-one.invariant end (more_left c.args.moves.now c.loop-one.one-index _ c.loop-one.self c.moved.new.self end c.loop-one-test.true c.in_ok-moved.ensures rest)

pub returns : goal.returns
returns c = c.loop-one.invariant c.loop-one.self (none_left c.args.moves.now c.loop-one.one-index c.loop-one.self c.loop-one-test.false)
