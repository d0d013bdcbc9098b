-- The bytes that digits stand for, one by one.
-- The laws are in Undoing.
use Rattle.std.proofs.Common.{◌∙◌, arith}
use Rattle.std.specs.Slice.Iter.{chunks_exact_rest}
use Rattle.script.proofs.Undoing.{read_more, read_not, read_all}
use Rattle.script.proofs.hex.unhex.Goals as goal

pub loop-pair-preserved : goal.loop-pair-preserved
loop-pair-preserved c =
    let step = c.in-Some.ensures.steps in
    let size = c.loop-pair.invariant.0 in
    (step.0 ∙ size, read_more (chunks_exact_rest c.next.new.self) c.in-Some.pair.now c.loop-pair.invariant.1 step.1.0 (step.1.1 ∙ size) c.nibble.ensures.0 c.nibble-in-loop-pair.ensures.0 c.in_ok-write.ensures)

pub returns-in_err-write : goal.returns-in_err-write
returns-in_err-write c =
    let step = c.in-Some.ensures.steps in
    read_not c.args.digits.now (chunks_exact_rest c.next.new.self) c.in-Some.pair.now c.from_residual.result c.loop-pair.invariant.1 step.1.0 (step.1.1 ∙ c.loop-pair.invariant.0)
    c.nibble.ensures.0 c.nibble-in-loop-pair.ensures.0 c.in_err-write.ensures c.from_residual.ensures.0

pub returns : goal.returns
returns c =
    read_all (chunks_exact_rest c.loop-pair.pair-iterator) c.loop-pair.invariant.1 (omega (arith, c.in-None.ensures.steps.1.0, c.loop-pair.invariant.0))
