-- The lines of a script, one after another.
-- The laws are in Turns.
use Rattle.std.proofs.Common.{length, refl, arith}
use Rattle.flatsat.proofs.Turns.{going_none, going_more, less, some_bytes, all_played}
use Rattle.flatsat.proofs.play.lines.Goals as goal

pub loop-rest-init : goal.loop-rest-init
loop-rest-init c = going_none _ _

pub loop-rest-preserved : goal.loop-rest-preserved
loop-rest-preserved c =
    going_more c.loop-rest.invariant c.loop-rest-test.ensures c.next_line.ensures.0 c.in_ok-page.ensures c.next_line.ensures.1

pub loop-rest-smaller : goal.loop-rest-smaller
loop-rest-smaller c = less c.loop-rest.rest.now c.next_line.result.1.now c.loop-rest-test.ensures c.next_line.ensures.1

pub line-requires : goal.line-requires
line-requires c =
    omega (arith, c.loop-rest.invariant.few, some_bytes (length c.loop-rest.rest.now) c.loop-rest-test.ensures, c.new-2.ensures.0, c.new-2.ensures.1, c.new-2.ensures.2)

pub returns : goal.returns
returns c =
    all_played c.loop-rest.invariant (record { no_text = c.new.ensures.items; no_answer = c.new-2.ensures; no_keys = refl }) c.loop-rest-test.ensures
