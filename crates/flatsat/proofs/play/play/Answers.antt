-- All lines, and then the count.
-- The law is in Turns.
use Rattle.flatsat.proofs.Turns.{printed}
use Rattle.flatsat.proofs.play.play.Goals as goal

pub returns : goal.returns
returns c = printed c.args.script.now c.in_ok-page.page c.tally_line.result c.in_ok-page.ensures c.tally_line.ensures
