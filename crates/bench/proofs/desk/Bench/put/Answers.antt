-- A desk is laid anew.
-- The law is in Desks.
use Rattle.bench.proofs.Desks.{put_down}
use Rattle.bench.proofs.desk.Bench.put.Goals as goal

pub returns : goal.returns
returns c = put_down c.args.self.now c.from.result c.args.board c.args.row c.args.page c.from.ensures
