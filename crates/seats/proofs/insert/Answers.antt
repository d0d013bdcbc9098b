-- A byte with the boards of a set and one more is that set with the board put in.
-- From the law of `insert`.
use Rattle.std.proofs.Common.{arith}
use Rattle.row.proofs.Picked.{insert_is}
use Rattle.seats.proofs.insert.Goals as goal

pub returns : goal.returns
returns c = insert_is c.args.set.bits c.args.board c.with.result.bits (omega arith) (omega arith) c.with.ensures.each
