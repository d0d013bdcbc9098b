-- A set with one board more is that set with the board put in.
-- From the law of sets that are put together.
use Rattle.std.proofs.Common.{ap, set, arith}
use Rattle.row.specs.declared.state.Count.{Count}
use Rattle.row.specs.States.{the_set}
use Rattle.row.proofs.Picked.{insert_is}
use Rattle.delivery.proofs.accepted.counted.Goals as goal

pub returns : goal.returns
returns c =
    let f : Rattle.std.proofs.Common.ℕ → Count = λ b. record { set = the_set b; tags = set c.args.count.tags c.args.board c.args.tag } in
    ap f (insert_is c.args.count.set.bits c.args.board c.with.result.bits (omega arith) (omega arith) c.with.ensures.each)
