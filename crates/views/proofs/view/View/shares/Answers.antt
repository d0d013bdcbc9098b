-- The entry of the table at a number of members is its share and its quorum.
-- The table keeps the rule.
use Rattle.std.proofs.Common.{arith}
use Rattle.boards.specs.Boards.{size}
use Rattle.views.proofs.Rule.{share_is, quorum_rest}
use Rattle.views.proofs.view.View.shares.Goals as goal

pub returns : goal.returns
returns c =
    let n = c.len.result in
    let r = c.table.ensures n (omega arith) (omega arith) in
    let same = c.len.ensures.is in
    record { faulty = omega (arith, r.floor, share_is (size c.args.self.now.set.bits), same); enough = omega (arith, r.rest, r.floor, share_is (size c.args.self.now.set.bits), quorum_rest (size c.args.self.now.set.bits), same) }
