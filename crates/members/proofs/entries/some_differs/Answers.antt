-- The closure answers as the test of the rules does.
-- From the contract of the chain that both tests share.
use Rattle.std.proofs.Common.{rules, tests}
use Rattle.row.specs.Refusals.{differs}
use Rattle.members.proofs.entries.some_differs.Goals as goal

pub returns : goal.returns
returns c = c.some_told.ensures (differs c.args.low) (λ e r q. search (rules, tests))
