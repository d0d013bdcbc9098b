-- What was read of the opening and of the rest is what the whole bytes spell.
-- A fault of the opening is the message's fault.
use Rattle.std.proofs.Common.{rules}
use Rattle.reader.proofs.Finish.{so, stuck, spelt}
use Rattle.reader.proofs.read.read.Goals as goal

pub returns-in_err-opening : goal.returns-in_err-opening
returns-in_err-opening c = search (rules, so)

pub returns-in_err-body : goal.returns-in_err-body
returns-in_err-body c = search (rules, stuck)

pub returns : goal.returns
returns c = spelt c.args.bytes.now c.in_ok-opening.opening c.in_ok-body.body (λ i. (c.type_inv.bytes i).fits) c.in_ok-opening.ensures c.in_ok-body.ensures
