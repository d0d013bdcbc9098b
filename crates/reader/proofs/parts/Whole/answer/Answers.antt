-- Earlier rank, zero bit, change and tag are an entry as the format has it.
-- Without an earlier rank only change 0 is allowed.
use Rattle.reader.proofs.Loops.{entered_by}
use Rattle.reader.proofs.Values.{only_one, same_field}
use Rattle.reader.proofs.parts.Whole.answer.Goals as goal

pub returns : goal.returns
returns c = entered_by c.args.self.at c.in_ok-earlier.ensures (only_one c.in_ok-value.ensures) (same_field c.entry_change.ensures c.in_ok-change.ensures) c.in_ok-tag.ensures
