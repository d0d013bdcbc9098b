-- The law `FieldRefused` as its carrier's contract.
-- Proved in proofs/Answered.antt.
use Rattle.wire.proofs.Answered.{field_refused}
use Rattle.wire.proofs.laws.field_is_refused.Goals as goal

pub returns : goal.returns
returns c = field_refused
