-- The law `RoundTrip` as its carrier's contract.
-- Proved in proofs/Answered.antt.
use Rattle.wire.proofs.Answered.{round_trip}
use Rattle.wire.proofs.laws.written_is_read_back.Goals as goal

pub returns : goal.returns
returns c = round_trip
