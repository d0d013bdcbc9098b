-- The keys are the first eight pieces of 16 bytes.
-- The law is in Halves.
use Rattle.std.proofs.Common.{rules}
use Rattle.flatsat.proofs.Halves.{eight_pieces}
use Rattle.flatsat.proofs.audit.keys.Goals as goal

pub returns : goal.returns
returns c = eight_pieces c.args.bytes.now c.requires (search rules)
