-- The law of the register.
-- A register with no row used has nothing good, so whatever is good was signed.
use Rattle.schemes.proofs.Since.{register_earned}
use Rattle.schemes.proofs.laws.register_good_was_signed.Goals as goal

pub returns : goal.returns
returns c = register_earned
