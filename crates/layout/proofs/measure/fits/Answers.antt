-- Stored tags are as many as the set has boards.
-- The other kinds of tags need no proof here.
use Rattle.std.proofs.Common.{sym}
use Rattle.std.proofs.lemmas.Bool.{eq-eqb}
use Rattle.layout.proofs.Stored.{stored_long, stored_fits}
use Rattle.layout.proofs.measure.fits.Goals as goal

pub returns-in-Stored : goal.returns-in-Stored
returns-in-Stored c = rw c.in-Stored.is (record { told = sym (eq-eqb _ _ (stored_long c.args.by.set.bits _)); fit = stored_fits c.args.by.set.bits _ })
