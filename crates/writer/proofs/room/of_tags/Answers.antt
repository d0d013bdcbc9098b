-- Stored tags are eight bytes for each board.
-- The other kinds of tags need no proof here.
use Rattle.std.proofs.Common.{arith}
use Rattle.layout.proofs.Stored.{stored_long}
use Rattle.writer.proofs.room.of_tags.Goals as goal

pub returns-in-Stored : goal.returns-in-Stored
returns-in-Stored c = rw c.in-Stored.is (omega (arith, stored_long c.args.by.set.bits c.in-Stored.field-0.now))
