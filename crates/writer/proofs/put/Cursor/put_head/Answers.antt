-- The first bytes of a head's four are the head.
-- There are as many as its fields fill.
use Rattle.std.proofs.Common.{length, ap, arith}
use Rattle.writer.proofs.Fronts.{head_is}
use Rattle.writer.proofs.Puts.{same_at}
use Rattle.writer.proofs.put.Cursor.put_head.Goals as goal

pub put-requires : goal.put-requires
put-requires c = omega (arith, ap length (head_is c.args.head _ c.requires.1 c.bytes-bytes.ensures))

pub returns : goal.returns
returns c = same_at (head_is c.args.head _ c.requires.1 c.bytes-bytes.ensures) c.put.ensures
