-- Head, middle, set and tags one after another.
-- There is room for each since there is for all.
use Rattle.std.proofs.Common.{arith}
use Rattle.writer.proofs.Puts.{more_at, same_at}
use Rattle.writer.proofs.Lengths.{layout_parts}
use Rattle.writer.proofs.put.Cursor.put_parts.Goals as goal

pub returns : goal.returns
returns c = same_at (layout_parts c.args.layout.now) (more_at (omega arith) (more_at (omega arith) (more_at (omega arith) c.put_head.ensures c.put_middle.ensures) c.put.ensures) c.put_tags.ensures)
