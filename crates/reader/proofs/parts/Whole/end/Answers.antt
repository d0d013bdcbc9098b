-- Bytes left over are a fault; else all are read.
-- A place between two bytes has bits left only where it has bytes left.
use Rattle.std.proofs.Common.{rules}
use Rattle.reader.proofs.Bridge.{over, all_read}
use Rattle.reader.proofs.parts.Whole.end.Goals as goal

pub returns-then-reader : goal.returns-then-reader
returns-then-reader c = search (rules, over)

pub returns : goal.returns
returns c = search (rules, all_read)
