-- Eight bytes as a number, as the library reads them.
-- A lemma on lists of eight.
use Rattle.std.proofs.Common.{◌∙◌, arith}
use Rattle.siphash.proofs.Words.{little_eight}
use Rattle.siphash.proofs.word.Goals as goal

pub returns : goal.returns
returns c = c.from_le_bytes.ensures ∙ little_eight c.args.bytes.now (omega arith)
