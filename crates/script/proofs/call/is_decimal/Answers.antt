-- All are digits where each byte is.
-- The law is in Fronts.
use Rattle.std.proofs.Common.{rules}
use Rattle.std.proofs.lemmas.Iterator.{YieldsList-from_slice}
use Rattle.std.proofs.lemmas.Iterator.Search.{all_from_yields_List}
use borrow.Author.Tests.{tests}
use Rattle.script.specs.Words.{digit_sign}
use Rattle.script.proofs.Fronts.{each}
use Rattle.script.proofs.call.is_decimal.Goals as goal

pub returns : goal.returns
returns c = each digit_sign c.args.bytes.now (all_from_yields_List digit_sign _ _ c.all.result c.all.ensures.ran (YieldsList-from_slice c.args.bytes.now c.iter.ensures.rest) (λ x r q k. search (rules, tests)))
