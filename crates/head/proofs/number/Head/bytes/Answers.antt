-- A number's four bytes are its 32 bits.
-- Each is the rest of a division by 256.
use Rattle.std.proofs.Common.{◌<◌, sym, ap, ◌∙◌, subst, arith}
use Rattle.std.specs.List.{AllByRecursion}
use Rattle.grammar.specs.Bits.{bits}
use Rattle.head.proofs.Joins.{four_bytes}
use Rattle.head.proofs.number.Head.bytes.Goals as goal

pub returns : goal.returns
returns c = record {
  form = ap bits c.to_be_bytes.ensures ∙ four_bytes c.raised.result ∙ c.raised.ensures;
  fit = subst (AllByRecursion (λ x. x < 256)) (sym c.to_be_bytes.ensures) (omega arith, (omega arith, (omega arith, (omega arith, tt))));
}
