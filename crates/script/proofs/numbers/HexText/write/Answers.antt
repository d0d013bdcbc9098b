-- The digits of bytes, two by two.
-- The laws are in Chains.
use Rattle.std.proofs.Common.{[], ◌∷◌, ◌++◌, take, ◌∙◌, arith}
use Rattle.std.proofs.lemmas.List.{length-take-le}
use Rattle.script.specs.Texts.{hex}
use Rattle.script.proofs.Chains.{has_none, has_more, not_written, hex_none, hex_more, hex_length}
use Rattle.script.proofs.numbers.HexText.write.Goals as goal

pub loop-b-init : goal.loop-b-init
loop-b-init c = rw hex_none (has_none c.args.line.now)

pub loop-b-preserved : goal.loop-b-preserved
loop-b-preserved c =
    has_more c.loop-b.invariant c.in_ok-write.ensures
    ((λ i. hex (take c.loop-b.b-index c.args.self.now.0.now) ++ c.hex_digit.ensures i ∷ c.hex_digit-in-loop-b.ensures i ∷ []) ∙ hex_more c.args.self.now.0.now c.loop-b.b-index c.loop-b-test.true)

pub returns-in_err-write : goal.returns-in_err-write
returns-in_err-write c =
    let bs = c.args.self.now.0.now in
    let i = c.loop-b.b-index in
    not_written (hex bs) c.from_residual.result c.loop-b.invariant c.in_err-write.ensures
    (omega (arith, hex_length bs, hex_length (take i bs), length-take-le i bs (omega (arith, c.loop-b-test.true)), c.loop-b-test.true)) c.from_residual.ensures.0
