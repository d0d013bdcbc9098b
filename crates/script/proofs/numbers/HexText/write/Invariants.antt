-- The line so far: the digits of the bytes done.
-- Each turn adds two.
use Rattle.std.proofs.Common.{take}
use Rattle.script.specs.Texts.{hex}
use Rattle.script.proofs.Chains.{Has}
use Rattle.script.proofs.numbers.HexText.write.Given as goal

abbrev pub invariant-loop-b : goal.invariant-loop-b
invariant-loop-b l = Has l.initial.line (hex (take l.b-index l.b-items)) l.line
