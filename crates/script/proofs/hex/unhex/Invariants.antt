-- The bytes so far: what the digits before the rest stand for.
-- Each turn reads two digits.
use Rattle.std.proofs.Common.{◌≡◌}
use Rattle.std.specs.Slice.Iter.{chunks_exact_rest, chunks_exact_size}
use Rattle.script.proofs.Undoing.{ReadSo}
use Rattle.script.proofs.hex.unhex.Given as goal

abbrev pub invariant-loop-pair : goal.invariant-loop-pair
invariant-loop-pair l = (chunks_exact_size l.pair-iterator ≡ 2) × ReadSo l.initial.out l.digits (chunks_exact_rest l.pair-iterator) l.out
