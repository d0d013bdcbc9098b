-- A number moved up has its own bits first and zeros after them.
-- A head with no field is all zeros.
use Rattle.std.proofs.Common.{◌≡◌, ◌+◌, ◌-◌, ◌*◌, ◌^◌, ◌++◌, sym, ap, ◌∙◌, arith}
use Rattle.std.proofs.lemmas.Nat.{shl_whole}
use Rattle.grammar.specs.Bits.{bits_of}
use Rattle.head.proofs.Joins.{moved_up}
use Rattle.head.proofs.number.Head.raised.Goals as goal

pub returns-then-self-eq0 : goal.returns-then-self-eq0
unfolding bits_of
returns-then-self-eq0 c = λ i. bits_of (sym c.if-self-eq0.true i) c.args.self.number ++ bits_of (32 - sym c.if-self-eq0.true i) 0

pub returns-else-self-eq0 : goal.returns-else-self-eq0
returns-else-self-eq0 c =
    let a = c.args.self in
    let z = 32 - a.width in
    let whole : a.width + z ≡ 32 = omega arith in
    ap (bits_of 32) (shl_whole a.number a.width z 32 a.below (omega arith)) ∙ ap (λ n. bits_of n (a.number * 2 ^ z)) (sym whole) ∙ moved_up a.number a.width z
