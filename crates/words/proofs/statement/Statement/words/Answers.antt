-- Without a head there are no words, for an act that is not allowed.
-- With one they are those of head and payload.
use Rattle.std.proofs.Common.{◌≤◌, length, None, sym, refl, subst}
use Rattle.words.specs.Said.{said, Spelt}
use Rattle.words.proofs.Spelling.{no_head}
use Rattle.words.proofs.statement.Statement.words.Goals as goal

pub returns-in_err-head : goal.returns-in_err-head
returns-in_err-head c = subst (Spelt (said c.args.self.now)) (sym c.from_residual.ensures) (no_head (said c.args.self.now) None c.in_err-head.ensures refl)

pub spelt-requires : goal.spelt-requires
spelt-requires c =
    let h = c.in_ok-head.field-0 in
    let s = c.in_ok-head.ensures in
    (s.whole h refl, subst (λ p. length p ≤ 48) c.payload.ensures (s.short h refl))
