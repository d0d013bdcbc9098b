-- A set of one board is a byte that the format allows there, and its one board is the answer.
-- Bits that are missing and sets of other sizes are faults.
use Rattle.std.proofs.Common.{rules, ◌≡◌, ℕ, ◌<◌, true, sym, ap, ◌∙◌, arith}
use Rattle.std.proofs.lemmas.Bool.{eq-eqb, eqb-true, ne_eqb}
use Rattle.boards.specs.Boards.{member, only}
use Rattle.boards.proofs.Members.{member_only}
use Rattle.wire.specs.Fields.{lone}
use Rattle.wire.proofs.Speakers.{speaker, lone_is}
use Rattle.reader.proofs.Bridge.{got_on, got_bad, none_left}
use Rattle.reader.proofs.parts.Whole.lone.Goals as goal

one_board : (s b : ℕ) → s < 256 → b < 8 → lone s ≡ true → member s b ≡ true → s ≡ only b
one_board s b h g e m =
    let i = lone_is s h e in
    i ∙ ap only (sym (eqb-true b (speaker s) (sym (member_only (speaker s) b g) ∙ ap (λ t. member t b) (sym i) ∙ m)))

pub returns-in_err-number : goal.returns-in_err-number
returns-in_err-number c = search (rules, none_left)

pub returns-then-len-ne1 : goal.returns-then-len-ne1
unfolding lone
returns-then-len-ne1 c =
    got_bad lone (omega arith) (omega arith) c.in_ok-number.ensures (ne_eqb _ _ (λ e. c.if-len-ne1.true (c.len.ensures.is ∙ e))) c.refused.ensures

pub returns : goal.returns
unfolding lone
returns c =
    let g = c.in_ok-number.ensures in
    let one = eq-eqb _ _ (sym c.len.ensures.is ∙ c.if-len-ne1.false) in
    let h = rw c.unwrap.ensures at c.at.ensures in
    rw (← one_board _ _ g.below h.0 one h.1) (got_on lone (omega arith) (omega arith) g c.skip.ensures one)
