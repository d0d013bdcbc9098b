-- The board's bit, shifted to the lowest place, says whether it is a member.
-- Above 7 there is no bit and no member.
use Rattle.std.proofs.Common.{◌-◌, ◌/◌, ◌^◌, eqb, sym, ap, ◌∙◌}
use lib.Bits.{and_mask}
use Rattle.std.proofs.lemmas.Bool.{le-ltb, ltb-true}
use Rattle.boards.proofs.Members.{member_above, member_bit}
use Rattle.boards.proofs.bits.is_set.Goals as goal

pub returns-then-board-lt8 : goal.returns-then-board-lt8
returns-then-board-lt8 c =
    let s = c.args.bits in
    let b = c.args.board in
    record { is = ap (λ x. eqb x 1) (and_mask (s / 2 ^ (7 - b)) 1) ∙ sym (member_bit s b c.if-board-lt8.true); below = λ e. c.if-board-lt8.true }

pub returns-else-board-lt8 : goal.returns-else-board-lt8
returns-else-board-lt8 c =
    let s = c.args.bits in
    let b = c.args.board in
    record { is = le-ltb b 8 c.if-board-lt8.false ∙ sym (member_above s b c.if-board-lt8.false); below = ltb-true b 8 }
