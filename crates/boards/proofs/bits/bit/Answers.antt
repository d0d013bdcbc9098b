-- The byte of one board is a shift of the top bit, and 0 above 7.
-- The shift is the definition of `only`.
use Rattle.std.proofs.Common.{sym, refl, arith}
use Rattle.boards.specs.Boards.{only}
use Rattle.boards.proofs.Members.{member_only, only_above, none_above}
use Rattle.boards.proofs.bits.bit.Goals as goal

pub returns-then-board-lt8 : goal.returns-then-board-lt8
unfolding only
returns-then-board-lt8 c = record { is = refl; each = member_only c.args.board; above = λ h. omega arith }

pub returns-else-board-lt8 : goal.returns-else-board-lt8
returns-else-board-lt8 c =
    record {
      is = sym (only_above c.args.board c.if-board-lt8.false);
      each = none_above c.args.board c.if-board-lt8.false;
      above = λ h. refl;
    }
