-- The bits of one byte that the other lacks are the boards of one set that are not in the other.
-- With no board in the second, nothing is taken.
use Rattle.std.proofs.Common.{◌-◌, ◌&&◌, ap, ◌∙◌, arith}
use lib.Bits.{bit_and, and_mask}
use Rattle.boards.specs.Boards.{member}
use Rattle.boards.proofs.Members.{member_and, member_rest}
use Rattle.boards.proofs.bits.rest.Goals as goal

pub returns : goal.returns
returns c =
    let a = c.args.a in
    let b = c.args.b in
    record {
      each = λ k h. member_and a (255 - b) k ∙ ap (λ t. member a k && t) (member_rest b k c.ranges.b.fits h);
      same = λ z. ap (λ x. bit_and a (255 - x)) z ∙ and_mask a 8 ∙ omega arith;
    }
