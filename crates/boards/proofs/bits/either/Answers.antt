-- The bits of either byte are the boards of either set.
-- With no board in the second, nothing is added.
use Rattle.std.proofs.Common.{ap, ◌∙◌}
use lib.Bits.{bit_or, or_zero_r}
use Rattle.boards.proofs.Members.{member_or}
use Rattle.boards.proofs.bits.either.Goals as goal

pub returns : goal.returns
returns c = record { each = λ k h. member_or c.args.a c.args.b k; same = λ z. ap (bit_or c.args.a) z ∙ or_zero_r c.args.a }
