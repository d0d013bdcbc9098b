-- The bits above that of a board are the boards before it.
-- The law of that is in Members.
use Rattle.std.proofs.Common.{◌≡◌, ◌+◌, ◌-◌, ◌/◌, ◌^◌, ap, ◌∙◌, arith}
use lib.Count.{ones}
use Rattle.std.proofs.lemmas.Nat.{shr-shr}
use Rattle.boards.specs.Boards.{place}
use Rattle.boards.proofs.Members.{place_ones}
use Rattle.boards.proofs.Sets.{place_le}
use Rattle.boards.proofs.bits.before.Goals as goal

pub returns : goal.returns
returns c =
    let s = c.args.bits in
    let b = c.args.board in
    let next : (7 - b) + 1 ≡ 8 - b = omega arith in
    let e : ones (s / 2 ^ (7 - b) / 2) ≡ place s b = ap ones (shr-shr s (7 - b) 1) ∙ ap (λ i. ones (s / 2 ^ i)) next ∙ place_ones s b c.ranges.bits.fits (omega arith) in
    (e, omega (arith, e, place_le s b))
