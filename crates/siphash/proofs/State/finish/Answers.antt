-- The last four rounds, each what `round` ensures of the one before.
-- The rounds stay shut.
use Rattle.std.proofs.Common.{ap, ◌∙◌}
use lib.Bits.{bit_xor}
use Rattle.siphash.specs.SipHash.{sip_round, finished}
use Rattle.siphash.proofs.State.finish.Goals as goal

pub returns : goal.returns
unfolding finished
returns c =
    ap (λ w. bit_xor (bit_xor (bit_xor w.v0 w.v1) w.v2) w.v3)
    (c.round-last.ensures ∙ ap sip_round (c.round-3.ensures ∙ ap sip_round (c.round-2.ensures ∙ ap sip_round c.round.ensures)))
