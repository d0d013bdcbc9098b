-- Only what can be signed is ever good, in either scheme.
-- Each scheme gives its proof as the member `bounded` of the trait.
use Rattle.std.specs.Prelude.{◌≡◌, ℕ, ◌<◌, ◌≤◌, true, List, length}
use Rattle.std.proofs.lemmas.Bool.{and_parts, ltb-true, leb-true}
use Rattle.schemes.specs.Meaning.{signable, Bounded}
use Rattle.schemes.specs.Keys.{good_under}
use Rattle.schemes.specs.Registers.{good_in}

-- What the test of what can be signed says.
pub signable_says : (b : ℕ) (w : List ℕ) → signable b w ≡ true → (b < 8) × (1 ≤ length w) × (length w ≤ 64)
signable_says b w h =
    let p = and_parts _ _ h in
    let q = and_parts _ _ p.1 in
    (ltb-true b 8 p.0, ltb-true 0 (length w) q.0, leb-true (length w) 64 q.1)

pub keyed_bounded : Bounded good_under
keyed_bounded k b w t h = signable_says b w (and_parts (signable b w) _ h).0

pub register_bounded : Bounded good_in
register_bounded r b w t h = signable_says b w (and_parts (signable b w) _ h).0
