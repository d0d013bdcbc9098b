-- A set without boards is 0.
-- So either the set is 0 or it is one of 1 to 255.
use Rattle.std.proofs.Common.{◌≡◌, ◌<◌, eqb, ◌∙◌, arith}
use Rattle.std.proofs.lemmas.Bool.Decides.{nat_tests}
use Rattle.layout.proofs.Seals.{boardless}
use Rattle.layout.proofs.seal.called_for.Goals as goal

pub returns : goal.returns
returns c =
    let s = c.args.proof.bits in
    let low : s < 256 = omega arith in
    let e : c.is_empty.result ≡ eqb s 0 = c.is_empty.ensures ∙ boardless s low in
    grind (arith, nat_tests)
