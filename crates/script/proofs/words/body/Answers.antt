-- What stands before the mark.
-- The line is the chomped one.
use Rattle.std.proofs.Common.{eqb, take, ap, ◌∙◌, rules}
use Rattle.script.specs.Words.{before}
use Rattle.script.proofs.words.body.Goals as goal

pub returns : goal.returns
returns c =
    let l = c.chomped-line.result.now in
    ap (λ n. take n l) (c.front.ensures.is (λ b. eqb b 35) (λ b r k. search rules)) ∙ ap (before 35) c.chomped-line.ensures
