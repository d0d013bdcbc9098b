-- The next word: past the blanks, up to the next.
-- The laws are in Wording.
use Rattle.std.proofs.Common.{not, rules}
use Rattle.std.proofs.lemmas.List.{take_rest}
use Rattle.script.specs.Words.{blank}
use Rattle.script.proofs.Wording.{found_none, found}
use Rattle.script.proofs.words.next_word.Goals as goal

pub returns-then-end-eq0 : goal.returns-then-end-eq0
returns-then-end-eq0 c =
    let bs = c.args.bytes.now in
    found_none bs (c.front.ensures.is (λ b. not (blank b)) (λ b r k. search rules)) (take_rest bs c.front.result)
    (c.front-end.ensures.is blank (λ b r k. search rules)) c.if-end-eq0.true

pub returns : goal.returns
returns c =
    let bs = c.args.bytes.now in
    found bs (c.front.ensures.is (λ b. not (blank b)) (λ b r k. search rules)) (take_rest bs c.front.result)
    (c.front-end.ensures.is blank (λ b r k. search rules)) c.if-end-eq0.false c.split_at.ensures.front c.split_at.ensures.back
