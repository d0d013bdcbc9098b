-- The two words of a key.
-- The two blocks of sixteen bytes are the first eight and the last eight.
use Rattle.std.proofs.Common.{◌≡◌, [], length, get_or, take, drop, ap, ◌∙◌, arith}
use Rattle.siphash.specs.SipHash.{little}
use Rattle.siphash.proofs.Words.{front_half, back_half}
use Rattle.siphash.proofs.key_words.Goals as goal

pub returns : goal.returns
returns c =
    let key = c.args.key.now in
    let long : length key ≡ 16 = omega arith in
    let blocks = c.as_chunks.result.0.now in
    let front : get_or blocks 0 [] ≡ take 8 key = ap (λ b. get_or b 0 []) c.as_chunks.ensures.front ∙ front_half key long in
    let back : get_or blocks 1 [] ≡ drop 8 key = ap (λ b. get_or b 1 []) c.as_chunks.ensures.front ∙ back_half key long in
    (c.word.ensures ∙ ap little front, c.word-2.ensures ∙ ap little back)
