-- All words of a message: each whole word is taken in, then the last.
-- The blocks are those that the definition cuts.
use Rattle.std.proofs.Common.{rules, tests, ◌≡◌, ◌*◌, ◌/◌, length, drop, fold, map, [], ◌∷◌, sym, ap, ◌∙◌, mul_comm}
use Rattle.std.specs.Simd.{first_chunks}
use Rattle.std.proofs.lemmas.List.Folds.{fold-map}
use Rattle.std.proofs.lemmas.List.Sums.{fold-append}
use Rattle.std.proofs.lemmas.Iterator.{YieldsList-from_slice}
use Rattle.std.proofs.lemmas.Iterator.Consumers.{fold_from_yields_List}
use Rattle.siphash.specs.SipHash.{little, compress, compressed, last_word, parsed}
use Rattle.siphash.proofs.absorb.Goals as goal

pub returns : goal.returns
unfolding parsed compressed
returns c =
    let m = c.args.message.now in
    let whole = length m / 8 in
    let blocks = c.as_chunks.result.0.now in
    let state : c.fold.result ≡ fold (λ v b. compress v (little b)) c.args.start blocks =
    fold_from_yields_List _ (λ v b. compress v (little b)) c.args.start c.fold.result c.fold.ensures.ran (YieldsList-from_slice blocks (cc)) (λ a x b q k. search (rules, tests)) in
    let words : c.fold.result ≡ fold compress c.args.start (map little (first_chunks 8 whole m)) =
    state ∙ sym (fold-map compress little c.args.start blocks) ∙ ap (λ b. fold compress c.args.start (map little b)) c.as_chunks.ensures.front in
    let rest : c.as_chunks.result.1.now ≡ drop (8 * whole) m = c.as_chunks.ensures.back ∙ ap (λ n. drop n m) (mul_comm whole 8) in
    let last = c.last_word.ensures ∙ ap (λ r. last_word r (length m)) rest in
    c.compress.ensures ∙ (λ j. compress (words j) (last j)) ∙ sym (fold-append compress c.args.start (map little (first_chunks 8 whole m)) (last_word (drop (8 * whole) m) (length m) ∷ []))
