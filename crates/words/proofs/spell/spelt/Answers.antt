-- A head's bytes and then the payload, in one buffer, are the words of what the head states.
-- Four bytes and 48 fit it.
use Rattle.std.proofs.Common.{◌≡◌, ℕ, ◌/◌, ◌<◌, List, ◌++◌, take, Some, ap, ◌∙◌, subst}
use Rattle.std.proofs.ByRecursion.{All-from_get_or}
use Rattle.bounded.specs.Held.{held, Holding}
use Rattle.words.proofs.Spelling.{bits_of_words, words_are}
use Rattle.words.proofs.spell.spelt.Goals as goal

pub returns : goal.returns
returns c =
    let h = c.args.head in
    let p = c.args.payload.now in
    let bs = c.bytes-first.result in
    let front : held c.unwrap-front.result ≡ take (h.width / 8) bs = (subst (Holding _) c.unwrap-front.ensures c.of.ensures).0 in
    let all : held c.unwrap.result ≡ held c.unwrap-front.result ++ p = (subst (Holding _) c.unwrap.ensures c.with.ensures).0 in
    let b = bits_of_words h bs p (held c.unwrap.result) c.requires.0 c.bytes-first.ensures (All-from_get_or (λ x. x < 256) p 0 (λ i l. (c.type_inv.payload i).fits)) (all ∙ ap (λ t. t ++ p) front) in
    words_are h p (held c.unwrap.result) b
