-- At most seven bytes as a number: null bytes after them add nothing.
-- Both are lemmas on lists.
use Rattle.std.proofs.Common.{ℕ, ◌-◌, ◌^◌, ◌<◌, ◌≡◌, length, drop, replicate, ◌++◌, sym, ap, ◌∙◌, subst, arith}
use Rattle.std.proofs.lemmas.List.{drop-replicate}
use Rattle.siphash.specs.SipHash.{little}
use Rattle.siphash.proofs.Words.{little_zeros, little_below}
use Rattle.siphash.proofs.number.Goals as goal

pub returns : goal.returns
returns c =
    let rest = c.args.rest.now in
    let n = length rest in
    let value : c.word.result ≡ little rest =
    c.word.ensures ∙ ap (λ x. little (x ++ drop n (replicate 8 0))) c.copy_from_slice.ensures.after
    ∙ ap (λ z. little (rest ++ z)) (drop-replicate n 8 0) ∙ little_zeros rest (8 - n) in
    (value, subst (λ (v : ℕ). v < 2 ^ 56) (sym value) (little_below rest 7 (omega arith) (λ i. (c.type_inv.rest i).fits)))
