-- The eight bytes that begin at a place are those of the number that they make.
-- That there are fewer where there is no number is closed by the search.
use Rattle.std.proofs.Common.{◌≡◌, ℕ, ◌+◌, ◌-◌, ◌<◌, length, get_or, take, drop, sym, ap, ◌∙◌, subst, ⊎_elim, arith, length-drop, length-take}
use Rattle.std.proofs.lemmas.Nat.{be_bytes_8}
use Rattle.std.proofs.lemmas.List.{get_or-take, get_or-drop, get_or_past, take_all}
use Rattle.std.proofs.lemmas.Bool.{cases_lt}
use Rattle.signed.proofs.tags.eight.Goals as goal

pub returns : goal.returns
returns c =
    let bs = c.args.bytes.now in
    let at = c.args.at in
    let tag = c.in_ok-tag.tag.now in
    let range = c.in_ok-get.ensures.lookup.0.2 in
    let rest = take_all (length bs - at) (drop at bs) (omega (arith, length-drop at bs)) in
    let is : tag ≡ take 8 (drop at bs) = c.in_ok-tag.ensures.cases.same ∙ ap (take 8) (range ∙ rest) in
    let long : length tag ≡ 8 = omega (arith, ap length is, length-take 8 (drop at bs), length-drop at bs, c.in_ok-tag.ensures.cases.enough, c.in_ok-get.ensures.lookup.0.3) in
    let fits : (i : ℕ) → get_or tag i 0 < 256 = λ i.
    ⊎_elim
    (λ l. subst (λ (x : ℕ). x < 256) (sym (ap (λ b. get_or b i 0) is ∙ get_or-take 8 (drop at bs) i 0 l ∙ get_or-drop at bs i 0)) (c.type_inv.bytes (at + i)).fits)
    (λ g. subst (λ (x : ℕ). x < 256) (sym (get_or_past tag i 0 (omega arith))) (omega arith))
    (cases_lt i 8) in
    be_bytes_8 tag c.from_be_bytes.result long fits c.from_be_bytes.ensures ∙ is
