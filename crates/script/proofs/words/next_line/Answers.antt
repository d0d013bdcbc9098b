-- What stands before the newline, and past it.
-- The front is where it stands.
use Rattle.std.proofs.Common.{◌≡◌, ℕ, min, eqb, List, [], ◌∷◌, length, take, drop, refl, ap, ◌∙◌, arith, rules}
use Rattle.std.proofs.lemmas.List.{take_rest}
use Rattle.script.proofs.words.next_line.Goals as goal

one_less : (xs : List ℕ) → drop (min (length xs) 1) xs ≡ drop 1 xs
one_less [] = refl
one_less (x ∷ xs) =
    let one : min (length (x ∷ xs)) 1 ≡ 1 = omega arith in
    ap (λ n. drop n (x ∷ xs)) one

pub returns : goal.returns
returns c =
    let s = c.args.script.now in
    let rest = c.split_at.result.1.now in
    let at = c.front.ensures.is (λ b. eqb b 10) (λ b r k. search rules) in (
      c.split_at.ensures.front ∙ ap (λ n. take n s) at,
      take_rest rest c.min.result
          ∙ ap (λ n. drop n rest) c.min.ensures ∙ one_less rest ∙ ap (drop 1) (c.split_at.ensures.back ∙ ap (λ n. drop n s) at),
    )
