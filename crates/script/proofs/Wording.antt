-- The words of bytes, one after another: blanks at the front do not count, and what stands up to the next blank is a word.
-- For the call that finds the next word.
use Rattle.std.proofs.Common.{◌≡◌, ℕ, suc, ◌<◌, true, false, cond, not, List, [], ◌∷◌, length, take, drop, sym, refl, ap, ◌∙◌, arith}
use Rattle.std.proofs.lemmas.List.{length-take-le}
use Rattle.script.specs.Words.{lead, blank, onto, pieces, kept, words}
use Rattle.script.proofs.Fronts.{lead_bound}

-- how many blanks at the front, and how many bytes that are none
abbrev pub gap : List ℕ → ℕ
gap bs = lead (λ b. not (not (blank b))) bs

abbrev pub run : List ℕ → ℕ
run bs = lead (λ b. not (blank b)) bs

-- by whether a byte is blank
by : (P : Type 0) (b : ℕ) → (blank b ≡ true → P) → (blank b ≡ false → P) → P
by P b yes_blank no_blank = (elim (blank b) as (λ v. blank b ≡ v → P) [ true ↦ yes_blank | false ↦ no_blank ]) refl

gap_blank : (b : ℕ) (bs : List ℕ) → blank b ≡ true → gap (b ∷ bs) ≡ suc (gap bs)
unfolding lead
gap_blank b bs e = ap (λ v. cond (not (not v)) (suc (gap bs)) 0) e

gap_solid : (b : ℕ) (bs : List ℕ) → blank b ≡ false → gap (b ∷ bs) ≡ 0
unfolding lead
gap_solid b bs e = ap (λ v. cond (not (not v)) (suc (gap bs)) 0) e

run_blank : (b : ℕ) (bs : List ℕ) → blank b ≡ true → run (b ∷ bs) ≡ 0
unfolding lead
run_blank b bs e = ap (λ v. cond (not v) (suc (run bs)) 0) e

run_solid : (b : ℕ) (bs : List ℕ) → blank b ≡ false → run (b ∷ bs) ≡ suc (run bs)
unfolding lead
run_solid b bs e = ap (λ v. cond (not v) (suc (run bs)) 0) e

pieces_blank : (b : ℕ) (bs : List ℕ) → blank b ≡ true → pieces (b ∷ bs) ≡ [] ∷ pieces bs
unfolding pieces
pieces_blank b bs e = ap (λ v. cond v ([] ∷ pieces bs) (onto b (pieces bs))) e

pieces_solid : (b : ℕ) (bs : List ℕ) → blank b ≡ false → pieces (b ∷ bs) ≡ onto b (pieces bs)
unfolding pieces
pieces_solid b bs e = ap (λ v. cond v ([] ∷ pieces bs) (onto b (pieces bs))) e

words_blank : (b : ℕ) (bs : List ℕ) → blank b ≡ true → words (b ∷ bs) ≡ words bs
unfolding kept words
words_blank b bs e = ap kept (pieces_blank b bs e)

-- blanks at the front do not count
pub skipped : (bs : List ℕ) → words bs ≡ words (drop (gap bs) bs)
unfolding lead
skipped [] = refl
skipped (b ∷ bs) =
    by (words (b ∷ bs) ≡ words (drop (gap (b ∷ bs)) (b ∷ bs))) b
    (λ e. words_blank b bs e ∙ skipped bs ∙ sym (ap (λ n. words (drop n (b ∷ bs))) (gap_blank b bs e)))
    (λ e. sym (ap (λ n. words (drop n (b ∷ bs))) (gap_solid b bs e)))

-- nothing left after the blanks
ended : (bs : List ℕ) → run (drop (gap bs) bs) ≡ 0 → drop (gap bs) bs ≡ []
unfolding lead
ended [] z = refl
ended (b ∷ bs) z =
    by (drop (gap (b ∷ bs)) (b ∷ bs) ≡ []) b
    (λ e.
    let g = gap_blank b bs e in
    ap (λ n. drop n (b ∷ bs)) g ∙ ended bs (sym (ap (λ n. run (drop n (b ∷ bs))) g) ∙ z))
    (λ e.
    let g = gap_solid b bs e in
    let k : run (b ∷ bs) ≡ 0 = sym (ap (λ n. run (drop n (b ∷ bs))) g) ∙ z in
    absurd (omega (arith, k, run_solid b bs e)))

pub no_word : (bs : List ℕ) → run (drop (gap bs) bs) ≡ 0 → words bs ≡ []
unfolding pieces kept words
no_word bs z = skipped bs ∙ ap words (ended bs z)

-- the first piece is the run at the front
record Front (bs : List ℕ) : Type 0 where
  rest : List (List ℕ)
  cut : pieces bs ≡ take (run bs) bs ∷ rest
  left : kept rest ≡ words (drop (run bs) bs)

front : (bs : List ℕ) → Front bs
unfolding lead pieces kept words
front [] = record { rest = []; cut = refl; left = refl }
front (b ∷ bs) =
    by (Front (b ∷ bs)) b
    (λ e.
    let r = run_blank b bs e in
    record {
      rest = pieces bs;
      cut = pieces_blank b bs e ∙ sym (ap (λ n. take n (b ∷ bs) ∷ pieces bs) r);
      left = sym (words_blank b bs e) ∙ sym (ap (λ n. words (drop n (b ∷ bs))) r);
    })
    (λ e.
    let r = run_solid b bs e in
    let f = front bs in
    record {
      rest = f.rest;
      cut = pieces_solid b bs e ∙ ap (onto b) f.cut ∙ sym (ap (λ n. take n (b ∷ bs) ∷ f.rest) r);
      left = f.left ∙ sym (ap (λ n. words (drop n (b ∷ bs))) r);
    })

kept_some : (p : List ℕ) (ps : List (List ℕ)) → 0 < length p → kept (p ∷ ps) ≡ p ∷ kept ps
unfolding kept
kept_some [] ps h = absurd (omega arith)
kept_some (b ∷ bs) ps h = refl

-- a run at the front is the first word
word_first : (bs : List ℕ) → 0 < run bs → words bs ≡ take (run bs) bs ∷ words (drop (run bs) bs)
unfolding words
word_first bs h =
    let f = front bs in
    let long = length-take-le (run bs) bs (lead_bound (λ b. not (blank b)) bs) in
    ap kept f.cut ∙ kept_some (take (run bs) bs) f.rest (omega (arith, h, long)) ∙ ap (λ t. take (run bs) bs ∷ t) f.left

-- what a search finds: rest stands past the blanks, and e bytes of it before the next
module _ (bs : List ℕ) {rest : List ℕ} {s e : ℕ} (start : s ≡ gap bs) (past : rest ≡ drop s bs) (end : e ≡ run rest) where
  rest_is : rest ≡ drop (gap bs) bs
  rest_is = past ∙ ap (λ n. drop n bs) start

  run_is : e ≡ run (drop (gap bs) bs)
  run_is = end ∙ ap run rest_is

  pub found_none : e ≡ 0 → words bs ≡ []
  found_none z = no_word bs (sym run_is ∙ z)

  pub found : {w t : List ℕ} → (e ≡ 0 → ⊥) → w ≡ take e rest → t ≡ drop e rest → words bs ≡ w ∷ words t
  found {w} {t} some here there =
      let w_is : w ≡ take (run (drop (gap bs) bs)) (drop (gap bs) bs) = here ∙ (λ i. take (run_is i) (rest_is i)) in
      let t_is : t ≡ drop (run (drop (gap bs) bs)) (drop (gap bs) bs) = there ∙ (λ i. drop (run_is i) (rest_is i)) in
      skipped bs ∙ word_first (drop (gap bs) bs) (omega (arith, run_is, some)) ∙ sym (λ i. w_is i ∷ words (t_is i))
