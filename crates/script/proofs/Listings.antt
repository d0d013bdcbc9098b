-- Lists in the making: the items that an iterator has left, and the text so far.
-- What comes of a list once all are written.
use Rattle.std.proofs.Common.{◌≡◌, ℕ, List, [], ◌∷◌, ◌++◌, length, Some, None, Ok, Err, Option, Result, IsErr, sym, refl, ap, ◌∙◌, subst, append_assoc, append-nil, arith, length-append}
use Rattle.std.proofs.lemmas.Iterator.{YieldsList}
use Rattle.std.specs.Iterator.{AlwaysYields}
use Rattle.std.specs.declared.alloc.AllocError.{AllocError}
use Rattle.script.specs.Lines.{Line, Wrote}
use Rattle.script.specs.Texts.{listing, commas}
use Rattle.script.proofs.Chains.{Has, has_none, has_more, has_all, not_written}

-- the text of all items but the first
abbrev pub others : List (List ℕ) → List ℕ
others [] = []
others (y ∷ ys) = 44 ∷ (y ++ others ys)

listing_is : (y : List ℕ) (ys : List (List ℕ)) → y ++ others ys ≡ listing (y ∷ ys)
unfolding listing
listing_is y [] = append-nil y
listing_is y (z ∷ zs) = ap (λ t. y ++ 44 ∷ t) (listing_is z zs)

commas_is : (y : List ℕ) (ys : List (List ℕ)) → y ++ others ys ≡ commas (y ∷ ys)
unfolding commas
commas_is y ys = listing_is y ys

module _ {S A : Type 0} (steps : S → Option A → S → Type 0) (v : A → List ℕ) where
  -- what an item that came says of the list, and what its end says
  record Next (t : S) (x : A) (ys : List (List ℕ)) : Type 0 where
    zs : List (List ℕ)
    is : ys ≡ v x ∷ zs
    runs : AlwaysYields steps v t zs

  next : {s t : S} {x : A} (ys : List (List ℕ)) → AlwaysYields steps v s ys → steps s (Some x) t → Next t x ys
  next {t = t} {x = x} [] h step = absurd (h x t step)
  next {t = t} {x = x} (y ∷ ys) h step =
      let k = h.1 x t step in
      record { zs = ys; is = ap (λ z. z ∷ ys) (sym k.0); runs = k.1 }

  end : {s t : S} (ys : List (List ℕ)) → AlwaysYields steps v s ys → steps s None t → ys ≡ []
  end [] h step = refl
  end {t = t} (y ∷ ys) h step = absurd (h.0 t step)

  -- line b is line a with the text of the items so far, and the others are left
  pub record Going (a : Line) (all : List ℕ) (s : S) (b : Line) : Type 0 where
    rest : List (List ℕ)
    runs : AlwaysYields steps v s rest
    text : List ℕ
    has : Has a text b
    joins : text ++ others rest ≡ all

  pub going_none : {s : S} (a : Line) (ys : List (List ℕ)) → AlwaysYields steps v s ys → Going a (others ys) s a
  going_none a ys h = record { rest = ys; runs = h; text = []; has = has_none a; joins = refl }

  more_joins : (text : List ℕ) {all : List ℕ} {rest : List (List ℕ)} (zs : List (List ℕ)) (x : A) → text ++ others rest ≡ all → rest ≡ v x ∷ zs → (text ++ 44 ∷ v x) ++ others zs ≡ all
  more_joins text zs x e is = append_assoc text (44 ∷ v x) (others zs) ∙ sym (ap (λ r. text ++ others r) is) ∙ e

  pub going_more : {a b c : Line} {all : List ℕ} {s t : S} {x : A} → Going a all s b → steps s (Some x) t → Wrote b (44 ∷ v x) (Ok tt) c → Going a all t c
  going_more {x = x} g step w =
      let n = next g.rest g.runs step in
      record { rest = n.zs; runs = n.runs; text = g.text ++ 44 ∷ v x; has = has_more g.has w refl; joins = more_joins g.text n.zs x g.joins n.is }

  pub going_not : {a b c : Line} {all : List ℕ} {s t : S} {x : A} {e : AllocError} (r : Result (Unit {0}) AllocError) → Going a all s b → steps s (Some x) t → Wrote b (44 ∷ v x) (Err e) c → IsErr r → Wrote a all r c
  going_not {all = all} {x = x} r g step w is =
      let n = next g.rest g.runs step in
      let long = ap length (more_joins g.text n.zs x g.joins n.is) in
      not_written all r g.has w
      (omega (arith, long, length-append (g.text ++ 44 ∷ v x) (others n.zs), length-append g.text (44 ∷ v x))) is

  pub going_all : {a b : Line} {all : List ℕ} {s t : S} → Going a all s b → steps s None t → Wrote a all (Ok tt) b
  going_all g step =
      has_all g.has (sym (append-nil g.text) ∙ sym (ap (λ r. g.text ++ others r) (end g.rest g.runs step)) ∙ g.joins)

  -- the first item, and all others
  pub record Opens (t : S) (x : A) (ys : List (List ℕ)) : Type 0 where
    pub zs : List (List ℕ)
    pub runs : AlwaysYields steps v t zs
    pub joins : v x ++ others zs ≡ commas ys

  pub opens : {s u : S} (t : S) {x : A} (ys : List (List ℕ)) → AlwaysYields steps v s ys → steps s (Some x) u → t ≡ u → Opens t x ys
  opens t {x = x} ys h step is =
      let n = next ys h step in
      record { zs = n.zs; runs = subst (λ w. AlwaysYields steps v w n.zs) (sym is) n.runs; joins = commas_is (v x) n.zs ∙ sym (ap commas n.is) }

  -- no item
  pub dash : {s t : S} (ys : List (List ℕ)) → AlwaysYields steps v s ys → steps s None t → 45 ∷ [] ≡ commas ys
  unfolding commas
  dash ys h step = sym (ap commas (end ys h step))

-- what is written of items that an iterator gives
pub written : {S A : Type 0} {steps : S → Option A → S → Type 0} {v : A → List ℕ} {s : S} {a b : Line} {r : Result (Unit {0}) AllocError} {ys zs : List (List ℕ)} → ((ts : List (List ℕ)) → AlwaysYields steps v s ts → Wrote a (commas ts) r b) → YieldsList steps v s ys → ys ≡ zs → Wrote a (commas zs) r b
written {a = a} {b} {r} h road e = subst (λ ts. Wrote a (commas ts) r b) e (h _ road.runs)
