-- Where the items of lists come from: the boards of a set, and pieces of bytes.
-- Which items they give, and that these are the ones a message means.
use Rattle.std.proofs.Common.{◌≡◌, ℕ, zero, suc, ◌+◌, ◌-◌, ◌*◌, ◌/◌, ◌<◌, min, true, List, [], ◌∷◌, ◌++◌, map, length, take, drop, sym, refl, ap, ◌∙◌, subst, ⊎_elim, append-nil, arith, length-append, length-drop, get_or, add-zero}
use Rattle.std.proofs.lemmas.Bool.{cases_lt}
use Rattle.std.proofs.lemmas.List.{get_or-take, get_or-drop, drop-take, map-append, take_all, drop_all, drop_at, drop-drop, take-append-le}
use Rattle.std.proofs.lemmas.Iterator.{YieldsList}
use Rattle.std.proofs.lemmas.Iterator.Splits.{YieldsList-from_shown_while}
use Rattle.std.specs.Slice.Iter.{chunks_rest, chunks_size, chunks_steps}
use Rattle.std.specs.declared.slice.Chunks.{Chunks}
use Rattle.boards.specs.Boards.{member, boards}
use Rattle.boards.proofs.Lists.{all_boards}
use Rattle.boards.proofs.Members.{member_below}
use Rattle.std.proofs.ByRecursion.{All-get_or}
use Rattle.wire.specs.Messages.{Reply, entry_in, replies_in, reply_at, heard_replies}
use Rattle.wire.specs.Acts.{tag_at}
use Rattle.script.specs.Texts.{hex, tags_in}

empty : (xs : List ℕ) → length xs ≡ 0 → xs ≡ []
empty [] e = refl
empty (x ∷ xs) e = absurd (omega (arith, e))

mul_more : (a n : ℕ) → a * suc n ≡ a + a * n
mul_more a n = grind arith

-- what f says of the first n pieces of so many bytes
unfoldable pub each : {X : Type 0} → (List ℕ → X) → ℕ → ℕ → List ℕ → List X
each f size zero xs = []
each f size (suc n) xs = each f size n xs ++ f (take size (drop (size * n) xs)) ∷ []

-- the first of them, and the others
each_front : {X : Type 0} (f : List ℕ → X) (size n : ℕ) (xs : List ℕ) → each f size (suc n) xs ≡ f (take size xs) ∷ each f size n (drop size xs)
unfolding each
each_front f size zero xs =
    let at : size * 0 ≡ 0 = omega arith in
    (λ i. f (take size (drop (at i) xs)) ∷ [])
each_front f size (suc n) xs =
    let at : drop (size * suc n) xs ≡ drop (size * n) (drop size xs) = ap (λ k. drop k xs) (mul_more size n) ∙ sym (drop-drop (size * n) size xs) in
    (λ i. each_front f size n xs i ++ f (take size (at i)) ∷ [])

each_map : {X Y : Type 0} (g : X → Y) (f : List ℕ → X) (size n : ℕ) (xs : List ℕ) → map g (each f size n xs) ≡ each (λ x. g (f x)) size n xs
unfolding each
each_map g f size zero xs = refl
each_map g f size (suc n) xs =
    map-append g (each f size n xs) (f (take size (drop (size * n) xs)) ∷ []) ∙ ap (λ t. t ++ g (f (take size (drop (size * n) xs))) ∷ []) (each_map g f size n xs)

first_piece : (x r : List ℕ) (size : ℕ) → length x ≡ min size (length (x ++ r)) → (x ≡ take size (x ++ r)) × (r ≡ drop size (x ++ r))
first_piece x r size e =
    let n = length-append x r in
    ⊎_elim
    (λ small.
    let none : r ≡ [] = empty r (omega (arith, e, n, small)) in
    let all : x ≡ x ++ r = sym (append-nil x) ∙ ap (λ t. x ++ t) (sym none) in
    (all ∙ sym (take_all size (x ++ r) (omega (arith, small))), none ∙ sym (drop_all size (x ++ r) (omega (arith, small)))))
    (λ large.
    let long : length x ≡ size = omega (arith, e, n, large) in
    (sym (take-append-le size x r (omega (arith, long)) ∙ take_all size x (omega (arith, long))), sym (drop_at x r size long)))
    (cases_lt (length (x ++ r)) size)

-- the pieces that a walk over bytes gives
module _ (size : ℕ) (count : ℕ → ℕ) (none : count 0 ≡ 0) (more : (n : ℕ) → 0 < n → count n ≡ suc (count (n - size))) where
  abbrev pub all : List ℕ → List (List ℕ)
  all xs = each (λ x. x) size (count (length xs)) xs

  all_none : (xs : List ℕ) → length xs ≡ 0 → length (all xs) ≡ 0
  unfolding each
  all_none xs e = ap length ((λ i. each (λ x. x) size (count (e i)) xs) ∙ (λ i. each (λ x. x) size (none i) xs))

  all_more : (xs x r : List ℕ) → xs ≡ x ++ r → length x ≡ min size (length xs) → 0 < length xs → all xs ≡ x ∷ all r
  all_more xs x r e long some =
      let f = first_piece x r size (long ∙ ap (λ t. min size (length t)) e) in
      let rest : drop size xs ≡ r = ap (drop size) e ∙ sym f.1 in
      let left : length xs - size ≡ length r = sym (length-drop size xs) ∙ ap length rest in
      (λ i. each (λ y. y) size (more (length xs) some i) xs)
      ∙ each_front (λ y. y) size (count (length xs - size)) xs
      ∙ (λ i. (ap (take size) e ∙ sym f.0) i ∷ each (λ y. y) size (count (left i)) (rest i))

  pub pieces_run : {s : Chunks ℕ} (xs : List ℕ) → chunks_rest s ≡ xs → chunks_size s ≡ size → YieldsList chunks_steps (λ x. x.now) s (all xs)
  pieces_run {s} xs is e = subst (λ ys. YieldsList chunks_steps (λ x. x.now) s (all ys)) is
      (YieldsList-from_shown_while chunks_steps (λ x. x.now) (λ s. all (chunks_rest s)) (λ s. chunks_size s ≡ size)
      (λ s t h step. all_none (chunks_rest s) step.1.0)
      (λ s x t h step. (step.0 ∙ h, all_more (chunks_rest s) x.now (chunks_rest t) step.1.0 (step.1.1 ∙ ap (λ k. min k (length (chunks_rest s))) h) step.1.2))
      s e)

-- a board that a walk over a set gives is one of eight
pub below : (s x k : ℕ) → k < length (boards s) → x ≡ get_or (boards s) k x → x < 8
below s x k h e = member_below s x (subst (λ y. member s y ≡ true) (sym e) (All-get_or (λ b. member s b ≡ true) (boards s) k x h (all_boards s)))

-- how many tags bytes hold, and how many replies; one that is cut short counts
abbrev pub eights : ℕ → ℕ
eights n = (n + 7) / 8

abbrev pub nines : ℕ → ℕ
nines n = (n + 8) / 9

-- bytes cut into tags, and into replies
pub tags_run : {s : Chunks ℕ} (xs : List ℕ) → chunks_rest s ≡ xs → chunks_size s ≡ 8 → YieldsList chunks_steps (λ x. x.now) s (each (λ x. x) 8 (eights (length xs)) xs)
tags_run = pieces_run 8 eights refl (λ n h. omega arith)

pub replies_run : {s : Chunks ℕ} (xs : List ℕ) → chunks_rest s ≡ xs → chunks_size s ≡ 9 → YieldsList chunks_steps (λ x. x.now) s (each (λ x. x) 9 (nines (length xs)) xs)
replies_run = pieces_run 9 nines refl (λ n h. omega arith)

each_tag : (n : ℕ) (t : List ℕ) → each hex 8 n t ≡ tags_in n t
unfolding each tags_in
each_tag zero t = refl
each_tag (suc n) t = ap (λ xs. xs ++ hex (tag_at n t) ∷ []) (each_tag n t)

-- the tags in bytes
pub tags_are : (t : List ℕ) → map hex (each (λ x. x) 8 (eights (length t)) t) ≡ tags_in (eights (length t)) t
tags_are t = each_map hex (λ x. x) 8 (eights (length t)) t ∙ each_tag (eights (length t)) t

-- the reply in nine bytes
abbrev pub reply_in : List ℕ → Reply
reply_in p = record { entry = entry_in (get_or p 0 0); tag = drop 1 p }

same_reply : (xs : List ℕ) (k : ℕ) → reply_in (take 9 (drop k xs)) ≡ reply_at xs k
same_reply xs k =
    let byte = get_or-take 9 (drop k xs) 0 0 (omega arith) ∙ get_or-drop k xs 0 0 ∙ ap (λ j. get_or xs j 0) (add-zero k) in
    let tag = drop-take 1 8 (drop k xs) ∙ ap (take 8) (drop-drop 1 k xs) in
    (λ i. record { entry = entry_in (byte i); tag = tag i })

-- the replies in bytes
module _ {X : Type 0} (g : Reply → X) where
  each_reply : (n : ℕ) (xs : List ℕ) → each (λ p. g (reply_in p)) 9 n xs ≡ map g (replies_in n xs)
  unfolding each replies_in
  each_reply zero xs = refl
  each_reply (suc n) xs =
      (λ i. each_reply n xs i ++ g (same_reply xs (9 * n) i) ∷ []) ∙ sym (map-append g (replies_in n xs) (reply_at xs (9 * n) ∷ []))

  pub replies_are : (xs : List ℕ) → map (λ p. g (reply_in p)) (each (λ x. x) 9 (nines (length xs)) xs) ≡ map g (heard_replies xs)
  replies_are xs = each_map (λ p. g (reply_in p)) (λ x. x) 9 (nines (length xs)) xs ∙ each_reply (nines (length xs)) xs
