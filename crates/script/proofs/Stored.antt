-- Tags stored by board number, as the message has them: eight bytes each, one after another.
-- Cut into eights they are the tags again.
use Rattle.std.proofs.Common.{◌≡◌, ℕ, zero, suc, ◌+◌, ◌*◌, ◌/◌, ◌≤◌, Bool, true, false, cond, List, [], ◌∷◌, ◌++◌, map, length, get_or, take, drop, sym, refl, ap, ◌∙◌, subst, append_assoc, append-nil, add-one, arith, length-append, length-drop}
use Rattle.std.proofs.lemmas.List.{map-append, take_all, take-append-le, drop-append-le, drop_at}
use Rattle.wire.specs.declared.message.Entry.{Entry}
use Rattle.wire.specs.Messages.{Reply, listed, joined, tag_bytes, stored_tags, stored_replies, none}
use Rattle.wire.specs.Acts.{tag_at}
use Rattle.boards.specs.Boards.{member}
use Rattle.script.specs.Texts.{hex, tags_in, tags_text, listing, commas}

pub map_listed : {X Y : Type 0} (g : X → Y) (P : ℕ → Bool) (f : ℕ → X) (n : ℕ) → listed P (λ b. g (f b)) n ≡ map g (listed P f n)
unfolding listed
map_listed g P f zero = refl
map_listed {Y = Y} g P f (suc n) =
    let here : (b : Bool) → cond b (g (f n) ∷ []) [] ≡ map g (cond b (f n ∷ []) []) =
    λ b. elim b as (λ v. cond v (g (f n) ∷ []) [] ≡ map g (cond v (f n ∷ []) [])) [ true ↦ refl | false ↦ refl ] in
    (λ i. map_listed g P f n i ++ here (P n) i) ∙ sym (map-append g (listed P f n) (cond (P n) (f n ∷ []) []))

joined_push : (xs : List (List ℕ)) (y : List ℕ) → joined (xs ++ y ∷ []) ≡ joined xs ++ y
unfolding joined
joined_push [] y = append-nil y
joined_push (x ∷ xs) y = ap (λ t. x ++ t) (joined_push xs y) ∙ sym (append_assoc x (joined xs) y)

tag_last : (p y : List ℕ) (n : ℕ) → length p ≡ 8 * n → length y ≡ 8 → tag_at n (p ++ y) ≡ y
tag_last p y n e k = ap (take 8) (drop_at p y (8 * n) e) ∙ take_all 8 y (omega arith)

tag_front : (p q : List ℕ) (n : ℕ) → 8 * n + 8 ≤ length p → tag_at n (p ++ q) ≡ tag_at n p
tag_front p q n h =
    ap (take 8) (drop-append-le (8 * n) p q (omega arith)) ∙ take-append-le 8 (drop (8 * n) p) q (simp length-drop (omega arith))

tags_front : (p q : List ℕ) (n : ℕ) → 8 * n ≤ length p → tags_in n (p ++ q) ≡ tags_in n p
unfolding tags_in
tags_front p q zero h = refl
tags_front p q (suc n) h = λ i. tags_front p q n (omega arith) i ++ hex (tag_front p q n (omega arith) i) ∷ []

-- tags of eight bytes, one after another
record Even (xs : List (List ℕ)) : Type 0 where
  long : length (joined xs) ≡ 8 * length xs
  same : tags_in (length xs) (joined xs) ≡ map hex xs

even_none : Even []
unfolding joined tags_in
even_none = record { long = refl; same = refl }

even_push : (xs : List (List ℕ)) (y : List ℕ) → Even xs → length y ≡ 8 → Even (xs ++ y ∷ [])
unfolding tags_in
even_push xs y h e =
    let all = joined xs in
    let one : length (xs ++ y ∷ []) ≡ suc (length xs) = length-append xs (y ∷ []) ∙ add-one (length xs) in
    record {
      long = ap length (joined_push xs y) ∙ length-append all y ∙ omega (arith, h.long, one);
      same =
          (λ i. tags_in (one i) (joined_push xs y i))
          ∙ (λ i. tags_front all y (length xs) (omega (arith, h.long)) i ++ hex (tag_last all y (length xs) h.long e i) ∷ [])
          ∙ ap (λ t. t ++ hex y ∷ []) h.same ∙ sym (map-append hex xs (y ∷ []));
    }

even_listed : (P : ℕ → Bool) (f : ℕ → List ℕ) → ((b : ℕ) → length (f b) ≡ 8) → (n : ℕ) → Even (listed P f n)
unfolding listed
even_listed P f h zero = even_none
even_listed P f h (suc n) =
    let so = even_listed P f h n in
    elim (P n) as (λ v. Even (listed P f n ++ cond v (f n ∷ []) [])) [
      | true ↦ even_push (listed P f n) (f n) so (h n)
      | false ↦ subst Even (sym (append-nil (listed P f n))) so
    ]

-- the tags of a set's boards, stored by board number
pub stored_text : (s : ℕ) (ts : List ℕ) → commas (listed (member s) (λ b. hex (tag_bytes (get_or ts b 0))) 8) ≡ tags_text (stored_tags s ts)
stored_text s ts =
    let f : ℕ → List ℕ = λ b. tag_bytes (get_or ts b 0) in
    let all = listed (member s) f 8 in
    let even = even_listed (member s) f (λ b. refl) 8 in
    let count : length all ≡ (length (joined all) + 7) / 8 = omega (arith, even.long) in
    ap commas (map_listed hex (member s) f 8 ∙ sym even.same ∙ ap (λ n. tags_in n (joined all)) count)

-- what is said of the replies of a set's boards, stored by board number
pub stored_list : (g : Reply → List ℕ) (s : ℕ) (es : List Entry) (ts : List ℕ) → commas (listed (member s) (λ b. g (record { entry = get_or es b none; tag = tag_bytes (get_or ts b 0) })) 8) ≡ commas (map g (stored_replies s es ts))
stored_list g s es ts = ap commas (map_listed g (member s) (λ b. record { entry = get_or es b none; tag = tag_bytes (get_or ts b 0) }) 8)

-- one tag that was just signed
pub fresh_text : (t : ℕ) → hex (tag_bytes t) ≡ tags_text (tag_bytes t)
unfolding tags_in commas listing
fresh_text t = refl
