-- Tests that compute, of given data: that boards of a set pass a test, that an act is allowed, that a message is formed, that two acts have the same words.
-- A test says by `true` that it is so; where it is false nothing is said.
use Rattle.std.proofs.Common.{◌≡◌, ℕ, ◌^◌, ◌<◌, Bool, true, false, not, ◌&&◌, ◌||◌, eqb, ltb, List, [], ◌∷◌, length, refl, ap, ⊎_elim}
use Rattle.std.specs.Prelude.{bytes_eq}
use Rattle.std.specs.List.{AllByRecursion}
use Rattle.std.proofs.lemmas.Bool.{and_parts, both_ways, eqb-true, ltb-true, not-true, or_cases}
use Rattle.std.proofs.lemmas.Slice.Eq.{bytes_eq-Decides}
use Rattle.boards.specs.Boards.{every, member}
use Rattle.boards.proofs.Chosen.{every_at}
use Rattle.boards.proofs.Members.{member_below}
use Rattle.grammar.specs.Grammar.{Grammar, Item}
use Rattle.grammar.proofs.Held.{Held, stand}
use Rattle.wire.specs.Messages.{Msg, sort_number}
use Rattle.wire.specs.Format.{Formed, message, packed, values}
use Rattle.wire.specs.Acts.{Act, Allowed, signed, signed_values, words, proof_of}
use Rattle.delivery.proofs.Takes.{same_sort}
use Rattle.delivery.specs.Reports.{Content, content, same_content}

pub false_true : {A : Type 0} → false ≡ true → A
false_true h = cc

pub or_second : (x y : Bool) → (x || y) ≡ true → x ≡ false → y ≡ true
or_second x y h o = ⊎_elim (λ i. absurd (both_ways x o i)) (λ r. r) (or_cases x y h)

-- Each board of a set passes a test.
abbrev pub each_of : ℕ → (ℕ → Bool) → Bool
each_of s P = every (λ b. not (member s b) || P b) 8

pub each_of_true : (s : ℕ) (P : ℕ → Bool) → each_of s P ≡ true → (b : ℕ) → member s b ≡ true → P b ≡ true
each_of_true s P h b i =
    ⊎_elim (λ o. absurd (both_ways (member s b) (not-true _ o) i)) (λ r. r) (or_cases (not (member s b)) (P b) (every_at _ 8 b h (member_below s b i)))

-- A grammar allows just these items.
abbrev bytes : List ℕ → Bool
bytes [] = true
bytes (x ∷ xs) = ltb x 256 && bytes xs

abbrev allows : Grammar → List Item → Bool
allows Grammar.done [] = true
allows (Grammar.field w ok k) (Item.num x v ∷ is) = eqb x w && (ltb v (2 ^ w) && (ok v && allows (k v) is))
allows (Grammar.part n k) (Item.raw xs ∷ is) = eqb (length xs) n && (bytes xs && allows (k xs) is)
allows g is = false

bytes_true : (xs : List ℕ) → bytes xs ≡ true → AllByRecursion (λ x. x < 256) xs
bytes_true [] h = tt
bytes_true (x ∷ xs) h = let p = and_parts (ltb x 256) (bytes xs) h in (ltb-true x 256 p.0, bytes_true xs p.1)

allows_true : (g : Grammar) (is : List Item) → allows g is ≡ true → Held g is Grammar.done
allows_true Grammar.done [] h = refl
allows_true (Grammar.field w ok k) (Item.num x v ∷ is) h =
    let p = and_parts (eqb x w) _ h in
    let q = and_parts (ltb v (2 ^ w)) _ p.1 in
    let r = and_parts (ok v) (allows (k v) is) q.1 in
    (eqb-true x w p.0, ltb-true v (2 ^ w) q.0, r.0, allows_true (k v) is r.1)
allows_true (Grammar.part n k) (Item.raw xs ∷ is) h =
    let p = and_parts (eqb (length xs) n) _ h in
    let q = and_parts (bytes xs) (allows (k xs) is) p.1 in
    (eqb-true (length xs) n p.0, bytes_true xs q.0, allows_true (k xs) is q.1)
allows_true g is h = false_true h

-- An act is allowed; a message is formed, and has no proof.
abbrev pub act_fits : Act → Bool
act_fits a = allows signed (signed_values a)

pub act_allowed : (a : Act) → act_fits a ≡ true → Allowed a
act_allowed a h = stand signed (signed_values a) Grammar.done (allows_true signed (signed_values a) h)

abbrev pub message_fits : Msg → Bool
message_fits m = allows message (values m) && eqb (proof_of m).boards 0

pub record Plain (m : Msg) : Type 0 where
  pub formed : Formed m
  pub no_proof : (proof_of m).boards ≡ 0

pub message_plain : (m : Msg) → message_fits m ≡ true → Plain m
message_plain m h =
    let p = and_parts (allows message (values m)) _ h in
    record { formed = stand message (values m) Grammar.done (allows_true message (values m) p.0); no_proof = eqb-true _ 0 p.1 }

-- Two acts have the same fields.
abbrev same_item : Item → Item → Bool
same_item (Item.num w v) (Item.num x u) = eqb w x && eqb v u
same_item (Item.raw xs) (Item.raw ys) = bytes_eq xs ys
same_item i j = false

abbrev same_items : List Item → List Item → Bool
same_items [] [] = true
same_items (i ∷ is) (j ∷ js) = same_item i j && same_items is js
same_items is js = false

same_item_true : (i j : Item) → same_item i j ≡ true → i ≡ j
same_item_true (Item.num w v) (Item.num x u) h = let p = and_parts (eqb w x) (eqb v u) h in let a = eqb-true w x p.0 in let b = eqb-true v u p.1 in cc
same_item_true (Item.raw xs) (Item.raw ys) h = ap Item.raw ((bytes_eq-Decides xs ys).0 h)
same_item_true i j h = false_true h

same_items_true : (is js : List Item) → same_items is js ≡ true → is ≡ js
same_items_true [] [] h = refl
same_items_true (i ∷ is) (j ∷ js) h =
    let p = and_parts (same_item i j) (same_items is js) h in let a = same_item_true i j p.0 in let b = same_items_true is js p.1 in cc
same_items_true is js h = false_true h

abbrev pub same_act : Act → Act → Bool
same_act a b = same_items (signed_values a) (signed_values b)

pub same_words : (a b : Act) → same_act a b ≡ true → words a ≡ words b
same_words a b h = ap packed (same_items_true (signed_values a) (signed_values b) h)

-- Two contents are the same.
pub same_content_true : (c d : Content) → same_content c d ≡ true → c ≡ d
same_content_true c d h =
    let p = and_parts (eqb (sort_number c.sort) (sort_number d.sort)) (bytes_eq c.payload d.payload) h in
    let k : c.sort ≡ d.sort = same_sort c.sort d.sort p.0 in
    let x : c.payload ≡ d.payload = (bytes_eq-Decides c.payload d.payload).0 p.1 in
    λ i. content (k i) (x i)
