-- Entries one by one: what a loop over entries has passed after each, and at the end.
-- Laws used: what one entry passes (`entered_by`).
use Rattle.std.proofs.Common.{◌≡◌, ℕ, zero, suc, ◌+◌, ◌-◌, ◌*◌, ◌/◌, ◌%◌, ◌^◌, ◌<◌, ◌≤◌, max, List, [], ◌∷◌, ◌++◌, length, get_or, take, drop, Ok, Err, Result, sym, refl, ap, ◌∙◌, add-one, arith, length-drop, length-take-le, get_or-drop, get_or-take, take-take, drop-drop, Bor}
use Rattle.std.proofs.lemmas.Slice.{between_is}
use Rattle.grammar.specs.declared.fault.Fault.{Fault}
use Rattle.grammar.specs.Grammar.{Grammar, Item, more, from_to}
use Rattle.grammar.proofs.Steps.{more_more}
use Rattle.grammar.proofs.Lawful.{more_none}
use Rattle.reader.specs.declared.place.Reader.{Reader}
use Rattle.reader.specs.Places.{met, src, at, pair, field_at, Read, Part, Found, Cut}
use Rattle.wire.specs.declared.message.Entries.TheVariants.{Heard as HeardEntries}
use Rattle.wire.specs.Messages.{Reply, reply_at, replies_in, heard_replies}
use Rattle.wire.specs.Format.{reply_values, replies_values}
use Rattle.reader.specs.declared.parts.Answer.{Answer}
use Rattle.wire.specs.Fields.{most_change, entered, entries}
use Rattle.reader.specs.Parts.{items, Entered, All}

field_in : (r : Reader) (b q w : ℕ) → at r ≡ 8 * b + q → q < 8 → field_at (src r) (at r) w ≡ pair (src r) b / 2 ^ (16 - (q + w)) % 2 ^ w
field_in r b q w e h =
    let d : at r / 8 ≡ b = omega arith in
    let m : at r % 8 ≡ q = omega arith in
    λ i. pair (src r) (d i) / 2 ^ (16 - (m i + w)) % 2 ^ w

pub entered_by : {s s1 s2 s3 t : Reader} {e c : ℕ} {v : Bor (List ℕ)} → s.bit ≡ 0 → Read 4 (from_to 0 8) s e s1 → Read 1 (from_to 0 0) s1 0 s2 → Read 3 (from_to 0 (most_change e)) s2 c s3 → Part 8 s3 v t → Entered (record { entry = record { earlier = e; change = c }; tag = v }) s t
unfolding Found Cut
entered_by {s} {s1} {s2} {s3} {t} {e} {c} {v} z p0 p1 p2 p3 =
    let b = s.byte in
    let xs = src s in
    let x2 : src s2 ≡ xs = p1.found.1 ∙ p0.found.1 in
    let x3 : src s3 ≡ xs = p2.found.1 ∙ x2 in
    let b3 : s3.byte ≡ b + 1 = omega (arith, p0.moved, p1.moved, p2.moved, s3.small) in
    let B = get_or xs b 0 in
    let N = get_or xs (b + 1) 0 in
    let hB = s.fit b in
    let hN = s.fit (b + 1) in
    let q0 : (B * 256 + N) / 4096 ≡ B / 16 = omega arith in
    let m0 : B / 16 % 16 ≡ B / 16 = omega arith in
    let q2 : (B * 256 + N) / 256 ≡ B = omega arith in
    let ee : e ≡ B / 16 = p0.found.0 ∙ field_in s b 0 4 (omega arith) (omega arith) ∙ ap (λ y. y % 16) q0 ∙ m0 in
    let ce : c ≡ B % 8 = p2.found.0 ∙ field_in s2 b 5 3 (omega (arith, p0.moved, p1.moved)) (omega arith) ∙ ap (λ l. pair l b / 256 % 8) x2 ∙ ap (λ y. y % 8) q2 in
    let te : v.now ≡ take 8 (drop (b + 1) xs) = p3.found.0 ∙ (λ i. take 8 (drop (b3 i) (x3 i))) in
    record {
      on = λ k.
          p0.on (λ e'. Grammar.field 1 (from_to 0 0) (λ _. Grammar.field 3 (from_to 0 (most_change e')) (λ _. Grammar.part 8 (λ _. k e'))))
          ∙ ap (more (Item.num 4 e ∷ [])) (p1.on (λ _. Grammar.field 3 (from_to 0 (most_change e)) (λ _. Grammar.part 8 (λ _. k e)))
          ∙ ap (more (Item.num 1 0 ∷ [])) (p2.on (λ _. Grammar.part 8 (λ _. k e)) ∙ ap (more (Item.num 3 c ∷ [])) (p3.on (λ _. k e))))
          ∙ flat (Item.num 4 e) (Item.num 1 0) (Item.num 3 c) (Item.raw v.now) (met (k e) t);
      found = λ i. record { entry = record { earlier = ee i; change = ce i }; tag = te i };
      same = p3.found.1 ∙ x3;
      moved = omega (arith, p0.moved, p1.moved, p2.moved, p3.moved, t.small);
    }
  where
    flat : (i j k l : Item) (o : Result (List Item) Fault) → more (i ∷ []) (more (j ∷ []) (more (k ∷ []) (more (l ∷ []) o))) ≡ more (i ∷ j ∷ k ∷ l ∷ []) o
    flat i j k l (Ok is) = refl
    flat i j k l (Err f) = refl

-- the fields of the first n replies in bytes
abbrev fields_in : ℕ → List ℕ → List Item
fields_in n xs = replies_values (replies_in n xs)

values_more : (es : List Reply) (e : Reply) → replies_values (es ++ e ∷ []) ≡ replies_values es ++ items e
unfolding replies_values
values_more [] e = refl
values_more (d ∷ es) e = ap (reply_values d) (values_more es e)

fields_more : (i : ℕ) (xs : List ℕ) → fields_in (suc i) xs ≡ fields_in i xs ++ items (reply_at xs (9 * i))
unfolding replies_in
fields_more i xs = values_more (replies_in i xs) (reply_at xs (9 * i))

shifted : (xs : List ℕ) (b j : ℕ) → reply_at (drop b xs) j ≡ reply_at xs (b + j)
shifted xs b j =
    let g = get_or-drop b xs j 0 in
    let d : drop (j + 1) (drop b xs) ≡ drop (b + j + 1) xs = drop-drop (j + 1) b xs ∙ ap (λ m. drop m xs) (omega arith) in
    λ i. record { entry = record { earlier = g i / 16; change = g i % 8 }; tag = take 8 (d i) }

pub record Going (n i top : ℕ) (s t : Reader) : Type 0 where
  pub on : (k : ℕ → Grammar) → met (entries n 0 k) s ≡ more (fields_in i (drop s.byte (src s))) (met (entries (n - i) top k) t)
  pub same : src t ≡ src s
  pub moved : t.byte ≡ s.byte + 9 * i

pub start : (n : ℕ) (s : Reader) → Going n 0 0 s s
unfolding replies_in replies_values
start n s = let e : n ≡ n - 0 = omega arith in record {
  on = λ k. more_none (met (entries n 0 k) s) ∙ (λ i. more [] (met (entries (e i) 0 k) s));
  same = refl;
  moved = omega arith;
}

one_more : (m n i top : ℕ) → n - i ≡ suc m → (k : ℕ → Grammar) → entries (n - i) top k ≡ entered (λ e. entries m (max top e) k)
unfolding entries
one_more m n i top h k = ap (λ j. entries j top k) h

pub next : (n i top : ℕ) {s t u : Reader} {x : Answer} → i < n → Going n i top s t → Entered x t u → Going n (i + 1) (max top x.entry.earlier) s u
next n i top {s} {t} {u} {x} h g e =
    let m = n - (i + 1) in
    let d : n - i ≡ suc m = omega arith in
    let xs = drop s.byte (src s) in
    let here : reply_at (src t) t.byte ≡ reply_at xs (9 * i) = (λ j. reply_at (g.same j) (g.moved j)) ∙ sym (shifted (src s) s.byte (9 * i)) in
    let all : fields_in i xs ++ items (reply_at xs (9 * i)) ≡ fields_in (i + 1) xs = sym (fields_more i xs) ∙ ap (λ j. fields_in j xs) (sym (add-one i)) in
    record {
      on = λ k.
          let rest = met (entries m (max top x.entry.earlier) k) u in
          g.on k ∙ ap (more (fields_in i xs)) (ap (λ f. met f t) (one_more m n i top d k) ∙ e.on (λ y. entries m (max top y) k) ∙ ap (λ y. more (items y) rest) (e.found ∙ here))
          ∙ more_more (fields_in i xs) (items (reply_at xs (9 * i))) rest ∙ ap (λ is. more is rest) all;
      same = e.same ∙ g.same;
      moved = omega (arith, e.moved, g.moved);
    }

pub halt : (n i top : ℕ) {s t : Reader} (f : Fault) → i < n → Going n i top s t → ((k : ℕ → Grammar) → met (entered k) t ≡ Err f) → (k : ℕ → Grammar) → met (entries n 0 k) s ≡ Err f
halt n i top {s} {t} f h g e k =
    let m = n - (i + 1) in
    let d : n - i ≡ suc m = omega arith in
    g.on k ∙ ap (more (fields_in i (drop s.byte (src s)))) (ap (λ y. met y t) (one_more m n i top d k) ∙ e (λ y. entries m (max top y) k))

near : (xs : List ℕ) (m j : ℕ) → j + 9 ≤ m → reply_at (take m xs) j ≡ reply_at xs j
near xs m j h =
    let g = get_or-take m xs j 0 (omega arith) in
    let t : take 8 (drop (j + 1) (take m xs)) ≡ take 8 (drop (j + 1) xs) = ap (take 8) (sym (between_is xs (j + 1) m)) ∙ take-take 8 (m - (j + 1)) (drop (j + 1) xs) (omega arith) in
    λ i. record { entry = record { earlier = g i / 16; change = g i % 8 }; tag = t i }

within : (n m : ℕ) (xs : List ℕ) → 9 * n ≤ m → replies_in n (take m xs) ≡ replies_in n xs
unfolding replies_in
within zero m xs h = refl
within (suc n) m xs h = λ i. within n m xs (omega arith) i ++ near xs m (9 * n) (omega arith) i ∷ []

pub ended : (n i top m : ℕ) {s t : Reader} (part : Bor (List ℕ)) → i ≡ n → Going n i top s t → m ≡ 9 * n → part.now ≡ take m (drop s.byte (src s)) → All n (HeardEntries part) top s t
unfolding entries
ended n i top m {s} {t} part e g d p =
    let xs = drop s.byte (src s) in
    let zero' : n - i ≡ 0 = omega arith in
    let long : length part.now ≡ 9 * n = ap length p ∙ length-take-le m xs (simp length-drop (omega (arith, g.moved, t.inside, ap length g.same))) ∙ d in
    let count : n ≡ (length part.now + 8) / 9 = omega arith in
    let all : fields_in i xs ≡ replies_values (heard_replies part.now) = ap (λ j. fields_in j xs) e ∙ ap replies_values (sym (within n m xs (omega arith)) ∙ (λ j. replies_in (count j) (sym p j))) in
    record { on = λ b k. g.on k ∙ (λ j. more (all j) (met (entries (zero' j) top k) t)) }
