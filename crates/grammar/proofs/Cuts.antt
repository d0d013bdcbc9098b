-- What stands, cut short or added to: the laws Cut, Over, OverOrShort and FieldFault.
-- A fault found behind items that may stand is a fault of the whole (`behind`); the rest goes by cases on what was to come next.
use Rattle.std.proofs.Common.{◌≡◌, ℕ, ◌+◌, ◌-◌, ◌/◌, ◌<◌, ◌≤◌, Bool, List, [], ◌∷◌, ◌++◌, length, take, sym, refl, ap, ◌∙◌, subst, inl, inr, ⊎_elim, arith, length-append, length-take-le}
use lib.Seq.{take-append-add}
use Rattle.std.proofs.lemmas.List.{append_assoc, append-nil}
use Rattle.std.proofs.lemmas.Bool.{cases_lt}
use Rattle.grammar.specs.declared.fault.Layer.TheVariants.{Bytes, Field}
use Rattle.grammar.specs.declared.fault.Fault.{Fault}
use Rattle.grammar.specs.Bits.{bits_of, bits}
use Rattle.grammar.specs.Grammar.{Grammar, Item, After, Breaks, First, NotAllowed, Left, fault, spell, written}
use Rattle.grammar.specs.Laws.{Cut, Over, OverOrShort, FieldFault}
use Rattle.grammar.proofs.Bits.{length_bits_of, length_bits}
use Rattle.grammar.proofs.Held.{onward}
use Rattle.grammar.proofs.Lawful.{at_once, layers}

pub spell_append : (is js : List Item) → spell (is ++ js) ≡ spell is ++ spell js
unfolding spell
spell_append [] js = refl
spell_append (i ∷ is) js = ap (λ l. written i ++ l) (spell_append is js) ∙ sym (append_assoc (written i) (spell is) (spell js))

pub behind : {g h : Grammar} {is : List Item} (bs : List Bool) (p : ℕ) (e : Fault) → After g is h → First h bs (p + length (spell is)) e → First g (spell is ++ bs) p e
behind {g} {h} {is} bs p e a f =
    let place : (p + length (spell is)) + length (spell f.before) ≡ p + length (spell (is ++ f.before)) =
    omega (arith, ap length (spell_append is f.before), length-append (spell is) (spell f.before)) in
    record {
      before = is ++ f.before;
      next = f.next;
      rest = f.rest;
      allowed = onward a f.allowed;
      form = ap (λ l. spell is ++ l) f.form ∙ sym (append_assoc (spell is) (spell f.before) f.rest) ∙ ap (λ l. l ++ f.rest) (sym (spell_append is f.before));
      breaks = subst (λ q. Breaks f.next f.rest q e) place f.breaks;
    }

-- one item on, where the cut lies behind it
past : {g h : Grammar} (i : Item) (is : List Item) (j p : ℕ) → After g (i ∷ []) h → length (written i) ≤ j
    → First h (take (j - length (written i)) (spell is)) (p + length (written i)) (fault Bytes ((p + length (written i) + (j - length (written i))) / 8))
    → First g (take j (written i ++ spell is)) p (fault Bytes ((p + j) / 8))
unfolding spell
past {g} {h} i is j p a le f =
    let w = length (written i) in
    let one : spell (i ∷ []) ≡ written i = append-nil (written i) in
    let front : take j (written i ++ spell is) ≡ spell (i ∷ []) ++ take (j - w) (spell is) =
    ap (λ n. take n (written i ++ spell is)) (omega arith) ∙ take-append-add (written i) (spell is) (j - w) ∙ ap (λ l. l ++ take (j - w) (spell is)) (sym one) in
    let place : (p + w + (j - w)) / 8 ≡ (p + j) / 8 = ap (λ n. n / 8) (omega arith) in
    let wide : p + w ≡ p + length (spell (i ∷ [])) = omega (arith, ap length one) in
    let there : First h (take (j - w) (spell is)) (p + length (spell (i ∷ []))) (fault Bytes ((p + j) / 8)) =
    subst (λ n. First h (take (j - w) (spell is)) n (fault Bytes ((p + j) / 8))) wide (subst (λ n. First h (take (j - w) (spell is)) (p + w) (fault Bytes n)) place f) in
    subst (λ l. First g l p (fault Bytes ((p + j) / 8))) (sym front) (behind (take (j - w) (spell is)) p (fault Bytes ((p + j) / 8)) a there)

-- in one item, where the cut lies in it
within : (i : Item) (is : List Item) (j : ℕ) → j < length (written i) → length (take j (written i ++ spell is)) ≡ j
within i is j l = length-take-le j (written i ++ spell is) (simp length-append (omega arith))

shorten : {g h : Grammar} {is : List Item} → After g is h → (j p : ℕ) → j < length (spell is) → First g (take j (spell is)) p (fault Bytes ((p + j) / 8))
unfolding spell
shorten After.start j p l = absurd (omega arith)
shorten (After.then_num {w} {v} {ok} {k} {is} {h} b o a) j p l =
    let i = Item.num w v in
    let e = length_bits_of w v in
    ⊎_elim
    (λ s. let n = within i is j s in at_once (inl (omega (arith, e), ap (λ m. fault Bytes ((p + m) / 8)) (sym n))))
    (λ s. past i is j p (After.then_num b o After.start) s (shorten a (j - length (bits_of w v)) (p + length (bits_of w v)) (omega (arith, length-append (bits_of w v) (spell is)))))
    (cases_lt j (length (written i)))
shorten (After.then_raw {n} {xs} {k} {is} {h} m b a) j p l =
    let i = Item.raw xs in
    let e = length_bits xs in
    ⊎_elim
    (λ s. let t = within i is j s in at_once (omega (arith, e), ap (λ m. fault Bytes ((p + m) / 8)) (sym t)))
    (λ s. past i is j p (After.then_raw m b After.start) s (shorten a (j - length (bits xs)) (p + length (bits xs)) (omega (arith, length-append (bits xs) (spell is)))))
    (cases_lt j (length (written i)))

pub cut : Cut
cut g is bs j p s l =
    subst (λ x. First g (take j x) p (fault Bytes ((p + j) / 8))) (sym s.form) (shorten s.allowed j p (omega (arith, ap length s.form)))

pub over : Over
over g is bs xs p s l = record {
  before = is;
  next = Grammar.done;
  rest = xs;
  allowed = s.allowed;
  form = ap (λ x. x ++ xs) s.form;
  breaks = (l, ap (λ x. fault Bytes ((p + length x) / 8)) s.form);
}

place_of : (m n : ℕ) → fault Bytes m ≡ fault Bytes n → m ≡ n
place_of m n e = ap (λ f. f.place) e

at_field : (m n : ℕ) → fault Field m ≡ fault Field n → m ≡ n
at_field m n e = ap (λ f. f.place) e

over_or_short_at : (g next : Grammar) (bs rest : List Bool) (before : List Item) (p q : ℕ) → After g before next → bs ≡ spell before ++ rest → Breaks next rest (p + length (spell before)) (fault Bytes q)
    → (q < (p + length bs) / 8 → Left g bs p q) × (q ≤ (p + length bs) / 8)
over_or_short_at g Grammar.done bs rest before p q a f b =
    let e = place_of _ _ b.1 in
    let n = ap length f ∙ length-append (spell before) rest in
    (λ l. record { items = before; front = spell before; rest = rest; stands = record { allowed = a; form = refl }; form = f; some = b.0; place = e }, omega (arith, e, n))
over_or_short_at g (Grammar.field w ok k) bs rest before p q a f b =
    let n = ap length f ∙ length-append (spell before) rest in
    ⊎_elim (λ x. let e = place_of _ _ x.1 in (λ l. absurd (omega (arith, e, n)), omega (arith, e, n))) (λ x. layers _ _ (sym x.2)) b
over_or_short_at g (Grammar.part m k) bs rest before p q a f b =
    let n = ap length f ∙ length-append (spell before) rest in
    let e = place_of _ _ b.1 in
    (λ l. absurd (omega (arith, e, n)), omega (arith, e, n))

pub over_or_short : OverOrShort
over_or_short g bs p q f = over_or_short_at g f.next bs f.rest f.before p q f.allowed f.form f.breaks

not_allowed_at : (g next : Grammar) (bs rest : List Bool) (before : List Item) (p q : ℕ) → After g before next → bs ≡ spell before ++ rest → Breaks next rest (p + length (spell before)) (fault Field q) → NotAllowed g bs p q
not_allowed_at g Grammar.done bs rest before p q a f b = layers _ _ b.1
not_allowed_at g (Grammar.field w ok k) bs rest before p q a f b =
    ⊎_elim (λ x. layers _ _ x.1)
    (λ x. record { before = before; width = w; test = ok; then = k; rest = rest; allowed = a; form = f; there = x.0; refused = x.1; place = at_field _ _ x.2 }) b
not_allowed_at g (Grammar.part n k) bs rest before p q a f b = layers _ _ b.1

pub field_fault : FieldFault
field_fault g bs p q = (
  λ f. not_allowed_at g f.next bs f.rest f.before p q f.allowed f.form f.breaks,
  λ n. record { before = n.before; next = Grammar.field n.width n.test n.then; rest = n.rest; allowed = n.allowed; form = n.form; breaks = inr (n.there, n.refused, ap (fault Field) n.place) },
)
