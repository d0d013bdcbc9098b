-- A set and its tags at the end of a message.
-- With them the fields are a message's, if tags and set are as the format wants; else no message's.
use Rattle.std.proofs.Common.{◌≡◌, ℕ, zero, suc, ◌*◌, ◌<◌, ◌≤◌, Bool, true, false, eqb, List, [], ◌∷◌, ◌++◌, length, None, Option, sym, refl, ap, ◌∙◌, subst, arith, length-append}
use Rattle.std.proofs.ByRecursion.{All-append}
use Rattle.std.proofs.lemmas.Bool.{and_from, both_ways, eq-eqb, le-leb, ne_eqb}
use Rattle.boards.specs.Boards.{size, only}
use Rattle.boards.proofs.Members.{only_above}
use Rattle.boards.proofs.Sets.{size_le, size_only, size_none, size_zero}
use Rattle.grammar.specs.Bits.{bits}
use Rattle.grammar.specs.Grammar.{Grammar, Item, After, from_to, spell}
use Rattle.grammar.proofs.Bits.{bits_append}
use Rattle.grammar.proofs.Cuts.{spell_append}
use Rattle.grammar.proofs.Held.{held, onward, rest_after}
use Rattle.head.specs.Heads.{Barred}
use Rattle.head.proofs.Steps.{barred_more}
use Rattle.wire.specs.declared.message.Tagged.{Tagged}
use Rattle.wire.specs.declared.message.Spoken.{Spoken}
use Rattle.wire.specs.Fields.{lone, lone_tag, tagged}
use Rattle.wire.specs.Messages.{tag_by, tags_by}
use Rattle.wire.specs.Format.{message, set_values}
use Rattle.wire.proofs.Packed.{packed_is}
use Rattle.layout.specs.declared.plan.Front.{Front}
use Rattle.layout.specs.declared.plan.Layout.{Layout}
use Rattle.layout.specs.Measures.{Bytes}
use Rattle.layout.specs.Layouts.{Alone, Fronts, Laid, Lays, Sealed, front_bytes, head_bytes, middle_bytes}
use Rattle.layout.proofs.Packed.{byte, bytes, head_fit, head_long}

-- a set and its tags, as bits
sealing : (s : ℕ) (t : List ℕ) → bits (s ∷ t) ≡ spell (set_values s t)
sealing s t = bits_append (s ∷ []) t ∙ (λ i. byte s i ++ bytes t i) ∙ sym (spell_append (Item.num 8 s ∷ []) (Item.raw t ∷ []))

-- Nothing may stand behind what may not, and so no message has a layout there.
pub unlaid : {is : List Item} {r : Option Layout} (js : List Item) → r ≡ None → Barred message is → Laid (is ++ js) r
unlaid {is} {r} js e b = subst (Laid (is ++ js)) (sym e) (barred_more js b Grammar.done)

pub unlaid_at : {is : List Item} {g : Grammar} {r : Option Layout} (js : List Item) → r ≡ None → After message is g → (After g js Grammar.done → ⊥) → Laid (is ++ js) r
unlaid_at {is} {g} {r} js e a b = subst (Laid (is ++ js)) (sym e) (λ x. b (rest_after js a x))

pub lays : (f : Front) (q : Tagged) (is : List Item) (ok : ℕ → Bool) (n : ℕ → ℕ) → Fronts f is (Grammar.field 8 ok (λ x. Grammar.part (n x) (λ _. Grammar.done))) → q.set.bits < 256 → ok q.set.bits ≡ true → n q.set.bits ≡ 8 * size q.set.bits → length (tags_by q) ≡ 8 * size q.set.bits → Bytes (tags_by q) → Lays (is ++ set_values q.set.bits (tags_by q)) (record { front = f; by = q })
lays f q is ok n p low o k l b =
    let s = q.set in
    let ts = tags_by q in
    let fs = front_bytes f in
    let ms = middle_bytes f.middle in
    let form : bits (fs ++ (s.bits ∷ ts)) ≡ spell (is ++ set_values s.bits ts) =
    bits_append fs (s.bits ∷ ts) ∙ (λ i. p.form i ++ sealing s.bits ts i) ∙ sym (spell_append is (set_values s.bits ts)) in
    let fit : Bytes (fs ++ (s.bits ∷ ts)) = All-append _ fs (s.bits ∷ ts) (All-append _ (head_bytes f.head) ms (head_fit f.head) p.fit) (low, b) in
    record {
      allowed = onward p.goes (After.then_num low o (After.then_raw (l ∙ sym k) b After.start));
      form = packed_is _ _ fit form;
      whole = p.whole;
      some = p.some;
      short = simp length-append (omega (arith, head_long f.head, f.head.narrow, p.short, l, size_le s.bits));
    }

-- tags that do not fit the set
pub misfit : (s : ℕ) (ts : List ℕ) (ok : ℕ → Bool) (n : ℕ → ℕ) → n s ≡ 8 * size s → eqb (length ts) (8 * size s) ≡ false → After (Grammar.field 8 ok (λ x. Grammar.part (n x) (λ _. Grammar.done))) (set_values s ts) Grammar.done → ⊥
misfit s ts ok n k e a = absurd (both_ways _ e (eq-eqb _ _ ((held a).3.0 ∙ k)))

-- every byte is a set
pub any_set : {s : ℕ} → s < 256 → from_to 0 255 s ≡ true
any_set {s} h = and_from _ _ (le-leb 0 s (omega arith)) (le-leb s 255 (omega arith))

-- a set of one board is one that there is
pub lone_below : (b : ℕ) → b < 8 → lone (only b) ≡ true
unfolding lone
lone_below b h = eq-eqb _ _ (size_only b h)

pub lone_above : (b : ℕ) → 8 ≤ b → lone (only b) ≡ false
unfolding lone
lone_above b h = ap (λ s. eqb (size s) 1) (only_above b h) ∙ ap (λ n. eqb n 1) size_none

-- a set of no boards is 0
pub boardless : (s : ℕ) → s < 256 → eqb (size s) 0 ≡ eqb s 0
boardless zero h = ap (λ n. eqb n 0) size_none
boardless (suc s) h = ne_eqb _ _ (λ z. let e : suc s ≡ 0 = size_zero (suc s) h z in cc) ∙ sym (ne_eqb (suc s) 0 (λ z. cc))

-- A front before any lone speaker, and before any set.
pub spoken : {f : Front} {is : List Item} (q : Spoken) (r : Option Layout) → Alone f q.speaker q.tag r → Fronts f is (lone_tag Grammar.done) → Laid (is ++ set_values (only q.speaker) (tag_by q)) r
spoken q r a p = a _ _ p (lone_below q.speaker) (lone_above q.speaker)

pub gathered : {f : Front} {is : List Item} (q : Tagged) (r : Option Layout) → Sealed f q r → Fronts f is (tagged Grammar.done) → Laid (is ++ set_values q.set.bits (tags_by q)) r
gathered q r a p = a _ _ _ p any_set refl
