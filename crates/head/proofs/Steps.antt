-- One more field of what a grammar allows, or of what a table has for a kind.
-- What may not stand first may not with more behind it, so that a chain stops where a field is not allowed.
use Rattle.std.proofs.Common.{◌≡◌, ℕ, ◌+◌, ◌^◌, ◌≤◌, Bool, true, ◌&&◌, ltb, leb, List, [], ◌∷◌, ◌++◌, length, Some, None, Option, sym, refl, ap, ◌∙◌, subst, length-append}
use Rattle.std.proofs.lemmas.Bool.{and_from, and_parts, both_ways, leb-true, lt-ltb}
use Rattle.grammar.specs.Bits.{bits_of}
use Rattle.grammar.specs.Grammar.{Grammar, Item, After, spell}
use Rattle.grammar.proofs.Bits.{length_bits_of}
use Rattle.grammar.proofs.Cuts.{spell_append}
use Rattle.grammar.proofs.Held.{held, onward, rest_after, front_after}
use Rattle.wire.proofs.Widths.{wide, length_spell}
use Rattle.head.specs.declared.number.Head.{Head}
use Rattle.head.specs.Heads.{Barred, Begins, Holds, Joined, Longer, Room}
use Rattle.head.specs.Shapes.{Opens}
use Rattle.head.proofs.Joins.{spell_num}

-- A head is as wide as its fields.
pub wide_as : {g h : Grammar} {a : Head} {is : List Item} → Holds g a is h → a.width ≡ wide is
wide_as {a = a} {is = is} p = sym (length_bits_of a.width a.number) ∙ ap length p.form ∙ length_spell is

pub wider : {a b : Head} {w v : ℕ} {t : Bool} → Longer a w v t b → b.width ≡ a.width + w
wider {a} {b} {w} {v} x =
    sym (length_bits_of b.width b.number) ∙ ap length x.form ∙ length-append (bits_of a.width a.number) (bits_of w v) ∙ (λ i. length_bits_of a.width a.number i + length_bits_of w v i)

pub barred_more : {g : Grammar} {is : List Item} (js : List Item) → Barred g is → Barred g (is ++ js)
barred_more {g} {is} js b any q = let r = front_after g is js any q in b r.0 r.1

-- With no field yet, what any grammar begins with may follow.
pub nothing : (g : Grammar) (a : Head) → a.width ≡ 0 → Holds g a [] g
unfolding bits_of spell
nothing g a e = let z : 0 ≡ a.width = sym e in record { form = subst (λ w. bits_of w a.number ≡ []) z refl; goes = After.start }

-- A value under another name.
pub named : {a : Head} {w v u : ℕ} {t : Bool} {r : Option Head} → v ≡ u → Joined a w v t r → Joined a w u t r
named {a} {w} {v} {u} {t} {r} e j = subst (λ x. Joined a w x t r) e j

-- A width under another name.
pub sized : {a : Head} {w x v : ℕ} {t : Bool} {r : Option Head} → w ≡ x → Joined a w v t r → Joined a x v t r
sized {a} {w} {x} {v} {t} {r} e j = subst (λ y. Joined a y v t r) e j

-- There is no head, and nothing may stand.
pub no_head : {g h : Grammar} {is : List Item} {r : Option Head} → r ≡ None → Barred g is → Begins g is h r
no_head e b = record { holds = λ a f. cc; none = λ _. b }

-- One field on.
pub step : {g : Grammar} {is : List Item} {w v : ℕ} {ok : ℕ → Bool} {k : ℕ → Grammar} {a : Head} {t : Bool} {r : Option Head} → Holds g a is (Grammar.field w ok k) → Joined a w v t r → ok v ≡ t → Room a w → Begins g (is ++ Item.num w v ∷ []) (k v) r
step {g} {is} {w} {v} {ok} {k} {a} {t} {r} p j o room = record {
  holds = λ b e. let x = j.longer b e in record {
    form = x.form ∙ (λ i. p.form i ++ sym (spell_num w v) i) ∙ sym (spell_append is (Item.num w v ∷ []));
    goes = onward p.goes (After.then_num x.fits (o ∙ x.good) After.start);
  };
  none = λ e any q. let f = held (rest_after (Item.num w v ∷ []) p.goes q) in
      absurd (both_ways _ (j.none e room) (and_from t (ltb v (2 ^ w)) (sym o ∙ f.2) (lt-ltb v (2 ^ w) f.1)));
}

-- Something of another sort, of which a table has what the shape wants.
pub along : {kind : ℕ} {is : List Item} {X Y : Type 0} {from on : X → Grammar} {r : Option Head} (f : Y → X) → Opens kind is from on r → Opens kind is (λ y. from (f y)) (λ y. on (f y)) r
along f p = record { begins = λ has body y o e. p.begins has body (f y) o e }

-- One field on, where there is a head.
pub on : {kind : ℕ} {is : List Item} {X : Type 0} {from : X → Grammar} {w v : ℕ} {ok : ℕ → Bool} {k : X → ℕ → Grammar} {a : Head} {t : Bool} {r : Option Head} → Opens kind is from (λ x. Grammar.field w ok (k x)) (Some a) → Joined a w v t r → ok v ≡ t → (leb w 8 && leb (wide is + w) 32) ≡ true
    → Opens kind (is ++ Item.num w v ∷ []) from (λ x. k x v) r
on {is = is} {w = w} p j o room = record {
  begins = λ has body x y e.
      let h = (p.begins has body x y e).holds _ refl in
      let m = and_parts _ _ room in
      step h j o (leb-true w 8 m.0, subst (λ n. n + w ≤ 32) (sym (wide_as h)) (leb-true (wide is + w) 32 m.1));
}

-- Nothing more, where there is none.
pub stop : {kind : ℕ} {is : List Item} {X : Type 0} {from on on' : X → Grammar} {r : Option Head} (js : List Item) → Opens kind is from on None → r ≡ None → Opens kind (is ++ js) from on' r
stop js p n = record { begins = λ has body x o e. no_head n (barred_more js ((p.begins has body x o e).none refl)) }
