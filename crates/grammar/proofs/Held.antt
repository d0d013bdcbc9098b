-- What may stand, read off item by item: the facts that `After` holds, as a product that computes at given items.
-- `held` takes them out and `stand` puts them together; `first_num` and `first_raw` say what items that stand whole begin with.
use Rattle.std.proofs.Common.{◌≡◌, ℕ, ◌^◌, ◌<◌, Bool, true, List, [], ◌∷◌, ◌++◌, length, sym, refl, subst, arith}
use Rattle.std.specs.List.{AllByRecursion}
use Rattle.grammar.specs.Grammar.{Grammar, Item, After}

-- These items may stand first, and then h: what that asks of each.
abbrev pub Held : Grammar → List Item → Grammar → Type 0
Held g [] h = g ≡ h
Held Grammar.done (i ∷ is) h = ⊥
Held (Grammar.field w ok k) (Item.num x v ∷ is) h = (x ≡ w) × (v < 2 ^ w) × (ok v ≡ true) × Held (k v) is h
Held (Grammar.field w ok k) (Item.raw xs ∷ is) h = ⊥
Held (Grammar.part n k) (Item.num x v ∷ is) h = ⊥
Held (Grammar.part n k) (Item.raw xs ∷ is) h = (length xs ≡ n) × AllByRecursion (λ x. x < 256) xs × Held (k xs) is h

pub held : {g : Grammar} {is : List Item} {h : Grammar} → After g is h → Held g is h
held After.start = refl
held (After.then_num b o a) = (refl, b, o, held a)
held (After.then_raw l b a) = (l, b, held a)

pub stand : (g : Grammar) (is : List Item) (h : Grammar) → Held g is h → After g is h
stand g [] h e = subst (λ x. After g [] x) e After.start
stand Grammar.done (i ∷ is) h e = absurd e
stand (Grammar.field w ok k) (Item.num x v ∷ is) h e = subst (λ y. After (Grammar.field w ok k) (Item.num y v ∷ is) h) (sym e.0) (After.then_num e.1 e.2 (stand (k v) is h e.3))
stand (Grammar.field w ok k) (Item.raw xs ∷ is) h e = absurd e
stand (Grammar.part n k) (Item.num x v ∷ is) h e = absurd e
stand (Grammar.part n k) (Item.raw xs ∷ is) h e = After.then_raw e.0 e.1 (stand (k xs) is h e.2)

-- What may stand first, and then what may stand after it.
pub onward : {g h f : Grammar} {is js : List Item} → After g is h → After h js f → After g (is ++ js) f
onward After.start b = b
onward (After.then_num l o a) b = After.then_num l o (onward a b)
onward (After.then_raw l o a) b = After.then_raw l o (onward a b)

-- Items that begin with a number that is allowed.
pub record FirstNum (w : ℕ) (ok : ℕ → Bool) (k : ℕ → Grammar) (is : List Item) : Type 0 where
  pub value : ℕ
  pub later : List Item
  pub split : is ≡ Item.num w value ∷ later
  pub below : value < 2 ^ w
  pub allowed : ok value ≡ true
  pub after : After (k value) later Grammar.done

-- Items that begin with some whole bytes.
pub record FirstRaw (n : ℕ) (k : List ℕ → Grammar) (is : List Item) : Type 0 where
  pub bytes : List ℕ
  pub later : List Item
  pub split : is ≡ Item.raw bytes ∷ later
  pub long : length bytes ≡ n
  pub fit : AllByRecursion (λ x. x < 256) bytes
  pub after : After (k bytes) later Grammar.done

abbrev Begins : Grammar → List Item → Type 0
Begins Grammar.done is = is ≡ []
Begins (Grammar.field w ok k) is = FirstNum w ok k is
Begins (Grammar.part n k) is = FirstRaw n k is

field_not_done : {A : Type 0} (w : ℕ) (ok : ℕ → Bool) (k : ℕ → Grammar) → Grammar.field w ok k ≡ Grammar.done → A
field_not_done w ok k e = let z : ◌≡◌ {A = ℕ} 0 1 = cc in absurd (omega arith)

part_not_done : {A : Type 0} (n : ℕ) (k : List ℕ → Grammar) → Grammar.part n k ≡ Grammar.done → A
part_not_done n k e = let z : ◌≡◌ {A = ℕ} 0 1 = cc in absurd (omega arith)

begins : (g : Grammar) (is : List Item) → Held g is Grammar.done → Begins g is
begins Grammar.done [] e = refl
begins Grammar.done (i ∷ is) e = absurd e
begins (Grammar.field w ok k) [] e = field_not_done w ok k e
begins (Grammar.field w ok k) (Item.num x v ∷ is) e = record { value = v; later = is; split = (λ i. Item.num (e.0 i) v ∷ is); below = e.1; allowed = e.2; after = stand (k v) is Grammar.done e.3 }
begins (Grammar.field w ok k) (Item.raw xs ∷ is) e = absurd e
begins (Grammar.part n k) [] e = part_not_done n k e
begins (Grammar.part n k) (Item.num x v ∷ is) e = absurd e
begins (Grammar.part n k) (Item.raw xs ∷ is) e = record { bytes = xs; later = is; split = refl; long = e.0; fit = e.1; after = stand (k xs) is Grammar.done e.2 }

pub first_num : {w : ℕ} {ok : ℕ → Bool} {k : ℕ → Grammar} {is : List Item} → After (Grammar.field w ok k) is Grammar.done → FirstNum w ok k is
first_num {w} {ok} {k} {is} a = begins (Grammar.field w ok k) is (held a)

pub first_raw : {n : ℕ} {k : List ℕ → Grammar} {is : List Item} → After (Grammar.part n k) is Grammar.done → FirstRaw n k is
first_raw {n} {k} {is} a = begins (Grammar.part n k) is (held a)

pub no_more : {is : List Item} → After Grammar.done is Grammar.done → is ≡ []
no_more {is} a = begins Grammar.done is (held a)

-- What comes after the first of items that may stand.
pub rest_after : {g h f : Grammar} {is : List Item} (js : List Item) → After g is h → After g (is ++ js) f → After h js f
rest_after js After.start b = b
rest_after js (After.then_num {k = k} {is = is} l o a) b = rest_after js a (stand _ _ _ (held b).3)
rest_after js (After.then_raw {k = k} {is = is} l o a) b = rest_after js a (stand _ _ _ (held b).2)

-- The first of items that may stand may stand.
pub front_after : (g : Grammar) (is js : List Item) (f : Grammar) → After g (is ++ js) f → (h : Grammar) × After g is h
front_after g [] js f a = (g, After.start)
front_after g (Item.num w v ∷ is) js f (After.then_num {k = k} b o a) = let r = front_after (k v) is js f a in (r.0, After.then_num b o r.1)
front_after g (Item.raw xs ∷ is) js f (After.then_raw {k = k} l b a) = let r = front_after (k xs) is js f a in (r.0, After.then_raw l b r.1)
