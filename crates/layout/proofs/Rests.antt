-- What the first item of what may stand tells, one step at a time.
-- `held` of crate grammar tells all at once, where the items are given.
use Rattle.std.proofs.Common.{◌≡◌, ℕ, ◌^◌, ◌<◌, Bool, true, List, ◌∷◌, length}
use Rattle.std.specs.List.{AllByRecursion}
use Rattle.grammar.specs.Grammar.{Grammar, Item, After}
use Rattle.grammar.proofs.Held.{held, stand}

pub un_num : {w u v : ℕ} {ok : ℕ → Bool} {k : ℕ → Grammar} {is : List Item} {h : Grammar} → After (Grammar.field w ok k) (Item.num u v ∷ is) h → (v < 2 ^ w) × (ok v ≡ true) × After (k v) is h
un_num {v = v} {k = k} {is = is} {h = h} a = let r = held a in (r.1, r.2, stand (k v) is h r.3)

pub un_wide : {w u v : ℕ} {ok : ℕ → Bool} {k : ℕ → Grammar} {is : List Item} {h : Grammar} → After (Grammar.field w ok k) (Item.num u v ∷ is) h → u ≡ w
un_wide a = (held a).0

pub un_raw : {n : ℕ} {xs : List ℕ} {k : List ℕ → Grammar} {is : List Item} {h : Grammar} → After (Grammar.part n k) (Item.raw xs ∷ is) h → (length xs ≡ n) × AllByRecursion (λ x. x < 256) xs × After (k xs) is h
un_raw {xs = xs} {k = k} {is = is} {h = h} a = let r = held a in (r.0, r.1, stand (k xs) is h r.2)
