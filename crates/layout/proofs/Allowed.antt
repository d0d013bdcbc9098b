-- What fields that may stand first tell of their values.
-- A payload after its head, and a set of one board.
use Rattle.std.proofs.Common.{◌≡◌, ℕ, ◌<◌, true, List, ◌∷◌, subst}
use Rattle.std.proofs.lemmas.Bool.{eqb-true}
use Rattle.boards.specs.Boards.{size}
use Rattle.grammar.specs.Grammar.{Grammar, Item, After}
use Rattle.wire.specs.Fields.{lone, carried}
use Rattle.wire.specs.Format.{message, body, opening}
use Rattle.layout.proofs.Rests.{un_num}

-- what follows kind and view
pub body_of : {k v : ℕ} {is : List Item} {l : Grammar} → After message (opening k v is) l → After (body k) is l
body_of a = (un_num (un_num a).2).2

pub lone_one : (s : ℕ) → lone s ≡ true → size s ≡ 1
unfolding lone
lone_one s e = eqb-true _ _ e

-- the sender and the length of a payload are small
pub carried_small : {k v s n t p : ℕ} {is : List Item} {f : ℕ → Grammar} {l : Grammar} → body k ≡ carried f → After message (opening k v (Item.num 3 s ∷ Item.num 8 n ∷ Item.num 3 t ∷ Item.num 6 p ∷ is)) l → (s < 8) × (p < 64)
carried_small {k} {v} {s} {n} {t} {p} {is} {f} {l} e a =
    let b = subst (λ g. After g (Item.num 3 s ∷ Item.num 8 n ∷ Item.num 3 t ∷ Item.num 6 p ∷ is) l) e (body_of a) in
    ((un_num b).0, (un_num (un_num (un_num (un_num b).2).2).2).0)
