-- What a walk over the boards of a set gives is what is listed of the set.
-- For lists that are made board by board: stored tags, replies, and their text.
use Rattle.std.proofs.Common.{◌≡◌, ℕ, zero, suc, Bool, true, false, cond, List, [], ◌∷◌, ◌++◌, map, refl, ◌∙◌}
use Rattle.std.proofs.lemmas.List.{map-append}
use Rattle.boards.specs.Boards.{member, passing, boards}
use Rattle.wire.specs.Messages.{listed}

-- What f says of the boards of a set is what is listed of it.
map_listed : {X : Type 0} (P : ℕ → Bool) (f : ℕ → X) (n : ℕ) → map f (passing P n) ≡ listed P f n
unfolding passing listed
map_listed P f zero = refl
map_listed P f (suc n) = map-append f (passing P n) (cond (P n) (n ∷ []) []) ∙ (λ i. map_listed P f n i ++ by_test (P n) i)
  where
    by_test : (t : Bool) → map f (cond t (n ∷ []) []) ≡ cond t (f n ∷ []) []
    by_test true = refl
    by_test false = refl

pub map_boards : {X : Type 0} (s : ℕ) (f : ℕ → X) → map f (boards s) ≡ listed (member s) f 8
unfolding boards
map_boards s f = map_listed (member s) f 8
