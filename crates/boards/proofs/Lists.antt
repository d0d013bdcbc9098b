-- The boards of a set as a list, by rising number: what is left without the first of them, or without the last.
-- The laws of `passing` are for any test; those of `boards` say them in the words of a set.
use Rattle.std.proofs.Common.{◌≡◌, ℕ, zero, suc, ◌+◌, ◌<◌, Bool, true, false, cond, [], ◌∷◌, ◌++◌, sym, refl, ap, ◌∙◌, ⊎_elim, append-nil, arith}
use Rattle.std.proofs.ByRecursion.{All-append}
use Rattle.std.specs.List.{AllByRecursion}
use Rattle.std.proofs.lemmas.Bool.{cases_Bool, cases_eq}
use Rattle.boards.specs.Boards.{member, size, place, Without, passing, boards}
use Rattle.boards.proofs.Sets.{no_member, place_below, place_rises, without_gone, without_old}
use Rattle.boards.proofs.Members.{member_below}

kept : (P : ℕ → Bool) (n : ℕ) → P n ≡ true → passing P (suc n) ≡ passing P n ++ n ∷ []
unfolding passing
kept P n e = ap (λ t. passing P n ++ cond t (n ∷ []) []) e

dropped : (P : ℕ → Bool) (n : ℕ) → P n ≡ false → passing P (suc n) ≡ passing P n
unfolding passing
dropped P n e = ap (λ t. passing P n ++ cond t (n ∷ []) []) e ∙ append-nil (passing P n)

passing_none : (P : ℕ → Bool) (n : ℕ) → ((k : ℕ) → k < n → P k ≡ false) → passing P n ≡ []
unfolding passing
passing_none P zero h = refl
passing_none P (suc n) h = dropped P n (h n (omega arith)) ∙ passing_none P n (λ k l. h k (omega arith))

passing_same : (P Q : ℕ → Bool) (n : ℕ) → ((k : ℕ) → k < n → P k ≡ Q k) → passing P n ≡ passing Q n
unfolding passing
passing_same P Q zero h = refl
passing_same P Q (suc n) h = λ i. passing_same P Q n (λ k l. h k (omega arith)) i ++ cond (h n (omega arith) i) (n ∷ []) []

-- Q passes what P does, but for b.
module _ (P Q : ℕ → Bool) (b : ℕ) (passes : P b ≡ true) (gone : Q b ≡ false) where
  passing_first : (n : ℕ) → b < n → ((k : ℕ) → k < b → P k ≡ false) → ((k : ℕ) → k < n → (k ≡ b → ⊥) → P k ≡ Q k) → passing P n ≡ b ∷ passing Q n
  unfolding passing
  passing_first zero h none others = absurd (omega arith)
  passing_first (suc n) h none others =
      ⊎_elim
      (λ e.
      let fronts : (k : ℕ) → k < n → Q k ≡ false = λ k l. sym (others k (omega arith) (λ q. omega arith)) ∙ none k (omega arith) in
      kept P n (ap P (sym e) ∙ passes) ∙ ap (λ t. t ++ n ∷ []) (passing_none P n (λ k l. none k (omega arith))) ∙ (λ i. sym e i ∷ [])
      ∙ ap (λ t. b ∷ t) (sym (dropped Q n (ap Q (sym e) ∙ gone) ∙ passing_none Q n fronts)))
      (λ ne.
      let rest = passing_first n (omega arith) none (λ k l. others k (omega arith)) in
      (λ i. rest i ++ cond (others n (omega arith) (λ q. ne (sym q)) i) (n ∷ []) []))
      (cases_eq b n)

  passing_last : (n : ℕ) → b < n → ((k : ℕ) → k < n → b < k → P k ≡ false) → ((k : ℕ) → k < n → (k ≡ b → ⊥) → P k ≡ Q k)
      → passing P n ≡ passing Q n ++ b ∷ []
  passing_last zero h none others = absurd (omega arith)
  passing_last (suc n) h none others =
      ⊎_elim
      (λ e.
      kept P n (ap P (sym e) ∙ passes)
      ∙ (λ i. (passing_same P Q n (λ k l. others k (omega arith) (λ q. omega arith)) ∙ sym (dropped Q n (ap Q (sym e) ∙ gone))) i ++ sym e i ∷ []))
      (λ ne.
      let fails = none n (omega arith) (omega arith) in
      let same = others n (omega arith) (λ q. ne (sym q)) in
      dropped P n fails ∙ passing_last n (omega arith) (λ k l. none k (omega arith)) (λ k l. others k (omega arith))
      ∙ ap (λ t. t ++ b ∷ []) (sym (dropped Q n (sym same ∙ fails))))
      (cases_eq b n)

pub boards_none : (s : ℕ) → size s ≡ 0 → boards s ≡ []
unfolding boards
boards_none s z = passing_none (member s) 8 (λ k l. no_member s k z)

-- The member of rank 1 comes first, and the others follow.
pub boards_first : (s b r : ℕ) → member s b ≡ true → place s b ≡ 0 → Without s b r → boards s ≡ b ∷ boards r
unfolding boards
boards_first s b r e z w =
    let below = member_below s b e in
    passing_first (member s) (member r) b e (without_gone s b r below w) 8 below
    (λ k l. ⊎_elim (λ y. absurd (omega (arith, place_rises s k b y l))) (λ y. y) (cases_Bool (member s k)))
    (without_old s b r w)

-- The member of the highest rank comes last, behind the others.
pub boards_last : (s b r : ℕ) → member s b ≡ true → place s b + 1 ≡ size s → Without s b r → boards s ≡ boards r ++ b ∷ []
unfolding boards
boards_last s b r e z w =
    let below = member_below s b e in
    passing_last (member s) (member r) b e (without_gone s b r below w) 8 below
    (λ k l m. ⊎_elim (λ y. absurd (omega (arith, place_rises s b k e m, place_below s k y))) (λ y. y) (cases_Bool (member s k)))
    (without_old s b r w)

-- Each board of the list is of the set.
all_passing : (P : ℕ → Bool) (n : ℕ) → AllByRecursion (λ b. P b ≡ true) (passing P n)
unfolding passing
all_passing P zero = tt
all_passing P (suc n) = All-append _ (passing P n) (cond (P n) (n ∷ []) []) (all_passing P n) (by_test (P n) refl)
  where
    by_test : (t : Bool) → P n ≡ t → AllByRecursion (λ b. P b ≡ true) (cond t (n ∷ []) [])
    by_test true e = (e, tt)
    by_test false e = tt

pub all_boards : (s : ℕ) → AllByRecursion (λ b. member s b ≡ true) (boards s)
unfolding boards
all_boards s = all_passing (member s) 8
