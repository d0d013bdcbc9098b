-- The front of bytes that passes a test, and where it ends.
-- For the calls that cut at its end, or ask whether it is all.
use Rattle.std.proofs.Common.{Decides, ◌&&◌, true≢false, ◌≡◌, ℕ, suc, ◌+◌, ◌≤◌, Bool, true, false, cond, not, List, [], ◌∷◌, length, sym, refl, ap, ◌∙◌, add-one, arith}
use Rattle.std.specs.List.{list_all}
use Rattle.script.specs.Words.{lead, Whole}

module _ (P : ℕ → Bool) where
  pub lead_bound : (bs : List ℕ) → lead P bs ≤ length bs
  unfolding lead
  lead_bound [] = omega arith
  lead_bound (b ∷ bs) =
      let ih = lead_bound bs in
      elim (P b) as (λ v. cond v (suc (lead P bs)) 0 ≤ suc (length bs)) [ true ↦ omega arith | false ↦ omega arith ]

  all_whole : (bs : List ℕ) → list_all P bs ≡ true → Whole P bs
  unfolding lead
  all_whole [] e = refl
  all_whole (b ∷ bs) e =
      (elim (P b) as (λ v. (v && list_all P bs) ≡ true → cond v (suc (lead P bs)) 0 ≡ suc (length bs))
      [ true ↦ λ a. ap suc (all_whole bs a) | false ↦ λ a. absurd (true≢false (sym a)) ]) e

  whole_all : (bs : List ℕ) → Whole P bs → list_all P bs ≡ true
  unfolding lead
  whole_all [] w = refl
  whole_all (b ∷ bs) w =
      (elim (P b) as (λ v. cond v (suc (lead P bs)) 0 ≡ suc (length bs) → (v && list_all P bs) ≡ true)
      [ true ↦ λ a. whole_all bs (omega (arith, a)) | false ↦ λ a. absurd (omega (arith, a)) ]) w

  -- a test of each byte
  pub each : {r : Bool} (bs : List ℕ) → r ≡ list_all P bs → Decides r (Whole P bs)
  each bs e = (λ t. all_whole bs (sym e ∙ t), λ w. e ∙ whole_all bs w)

-- the front that ends at the first byte that passes a test
module _ (test : ℕ → Bool) where
  abbrev pub before_first : List ℕ → ℕ
  before_first bs = lead (λ b. not (test b)) bs

  pub first_none : before_first [] ≡ 0
  unfolding lead
  first_none = refl

  pub first_hit : (b : ℕ) (bs : List ℕ) → true ≡ test b → before_first (b ∷ bs) ≡ 0
  unfolding lead
  first_hit b bs e = ap (λ v. cond (not v) (suc (before_first bs)) 0) (sym e)

  pub first_miss : (b : ℕ) (bs : List ℕ) → false ≡ test b → before_first (b ∷ bs) ≡ before_first bs + 1
  unfolding lead
  first_miss b bs e = ap (λ v. cond (not v) (suc (before_first bs)) 0) (sym e) ∙ sym (add-one (before_first bs))
