-- The laws of one change of a group, board by board and by size, and of its manager.
-- Only this file opens `toggle`; the layers above cite these.
use Rattle.std.proofs.Common.{◌≡◌, ℕ, zero, suc, ◌+◌, ◌-◌, ◌/◌, ◌%◌, ◌^◌, ◌<◌, ◌≤◌, Bool, true, false, cond, not, ◌&&◌, ◌||◌, eqb, sym, refl, ap, ◌∙◌, ⊎_elim, div-le_self, arith}
use lib.Bits.{bit_xor}
use Rattle.std.proofs.lemmas.Nat.{xor_lt, xor_shr, xor_mod, mod_below}
use Rattle.std.proofs.lemmas.Bool.{both_ways, cases_Bool, cases_eq, cases_lt, eq-eqb, eqb-true, ne_eqb, cond-true, cond-false}
use Rattle.boards.specs.Boards.{member, only, size, With, Without}
use Rattle.boards.proofs.Members.{member_above, member_bit, member_only, same_set}
use Rattle.boards.proofs.Sets.{same_place, size_with_new, size_without_member}
use Rattle.views.specs.Groups.{toggle, ToggleTurnsOne, Manager}

-- A bit of a sum without carry is the other one exactly where 1 is added.
turned_bit : (x y : ℕ) → x < 2 → y < 2 → eqb (bit_xor x y) 1 ≡ cond (eqb y 1) (not (eqb x 1)) (eqb x 1)
turned_bit zero zero hx hy = refl
turned_bit zero (suc zero) hx hy = refl
turned_bit (suc zero) zero hx hy = refl
turned_bit (suc zero) (suc zero) hx hy = refl
turned_bit zero (suc (suc y)) hx hy = absurd (omega arith)
turned_bit (suc zero) (suc (suc y)) hx hy = absurd (omega arith)
turned_bit (suc (suc x)) y hx hy = absurd (omega arith)

pub turns_one : ToggleTurnsOne
unfolding toggle
turns_one s c k h =
    let j = 7 - k in
    let was : eqb (s / 2 ^ j % 2) 1 ≡ member s k = sym (member_bit s k h) in
    let here : eqb (only c / 2 ^ j % 2) 1 ≡ eqb k c = sym (member_bit (only c) k h) ∙ member_only c k h in
    member_bit (bit_xor s (only c)) k h ∙ ap (λ x. eqb (x % 2) 1) (xor_shr s (only c) j) ∙ ap (λ x. eqb x 1) (xor_mod (s / 2 ^ j) (only c / 2 ^ j) 1)
    ∙ turned_bit _ _ (mod_below _ 2 (omega arith)) (mod_below _ 2 (omega arith)) ∙ (λ i. cond (here i) (not (was i)) (was i))

only_byte : (b : ℕ) → only b < 2 ^ 8
unfolding only
only_byte b = omega (arith, div-le_self 128 (2 ^ b))

pub toggle_byte : (s c : ℕ) → s < 256 → toggle s c < 256
unfolding toggle
toggle_byte s c h = xor_lt 8 s (only c) h (only_byte c)

-- The board of the change turns.
pub toggle_there : (s c : ℕ) → c < 8 → member (toggle s c) c ≡ not (member s c)
toggle_there s c h = turns_one s c c h ∙ cond-true (eqb c c) _ _ (eq-eqb c c refl)

-- Every other board stays as it was.
pub toggle_other : (s c k : ℕ) → (k ≡ c → ⊥) → member (toggle s c) k ≡ member s k
toggle_other s c k ne =
    ⊎_elim (λ l. turns_one s c k l ∙ cond-false (eqb k c) _ _ (ne_eqb k c ne)) (λ l. member_above (toggle s c) k l ∙ sym (member_above s k l)) (cases_lt k 8)

turn_out : (e m : Bool) → (e ≡ true → m ≡ true) → cond e (not m) m ≡ (m && not e)
turn_out true true h = refl
turn_out true false h = sym (h refl)
turn_out false true h = refl
turn_out false false h = refl

turn_in : (e m : Bool) → (e ≡ true → m ≡ false) → cond e (not m) m ≡ (m || e)
turn_in true true h = sym (h refl)
turn_in true false h = refl
turn_in false true h = refl
turn_in false false h = refl

-- A member leaves.
pub leaves : (s c : ℕ) → member s c ≡ true → Without s c (toggle s c)
leaves s c h k l = turns_one s c k l ∙ turn_out (eqb k c) (member s k) (λ e. ap (member s) (eqb-true k c e) ∙ h)

-- Another board joins.
pub joins : (s c : ℕ) → member s c ≡ false → With s c (toggle s c)
joins s c h k l = turns_one s c k l ∙ turn_in (eqb k c) (member s k) (λ e. ap (member s) (eqb-true k c e) ∙ h)

-- The set that a member left is the changed one.
pub left_is : (s c r : ℕ) → s < 256 → r < 256 → member s c ≡ true → Without s c r → r ≡ toggle s c
left_is s c r hs hr h w = same_set r (toggle s c) hr (toggle_byte s c hs) (λ k l. w k l ∙ sym (leaves s c h k l))

-- The set that another board joined is the changed one.
pub joined_is : (s c r : ℕ) → s < 256 → r < 256 → member s c ≡ false → With s c r → r ≡ toggle s c
joined_is s c r hs hr h w = same_set r (toggle s c) hr (toggle_byte s c hs) (λ k l. w k l ∙ sym (joins s c h k l))

pub size_leaves : (s c : ℕ) → member s c ≡ true → size (toggle s c) + 1 ≡ size s
size_leaves s c h = size_without_member s c (toggle s c) (leaves s c h) h

pub size_joins : (s c : ℕ) → c < 8 → member s c ≡ false → size (toggle s c) ≡ size s + 1
size_joins s c l h = size_with_new s c (toggle s c) l (joins s c h) h

-- A change empties a group exactly if its board is the only member.
pub emptied : (s c : ℕ) → c < 8 → size (toggle s c) ≡ 0 → (member s c ≡ true) × (size s ≡ 1)
emptied s c l z =
    ⊎_elim (λ h. (h, omega (arith, size_leaves s c h))) (λ h. absurd (omega (arith, size_joins s c l h))) (cases_Bool (member s c))

pub not_emptied : (s c : ℕ) → c < 8 → 1 ≤ size s → (size s ≡ 1 → member s c ≡ false) → 1 ≤ size (toggle s c)
not_emptied s c l some h =
    ⊎_elim (λ i. ⊎_elim (λ e. absurd (both_ways _ (h e) i)) (λ ne. omega (arith, size_leaves s c i)) (cases_eq (size s) 1)) (λ o. omega (arith, size_joins s c l o)) (cases_Bool (member s c))

turned_differs : (m : Bool) → not m ≡ m → ⊥
turned_differs true e = both_ways true (sym e) refl
turned_differs false e = both_ways false refl (sym e)

-- Two changes that lead from a group to the same one are the same.
pub same_change : (s c d : ℕ) → c < 8 → toggle s c ≡ toggle s d → c ≡ d
same_change s c d l e =
    ⊎_elim (λ same. same) (λ ne. absurd (turned_differs (member s c) (sym (toggle_there s c l) ∙ ap (λ t. member t c) e ∙ toggle_other s d c ne))) (cases_eq c d)

-- A group has one manager.
pub one_manager : (s a b : ℕ) → Manager s a → Manager s b → a ≡ b
one_manager s a b ha hb = same_place s a b ha.0 hb.0 (omega (arith, ha.1, hb.1))
