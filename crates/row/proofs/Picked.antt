-- Sets that are put together of boards, who holds a rank, and sets within others, in the words of members.
-- Only this file opens `insert` and `set_of`.
use Rattle.std.proofs.Common.{◌≡◌, ℕ, zero, suc, ◌+◌, ◌^◌, ◌<◌, ◌≤◌, Bool, true, false, cond, not, ◌&&◌, ◌||◌, eqb, ltb, Some, None, Decides, sym, refl, ap, ◌∙◌, ⊎_elim, add-one, div-le_self, arith}
use lib.Bits.{bit_or}
use Rattle.std.proofs.lemmas.Nat.{or_lt}
use Rattle.std.proofs.lemmas.Bool.{and_from, and_left, and_right, and_parts, both_ways, cases_Bool, cases_eq, cases_lt, eq-eqb, eqb-true, lt-ltb, le-ltb, ne_eqb, not_from_true, not_from_false, not-false}
use Rattle.boards.specs.Boards.{member, only, place, Within, With, Holder}
use Rattle.boards.proofs.Members.{member_below, member_none, member_only, member_or, same_set}
use Rattle.boards.proofs.Sets.{place_below, place_rises}
use Rattle.views.specs.Groups.{Manager}
use Rattle.row.specs.States.{set_of, insert, manager_in, seat}
use Rattle.row.specs.Refusals.{strays}
use Rattle.row.proofs.Chosen.{highest_is, highest_none}
use Rattle.boards.proofs.Chosen.{any_false, any_none}

-- A set with one board more has the boards it had, and that one.
pub inserted : (s b : ℕ) → With s b (insert s b)
unfolding insert
inserted s b k h = member_or s (only b) k ∙ ap (λ t. member s k || t) (member_only b k h)

only_byte : (b : ℕ) → only b < 2 ^ 8
unfolding only
only_byte b = omega (arith, div-le_self 128 (2 ^ b))

pub insert_byte : (s b : ℕ) → s < 256 → insert s b < 256
unfolding insert
insert_byte s b h = or_lt 8 s (only b) h (only_byte b)

-- A set with the boards of s and b is that set.
pub insert_is : (s b r : ℕ) → s < 256 → r < 256 → With s b r → r ≡ insert s b
insert_is s b r hs hr w = same_set r (insert s b) hr (insert_byte s b hs) (λ k l. w k l ∙ sym (inserted s b k l))

or_true : (t : Bool) → (t || true) ≡ true
or_true true = refl
or_true false = refl

or_false : (t : Bool) → (t || false) ≡ t
or_false true = refl
or_false false = refl

and_not : (x y : Bool) → (x ≡ true → y ≡ true) → (x && not y) ≡ false
and_not true y h = not_from_true y (h refl)
and_not false y h = refl

-- But for n itself the numbers below n + 1 are those below n.
shift : (k n : ℕ) → (k ≡ n → ⊥) → ltb k n ≡ ltb k (suc n)
shift k n ne =
    ⊎_elim (λ l. lt-ltb k n l ∙ sym (lt-ltb k (suc n) (omega arith))) (λ l. le-ltb k n l ∙ sym (le-ltb k (suc n) (omega arith))) (cases_lt k n)

-- The set of the boards that pass a test has just those.
pub set_of_below : (P : ℕ → Bool) (n k : ℕ) → n ≤ 8 → k < 8 → member (set_of P n) k ≡ (ltb k n && P k)
unfolding set_of
set_of_below P zero k hn hk = member_none k ∙ sym (and_left (ltb k 0) (P k) (le-ltb k 0 (omega arith)))
set_of_below P (suc n) k hn hk =
    let before = set_of_below P n k (omega arith) hk in
    let Goal : Bool → Type 0 = λ p. member (cond p (bit_or (set_of P n) (only n)) (set_of P n)) k ≡ (ltb k (suc n) && P k) in
    let put : P n ≡ true → Goal true =
    λ y. member_or (set_of P n) (only n) k ∙ (λ i. before i || member_only n k hk i) ∙
    ⊎_elim
    (λ same. ap (λ t. (ltb k n && P k) || t) (eq-eqb k n same) ∙ or_true (ltb k n && P k) ∙ sym (and_from _ _ (lt-ltb k (suc n) (omega arith)) (ap P same ∙ y)))
    (λ ne. ap (λ t. (ltb k n && P k) || t) (ne_eqb k n ne) ∙ or_false (ltb k n && P k) ∙ ap (λ t. t && P k) (shift k n ne))
    (cases_eq k n) in
    let left : P n ≡ false → Goal false =
    λ y. before ∙
    ⊎_elim
    (λ same. and_left (ltb k n) (P k) (le-ltb k n (omega arith)) ∙ sym (and_right (ltb k (suc n)) (P k) (ap P same ∙ y)))
    (λ ne. ap (λ t. t && P k) (shift k n ne))
    (cases_eq k n) in
    let pick : (b : Bool) → P n ≡ b → Goal b = λ b. elim b as (λ v. P n ≡ v → Goal v) [ true ↦ put | false ↦ left ] in
    pick (P n) refl

-- Below 0 no board is picked; below n + 1 board n is put in where it passes.
pub set_of_first : (P : ℕ → Bool) → set_of P 0 ≡ 0
unfolding set_of
set_of_first P = refl

pub set_of_next : (P : ℕ → Bool) (n : ℕ) → set_of P (n + 1) ≡ cond (P n) (insert (set_of P n) n) (set_of P n)
unfolding set_of insert
set_of_next P n = ap (set_of P) (add-one n)

pub member_set_of : (P : ℕ → Bool) (k : ℕ) → k < 8 → member (set_of P 8) k ≡ P k
member_set_of P k h = set_of_below P 8 k (omega arith) h ∙ ap (λ t. t && P k) (lt-ltb k 8 h)

pub set_of_byte : (P : ℕ → Bool) (n : ℕ) → set_of P n < 256
unfolding set_of
set_of_byte P zero = omega arith
set_of_byte P (suc n) =
    elim (P n) as (λ b. cond b (bit_or (set_of P n) (only n)) (set_of P n) < 256) [
      | true ↦ or_lt 8 (set_of P n) (only n) (set_of_byte P n) (only_byte n)
      | false ↦ set_of_byte P n
    ]

-- The manager is the highest member: no member stands after the last rank.
pub manager_is : (v b : ℕ) → Manager v b → manager_in v ≡ b
manager_is v b m =
    let here : (k : ℕ) → b < k → member v k ≡ false =
    λ k l. ⊎_elim (λ y. absurd (omega (arith, place_rises v b k m.0 l, place_below v k y, m.1))) (λ no. no) (cases_Bool (member v k)) in
    highest_is (member v) 8 b (member_below v b m.0) m.0 (λ k l h. here k l)

-- The board of a rank is the one that holds it.
pub seat_is : (v k b : ℕ) → Holder v k (Some b) → seat v k ≡ b
seat_is v k b h =
    highest_is (λ a. member v a && eqb (place v a + 1) k) 8 b h.0 (and_from _ _ h.1 (eq-eqb _ _ h.2))
    (λ a l below.
    ⊎_elim
    (λ y. let p = and_parts (member v a) (eqb (place v a + 1) k) y in absurd (omega (arith, place_rises v b a h.1 l, eqb-true _ _ p.1, h.2)))
    (λ no. no)
    (cases_Bool (member v a && eqb (place v a + 1) k)))

pub seat_none : (v k : ℕ) → Holder v k None → seat v k ≡ 8
seat_none v k h =
    highest_none (λ a. member v a && eqb (place v a + 1) k) 8
    (λ a below.
    ⊎_elim
    (λ y. let p = and_parts (member v a) (eqb (place v a + 1) k) y in
    absurd (⊎_elim (λ z. omega (arith, eqb-true _ _ p.1)) (λ l. omega (arith, place_below v a p.0, eqb-true _ _ p.1)) h))
    (λ no. no)
    (cases_Bool (member v a && eqb (place v a + 1) k)))

-- A set strays from a view exactly if it is not within it.
pub strays_is : (a v : ℕ) (r : Bool) → Decides r (Within a v) → strays a v ≡ not r
strays_is a v r d =
    ⊎_elim
    (λ y. any_false (λ b. member a b && not (member v b)) 8 (λ k l. and_not (member a k) (member v k) (d.0 y k l)) ∙ sym (not_from_true r y))
    (λ no.
    ⊎_elim (λ s. s ∙ sym (not_from_false r no))
    (λ s. absurd (both_ways r no (d.1 (λ k l m. not-false (member v k) (sym (ap (λ t. t && not (member v k)) m) ∙ any_none (λ b. member a b && not (member v b)) 8 s k l)))))
    (cases_Bool (strays a v)))
    (cases_Bool r)
