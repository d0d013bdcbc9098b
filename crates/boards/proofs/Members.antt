-- What the bits of a byte say of the members of a set.
-- Of the laws only these open `member` and `only`; all others go by them.
use Rattle.std.proofs.Common.{◌≡◌, ℕ, zero, suc, ◌+◌, ◌-◌, ◌*◌, ◌/◌, ◌%◌, ◌^◌, ◌<◌, ◌≤◌, Bool, true, false, not, ◌&&◌, ◌||◌, eqb, ltb, sym, refl, ap, ◌∙◌, subst, ⊎_elim, pow-suc, one-add, arith, pow_mono}
use lib.Bits.{bit_and, bit_or}
use lib.Count.{ones, ones_step}
use Rattle.std.proofs.lemmas.Nat.{and_shr, or_shr, and_mod, or_mod, shr-shr, mod_below, div_below, pow_pos}
use Rattle.std.proofs.lemmas.Bool.{and_left, and_parts, cases_lt, le-ltb, lt-ltb, ltb-true, ne_eqb, true≢false}
use Rattle.boards.specs.Boards.{member, only, one, every, tally, size, place}
use Rattle.boards.proofs.Chosen.{every_at}

abbrev same : Bool → Bool → Bool
same true b = b
same false b = not b

from_same : (a b : Bool) → same a b ≡ true → a ≡ b
from_same true b e = sym e
from_same false true e = e
from_same false false e = refl

-- A bit is 0 or 1.
bit : (P : ℕ → Type 0) → P 0 → P 1 → (x : ℕ) → x < 2 → P x
bit P p q zero h = p
bit P p q (suc zero) h = q
bit P p q (suc (suc x)) h = absurd (omega arith)

-- A law of two bits holds if it holds at the four pairs.
bits : (P : ℕ → ℕ → Type 0) → P 0 0 → P 0 1 → P 1 0 → P 1 1 → (x y : ℕ) → x < 2 → y < 2 → P x y
bits P p q r s x y hx hy = bit (λ a. P a y) (bit (P 0) p q y hy) (bit (P 1) r s y hy) x hx

low : (s j : ℕ) → s / 2 ^ j % 2 < 2
low s j = mod_below _ 2 (omega arith)

pub member_above : (s b : ℕ) → 8 ≤ b → member s b ≡ false
unfolding member
member_above s b h = and_left _ _ (le-ltb b 8 h)

pub member_below : (s b : ℕ) → member s b ≡ true → b < 8
unfolding member
member_below s b e = ltb-true b 8 (and_parts (ltb b 8) _ e).0

-- Below 8 a member is a bit.
pub member_bit : (s b : ℕ) → b < 8 → member s b ≡ eqb (s / 2 ^ (7 - b) % 2) 1
unfolding member
member_bit s b h = ap (λ t. t && eqb (s / 2 ^ (7 - b) % 2) 1) (lt-ltb b 8 h)

and_share : (t x y : Bool) → (t && (x && y)) ≡ ((t && x) && (t && y))
and_share true x y = refl
and_share false x y = refl

or_share : (t x y : Bool) → (t && (x || y)) ≡ ((t && x) || (t && y))
or_share true x y = refl
or_share false x y = refl

-- The boards of both sets.
pub member_and : (a b k : ℕ) → member (bit_and a b) k ≡ (member a k && member b k)
unfolding member
member_and a b k =
    let j = 7 - k in
    ap (λ x. ltb k 8 && eqb (x % 2) 1) (and_shr a b j) ∙ ap (λ x. ltb k 8 && eqb x 1) (and_mod (a / 2 ^ j) (b / 2 ^ j) 1)
    ∙ ap (λ t. ltb k 8 && t) (bits (λ x y. eqb (bit_and x y) 1 ≡ (eqb x 1 && eqb y 1)) refl refl refl refl _ _ (low a j) (low b j)) ∙ and_share (ltb k 8) _ _

-- The boards of either set.
pub member_or : (a b k : ℕ) → member (bit_or a b) k ≡ (member a k || member b k)
unfolding member
member_or a b k =
    let j = 7 - k in
    ap (λ x. ltb k 8 && eqb (x % 2) 1) (or_shr a b j) ∙ ap (λ x. ltb k 8 && eqb x 1) (or_mod (a / 2 ^ j) (b / 2 ^ j) 1)
    ∙ ap (λ t. ltb k 8 && t) (bits (λ x y. eqb (bit_or x y) 1 ≡ (eqb x 1 || eqb y 1)) refl refl refl refl _ _ (low a j) (low b j)) ∙ or_share (ltb k 8) _ _

pub member_none : (k : ℕ) → member 0 k ≡ false
unfolding member every
member_none k =
    ⊎_elim (λ h. from_same _ _ (every_at (λ j. same (member 0 j) false) 8 k refl h)) (member_above 0 k) (cases_lt k 8)

pub only_above : (b : ℕ) → 8 ≤ b → only b ≡ 0
unfolding only
only_above b h =
    let large : 2 ^ 8 ≤ 2 ^ b = pow_mono h in
    let small : 128 / 2 ^ b < 1 = div_below 128 (2 ^ b) 1 (pow_pos b) (omega arith) in
    omega arith

-- Two tests of two boards agree if they agree at the 64 pairs.
table : (f g : ℕ → ℕ → Bool) → every (λ i. every (λ j. same (f i j) (g i j)) 8) 8 ≡ true → (b k : ℕ) → b < 8 → k < 8 → f b k ≡ g b k
table f g e b k hb hk = from_same _ _ (every_at (λ j. same (f b j) (g b j)) 8 k (every_at (λ i. every (λ j. same (f i j) (g i j)) 8) 8 b e hb) hk)

only_table : (b k : ℕ) → b < 8 → k < 8 → member (only b) k ≡ eqb k b
unfolding member only every
only_table = table (λ b k. member (only b) k) (λ b k. eqb k b) refl

pub member_all : (k : ℕ) → k < 8 → member 255 k ≡ true
unfolding member every
member_all k h = every_at (member 255) 8 k refl h

-- No board is one above 7.
pub none_above : (b : ℕ) → 8 ≤ b → (k : ℕ) → k < 8 → member 0 k ≡ eqb k b
none_above b hb k hk = member_none k ∙ sym (ne_eqb k b (λ e. omega arith))

pub member_only : (b k : ℕ) → k < 8 → member (only b) k ≡ eqb k b
member_only b k hk =
    ⊎_elim (λ hb. only_table b k hb hk) (λ hb. ap (λ s. member s k) (only_above b hb) ∙ none_above b hb k hk) (cases_lt b 8)

-- Halving a number and shifting it go together.
halves : (x j : ℕ) → x / 2 ^ suc j ≡ x / 2 / 2 ^ j
halves x j = ap (λ i. x / 2 ^ i) (sym (one-add j)) ∙ sym (shr-shr x 1 j)

-- A bit of the largest number of n bits, less b, is the other one of b.
flip : (n b j : ℕ) → b < 2 ^ n → j < n → (2 ^ n - 1 - b) / 2 ^ j % 2 ≡ 1 - b / 2 ^ j % 2
flip zero b j hb hj = absurd (omega arith)
flip (suc n) b zero hb hj = let two : 2 ^ suc n ≡ 2 ^ n * 2 = pow-suc 2 n in omega arith
flip (suc n) b (suc j) hb hj =
    let two : 2 ^ suc n ≡ 2 ^ n * 2 = pow-suc 2 n in
    let half : (2 ^ suc n - 1 - b) / 2 ≡ 2 ^ n - 1 - b / 2 = omega arith in
    ap (λ x. x % 2) (halves (2 ^ suc n - 1 - b) j) ∙ ap (λ x. x / 2 ^ j % 2) half ∙ flip n (b / 2) j (omega arith) (omega arith)
    ∙ ap (λ x. 1 - x % 2) (sym (halves b j))

-- The boards that a set does not have.
pub member_rest : (b k : ℕ) → b < 256 → k < 8 → member (255 - b) k ≡ not (member b k)
member_rest b k hb hk =
    member_bit (255 - b) k hk ∙ ap (λ x. eqb x 1) (flip 8 b (7 - k) hb (omega arith)) ∙ bit (λ x. eqb (1 - x) 1 ≡ not (eqb x 1)) refl refl _ (low b (7 - k))
    ∙ ap not (sym (member_bit b k hk))

-- Two numbers of n bits with the same bits are the same.
eq_bits : (n s t : ℕ) → s < 2 ^ n → t < 2 ^ n → ((j : ℕ) → j < n → s / 2 ^ j % 2 ≡ t / 2 ^ j % 2) → s ≡ t
eq_bits zero s t hs ht e = omega arith
eq_bits (suc n) s t hs ht e =
    let two : 2 ^ suc n ≡ 2 ^ n * 2 = pow-suc 2 n in
    let r : s / 2 ≡ t / 2 = eq_bits n (s / 2) (t / 2) (omega arith) (omega arith) (λ j h. ap (λ x. x % 2) (sym (halves s j)) ∙ e (suc j) (omega arith) ∙ ap (λ x. x % 2) (halves t j)) in
    let last : s / 1 % 2 ≡ t / 1 % 2 = e 0 (omega arith) in
    omega (arith, r, last)

-- Two bytes with the same members are the same.
pub same_set : (s t : ℕ) → s < 256 → t < 256 → ((k : ℕ) → k < 8 → member s k ≡ member t k) → s ≡ t
same_set s t hs ht m =
    eq_bits 8 s t hs ht (λ j h.
    let back : 7 - (7 - j) ≡ j = omega arith in
    let small : 7 - j < 8 = omega arith in
    let e : eqb (s / 2 ^ (7 - (7 - j)) % 2) 1 ≡ eqb (t / 2 ^ (7 - (7 - j)) % 2) 1 = sym (member_bit s (7 - j) small) ∙ m (7 - j) small ∙ member_bit t (7 - j) small in
    bits (λ x y. eqb x 1 ≡ eqb y 1 → x ≡ y) (λ e. refl) (λ e. absurd (true≢false (sym e))) (λ e. absurd (true≢false e)) (λ e. refl) _ _ (low s j) (low t j)
    (subst (λ i. eqb (s / 2 ^ i % 2) 1 ≡ eqb (t / 2 ^ i % 2) 1) back e))

none : ones 0 ≡ 0
unfolding ones
none = refl

-- The bits above that of board b are the boards before it.
pub place_ones : (s b : ℕ) → s < 256 → b ≤ 8 → ones (s / 2 ^ (8 - b)) ≡ place s b
unfolding place tally
place_ones s zero hs hb = let z : s / 256 ≡ 0 = omega arith in ap ones z ∙ none
place_ones s (suc b) hs hb =
    let here : 8 - suc b ≡ 7 - b = omega arith in
    let next : (7 - b) + 1 ≡ 8 - b = omega arith in
    let x = s / 2 ^ (7 - b) in
    let low_bit : one (member s b) ≡ x % 2 = ap one (member_bit s b hb) ∙ bit (λ a. one (eqb a 1) ≡ a) refl refl (x % 2) (low s (7 - b)) in
    let rest : ones (x / 2) ≡ place s b = ap ones (shr-shr s (7 - b) 1) ∙ ap (λ i. ones (s / 2 ^ i)) next ∙ place_ones s b hs (omega arith) in
    ap (λ i. ones (s / 2 ^ i)) here ∙ ones_step x ∙ omega (arith, low_bit, rest)

pub size_ones : (s : ℕ) → s < 256 → ones s ≡ size s
unfolding size place tally
size_ones s h = let whole : s ≡ s / 1 = omega arith in ap ones whole ∙ place_ones s 8 h (omega arith)

pub size_all : size 255 ≡ 8
unfolding size tally member
size_all = refl
