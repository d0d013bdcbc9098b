-- Fields side by side in one number: its bits are those of the fields, one after another.
-- Only the low bits of a value count, so that no value has to be ruled out before it is put beside the others.
use Rattle.std.proofs.Common.{◌≡◌, ℕ, ◌+◌, ◌*◌, ◌/◌, ◌%◌, ◌^◌, ◌<◌, ◌-◌, List, [], ◌∷◌, ◌++◌, take, sym, ap, ◌∙◌, subst, add_comm, arith, take_at}
use Rattle.std.proofs.lemmas.List.{append-nil}
use Rattle.std.proofs.lemmas.Nat.{shr_high, mod_low, mod_below, pow-add, pow_pos, mul-add-lt, shl-shr}
use Rattle.grammar.specs.Bits.{bits_of, bits}
use Rattle.grammar.specs.Grammar.{Item, spell}
use Rattle.grammar.proofs.Bits.{parts, low, bits_take, length_bits_of}
use Rattle.head.specs.declared.number.Head.{Head}
use Rattle.head.specs.Heads.{BytesOf}

pub beside : (a b x y : ℕ) → bits_of (a + b) (x * 2 ^ b + y % 2 ^ b) ≡ bits_of a x ++ bits_of b y
beside a b x y =
    let h = mod_below y (2 ^ b) (pow_pos b) in
    parts a b (x * 2 ^ b + y % 2 ^ b) ∙ (λ i. bits_of a (shr_high x b (y % 2 ^ b) h i) ++ low b (x * 2 ^ b + y % 2 ^ b) y (mod_low x b (y % 2 ^ b) h) i)

pub beside_below : (a w x v : ℕ) → x < 2 ^ a → x * 2 ^ w + v % 2 ^ w < 2 ^ (a + w)
beside_below a w x v h =
    subst (λ m. x * 2 ^ w + v % 2 ^ w < m) (sym (ap (λ m. 2 ^ m) (add_comm a w) ∙ pow-add 2 w a)) (mul-add-lt x (2 ^ w) (v % 2 ^ w) (2 ^ a) h (mod_below v (2 ^ w) (pow_pos w)))

pub spell_num : (w v : ℕ) → spell (Item.num w v ∷ []) ≡ bits_of w v
unfolding spell
spell_num w v = append-nil (bits_of w v)

-- A number's four bytes are its 32 bits.
one_byte : (y : ℕ) → bits_of 8 (y % 256) ≡ bits_of 8 y
one_byte y = let e : y % 256 % 256 ≡ y % 256 = omega arith in low 8 (y % 256) y e

pub four_bytes : (x : ℕ) → bits (x / 16777216 % 256 ∷ x / 65536 % 256 ∷ x / 256 % 256 ∷ x % 256 ∷ []) ≡ bits_of 32 x
unfolding bits
four_bytes x =
    (λ i. one_byte (x / 16777216) i ++ (one_byte (x / 65536) i ++ (one_byte (x / 256) i ++ (append-nil (bits_of 8 (x % 256)) ∙ one_byte x) i)))
    ∙ sym (parts 8 24 x ∙ ap (λ l. bits_of 8 (x / 16777216) ++ l) (parts 8 16 x ∙ ap (λ l. bits_of 8 (x / 65536) ++ l) (parts 8 8 x)))

-- A number moved up by z bits has zeros below.
pub moved_up : (n w z : ℕ) → bits_of (w + z) (n * 2 ^ z) ≡ bits_of w n ++ bits_of z 0
moved_up n w z =
    parts w z (n * 2 ^ z) ∙ (λ i. bits_of w (shl-shr n z i) ++ low z (n * 2 ^ z) 0 (ends n z) i)
  where
    ends : (n z : ℕ) → (n * 2 ^ z) % 2 ^ z ≡ 0 % 2 ^ z
    ends n z = let e : n * 2 ^ z ≡ n * 2 ^ z + 0 = omega arith in let o : ◌≡◌ {A = ℕ} 0 (0 * 2 ^ z + 0) = omega arith in
        ap (λ m. m % 2 ^ z) e ∙ mod_low n z 0 (pow_pos z) ∙ sym (ap (λ m. m % 2 ^ z) o ∙ mod_low 0 z 0 (pow_pos z))

-- The first bytes of a head's four are its fields, if it has whole bytes.
pub first_bits : (h : Head) (bs : List ℕ) → h.width % 8 ≡ 0 → BytesOf h bs → bits (take (h.width / 8) bs) ≡ bits_of h.width h.number
first_bits h bs m b =
    let w : 8 * (h.width / 8) ≡ h.width = omega arith in
    bits_take (h.width / 8) bs ∙ ap (λ n. take n (bits bs)) w ∙ ap (take h.width) b.form
    ∙ take_at (bits_of h.width h.number) (bits_of (32 - h.width) 0) h.width (length_bits_of h.width h.number)
