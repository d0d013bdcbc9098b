-- A shift and a mask cut a field out of the two bytes at a reader's place.
-- Laws used: the shelf of bits.
use Rattle.std.proofs.Common.{◌≡◌, ℕ, ◌+◌, ◌-◌, ◌*◌, ◌/◌, ◌%◌, ◌^◌, ◌<◌, ◌≤◌, List, length, get_or, take, drop, sym, ap, ◌∙◌, arith, add-zero, length-drop, get_or-drop}
use Rattle.std.proofs.lemmas.List.{take_rest}
use lib.Bits.{bit_and}
use Rattle.std.proofs.lemmas.Nat.{and_mask, one_shl, mod_below, pow_pos}
use Rattle.reader.specs.declared.place.Reader.{Reader}
use Rattle.reader.specs.Places.{at, src, pair, Got}

masked : (n w : ℕ) → w < 16 → bit_and n ((1 * 2 ^ w) % 65536 - 1) ≡ n % 2 ^ w
masked n w h = ap (λ m. bit_and n (m - 1)) (one_shl w 16 h) ∙ and_mask n w

masked_below : (n w : ℕ) → w < 16 → bit_and n ((1 * 2 ^ w) % 65536 - 1) < 2 ^ w
masked_below n w h = rw (masked n w h) (mod_below n (2 ^ w) (pow_pos w))

-- the bytes from a reader's place on, as the program cuts them off
abbrev pub rest : Reader → List ℕ
rest s = take (length (src s) - s.byte) (drop s.byte (src s))

-- the number in w bits from a reader's place on, of its byte and the next
pub got_pair : (s : Reader) (w high low p : ℕ) → w ≤ 8 → s.bit + w ≤ 8 * length (rest s) → high ≡ get_or (rest s) 0 0 → low ≡ get_or (rest s) 1 0 → p ≡ high * 256 + low → Got s w (bit_and (p / 2 ^ (16 - (s.bit + w))) ((1 * 2 ^ w) % 65536 - 1))
got_pair s w high low p h i e f g =
    let small : w < 16 = omega arith in
    let b = s.byte in
    let q : at s / 8 ≡ b = omega (arith, s.small) in
    let r : at s % 8 ≡ s.bit = omega (arith, s.small) in
    let c = take_rest (src s) b in
    let e' : high ≡ get_or (src s) (b + 0) 0 = e ∙ ap (λ l. get_or l 0 0) c ∙ get_or-drop b (src s) 0 0 in
    let f' : low ≡ get_or (src s) (b + 1) 0 = f ∙ ap (λ l. get_or l 1 0) c ∙ get_or-drop b (src s) 1 0 in
    let both : p ≡ pair (src s) b = g ∙ (λ j. e' j * 256 + f' j) ∙ ap (λ m. get_or (src s) m 0 * 256 + get_or (src s) (b + 1) 0) (add-zero b) in
    record {
      inside = omega (arith, ap length c, length-drop b (src s));
      value = masked _ w small ∙ (λ j. both j / 2 ^ (16 - (s.bit + w)) % 2 ^ w) ∙ (λ j. pair (src s) (sym q j) / 2 ^ (16 - (sym r j + w)) % 2 ^ w);
      below = masked_below _ w small;
    }
