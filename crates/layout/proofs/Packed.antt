-- Bytes and their bits.
-- A byte and a run of bytes as items; a head's bytes have its bits.
use Rattle.std.proofs.Common.{◌≡◌, ℕ, ◌*◌, ◌/◌, ◌%◌, List, [], ◌∷◌, length, sym, refl, ◌∙◌, arith, take_all}
use Rattle.std.proofs.lemmas.List.{append-nil}
use Rattle.grammar.specs.Bits.{bits_of, bits}
use Rattle.grammar.specs.Grammar.{Item, spell}
use Rattle.grammar.proofs.Bits.{length_bits_of, bits_bytes, bytes_fit, length_bytes_of}
use Rattle.head.specs.declared.number.Head.{Head}
use Rattle.layout.specs.Measures.{Bytes}
use Rattle.layout.specs.Layouts.{head_bytes}

pub byte : (v : ℕ) → bits (v ∷ []) ≡ spell (Item.num 8 v ∷ [])
unfolding bits spell
byte v = refl

pub bytes : (xs : List ℕ) → bits xs ≡ spell (Item.raw xs ∷ [])
unfolding spell
bytes xs = sym (append-nil (bits xs))

-- the bytes of a head have its bits
pub head_bits : (h : Head) → h.width % 8 ≡ 0 → bits (head_bytes h) ≡ bits_of h.width h.number
head_bits h w =
    let n : 8 * (h.width / 8) ≡ h.width = omega arith in
    let bs = bits_of h.width h.number in
    bits_bytes (h.width / 8) bs (omega (arith, length_bits_of h.width h.number)) ∙ take_all (8 * (h.width / 8)) bs (omega (arith, length_bits_of h.width h.number))

pub head_fit : (h : Head) → Bytes (head_bytes h)
head_fit h = bytes_fit (h.width / 8) (bits_of h.width h.number) (omega (arith, length_bits_of h.width h.number))

pub head_long : (h : Head) → length (head_bytes h) ≡ h.width / 8
head_long h = length_bytes_of (h.width / 8) (bits_of h.width h.number)
