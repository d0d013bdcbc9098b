-- Bits packed into bytes, and bytes known by their bits.
-- Whole bytes that spell items are the packed items, and items of whole bytes are spelt by them.
use Rattle.std.proofs.Common.{◌≡◌, ℕ, ◌*◌, ◌/◌, ◌%◌, ◌<◌, List, [], length, sym, ap, ◌∙◌, arith, take_all}
use Rattle.std.specs.List.{AllByRecursion}
use Rattle.std.proofs.lemmas.List.{append-nil}
use Rattle.grammar.specs.Bits.{bits, bytes_of}
use Rattle.grammar.specs.Grammar.{Item, spell}
use Rattle.grammar.proofs.Bits.{length_bits, bytes_bits, bits_bytes, length_bytes_of, bytes_fit}
use Rattle.wire.specs.Format.{packed}

pub packed_is : (bs : List ℕ) (is : List Item) → AllByRecursion (λ x. x < 256) bs → bits bs ≡ spell is → bs ≡ packed is
unfolding packed
packed_is bs is a e =
    let n : length (spell is) / 8 ≡ length bs = omega (arith, ap length (sym e), length_bits bs) in
    sym ((λ i. bytes_of (n i) (sym e i)) ∙ ap (bytes_of (length bs)) (sym (append-nil (bits bs))) ∙ bytes_bits bs [] a)

pub packed_fit : (is : List Item) → AllByRecursion (λ x. x < 256) (packed is)
unfolding packed
packed_fit is = bytes_fit (length (spell is) / 8) (spell is) (omega arith)

pub length_packed : (is : List Item) → length (packed is) ≡ length (spell is) / 8
unfolding packed
length_packed is = length_bytes_of (length (spell is) / 8) (spell is)

pub packed_whole : (is : List Item) → length (spell is) % 8 ≡ 0 → bits (packed is) ≡ spell is
unfolding packed
packed_whole is h =
    bits_bytes (length (spell is) / 8) (spell is) (omega arith) ∙ take_all (8 * (length (spell is) / 8)) (spell is) (omega arith)
