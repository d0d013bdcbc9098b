-- A tag as a number and as its eight bytes: each tells the other.
-- What stands at a place among whole tags is one whole tag.
use Rattle.std.proofs.Common.{◌≡◌, ℕ, ◌+◌, ◌*◌, ◌/◌, ◌%◌, ◌^◌, ◌<◌, ◌≤◌, List, ◌++◌, length, drop, sym, ap, ◌∙◌, arith}
use Rattle.std.proofs.lemmas.List.{append-nil, length-take-le, length-drop}
use Rattle.grammar.specs.Bits.{bits, bits_of}
use Rattle.grammar.proofs.Bits.{low, number_bits, parts}
use Rattle.wire.specs.Messages.{tag_bytes}
use Rattle.wire.specs.Acts.{tag_at, tag_number}

again : (y : ℕ) → y % 256 ≡ y % 256 % 256
again y = omega arith

-- The top byte of a number, and the rest.
lead : (x n : ℕ) → bits_of (8 + n) x ≡ bits_of 8 (x / 2 ^ n % 256) ++ bits_of n x
lead x n = parts 8 n x ∙ ap (λ l. l ++ bits_of n x) (low 8 (x / 2 ^ n) (x / 2 ^ n % 256) (again (x / 2 ^ n)))

bits_tag : (x : ℕ) → bits (tag_bytes x) ≡ bits_of 64 x
unfolding bits
bits_tag x =
    let b : ℕ → List mathlib.Core.Bool.Bool = λ n. bits_of 8 (x / 2 ^ n % 256) in
    sym (lead x 56 ∙ ap (λ l. b 56 ++ l) (lead x 48 ∙ ap (λ l. b 48 ++ l) (lead x 40 ∙ ap (λ l. b 40 ++ l) (lead x 32 ∙ ap (λ l. b 32 ++ l)
    (lead x 24 ∙ ap (λ l. b 24 ++ l) (lead x 16 ∙ ap (λ l. b 16 ++ l) (lead x 8 ∙ ap (λ l. b 8 ++ l) (low 8 x (x % 256) (again x) ∙ sym (append-nil (bits_of 8 (x % 256)))))))))))

-- The number of a tag's bytes is the tag.
pub number_of_tag_bytes : (x : ℕ) → x < 2 ^ 64 → tag_number (tag_bytes x) ≡ x
unfolding tag_number
number_of_tag_bytes x h = ap Rattle.grammar.specs.Bits.number_of (bits_tag x) ∙ number_bits 64 x ∙ omega arith

pub number_is : (x : ℕ) (t : List ℕ) → x < 2 ^ 64 → tag_bytes x ≡ t → tag_number t ≡ x
number_is x t h e = ap tag_number (sym e) ∙ number_of_tag_bytes x h

pub tag_at_long : (i : ℕ) (t : List ℕ) → 8 * i + 8 ≤ length t → length (tag_at i t) ≡ 8
tag_at_long i t h = length-take-le 8 (drop (8 * i) t) (simp length-drop (omega arith))
