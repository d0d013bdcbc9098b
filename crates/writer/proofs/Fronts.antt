-- The bytes of a head, as the code gets them.
-- They are the first of its four, as many as its fields fill.
use Rattle.std.proofs.Common.{◌≡◌, ℕ, ◌/◌, ◌%◌, List, [], length, take, sym, ap, ◌∙◌, arith}
use Rattle.std.proofs.lemmas.List.{append-nil}
use Rattle.std.proofs.ByRecursion.{All-take}
use Rattle.grammar.specs.Bits.{bits_of, bits, bytes_of}
use Rattle.grammar.proofs.Bits.{length_bits, length_bits_of, bytes_bits}
use Rattle.head.specs.declared.number.Head.{Head}
use Rattle.head.specs.Heads.{BytesOf}
use Rattle.head.proofs.Joins.{first_bits}
use Rattle.layout.specs.Layouts.{head_bytes}

pub head_is : (h : Head) (bs : List ℕ) → h.width % 8 ≡ 0 → BytesOf h bs → take (h.width / 8) bs ≡ head_bytes h
head_is h bs w b =
    let k = h.width / 8 in
    let part = take k bs in
    let form : bits part ≡ bits_of h.width h.number = first_bits h bs w b in
    let long : length part ≡ k = omega (arith, length_bits part, ap length form, length_bits_of h.width h.number) in
    sym (bytes_bits part [] (All-take _ k bs b.fit)) ∙ (λ i. bytes_of (long i) ((append-nil (bits part) ∙ form) i))
