-- A reader's fields are the numbers of its bits: the one bridge from bytes and shifts to the bits of the format.
-- Laws used: grammar's Bits and Steps.
use Rattle.std.proofs.Common.{◌≡◌, ℕ, ◌+◌, ◌-◌, ◌*◌, ◌/◌, ◌%◌, ◌^◌, ◌<◌, ◌≤◌, Bool, true, false, List, [], ◌∷◌, ◌++◌, length, get_or, take, drop, Ok, Err, sym, ap, ◌∙◌, add-zero, arith, length-drop, take-append-drop, drop_of_length-le, length-take-le, get_or-drop, drop-drop, take_at, drop_at, Bor}
use lib.Seq.{take-append-le, drop-append-le}
use Rattle.std.specs.List.{All}
use Rattle.std.proofs.lemmas.List.{append_assoc, append-nil}
use Rattle.std.proofs.lemmas.List.Elements.{All-from_get_or, All-take, All-drop, recursion_from_All}
use Rattle.grammar.specs.declared.fault.Fault.{Fault}
use Rattle.grammar.specs.declared.fault.Layer.TheVariants.{Bytes, Field}
use Rattle.grammar.specs.Bits.{bits_of, number_of, bits, bytes_of}
use Rattle.grammar.specs.Grammar.{Grammar, Item, outcome, more, fault}
use Rattle.grammar.proofs.Bits.{length_bits_of, length_bits, number_bits, bytes_bits, parts, low, bits_append, drop_bits}
use Rattle.grammar.proofs.Steps.{field_short, field_bad, field_good, part_short, part_good, done_good, done_over}
use Rattle.reader.specs.declared.place.Reader.{Reader}
use Rattle.reader.specs.Places.{at, src, met, pair, missing, refused, Got, Moved, Read, Refused, Part, Found, Cut}

-- the w bits from bit r on of a number of 16 bits
cut : (r w n : ℕ) (rest : List Bool) → r + w ≤ 16 → take w (drop r (bits_of 16 n ++ rest)) ≡ bits_of w (n / 2 ^ (16 - (r + w)))
cut r w n rest h =
    let z = 16 - (r + w) in
    let e : 16 ≡ r + (w + z) = omega arith in
    let split : bits_of 16 n ≡ bits_of r (n / 2 ^ (w + z)) ++ (bits_of w (n / 2 ^ z) ++ bits_of z n) =
    ap (λ m. bits_of m n) e ∙ parts r (w + z) n ∙ ap (λ l. bits_of r (n / 2 ^ (w + z)) ++ l) (parts w z n) in
    let x = bits_of r (n / 2 ^ (w + z)) in
    let y = bits_of w (n / 2 ^ z) in
    ap (λ l. take w (drop r (l ++ rest))) split
    ∙ ap (λ l. take w (drop r l)) (append_assoc x (y ++ bits_of z n) rest)
    ∙ ap (take w) (drop_at x ((y ++ bits_of z n) ++ rest) r (length_bits_of r _))
    ∙ ap (take w) (append_assoc y (bits_of z n) rest)
    ∙ take_at y (bits_of z n ++ rest) w (length_bits_of w _)

two : (a b : ℕ) → b < 256 → bits_of 8 a ++ bits_of 8 b ≡ bits_of 16 (a * 256 + b)
two a b h =
    let q : (a * 256 + b) / 256 ≡ a = omega arith in
    let m : (a * 256 + b) % 256 ≡ b % 256 = omega arith in
    sym (parts 8 8 (a * 256 + b) ∙ (λ i. bits_of 8 (q i) ++ low 8 (a * 256 + b) b m i))

number_at : (cs : List ℕ) (r w : ℕ) → 1 ≤ w → r + w ≤ 8 * length cs → r + w ≤ 16 → get_or cs 1 0 < 256 → number_of (take w (drop r (bits cs))) ≡ (get_or cs 0 0 * 256 + get_or cs 1 0) / 2 ^ (16 - (r + w)) % 2 ^ w
unfolding bits
number_at [] r w one h k f = absurd (omega arith)
number_at (a ∷ []) r w one h k f =
    let l = length_bits_of 8 a in
    let d : drop r (bits_of 8 a ++ bits_of 8 0) ≡ drop r (bits_of 8 a) ++ bits_of 8 0 = drop-append-le r (bits_of 8 a) (bits_of 8 0) (omega arith) in
    let t : take w (drop r (bits_of 8 a) ++ bits_of 8 0) ≡ take w (drop r (bits_of 8 a)) = take-append-le w (drop r (bits_of 8 a)) (bits_of 8 0) (simp length-drop (omega arith)) in
    ap (λ x. number_of (take w (drop r x))) (append-nil (bits_of 8 a)) ∙ ap number_of (sym t ∙ ap (take w) (sym d) ∙ ap (λ x. take w (drop r x)) (two a 0 (omega arith) ∙ sym (append-nil _)) ∙ cut r w (a * 256 + 0) [] k)
    ∙ number_bits w _
number_at (a ∷ b ∷ cs) r w one h k f =
    ap (λ x. number_of (take w (drop r x))) (sym (append_assoc (bits_of 8 a) (bits_of 8 b) (bits cs)) ∙ ap (λ l. l ++ bits cs) (two a b f))
    ∙ ap number_of (cut r w (a * 256 + b) (bits cs) k) ∙ number_bits w _

left_bits : (s : Reader) → drop (at s) (bits (src s)) ≡ drop s.bit (bits (drop s.byte (src s)))
left_bits s = sym (drop-drop s.bit (8 * s.byte) (bits (src s))) ∙ ap (drop s.bit) (drop_bits s.byte (src s))

pub got_number : {s : Reader} {w v : ℕ} → 1 ≤ w → w ≤ 8 → Got s w v → v ≡ number_of (take w (drop (at s) (bits (src s))))
got_number {s} {w} {v} o h g =
    let q : at s / 8 ≡ s.byte = omega (arith, s.small) in
    let r : at s % 8 ≡ s.bit = omega (arith, s.small) in
    let cs = drop s.byte (src s) in
    let c0 : get_or cs 0 0 ≡ get_or (src s) s.byte 0 = get_or-drop s.byte (src s) 0 0 ∙ ap (λ i. get_or (src s) i 0) (add-zero s.byte) in
    let c1 : get_or cs 1 0 ≡ get_or (src s) (s.byte + 1) 0 = get_or-drop s.byte (src s) 1 0 in
    let long : s.bit + w ≤ 8 * length cs = simp length-drop (omega (arith, s.inside, g.inside)) in
    let n = number_at cs s.bit w o long (omega (arith, s.small)) (omega (arith, c1, s.fit (s.byte + 1))) in
    g.value ∙ (λ i. pair (src s) (q i) / 2 ^ (16 - (r i + w)) % 2 ^ w)
    ∙ (λ i. (sym c0 i * 256 + sym c1 i) / 2 ^ (16 - (s.bit + w)) % 2 ^ w) ∙ sym n ∙ ap (λ l. number_of (take w l)) (sym (left_bits s))

left_long : (s : Reader) → length (drop (at s) (bits (src s))) ≡ 8 * length (src s) - at s
left_long s = length-drop (at s) (bits (src s)) ∙ ap (λ n. n - at s) (length_bits (src s))

pub got_on : {s t : Reader} {w v : ℕ} (ok : ℕ → Bool) → 1 ≤ w → w ≤ 8 → Got s w v → Moved s w t → ok v ≡ true → Read w ok s v t
unfolding met Found
got_on {s} {t} {w} {v} ok o h g m e =
    let n = got_number o h g in
    let bs = drop (at s) (bits (src s)) in
    let d : drop w bs ≡ drop (at t) (bits (src t)) = drop-drop w (at s) (bits (src s)) ∙ (λ i. drop (sym m.1 i) (bits (sym m.0 i))) in
    record {
      on = λ k. field_good w ok k bs (at s) (omega (arith, left_long s, g.inside)) (ap ok (sym n) ∙ e)
          ∙ (λ i. more (Item.num w (sym n i) ∷ []) (outcome (k (sym n i)) (d i) (sym m.1 i)));
      allowed = e;
      moved = m.1;
      found = (g.value, m.0);
    }

pub got_bad : {s : Reader} {w v : ℕ} (ok : ℕ → Bool) → 1 ≤ w → w ≤ 8 → Got s w v → ok v ≡ false → {f : Fault} → f ≡ refused s → Refused w ok s f
unfolding met
got_bad {s} {w} {v} ok o h g e {f} x k =
    let q : at s / 8 ≡ s.byte = omega (arith, s.small) in
    field_bad w ok k _ (at s) (omega (arith, left_long s, g.inside)) (ap ok (sym (got_number o h g)) ∙ e) ∙ ap (λ n. Err (fault Field n)) q ∙ ap (λ n. Err n) (sym x)

pub none_left : (s : Reader) (w : ℕ) (ok : ℕ → Bool) → 1 ≤ w → {f : Fault} → (8 * length (src s) < at s + w) × (f ≡ missing s) → Refused w ok s f
unfolding met
none_left s w ok o {f} h k =
    let l = left_long s in
    let q : (at s + length (drop (at s) (bits (src s)))) / 8 ≡ length (src s) = omega (arith, l, s.small, s.inside, h.0) in
    field_short w ok k _ (at s) (omega (arith, l, h.0)) ∙ ap (λ n. Err (fault Bytes n)) q ∙ ap (λ n. Err n) (sym h.1)

pub all_bytes : (xs : List ℕ) → ((i : ℕ) → get_or xs i 0 < 256) → All (λ x. x < 256) xs
all_bytes xs h = All-from_get_or (λ x. x < 256) xs 0 (λ i _. h i)

pub part_on : (n m : ℕ) (s : Reader) (v : Bor (List ℕ)) (t : Reader) → s.bit ≡ 0 → n ≤ length (src s) - s.byte → m ≡ n → v.now ≡ take m (drop s.byte (src s)) → src t ≡ src s → t.byte ≡ s.byte + n → t.bit ≡ s.bit → Part n s v t
unfolding met Cut
part_on n m s v t z h mn is same byte bit =
    let bs = drop (at s) (bits (src s)) in
    let cs = drop s.byte (src s) in
    let moved : at t ≡ at s + 8 * n = omega arith in
    let room : n ≤ length cs = simp length-drop (omega arith) in
    let is' : v.now ≡ take n cs = is ∙ ap (λ j. take j cs) mn in
    let cut : bs ≡ bits (take n cs) ++ bits (drop n cs) =
    left_bits s ∙ ap (λ j. drop j (bits cs)) z ∙ ap bits (sym (take-append-drop n cs)) ∙ bits_append (take n cs) (drop n cs) in
    let len : length (take n cs) ≡ n = length-take-le n cs room in
    let all = recursion_from_All _ _ (All-take (λ x. x < 256) n cs (All-drop (λ x. x < 256) s.byte (src s) (all_bytes (src s) s.fit))) in
    let x : bytes_of n bs ≡ v.now =
    (λ i. bytes_of (sym len i) (cut i)) ∙ bytes_bits (take n cs) (bits (drop n cs)) all ∙ sym is' in
    let d : drop (8 * n) bs ≡ drop (at t) (bits (src t)) = drop-drop (8 * n) (at s) (bits (src s)) ∙ (λ i. drop (sym moved i) (bits (sym same i))) in
    record {
      on = λ k. part_good n k bs (at s) (omega (arith, left_long s, s.inside)) ∙ (λ i. more (Item.raw (x i) ∷ []) (outcome (k (x i)) (d i) (sym moved i)));
      moved = moved;
      long = ap length is' ∙ len;
      found = (is', same);
    }

pub part_gone : (n : ℕ) (s : Reader) → s.bit ≡ 0 → length (src s) - s.byte < n → {f : Fault} → f ≡ missing s → (k : List ℕ → Grammar) → met (Grammar.part n k) s ≡ Err f
unfolding met
part_gone n s z h {f} x k =
    let l = left_long s in
    let q : (at s + length (drop (at s) (bits (src s)))) / 8 ≡ length (src s) = omega (arith, l, s.inside) in
    part_short n k _ (at s) (omega (arith, l, s.inside)) ∙ ap (λ m. Err (fault Bytes m)) q ∙ ap (λ m. Err m) (sym x)

pub over : (s : Reader) → s.bit ≡ 0 → s.byte < length (src s) → met Grammar.done s ≡ Err (fault Bytes s.byte)
unfolding met
over s z h =
    let q : at s / 8 ≡ s.byte = omega arith in
    done_over _ (at s) (omega (arith, left_long s)) ∙ ap (λ m. Err (fault Bytes m)) q

pub all_read : (s : Reader) → length (src s) ≤ s.byte → met Grammar.done s ≡ Ok []
unfolding met
all_read s h = ap (λ l. outcome Grammar.done l (at s)) (drop_of_length-le (bits (src s)) (omega (arith, length_bits (src s)))) ∙ done_good (at s)
