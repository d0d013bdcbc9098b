-- Reading hexadecimal: byte by byte, and after writing.
-- The digits of the sixteen numbers are tried one by one.
use Rattle.std.proofs.Common.{◌≡◌, ℕ, suc, ◌+◌, ◌*◌, ◌/◌, ◌%◌, ◌<◌, true, cond, ◌&&◌, eqb, List, [], ◌∷◌, ◌++◌, length, get_or, Ok, Err, Result, IsErr, vec_items, sym, refl, ap, ◌∙◌, append_assoc, append-nil, arith, length-append}
use Rattle.std.proofs.lemmas.Bool.{eqb-true, and_parts}
use Rattle.std.specs.declared.alloc.AllocError.{AllocError}
use Rattle.boards.specs.Boards.{every}
use Rattle.boards.proofs.Chosen.{every_at}
use Rattle.script.specs.Texts.{hex, hex_digit}
use Rattle.script.specs.Words.{lead, hex_sign}
use Rattle.script.specs.Lines.{Line, Wrote, Adds}
use Rattle.script.specs.Hex.{nibble, read_hex, Undone}
use Rattle.script.proofs.Chains.{Has, has_more, adds_not}

-- a digit is read as the number that it was written for
digit_back : (d : ℕ) → d < 16 → (hex_sign (hex_digit d) ≡ true) × (nibble (hex_digit d) ≡ d)
unfolding every
digit_back d h =
    let both = every_at (λ k. hex_sign (hex_digit k) && eqb (nibble (hex_digit k)) k) 16 d refl h in
    let parts = and_parts (hex_sign (hex_digit d)) (eqb (nibble (hex_digit d)) d) both in
    (parts.0, eqb-true (nibble (hex_digit d)) d parts.1)

pub undone : Undone
unfolding hex read_hex lead
undone [] all = (record { digits = refl; paired = refl }, refl)
undone (b ∷ bs) all =
    let rest = undone bs all.1 in
    let small : b < 256 = all.0 in
    let high = digit_back (b / 16) (omega arith) in
    let low = digit_back (b % 16) (omega arith) in
    let front = lead hex_sign (hex bs) in
    let byte : 16 * nibble (hex_digit (b / 16)) + nibble (hex_digit (b % 16)) ≡ b = omega (arith, high.1, low.1) in (
      record {
        digits =
            ap (λ v. cond v (suc (cond (hex_sign (hex_digit (b % 16))) (suc front) 0)) 0) high.0
            ∙ ap (λ v. suc (cond v (suc front) 0)) low.0 ∙ ap (λ n. suc (suc n)) rest.0.digits;
        paired = omega (arith, rest.0.paired);
      },
      λ i. byte i ∷ rest.1 i,
    )

-- line b has what the digits before the rest stand for
pub record ReadSo (a : Line) (ds rest : List ℕ) (b : Line) : Type 0 where
  pub text : List ℕ
  pub has : Has a text b
  pub left : read_hex ds ≡ text ++ read_hex rest

read_pair : (p rest : List ℕ) → length p ≡ 2 → read_hex (p ++ rest) ≡ (16 * nibble (get_or p 0 0) + nibble (get_or p 1 0)) ∷ read_hex rest
unfolding read_hex
read_pair [] rest e = absurd (omega (arith, e))
read_pair (x ∷ []) rest e = absurd (omega (arith, e))
read_pair (x ∷ y ∷ []) rest e = refl
read_pair (x ∷ y ∷ z ∷ zs) rest e = absurd (omega (arith, e))

left_more : {rest : List ℕ} {x y : ℕ} (ds rest2 text p : List ℕ) → read_hex ds ≡ text ++ read_hex rest → rest ≡ p ++ rest2 → length p ≡ 2 → x ≡ nibble (get_or p 0 0) → y ≡ nibble (get_or p 1 0) → read_hex ds ≡ (text ++ (16 * x + y) ∷ []) ++ read_hex rest2
left_more {x = x} {y} ds rest2 text p left is two ex ey =
    left ∙ ap (λ t. text ++ read_hex t) is ∙ ap (λ t. text ++ t) (read_pair p rest2 two ∙ sym (λ i. (16 * ex i + ey i) ∷ read_hex rest2))
    ∙ sym (append_assoc text ((16 * x + y) ∷ []) (read_hex rest2))

-- two digits more
pub read_more : {a b c : Line} {ds rest : List ℕ} {x y : ℕ} (rest2 p : List ℕ) → ReadSo a ds rest b → rest ≡ p ++ rest2 → length p ≡ 2 → x ≡ nibble (get_or p 0 0) → y ≡ nibble (get_or p 1 0) → Wrote b ((16 * x + y) ∷ []) (Ok tt) c → ReadSo a ds rest2 c
read_more {ds = ds} {x = x} {y} rest2 p so is two ex ey w =
    record { text = so.text ++ (16 * x + y) ∷ []; has = has_more so.has w refl; left = left_more ds rest2 so.text p so.left is two ex ey }

-- memory is wanting for one byte more
pub read_not : {a b c : Line} {rest : List ℕ} {x y : ℕ} {e : AllocError} (ds rest2 p : List ℕ) (r : Result Line AllocError) → ReadSo a ds rest b → rest ≡ p ++ rest2 → length p ≡ 2 → x ≡ nibble (get_or p 0 0) → y ≡ nibble (get_or p 1 0) → Wrote b ((16 * x + y) ∷ []) (Err e) c → IsErr r → Adds a (read_hex ds) r
read_not {x = x} {y} ds rest2 p r so is two ex ey w err =
    let long = ap length (left_more ds rest2 so.text p so.left is two ex ey) in
    adds_not (read_hex ds) r so.has w
    (omega (arith, long, length-append (so.text ++ (16 * x + y) ∷ []) (read_hex rest2), length-append so.text ((16 * x + y) ∷ []))) err

read_short : (ds : List ℕ) → length ds < 2 → read_hex ds ≡ []
unfolding read_hex
read_short [] h = refl
read_short (a ∷ []) h = refl
read_short (a ∷ b ∷ ds) h = absurd (omega arith)

-- all that make two
pub read_all : {a b : Line} {ds : List ℕ} (rest : List ℕ) → ReadSo a ds rest b → length rest < 2 → vec_items b ≡ vec_items a ++ read_hex ds
read_all {a} rest so h =
    so.has.held ∙ ap (λ t. vec_items a ++ t) (sym (so.left ∙ ap (λ t. so.text ++ t) (read_short rest h) ∙ append-nil so.text))
