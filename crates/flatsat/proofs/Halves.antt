-- Digits stand for half as many bytes.
-- So the digits of eight keys are those of 128 bytes.
use Rattle.std.proofs.Common.{◌≡◌, ℕ, ◌+◌, ◌*◌, ◌≤◌, List, [], ◌∷◌, length, take, drop, ◌/◌, ap, ◌∙◌, arith}
use Rattle.std.proofs.lemmas.List.{drop-drop}
use Rattle.std.specs.Simd.{first_chunks}
use Rattle.script.specs.Hex.{read_hex}
use Rattle.flatsat.specs.Audits.{keys_of}

halved : (ds : List ℕ) → (2 * length (read_hex ds) ≤ length ds) × (length ds ≤ 2 * length (read_hex ds) + 1)
unfolding read_hex
halved [] = (omega arith, omega arith)
halved (a ∷ []) = (omega arith, omega arith)
halved (a ∷ b ∷ ds) =
    let h = halved ds in
    (omega (arith, h.0), omega (arith, h.1))

pub eight_keys : (ds bs : List ℕ) → length ds ≡ 256 → bs ≡ read_hex ds → length bs ≡ 128
eight_keys ds bs e is = omega (arith, e, ap length is, (halved ds).0, (halved ds).1)

-- and the keys are the first eight pieces of 16 bytes
pub eight_pieces : {ks : List (List ℕ)} (bs : List ℕ) → length bs ≡ 128 → ks ≡ take 8 (first_chunks 16 (length bs / 16) bs) → ks ≡ keys_of bs
eight_pieces bs e is =
    let two = drop-drop 16 16 bs in
    let three = ap (drop 16) two ∙ drop-drop 16 32 bs in
    let four = ap (drop 16) three ∙ drop-drop 16 48 bs in
    let five = ap (drop 16) four ∙ drop-drop 16 64 bs in
    let six = ap (drop 16) five ∙ drop-drop 16 80 bs in
    let seven = ap (drop 16) six ∙ drop-drop 16 96 bs in
    is
    ∙ ap (λ n. take 8 (first_chunks 16 (n / 16) bs)) e
    ∙ (λ i. take 16 bs ∷ take 16 (drop 16 bs) ∷ take 16 (two i) ∷ take 16 (three i) ∷ take 16 (four i) ∷ take 16 (five i) ∷ take 16 (six i) ∷ take 16 (seven i) ∷ [])
