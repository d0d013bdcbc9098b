-- Bytes as words: a number of eight bytes or fewer, and a message cut into blocks.
-- Lemmas on lists for `key_words`, `number` and `absorb`.
use Rattle.std.proofs.Common.{◌≡◌, ℕ, zero, suc, ◌+◌, ◌*◌, ◌/◌, ◌^◌, ◌<◌, ◌≤◌, List, [], ◌∷◌, ◌++◌, length, get_or, take, drop, replicate, refl, ap, ◌∙◌, pow-suc, arith, length-drop}
use native.Mathlib.Nat.{one-le-pow}
use Rattle.std.proofs.lemmas.List.{drop_more, drop_all, take_all}
use Rattle.std.specs.Simd.{first_chunks}
use Rattle.siphash.specs.SipHash.{little}

little_more : (xs : List ℕ) (i : ℕ) → i < length xs → little (drop i xs) ≡ get_or xs i 0 + 256 * little (drop (i + 1) xs)
unfolding little
little_more xs i h = ap little (drop_more xs i 0 h)

little_none : (xs : List ℕ) (i : ℕ) → length xs ≤ i → little (drop i xs) ≡ 0
unfolding little
little_none xs i h = ap little (drop_all i xs h)

-- Eight bytes as a sum.
pub little_eight : (xs : List ℕ) → length xs ≡ 8
    → get_or xs 0 0 + get_or xs 1 0 * 256 + get_or xs 2 0 * 65536 + get_or xs 3 0 * 16777216 + get_or xs 4 0 * 4294967296 + get_or xs 5 0 * 1099511627776 + get_or xs 6 0 * 281474976710656 + get_or xs 7 0 * 72057594037927936 ≡ little xs
little_eight xs h =
    omega (
      arith,
      little_more xs 0 (omega arith),
      little_more xs 1 (omega arith),
      little_more xs 2 (omega arith),
      little_more xs 3 (omega arith),
      little_more xs 4 (omega arith),
      little_more xs 5 (omega arith),
      little_more xs 6 (omega arith),
      little_more xs 7 (omega arith),
      little_none xs 8 (omega arith),
    )

-- Null bytes at the end add nothing.
pub little_zeros : (xs : List ℕ) (n : ℕ) → little (xs ++ replicate n 0) ≡ little xs
unfolding little
little_zeros [] zero = refl
little_zeros [] (suc n) = let e = little_zeros [] n in omega (arith, e)
little_zeros (x ∷ xs) n = ap (λ k. x + 256 * k) (little_zeros xs n)

-- Bytes are a number below a power of 256.
pub little_below : (xs : List ℕ) (n : ℕ) → length xs ≤ n → ((i : ℕ) → get_or xs i 0 < 256) → little xs < 256 ^ n
unfolding little
little_below [] n h fit = one-le-pow n 256 (omega arith)
little_below (x ∷ xs) zero h fit = absurd (omega arith)
little_below (x ∷ xs) (suc n) h fit =
    let more = little_below xs n (omega arith) (λ i. fit (suc i)) in
    let first : x < 256 = fit 0 in
    rw pow-suc (omega (arith, more))

-- The two blocks of a key.
pub front_half : (key : List ℕ) → length key ≡ 16 → get_or (first_chunks 8 (length key / 8) key) 0 [] ≡ take 8 key
front_half key h =
    let two : length key / 8 ≡ 2 = omega arith in
    ap (λ n. get_or (first_chunks 8 n key) 0 []) two

pub back_half : (key : List ℕ) → length key ≡ 16 → get_or (first_chunks 8 (length key / 8) key) 1 [] ≡ drop 8 key
back_half key h =
    let two : length key / 8 ≡ 2 = omega arith in
    ap (λ n. get_or (first_chunks 8 n key) 1 []) two ∙ take_all 8 (drop 8 key) (simp length-drop (omega arith))
