-- SipHash-2-4 over lists of bytes: key and message to a number of 64 bits.
-- Two rounds for each word of the message and four to finish, on a state of four words.
use Rattle.std.specs.Prelude.{ℕ, ◌+◌, ◌-◌, ◌*◌, ◌/◌, ◌%◌, ◌^◌, List, [], ◌∷◌, ◌++◌, fold, map, length, take, drop, bit_or, bit_xor}
use Rattle.std.specs.Simd.{first_chunks}
use Rattle.siphash.specs.declared.State.{State}

-- Addition of words of 64 bits.
abbrev pub plus : ℕ → ℕ → ℕ
plus a b = (a + b) % 2 ^ 64

-- A word of 64 bits rotated left by k, from 1 to 63.
abbrev pub rotl : ℕ → ℕ → ℕ
rotl a k = bit_or (a * 2 ^ k % 2 ^ 64) (a / 2 ^ (64 - k))

-- The state with these four words.
abbrev pub state : ℕ → ℕ → ℕ → ℕ → State
state v0 v1 v2 v3 = record { v0 = v0; v1 = v1; v2 = v2; v3 = v3 }

-- Bytes as a number, the lowest first.
unfoldable pub little : List ℕ → ℕ
little [] = 0
little (b ∷ bs) = b + 256 * little bs

-- The state at the start: the two halves of the key, each under two constants.
abbrev pub initial : List ℕ → State
initial key =
    let k0 = little (take 8 key) in
    let k1 = little (drop 8 key) in
    state (bit_xor k0 0x736f6d6570736575) (bit_xor k1 0x646f72616e646f6d) (bit_xor k0 0x6c7967656e657261) (bit_xor k1 0x7465646279746573)

-- SipRound: sums, rotations and exclusive ors across the four words.
abbrev pub sip_round : State → State
sip_round v =
    let a0 = plus v.v0 v.v1 in
    let a2 = plus v.v2 v.v3 in
    let a1 = bit_xor (rotl v.v1 13) a0 in
    let a3 = bit_xor (rotl v.v3 16) a2 in
    let b2 = plus a2 a1 in
    let b0 = plus (rotl a0 32) a3 in
    let b1 = bit_xor (rotl a1 17) b2 in
    let b3 = bit_xor (rotl a3 21) b0 in
    state b0 b1 (rotl b2 32) b3

-- One word of the message taken in: into v3, two rounds, into v0.
abbrev pub compress : State → ℕ → State
compress v m =
    let w = sip_round (sip_round (state v.v0 v.v1 v.v2 (bit_xor v.v3 m))) in
    state (bit_xor w.v0 m) w.v1 w.v2 w.v3

-- Words taken in one after another.
unfoldable pub compressed : State → List ℕ → State
compressed v ms = fold compress v ms

-- The result: 0xff into v2, four rounds, and all four words together.
unfoldable pub finished : State → ℕ
finished v =
    let w = sip_round (sip_round (sip_round (sip_round (state v.v0 v.v1 (bit_xor v.v2 0xff) v.v3)))) in
    bit_xor (bit_xor (bit_xor w.v0 w.v1) w.v2) w.v3

-- The last word of a message: its bytes past the whole words, at most seven, and its size mod 256 as the top byte.
abbrev pub last_word : List ℕ → ℕ → ℕ
last_word rest size = little rest + size % 256 * 2 ^ 56

-- A message as words: eight bytes each, and the last word.
unfoldable pub parsed : List ℕ → List ℕ
parsed m =
    let whole = length m / 8 in
    map little (first_chunks 8 whole m) ++ (last_word (drop (8 * whole) m) (length m) ∷ [])

-- SipHash-2-4 of a message under a key of 16 bytes.
abbrev pub siphash_2_4 : List ℕ → List ℕ → ℕ
siphash_2_4 key m = finished (compressed (initial key) (parsed m))
