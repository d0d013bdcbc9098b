-- The bytes that a buffer holds, and when there is one for some bytes.
-- The bytes past those in use count for nothing.
use Rattle.std.specs.Prelude.{◌≡◌, ℕ, ◌<◌, ◌≤◌, List, length, take, replicate, Some, None, Option}
use Rattle.std.proofs.Math.Nat.{le_of_sub-eq-zero, zero-sub}
use Rattle.bounded.specs.declared.Bytes.{Bytes}

-- The bytes in use.
abbrev pub held : {N : ℕ} → Bytes N → List ℕ
held b = take b.len b.bytes

-- A buffer that holds no byte.
abbrev pub nothing : {N : ℕ} → Bytes N
nothing {N} = record { bytes = replicate N 0; len = 0; short = le_of_sub-eq-zero (zero-sub N) }

-- A buffer that holds these bytes, which are at most N; none exactly if they are more.
abbrev pub Holding : {N : ℕ} → List ℕ → Option (Bytes N) → Type 0
Holding {N} w (Some b) = (held b ≡ w) × (length w ≤ N)
Holding {N} w None = N < length w
