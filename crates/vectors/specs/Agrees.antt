-- What it means that a published vector agrees with a hash.
-- A vector has the length of its message and the result twice, as eight bytes and as a number.
use Rattle.std.specs.Prelude.{ℕ, Bool, ◌&&◌, List, length, take, ◌==◌, nat_le}
use Rattle.siphash.specs.SipHash.{siphash_2_4}
use Rattle.vectors.specs.declared.Vector.{Vector}

-- The message is long enough, and the hash of its first bytes is the result.
abbrev pub agrees : List ℕ → List ℕ → Vector → Bool
agrees key message v = nat_le v.length (length message) && siphash_2_4 key (take v.length message) == v.result
