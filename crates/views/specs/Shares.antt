-- The shares of a view of n members: how many of them may be faulty, f, and how many make a quorum, Q.
-- `Rule` is what the table of shares keeps; the layers above say `share` and `quorum`.
use Rattle.std.specs.Prelude.{◌≡◌, ℕ, ◌+◌, ◌-◌, ◌*◌, ◌/◌, ◌<◌, ◌≤◌, List, slice_index_or}
use Rattle.views.specs.declared.shares.Share.{Share}

-- Of n members at most ⌊(n - 1) / 3⌋ may be faulty.
unfoldable pub share : ℕ → ℕ
share n = (n - 1) / 3

-- A quorum is all of n members but as many as may be faulty.
unfoldable pub quorum : ℕ → ℕ
quorum n = n - share n

-- The shares of n members.
pub record Shared (n : ℕ) (s : Share) : Type 0 where
  pub faulty : s.f ≡ share n
  pub enough : s.q ≡ quorum n

-- The rule of the shares: f is ⌊(n - 1) / 3⌋, Q is ⌈(2n + 1) / 3⌉ and n - f, and 2Q - n is above f.
pub record Rule (n : ℕ) (s : Share) : Type 0 where
  pub floor : s.f ≡ (n - 1) / 3
  pub ceiling : s.q ≡ (2 * n + 1 + 2) / 3
  pub rest : s.q ≡ n - s.f
  pub overlap : n + s.f < 2 * s.q

abbrev no_share : Share
no_share = record { f = 0; q = 0 }

-- A table of the shares of 1 to 8 members, one after another, keeps the rule at each of them.
abbrev pub Lawful : List Share → Type 0
Lawful t = (n : ℕ) → 1 ≤ n → n ≤ 8 → Rule n (slice_index_or t (n - 1) no_share)
