-- The laws of the shares, for any number of members: what the layers above need of `share` and `quorum`.
-- Only this file opens the two definitions.
use Rattle.std.proofs.Common.{◌≡◌, ℕ, ◌+◌, ◌-◌, ◌*◌, ◌/◌, ◌<◌, ◌≤◌, refl, arith}
use Rattle.views.specs.Shares.{share, quorum}

pub share_is : (n : ℕ) → share n ≡ (n - 1) / 3
unfolding share
share_is n = refl

-- Fewer than all may be faulty.
pub share_below : (n : ℕ) → 1 ≤ n → share n < n
share_below n h = omega (arith, share_is n)

-- Those that may be faulty and a quorum are all.
pub quorum_rest : (n : ℕ) → quorum n + share n ≡ n
unfolding quorum
quorum_rest n = omega (arith, share_is n)

pub quorum_ceiling : (n : ℕ) → 1 ≤ n → quorum n ≡ (2 * n + 1 + 2) / 3
quorum_ceiling n h = omega (arith, share_is n, quorum_rest n)

-- Two quorums of n members have more of them in common than may be faulty.
pub overlap : (n : ℕ) → 1 ≤ n → n + share n < 2 * quorum n
overlap n h = omega (arith, share_is n, quorum_rest n)

pub quorum_le : (n : ℕ) → quorum n ≤ n
quorum_le n = omega (arith, quorum_rest n)

-- A quorum has a member that is not faulty.
pub quorum_above : (n : ℕ) → 1 ≤ n → share n < quorum n
quorum_above n h = omega (arith, share_is n, quorum_rest n)
