-- A search over the eight boards tells whether some board passes a test.
-- One law, for the searches of this crate.
use Rattle.std.proofs.Common.{◌≡◌, ℕ, Bool}
use Rattle.std.proofs.Math.Bool.{or_assoc, or-false}
use Rattle.std.specs.List.{list_any, range_with_len}
use Rattle.boards.specs.Boards.{any}

-- Some of the numbers from 0 to 7 passes exactly if some board does.
pub any_board : (P : ℕ → Bool) → list_any P (range_with_len 0 8) ≡ any P 8
unfolding any
any_board P = simp (or_assoc, or-false)
