-- What every row keeps, whatever it was told: facts of its state alone.
-- The facts of the views are those of crate views.
use Rattle.std.specs.Prelude.{ℕ, Bool, true, false, not, ◌&&◌, ◌||◌, Some, None, Option, ◌==◌, nat_le, nat_lt, slice_index_or}
use Rattle.boards.specs.Boards.{member, size}
use Rattle.wire.specs.declared.message.Entry.{Entry}
use Rattle.wire.specs.Messages.{none}
use Rattle.row.specs.declared.state.Kept.{Kept}
use Rattle.row.specs.declared.state.Slot.TheVariants.{Last}
use Rattle.row.specs.declared.state.Voter.{Voter}
use Rattle.row.specs.declared.state.Leader.{Leader}
use Rattle.row.specs.States.{count_at}
use Rattle.boards.specs.Boards.{every}

-- Two tests answer alike.
abbrev pub alike : Bool → Bool → Bool
alike true b = b
alike false b = not b

-- A kept proposal has a rank, a board's change, and acks to show for it.
abbrev pub shown : Option Kept → ℕ → Bool
shown None support = true
shown (Some k) support = (nat_le 1 k.rank && nat_le k.rank 8) && (nat_lt k.change 8 && not (size support == 0))

unfoldable pub keeps : Voter → Bool
keeps v = shown v.kept v.support.set.bits

-- The boards whose lasts are counted, and the entry of each.
abbrev pub tellers : Leader → ℕ
tellers l = (count_at l Last).set.bits

abbrev pub entry_told : Leader → ℕ → Entry
entry_told l b = slice_index_or l.entries b none

-- An entry that the format allows: an earlier rank up to 8 with a board's change, or neither.
abbrev pub allowed : Entry → Bool
allowed e = nat_le e.earlier 8 && (nat_lt e.change 8 && (not (e.earlier == 0) || e.change == 0))

-- Every board whose last is counted told an entry that passes a test.
abbrev pub each_told : (Entry → Bool) → Leader → Bool
each_told P l = every (λ b. not (member (tellers l) b) || P (entry_told l b)) 8

-- No earlier rank.
abbrev pub nothing : Entry → Bool
nothing e = e.earlier == 0

-- What a leader counted of lasts: entries that are allowed; the lowest earlier rank is none exactly if none was told.
unfoldable pub tells : Leader → Bool
tells l = each_told allowed l && (allowed l.lowest && alike (nothing l.lowest) (each_told nothing l))

-- The lowest earlier rank has a proof; there is none without one.
unfoldable pub proves : Leader → Bool
proves l = alike (nothing l.lowest) (l.proof.set.bits == 0)
