-- How a row of the story ends: with few faulty members in each view, and in view 3 unless its board is faulty.
-- What the program tests; the story itself is stated in Story.antt.
use Rattle.std.specs.Prelude.{ℕ, Bool, ◌&&◌, ◌||◌, ◌==◌, nat_le, bit_and}
use Rattle.boards.specs.Boards.{member, size, every}
use Rattle.views.specs.Shares.{share}
use Rattle.views.specs.Histories.{members_of}
use Rattle.views.specs.declared.history.History.{History}
use Rattle.row.specs.declared.state.State.{State}
use Rattle.row.specs.States.{latest}
use Rattle.bench.specs.Story.{faulty, second, third}

-- A view has at most ⌊(n - 1) / 3⌋ faulty members.
unfoldable pub few_faulty : ℕ → ℕ → Bool
few_faulty f v = nat_le (size (bit_and f v)) (share (size v))

-- Each view of a history has; there is none but those of 1 to 64.
unfoldable pub few_in_all : ℕ → History → Bool
few_in_all f h = every (λ x. few_faulty f (members_of h x)) 65

-- In view 3, and there by the second group of the story.
abbrev pub arrived : State → Bool
arrived s = latest s == 3 && (members_of s.views 2 == second && members_of s.views 3 == third)

abbrev pub ends : State → Bool
ends s = few_in_all faulty s.views && (member faulty s.board || arrived s)
