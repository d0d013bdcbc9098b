-- One change of a group of boards, in the words of sets: who is in the next group, and when there is none.
-- A group is a set of boards with a member; it is told by its byte.
use Rattle.std.specs.Prelude.{◌≡◌, ℕ, ◌+◌, ◌<◌, ◌≤◌, true, cond, not, ◌⊎◌, ◌==◌, bit_xor}
use Rattle.boards.specs.Boards.{member, only, size, place}
use Rattle.codes.specs.declared.Refusal.{Refusal}
use Rattle.codes.specs.declared.Refusal.TheVariants.{Board, Change}

-- The set in which board c left if it was in, and joined if not; a board above 7 changes nothing.
unfoldable pub toggle : ℕ → ℕ → ℕ
toggle s c = bit_xor s (only c)

-- Of all boards c alone turns from a member to none, or from none to a member.
abbrev pub ToggleTurnsOne : Type 0
ToggleTurnsOne = (s c k : ℕ) → k < 8 → member (toggle s c) k ≡ cond (k == c) (not (member s k)) (member s k)

-- The manager of a group is its member of the last rank.
abbrev pub Manager : ℕ → ℕ → Type 0
Manager s b = (member s b ≡ true) × (place s b + 1 ≡ size s)

-- A set with no boards is refused as a view by BOARD.
abbrev pub NoView : ℕ → Refusal → Type 0
NoView s e = (size s ≡ 0) × (e ≡ Board)

-- Change c of group s is refused by BOARD if c is no board, and by CHANGE if it is and no board would be left.
abbrev pub NoChange : ℕ → ℕ → Refusal → Type 0
NoChange s c e = ((8 ≤ c) × (e ≡ Board)) ⊎ ((c < 8) × (size (toggle s c) ≡ 0) × (e ≡ Change))
