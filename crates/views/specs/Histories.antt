-- The views of a row, one after another: view 1, and for each later view the change that led to it.
-- A history keeps at place v the change that led from view v to view v + 1.
use Rattle.std.specs.Prelude.{◌≡◌, ℕ, zero, suc, ◌+◌, ◌<◌, ◌≤◌, cond, ◌&&◌, ◌⊎◌, List, length, replicate, Some, None, Ok, Err, Option, Result, nat_le, slice_index, slice_set}
use Rattle.boards.specs.declared.Set.{Set}
use Rattle.boards.specs.Boards.{size}
use Rattle.codes.specs.declared.Refusal.{Refusal}
use Rattle.codes.specs.declared.Refusal.TheVariants.{Board, Change}
use Rattle.views.specs.declared.history.History.{History}
use Rattle.views.specs.Groups.{toggle}

-- The members of the v-th view: view 1 has those it began with, and view v + 1 those of view v but for its change. There is no view 0.
unfoldable pub members_from : ℕ → List ℕ → ℕ → ℕ
members_from first changes zero = 0
members_from first changes (suc zero) = first
members_from first changes (suc (suc v)) = toggle (members_from first changes (suc v)) (slice_index changes (suc v))

-- The members of the v-th view of a history; no boards unless v is 1 to the latest.
unfoldable pub members_of : History → ℕ → ℕ
members_of h v = cond (nat_le 1 v && nat_le v h.latest) (members_from h.first.bits h.changes v) 0

-- The change that led from view v to view v + 1.
abbrev pub change_of : History → ℕ → ℕ
change_of h v = slice_index h.changes v

-- The change after view v is told where there is a next view.
abbrev pub Led : History → ℕ → Option ℕ → Type 0
Led h v (Some c) = (1 ≤ v) × (v < h.latest) × (c < 8) × (c ≡ change_of h v)
Led h v None = (v ≡ 0) ⊎ (h.latest ≤ v)

-- A history of view 1 alone.
unfoldable pub begun : Set → History
begun s = record { first = s; changes = replicate 64 0; latest = 1 }

-- A history with one view more, by change c.
unfoldable pub grown : History → ℕ → History
grown h c = record { first = h.first; changes = slice_set h.changes h.latest c; latest = h.latest + 1 }

-- A history has 1 to 64 views, and room for the changes between them.
abbrev pub Counted : History → Type 0
Counted h = (h.first.bits < 256) × (length h.changes ≡ 64) × (1 ≤ h.latest) × (h.latest ≤ 64)

-- Each change of a history is one of a board.
abbrev pub ByBoards : History → Type 0
ByBoards h = (v : ℕ) → 1 ≤ v → v < h.latest → change_of h v < 8

-- Each view of a history has a member.
abbrev pub Peopled : History → Type 0
Peopled h = (v : ℕ) → 1 ≤ v → v ≤ h.latest → 1 ≤ size (members_of h v)

-- What the history of a row keeps.
pub record Sound (h : History) : Type 0 where
  pub counted : Counted h
  pub boards : ByBoards h
  pub peopled : Peopled h

-- Change c may lead to a next view: c is a board, there is a view left, and a member would be left.
pub record Open (h : History) (c : ℕ) : Type 0 where
  pub board : c < 8
  pub room : h.latest < 64
  pub some : 1 ≤ size (toggle (members_of h h.latest) c)

-- Change c may not: BOARD if it is no board, else CHANGE, at view 64 and where no member would be left.
abbrev pub Shut : History → ℕ → Refusal → Type 0
Shut h c e = ((8 ≤ c) × (e ≡ Board)) ⊎ ((c < 8) × ((h.latest ≡ 64) ⊎ (size (toggle (members_of h h.latest) c) ≡ 0)) × (e ≡ Change))

-- What defining the next view does: it grows the history by an open change, or refuses and leaves it as it is.
abbrev pub Defines : History → ℕ → Result (Unit {0}) Refusal → History → Type 0
Defines h c (Ok _) after = Open h c × (after ≡ grown h c)
Defines h c (Err e) after = Shut h c e × (after ≡ h)
