-- What holds of the views of a row over all its calls, whatever changes they ask for.
-- Each statement is the promise of one function of src/laws.rt.
use Rattle.std.specs.Prelude.{◌≡◌, ℕ, ◌+◌, ◌<◌, ◌≤◌, Ok, Result, MatchResult}
use Rattle.boards.specs.declared.Set.{Set}
use Rattle.boards.specs.Boards.{size}
use Rattle.codes.specs.declared.Refusal.{Refusal}
use Rattle.views.specs.declared.history.History.{History}
use Rattle.views.specs.Groups.{toggle}
use Rattle.views.specs.Histories.{members_of, change_of, begun, Defines}

-- One history leads to another by any number of calls that define a view or are refused.
pub data Leads (h : History) : History → Type 0 where
  here : Leads h h
  on : {g after : History} → Leads h g → (c : ℕ) (r : Result (Unit {0}) Refusal) → Defines g c r after → Leads h after

-- A history is reached when it comes from view 1 alone, of a set with a board.
pub record Reached (h : History) : Type 0 where
  pub first : Set
  pub byte : first.bits < 256
  pub some : 1 ≤ size first.bits
  pub led : Leads (begun first) h

-- A view once defined stays as it is.
abbrev pub ViewsStay : Type 0
ViewsStay = (h later : History) → Leads h later → (v : ℕ) → v ≤ h.latest → members_of later v ≡ members_of h v

-- The latest view rises by one where a view is defined, and stays where it is refused.
abbrev pub LatestRisesByOne : Type 0
LatestRisesByOne =
    (h after : History) (c : ℕ) (r : Result (Unit {0}) Refusal) → Defines h c r after
    → MatchResult r (λ _. after.latest ≡ h.latest + 1) (λ _. after.latest ≡ h.latest)

-- No view is ever without a member.
abbrev pub ViewsHaveMembers : Type 0
ViewsHaveMembers = (h : History) → Reached h → (v : ℕ) → 1 ≤ v → v ≤ h.latest → 1 ≤ size (members_of h v)

-- From each view to the next one board changed, the one that was put down.
abbrev pub OneBoardChanges : Type 0
OneBoardChanges =
    (h : History) → Reached h → (v : ℕ) → 1 ≤ v → v < h.latest → (change_of h v < 8) × (members_of h (v + 1) ≡ toggle (members_of h v) (change_of h v))

-- The view that a call defines has the members of the latest but for its change.
abbrev pub NextByChange : Type 0
NextByChange =
    (h after : History) (c : ℕ) → Reached h → Defines h c (Ok (tt {0})) after → members_of after (h.latest + 1) ≡ toggle (members_of h h.latest) c
