-- One row as the argument reads it: five facts of its state, what it may do in an accepted call, and how each deed moves it.
-- A vote has a level: a row votes only below its floor, and each vote puts the floor at its level.
use Rattle.std.proofs.Common.{◌≡◌, ℕ, ◌+◌, ◌-◌, ◌*◌, ◌<◌, ◌≤◌, Bool, true, false, ◌⊎◌, List, [], ◌∷◌, Some, None, Option}
use Rattle.boards.specs.Boards.{size}
use Rattle.views.specs.Groups.{toggle}
use Rattle.wire.specs.declared.message.Entry.{Entry}
use Rattle.row.specs.declared.state.Kept.{Kept}
use Rattle.row.specs.States.{manager_in, kept_entry}

-- The latest view, the floor, the kept proposal, who is suspect, and the members of each view.
pub record Row : Type 0 where
  pub x : ℕ
  pub floor : ℕ
  pub kept : Option Kept
  pub suspect : ℕ → Bool
  pub views : ℕ → ℕ

-- What a row may sign for a rank.
pub data Vote : Type 0 where
  Ack : (rank change : ℕ) → Vote
  Ready : (rank change : ℕ) → Vote
  Last : (rank : ℕ) → Entry → Vote

abbrev pub rank : Vote → ℕ
rank (Vote.Ack k c) = k
rank (Vote.Ready k c) = k
rank (Vote.Last k e) = k

abbrev pub level : Vote → ℕ
level (Vote.Ack k c) = 3 * k - 1
level (Vote.Ready k c) = 3 * k - 2
level (Vote.Last k e) = 3 * k

abbrev pub kept_of : ℕ → ℕ → Option Kept
kept_of k c = Some (record { rank = k; change = c })

-- A ready keeps its proposal.
abbrev pub kept_after : Vote → Option Kept → Option Kept
kept_after (Vote.Ack k c) old = old
kept_after (Vote.Ready k c) old = kept_of k c
kept_after (Vote.Last k e) old = old

-- A last tells the kept proposal.
abbrev pub Tells : Vote → Option Kept → Type 0
Tells (Vote.Ack k c) old = Unit {0}
Tells (Vote.Ready k c) old = Unit {0}
Tells (Vote.Last k e) old = e ≡ kept_entry old

-- What a row did in an accepted call, the view first: it asked for a change and notified the manager, asked and wrote to a deputy, voted, or made the change.
pub data Deed : Type 0 where
  Asks : (view change : ℕ) → Deed
  Deputes : (view change rank : ℕ) → Deed
  Voted : (view : ℕ) → Vote → Deed
  Changed : (view change : ℕ) → Deed

abbrev pub view_in : Deed → ℕ
view_in (Deed.Asks x c) = x
view_in (Deed.Deputes x c k) = x
view_in (Deed.Voted x v) = x
view_in (Deed.Changed x c) = x

-- What a list of deeds has: a vote, an ask, a notify, a deputy message, a change, any deed.
abbrev pub Did : List Deed → ℕ → Vote → Type 0
Did [] x v = ⊥
Did (Deed.Asks y c ∷ h) x v = Did h x v
Did (Deed.Deputes y c k ∷ h) x v = Did h x v
Did (Deed.Voted y w ∷ h) x v = ((x ≡ y) × (v ≡ w)) ⊎ Did h x v
Did (Deed.Changed y c ∷ h) x v = Did h x v

abbrev pub AskedIn : List Deed → ℕ → ℕ → Type 0
AskedIn [] x c = ⊥
AskedIn (Deed.Asks y d ∷ h) x c = ((x ≡ y) × (c ≡ d)) ⊎ AskedIn h x c
AskedIn (Deed.Deputes y d k ∷ h) x c = ((x ≡ y) × (c ≡ d)) ⊎ AskedIn h x c
AskedIn (Deed.Voted y w ∷ h) x c = AskedIn h x c
AskedIn (Deed.Changed y d ∷ h) x c = AskedIn h x c

abbrev pub NotifiedIn : List Deed → ℕ → ℕ → Type 0
NotifiedIn [] x c = ⊥
NotifiedIn (Deed.Asks y d ∷ h) x c = ((x ≡ y) × (c ≡ d)) ⊎ NotifiedIn h x c
NotifiedIn (Deed.Deputes y d k ∷ h) x c = NotifiedIn h x c
NotifiedIn (Deed.Voted y w ∷ h) x c = NotifiedIn h x c
NotifiedIn (Deed.Changed y d ∷ h) x c = NotifiedIn h x c

abbrev pub DeputisedIn : List Deed → ℕ → ℕ → Type 0
DeputisedIn [] x k = ⊥
DeputisedIn (Deed.Asks y d ∷ h) x k = DeputisedIn h x k
DeputisedIn (Deed.Deputes y d j ∷ h) x k = ((x ≡ y) × (k ≡ j)) ⊎ DeputisedIn h x k
DeputisedIn (Deed.Voted y w ∷ h) x k = DeputisedIn h x k
DeputisedIn (Deed.Changed y d ∷ h) x k = DeputisedIn h x k

abbrev pub ChangedIn : List Deed → ℕ → ℕ → Type 0
ChangedIn [] x c = ⊥
ChangedIn (Deed.Asks y d ∷ h) x c = ChangedIn h x c
ChangedIn (Deed.Deputes y d k ∷ h) x c = ChangedIn h x c
ChangedIn (Deed.Voted y w ∷ h) x c = ChangedIn h x c
ChangedIn (Deed.Changed y d ∷ h) x c = ((x ≡ y) × (c ≡ d)) ⊎ ChangedIn h x c

abbrev pub Has : List Deed → Deed → Type 0
Has [] d = ⊥
Has (e ∷ h) d = (d ≡ e) ⊎ Has h d

-- One more, of a vote, a change or an ask.
abbrev pub More : {V : Type 0} → (ℕ → V → Type 0) → ℕ → V → ℕ → V → Type 0
More did y v x w = ((x ≡ y) × (w ≡ v)) ⊎ did x w

-- A row after a vote, and with other suspects.
abbrev pub moved : Row → Vote → Row
moved r v = record { x = r.x; floor = level v; kept = kept_after v r.kept; suspect = r.suspect; views = r.views }

abbrev pub with_suspects : Row → (ℕ → Bool) → Row
with_suspects r s = record { x = r.x; floor = r.floor; kept = r.kept; suspect = s; views = r.views }

pub record Voting (r : Row) (v : Vote) (r2 : Row) : Type 0 where
  pub ranked : 1 ≤ rank v
  pub low : level v < r.floor
  pub tells : Tells v r.kept
  pub after : r2 ≡ moved r v

-- A row after an ask for c: nobody but c is newly suspect, and the rest is as it was.
pub record Suspecting (r : Row) (c : ℕ) (r2 : Row) : Type 0 where
  pub suspects : (b : ℕ) → r2.suspect b ≡ true → (r.suspect b ≡ true) ⊎ (b ≡ c)
  pub after : r2 ≡ with_suspects r r2.suspect

-- A row that goes on to the next view.
pub record Growing (r : Row) (c : ℕ) (r2 : Row) : Type 0 where
  pub next : r2.x ≡ r.x + 1
  pub kept : r2.kept ≡ None
  pub clear : (b : ℕ) → r2.suspect b ≡ false
  pub view : r2.views (r.x + 1) ≡ toggle (r.views r.x) c
  pub peopled : 1 ≤ size (r2.views (r.x + 1))
  pub same : (v : ℕ) → v ≤ r.x → r2.views v ≡ r.views v

abbrev pub Does : Deed → Row → Row → Type 0
Does (Deed.Asks y c) r r2 = (y ≡ r.x) × Suspecting r c r2
Does (Deed.Deputes y c k) r r2 = (y ≡ r.x) × (r2.suspect (manager_in (r.views r.x)) ≡ true) × Suspecting r c r2
Does (Deed.Voted y v) r r2 = (y ≡ r.x) × Voting r v r2
Does (Deed.Changed y c) r r2 = (y ≡ r.x) × Growing r c r2

-- A row in view 1.
pub record Begins (first : ℕ) (r : Row) : Type 0 where
  pub one : r.x ≡ 1
  pub kept : r.kept ≡ None
  pub clear : (b : ℕ) → r.suspect b ≡ false
  pub view : r.views 1 ≡ first
