-- What the rules say of a row's state: its group, ranks and roles, and what it counted.
-- x is the latest view, its members the group; rank n of n members is the manager.
use Rattle.std.specs.Prelude.{ℕ, zero, suc, ◌+◌, ◌*◌, Bool, true, false, cond, ◌&&◌, List, replicate, Some, None, Option, ◌==◌, bit_or, slice_index_or, slice_set}
use Rattle.boards.specs.declared.Set.{Set}
use Rattle.boards.specs.Boards.{member, size, place, only}
use Rattle.views.specs.declared.history.History.{History}
use Rattle.views.specs.Histories.{members_of}
use Rattle.wire.specs.declared.message.Entry.{Entry}
use Rattle.wire.specs.Messages.{none, stored_tags}
use Rattle.row.specs.declared.state.Count.{Count}
use Rattle.row.specs.declared.state.Kept.{Kept}
use Rattle.row.specs.declared.state.Slot.{Slot}
use Rattle.row.specs.declared.state.Slot.TheVariants.{Notify, Ack, Ready, Deputy, Last}
use Rattle.row.specs.declared.state.Stand.{Stand}
use Rattle.row.specs.declared.state.Stand.TheVariants.{Idle, Acks, Readies, Lasts, Done}
use Rattle.row.specs.declared.state.Voter.{Voter}
use Rattle.row.specs.declared.state.Leader.{Leader}
use Rattle.row.specs.declared.state.State.{State}

-- The highest board below n that passes a test; 8 if none does.
unfoldable pub highest : (ℕ → Bool) → ℕ → ℕ
highest P zero = 8
highest P (suc n) = cond (P n) n (highest P n)

-- The set of the boards below n that pass a test.
unfoldable pub set_of : (ℕ → Bool) → ℕ → ℕ
set_of P zero = 0
set_of P (suc n) = cond (P n) (bit_or (set_of P n) (only n)) (set_of P n)

-- A set with one board more.
unfoldable pub insert : ℕ → ℕ → ℕ
insert s b = bit_or s (only b)

abbrev pub the_set : ℕ → Set
the_set s = record { bits = s }

-- The members of the latest view of a history.
unfoldable pub latest_members : History → ℕ
latest_members h = members_of h h.latest

-- The latest view of a row, its members and their number.
abbrev pub latest : State → ℕ
latest s = s.views.latest

abbrev pub group : State → ℕ
group s = latest_members s.views

abbrev pub many : State → ℕ
many s = size (group s)

-- The highest rank, and the board of a rank.
abbrev pub manager_in : ℕ → ℕ
manager_in v = highest (member v) 8

abbrev pub manager : State → ℕ
manager s = manager_in (group s)

abbrev pub seat : ℕ → ℕ → ℕ
seat v k = highest (λ b. member v b && place v b + 1 == k) 8

-- The row's board is a member; it has rank k.
abbrev pub inside : State → Bool
inside s = member (group s) s.board

abbrev pub at_rank : State → ℕ → Bool
at_rank s k = inside s && place (group s) s.board + 1 == k

-- Where a row stands.
abbrev pub is_idle : Stand → Bool
is_idle Idle = true
is_idle (Acks c) = false
is_idle (Readies c) = false
is_idle Lasts = false
is_idle Done = false

abbrev pub awaits_acks : ℕ → Stand → Bool
awaits_acks d Idle = false
awaits_acks d (Acks c) = c == d
awaits_acks d (Readies c) = false
awaits_acks d Lasts = false
awaits_acks d Done = false

abbrev pub awaits_readies : ℕ → Stand → Bool
awaits_readies d Idle = false
awaits_readies d (Acks c) = false
awaits_readies d (Readies c) = c == d
awaits_readies d Lasts = false
awaits_readies d Done = false

abbrev pub awaits_lasts : Stand → Bool
awaits_lasts Idle = false
awaits_lasts (Acks c) = false
awaits_lasts (Readies c) = false
awaits_lasts Lasts = true
awaits_lasts Done = false

-- The place of a slot in the table of counts: notifies by their change, then acks, readies, deputies, lasts.
abbrev pub place_of : Slot → ℕ
place_of (Notify c) = c
place_of Ack = 8
place_of Ready = 9
place_of Deputy = 10
place_of Last = 11

-- Nothing counted; what is counted in a slot; one more counted.
abbrev pub no_count : Count
no_count = record { set = the_set 0; tags = replicate 8 0 }

abbrev pub count_at : Leader → Slot → Count
count_at l w = slice_index_or l.counts (place_of w) no_count

abbrev pub counted : Count → ℕ → ℕ → Count
counted c b t = record { set = the_set (insert c.set.bits b); tags = slice_set c.tags b t }

abbrev pub count_tags : Count → List ℕ
count_tags c = stored_tags c.set.bits c.tags

-- The entry that tells a kept proposal.
abbrev pub told_of : Kept → Entry
told_of k = record { earlier = k.rank; change = k.change }

-- The entry that a row tells: of the kept proposal, or of none.
abbrev pub kept_entry : Option Kept → Entry
kept_entry None = none
kept_entry (Some k) = told_of k

-- A row in a new view: floor three times its members, nobody suspect, nothing kept, nothing counted, idle.
abbrev pub new_voter : ℕ → Voter
new_voter n = record { floor = 3 * n; suspects = the_set 0; kept = None; support = no_count }

abbrev pub new_leader : Leader
new_leader = record { stand = Idle; counts = replicate 12 no_count; entries = replicate 8 none; lowest = none; proof = no_count }

abbrev pub fresh : ℕ → History → State
fresh board views = record { board = board; views = views; voter = new_voter (size (latest_members views)); leader = new_leader }

-- A state with another voter, or another leader.
abbrev pub with_voter : State → Voter → State
with_voter s v = record { board = s.board; views = s.views; voter = v; leader = s.leader }

abbrev pub with_leader : State → Leader → State
with_leader s l = record { board = s.board; views = s.views; voter = s.voter; leader = l }

abbrev pub with_floor : State → ℕ → State
with_floor s n = with_voter s (record { floor = n; suspects = s.voter.suspects; kept = s.voter.kept; support = s.voter.support })
