-- Why a call at a row is refused: each reason is a test of its own, and the answer is the first that holds, in the order of docs/REFUSALS.md.
-- Messages of kinds 11 to 13 are not of this layer; each test is false of them.
use Rattle.std.specs.Prelude.{◌≡◌, ℕ, ◌+◌, ◌-◌, ◌*◌, Bool, true, false, cond, not, ◌&&◌, ◌||◌, List, [], ◌∷◌, ◌++◌, Some, None, Option, Ok, Err, Result, ◌==◌, nat_le, nat_lt, slice_index_or}
use Rattle.boards.specs.Boards.{member, size, place, only}
use Rattle.codes.specs.declared.Refusal.{Refusal}
use Rattle.codes.specs.declared.Refusal.TheVariants.{Board, Out, View, Member, Change, Turn, Late, Known, Size, Split, Tag, Spent}
use Rattle.views.specs.Shares.{share, quorum}
use Rattle.wire.specs.declared.message.Entry.{Entry}
use Rattle.wire.specs.Messages.{Msg, Reply, view_of}
use Rattle.wire.specs.Acts.{lowest, no_reply}
use Rattle.row.specs.declared.state.Slot.{Slot}
use Rattle.row.specs.declared.state.State.{State}
use Rattle.row.specs.States.{latest, group, many, manager, inside, at_rank, is_idle, awaits_acks, awaits_readies, awaits_lasts, count_at}
use Rattle.boards.specs.Boards.{any}

-- The first reason that holds, if one does.
abbrev pub first_of : List (Bool × Refusal) → Option Refusal
first_of [] = None
first_of (r ∷ rs) = cond r.0 (Some r.1) (first_of rs)

-- A call goes on exactly if no reason holds; if one does, it is the answer.
abbrev pub Unless : Option Refusal → Result (Unit {0}) Refusal → Type 0
Unless why (Ok _) = why ≡ None
Unless why (Err e) = why ≡ Some e

-- OUT: fewer than 128 bytes are offered.
abbrev pub short : ℕ → Bool
short room = nat_lt room 128

-- BOARD: there is no such board.
abbrev pub no_board : ℕ → Bool
no_board c = nat_le 8 c

-- VIEW: the message is not for the row's latest view.
abbrev pub other_view : State → Msg → Bool
other_view s m = not (view_of m == latest s)

-- A set has a board outside a view.
abbrev pub strays : ℕ → ℕ → Bool
strays a v = any (λ b. member a b && not (member v b)) 8

-- An earlier rank is neither 0 nor above the message's rank and at most n.
abbrev pub misplaced : ℕ → ℕ → Entry → Bool
misplaced k n e = not (e.earlier == 0) && (nat_le e.earlier k || nat_lt n e.earlier)

-- The entry of board b among the replies of a set.
abbrev pub entry_in : ℕ → List Reply → ℕ → Entry
entry_in s es b = (slice_index_or es (place s b) no_reply).entry

-- MEMBER of an ask: the row's board is not in the view.
abbrev pub outsider : State → Bool
outsider s = not (inside s)

-- MEMBER: the row's board (but in a change), a speaker, a set, a proof's set or the rank is not in the view; rank n in kinds 7 to 10; an earlier rank is misplaced.
abbrev pub stranger : State → Msg → Bool
stranger s (Msg.notify v c b t) = outsider s || strays (only b) (group s)
stranger s (Msg.suggest v c a t) = outsider s || strays a (group s)
stranger s (Msg.ack v k c b t) = outsider s || (strays (only b) (group s) || nat_lt (many s) k)
stranger s (Msg.proposal v k c a t) = outsider s || (strays a (group s) || nat_lt (many s) k)
stranger s (Msg.ready v k c b t) = outsider s || (strays (only b) (group s) || nat_lt (many s) k)
stranger s (Msg.change v k c a t) = strays a (group s) || nat_lt (many s) k
stranger s (Msg.deputy v k b t) = outsider s || (strays (only b) (group s) || nat_le (many s) k)
stranger s (Msg.query v k a t) = outsider s || (strays a (group s) || nat_le (many s) k)
stranger s (Msg.last v k b e p ak) = outsider s || (strays (only b) (group s) || (strays p (group s) || (nat_le (many s) k || misplaced k (many s) e.entry)))
stranger s (Msg.suggest_last v k a es p ak) =
    outsider s || (strays a (group s) || (strays p (group s) || (nat_le (many s) k || any (λ b. member a b && misplaced k (many s) (entry_in a es b)) 8)))
stranger s (Msg.init v b n k p t) = false
stranger s (Msg.echo v b n k p d t) = false
stranger s (Msg.commit v b n k p a t) = false

-- There is no view after the 64th.
abbrev pub no_view_left : State → Bool
no_view_left s = nat_le 64 (latest s)

-- The change would remove the only member.
abbrev pub empties : State → ℕ → Bool
empties s c = many s == 1 && member (group s) c

-- CHANGE: there is no view after the 64th, and kinds 1 to 6 do not remove the only member.
abbrev pub barred : State → Msg → Bool
barred s (Msg.notify v c b t) = no_view_left s || empties s c
barred s (Msg.suggest v c a t) = no_view_left s || empties s c
barred s (Msg.ack v k c b t) = no_view_left s || empties s c
barred s (Msg.proposal v k c a t) = no_view_left s || empties s c
barred s (Msg.ready v k c b t) = no_view_left s || empties s c
barred s (Msg.change v k c a t) = no_view_left s || empties s c
barred s (Msg.deputy v k b t) = no_view_left s
barred s (Msg.query v k a t) = no_view_left s
barred s (Msg.last v k b e p ak) = no_view_left s
barred s (Msg.suggest_last v k a es p ak) = no_view_left s
barred s (Msg.init v b n k p t) = false
barred s (Msg.echo v b n k p d t) = false
barred s (Msg.commit v b n k p a t) = false

-- TURN: a lone message is counted only by the rank it is for, at the moment it is waited for.
abbrev pub untimely : State → Msg → Bool
untimely s (Msg.notify v c b t) = not (at_rank s (many s) && is_idle s.leader.stand)
untimely s (Msg.suggest v c a t) = false
untimely s (Msg.ack v k c b t) = not (at_rank s k && awaits_acks c s.leader.stand)
untimely s (Msg.proposal v k c a t) = false
untimely s (Msg.ready v k c b t) = not (at_rank s k && awaits_readies c s.leader.stand)
untimely s (Msg.change v k c a t) = false
untimely s (Msg.deputy v k b t) = not (at_rank s k && is_idle s.leader.stand)
untimely s (Msg.query v k a t) = false
untimely s (Msg.last v k b e p ak) = not (at_rank s k && awaits_lasts s.leader.stand)
untimely s (Msg.suggest_last v k a es p ak) = false
untimely s (Msg.init v b n k p t) = false
untimely s (Msg.echo v b n k p d t) = false
untimely s (Msg.commit v b n k p a t) = false

-- LATE: the floor is not above the step that the message asks for.
abbrev pub late : State → Msg → Bool
late s (Msg.notify v c b t) = false
late s (Msg.suggest v c a t) = nat_le s.voter.floor (3 * many s - 1)
late s (Msg.ack v k c b t) = false
late s (Msg.proposal v k c a t) = nat_le s.voter.floor (3 * k - 2)
late s (Msg.ready v k c b t) = false
late s (Msg.change v k c a t) = false
late s (Msg.deputy v k b t) = false
late s (Msg.query v k a t) = nat_le s.voter.floor (3 * k)
late s (Msg.last v k b e p ak) = false
late s (Msg.suggest_last v k a es p ak) = nat_le s.voter.floor (3 * k - 1)
late s (Msg.init v b n k p t) = false
late s (Msg.echo v b n k p d t) = false
late s (Msg.commit v b n k p a t) = false

-- KNOWN: the speaker is counted already.
abbrev pub counted_already : State → Slot → ℕ → Bool
counted_already s w b = member (count_at s.leader w).set.bits b

abbrev pub known : State → Msg → Bool
known s (Msg.notify v c b t) = counted_already s (Slot.Notify c) b
known s (Msg.suggest v c a t) = false
known s (Msg.ack v k c b t) = counted_already s Slot.Ack b
known s (Msg.proposal v k c a t) = false
known s (Msg.ready v k c b t) = counted_already s Slot.Ready b
known s (Msg.change v k c a t) = false
known s (Msg.deputy v k b t) = counted_already s Slot.Deputy b
known s (Msg.query v k a t) = false
known s (Msg.last v k b e p ak) = counted_already s Slot.Last b
known s (Msg.suggest_last v k a es p ak) = false
known s (Msg.init v b n k p t) = false
known s (Msg.echo v b n k p d t) = false
known s (Msg.commit v b n k p a t) = false

-- A proof that is not empty has a quorum.
abbrev pub odd_proof : State → ℕ → Bool
odd_proof s p = not (size p == 0) && not (size p == quorum (many s))

-- SIZE: exactly f + 1 boards in a suggest and a query, exactly a quorum in a proposal, a change, a suggest-last and a proof.
abbrev pub misfit : State → Msg → Bool
misfit s (Msg.notify v c b t) = false
misfit s (Msg.suggest v c a t) = not (size a == share (many s) + 1)
misfit s (Msg.ack v k c b t) = false
misfit s (Msg.proposal v k c a t) = not (size a == quorum (many s))
misfit s (Msg.ready v k c b t) = false
misfit s (Msg.change v k c a t) = not (size a == quorum (many s))
misfit s (Msg.deputy v k b t) = false
misfit s (Msg.query v k a t) = not (size a == share (many s) + 1)
misfit s (Msg.last v k b e p ak) = odd_proof s p
misfit s (Msg.suggest_last v k a es p ak) = not (size a == quorum (many s)) || odd_proof s p
misfit s (Msg.init v b n k p t) = false
misfit s (Msg.echo v b n k p d t) = false
misfit s (Msg.commit v b n k p a t) = false

-- An entry has the lowest earlier rank with another change.
abbrev pub differs : Entry → Entry → Bool
differs low e = not (low.earlier == 0) && (e.earlier == low.earlier && not (e.change == low.change))

-- SPLIT: in a suggest-last the lowest earlier rank stands with two changes.
abbrev pub split : Msg → Bool
split (Msg.notify v c b t) = false
split (Msg.suggest v c a t) = false
split (Msg.ack v k c b t) = false
split (Msg.proposal v k c a t) = false
split (Msg.ready v k c b t) = false
split (Msg.change v k c a t) = false
split (Msg.deputy v k b t) = false
split (Msg.query v k a t) = false
split (Msg.last v k b e p ak) = false
split (Msg.suggest_last v k a es p ak) = any (λ b. member a b && differs (lowest es) (entry_in a es b)) 8
split (Msg.init v b n k p t) = false
split (Msg.echo v b n k p d t) = false
split (Msg.commit v b n k p a t) = false

-- Whether the row signs when it takes the message.
abbrev pub answered : Msg → Bool
answered (Msg.notify v c b t) = false
answered (Msg.suggest v c a t) = true
answered (Msg.ack v k c b t) = false
answered (Msg.proposal v k c a t) = true
answered (Msg.ready v k c b t) = false
answered (Msg.change v k c a t) = false
answered (Msg.deputy v k b t) = false
answered (Msg.query v k a t) = true
answered (Msg.last v k b e p ak) = false
answered (Msg.suggest_last v k a es p ak) = true
answered (Msg.init v b n k p t) = false
answered (Msg.echo v b n k p d t) = false
answered (Msg.commit v b n k p a t) = false

-- Whether a message is of this layer: kinds 1 to 10.
abbrev pub of_group : Msg → Bool
of_group (Msg.notify v c b t) = true
of_group (Msg.suggest v c a t) = true
of_group (Msg.ack v k c b t) = true
of_group (Msg.proposal v k c a t) = true
of_group (Msg.ready v k c b t) = true
of_group (Msg.change v k c a t) = true
of_group (Msg.deputy v k b t) = true
of_group (Msg.query v k a t) = true
of_group (Msg.last v k b e p ak) = true
of_group (Msg.suggest_last v k a es p ak) = true
of_group (Msg.init v b n k p t) = false
of_group (Msg.echo v b n k p d t) = false
of_group (Msg.commit v b n k p a t) = false

-- What may stand against a hear before the tags are looked at.
abbrev pub fit_reasons : State → Msg → ℕ → List (Bool × Refusal)
fit_reasons s m room =
    (short room, Out) ∷ (other_view s m, View) ∷ (stranger s m, Member) ∷ (barred s m, Change) ∷ (untimely s m, Turn) ∷ (late s m, Late)
    ∷ (known s m, Known) ∷ (misfit s m, Size) ∷ (split m, Split) ∷ []

-- What tags and scheme may have against it: genuine says whether every tag of the message is good, spent whether the scheme is.
abbrev pub seal_reasons : Msg → Bool → Bool → List (Bool × Refusal)
seal_reasons m genuine spent = (not genuine, Tag) ∷ (answered m && spent, Spent) ∷ []

-- A hear.
abbrev pub hear_refusal : State → Msg → ℕ → Bool → Bool → Option Refusal
hear_refusal s m room genuine spent = first_of (fit_reasons s m room ++ seal_reasons m genuine spent)

-- CHANGE of an ask-out, unless no view is left: c is not another member.
abbrev pub not_another : State → ℕ → Bool
not_another s c = not (member (group s) c) || c == s.board

-- An ask-out of c.
abbrev pub out_refusal : State → ℕ → ℕ → Bool → Option Refusal
out_refusal s c room spent =
    first_of ((no_board c, Board) ∷ (short room, Out) ∷ (outsider s, Member) ∷ (no_view_left s || not_another s c, Change) ∷ (spent, Spent) ∷ [])

-- CHANGE of an ask-in, unless no view is left: c is a member.
abbrev pub not_outside : State → ℕ → Bool
not_outside s c = member (group s) c

-- The delivery view is the latest view.
abbrev pub delivers : State → Option ℕ → Bool
delivers s None = false
delivers s (Some y) = y == latest s

-- TURN of an ask-in: reports are not delivered in the latest view, or the manager is suspect.
abbrev pub untimely_ask : State → Option ℕ → Bool
untimely_ask s y = not (delivers s y) || member s.voter.suspects.bits (manager s)

-- An ask-in of c; y is the delivery view, if reports are delivered in one.
abbrev pub in_refusal : State → ℕ → Option ℕ → ℕ → Bool → Option Refusal
in_refusal s c y room spent =
    first_of (
    (no_board c, Board) ∷ (short room, Out) ∷ (outsider s, Member) ∷ (no_view_left s || not_outside s c, Change) ∷ (untimely_ask s y, Turn)
    ∷ (spent, Spent) ∷ [])
