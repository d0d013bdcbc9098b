-- Why a call of the delivery layer is refused: for each call the list of its reasons, of which the first that holds is the answer. Each reason is named by its code.
-- st is the board's row as the membership layer has it, d what it holds of reports.
use Rattle.std.specs.Prelude.{ℕ, ◌+◌, Bool, false, not, ◌&&◌, ◌||◌, List, [], ◌∷◌, Some, None, Option, is_none, is_some, ◌==◌, nat_le, nat_lt}
use Rattle.boards.specs.Boards.{member, only, size}
use Rattle.codes.specs.declared.Refusal.{Refusal}
use Rattle.codes.specs.declared.Refusal.TheVariants.{Out, Long, View, Member, Turn, Order, Known, Double, Size, Tag, Spent}
use Rattle.views.specs.Shares.{quorum}
use Rattle.views.specs.Histories.{members_of}
use Rattle.row.specs.declared.state.State.{State}
use Rattle.row.specs.States.{latest}
use Rattle.row.specs.Refusals.{first_of, short, strays}
use Rattle.delivery.specs.Reports.{Content, same_content, Own, Reports, count_of, echo_of, claim_of, now, in_view, sent_end, undelivered, awaits_echoes}
use Rattle.delivery.specs.Endings.{left_out, ends_in, cut}

-- The longest payload, and the highest number, which is kept for an end.
abbrev pub most_bytes : ℕ
most_bytes = 48

abbrev pub highest_number : ℕ
highest_number = 255

-- The members of the delivery view.
abbrev pub readers : State → Reports → ℕ
readers st d = members_of st.views (now d)

-- The number of the board's next message.
abbrev pub next_number : State → Reports → ℕ
next_number st d = count_of d st.board + 1

-- LONG: the payload is too long.
abbrev pub long_refuses : ℕ → Bool
long_refuses n = nat_lt most_bytes n

-- VIEW of a send and a finish: there is no delivery view. VIEW of a message: it is not for the delivery view.
abbrev pub view_refuses_own : Reports → Bool
view_refuses_own d = is_none d.view

abbrev pub view_refuses : Reports → ℕ → Bool
view_refuses d v = not (in_view d.view v)

-- MEMBER: the board, the sender or a board of the set is not in the delivery view.
abbrev pub member_refuses : State → Reports → ℕ → ℕ → Bool
member_refuses st d s a = strays (only st.board) (readers st d) || (strays (only s) (readers st d) || strays a (readers st d))

-- TURN of a send and a finish: after the board's end, or while its last is undelivered here; a send at the highest number;
-- a finish past it, or with the latest view not above the delivery view.
abbrev pub has_finished : Reports → Bool
has_finished d = sent_end d.own

abbrev pub busy : State → Reports → Bool
busy st d = has_finished d || undelivered d.own (count_of d st.board)

abbrev pub turn_refuses_send : State → Reports → Bool
turn_refuses_send st d = busy st d || nat_le highest_number (next_number st d)

abbrev pub turn_refuses_finish : State → Reports → Bool
turn_refuses_finish st d = busy st d || (nat_le (latest st) (now d) || nat_lt highest_number (next_number st d))

-- TURN of an echo: the sender is another board, or echoes are not collected for just this message. TURN of a commit: a record is out.
abbrev pub turn_refuses_echo : State → Reports → ℕ → ℕ → Content → Bool
turn_refuses_echo st d s n c = not (s == st.board && awaits_echoes d.own n c)

abbrev pub turn_refuses_commit : Reports → Bool
turn_refuses_commit d = is_some d.out

-- ORDER: the number is not the sender's next, the sender has ended, or it is cut off: the board that the next view leaves out is, from the board's own end on.
-- A commit is let through up to a known cut.
abbrev pub disordered : Reports → ℕ → ℕ → Bool
disordered d s n = not (n == count_of d s + 1) || is_some (claim_of d s)

abbrev pub cut_off : State → Reports → ℕ → Bool
cut_off st d s = has_finished d && s == left_out st.views (now d)

abbrev pub let_through : State → Reports → ℕ → Bool
let_through st d n = ends_in st.views (now d) d && nat_le n (cut st.views (now d) d)

abbrev pub order_refuses_init : State → Reports → ℕ → ℕ → Bool
order_refuses_init st d s n = disordered d s n || cut_off st d s

abbrev pub order_refuses_commit : State → Reports → ℕ → ℕ → Bool
order_refuses_commit st d s n = disordered d s n || (cut_off st d s && not (let_through st d n))

-- KNOWN: the speaker's echo is collected already.
abbrev pub known_in : Option Own → ℕ → Bool
known_in None b = false
known_in (Some o) b = member o.echoes.set.bits b

abbrev pub known_refuses : Reports → ℕ → Bool
known_refuses d b = known_in d.own b

-- DOUBLE: another content was echoed under this number.
abbrev pub other_than : Option Content → Content → Bool
other_than None c = false
other_than (Some e) c = not (same_content e c)

abbrev pub double_refuses : Reports → ℕ → Content → Bool
double_refuses d s c = other_than (echo_of d s) c

-- SIZE: not exactly a quorum of the delivery view.
abbrev pub size_refuses : State → Reports → ℕ → Bool
size_refuses st d a = not (size a == quorum (size (readers st d)))

-- What may stand against each call, in order; a hear by what its head says: v, s, n and c are its view, sender, number and content.
abbrev pub Reasons : Type 0
Reasons = List (Bool × Refusal)

abbrev pub send_reasons : State → Reports → ℕ → ℕ → Bool → Reasons
send_reasons st d long room spent =
    (short room, Out) ∷ (long_refuses long, Long) ∷ (view_refuses_own d, View) ∷ (turn_refuses_send st d, Turn) ∷ (spent, Spent) ∷ []

abbrev pub finish_reasons : State → Reports → ℕ → Bool → Reasons
finish_reasons st d room spent = (short room, Out) ∷ (view_refuses_own d, View) ∷ (turn_refuses_finish st d, Turn) ∷ (spent, Spent) ∷ []

abbrev pub init_reasons : State → Reports → ℕ → ℕ → ℕ → Content → ℕ → Bool → Bool → Reasons
init_reasons st d v s n c room genuine spent =
    (short room, Out) ∷ (view_refuses d v, View) ∷ (member_refuses st d s (only s), Member) ∷ (order_refuses_init st d s n, Order)
    ∷ (double_refuses d s c, Double) ∷ (not genuine, Tag) ∷ (spent, Spent) ∷ []

abbrev pub echo_reasons : State → Reports → ℕ → ℕ → ℕ → Content → ℕ → ℕ → Bool → Reasons
echo_reasons st d v s n c b room genuine =
    (short room, Out) ∷ (view_refuses d v, View) ∷ (member_refuses st d s (only b), Member) ∷ (turn_refuses_echo st d s n c, Turn)
    ∷ (known_refuses d b, Known) ∷ (not genuine, Tag) ∷ []

abbrev pub commit_reasons : State → Reports → ℕ → ℕ → ℕ → ℕ → ℕ → Bool → Reasons
commit_reasons st d v s n a room genuine =
    (short room, Out) ∷ (view_refuses d v, View) ∷ (member_refuses st d s a, Member) ∷ (turn_refuses_commit d, Turn)
    ∷ (order_refuses_commit st d s n, Order) ∷ (size_refuses st d a, Size) ∷ (not genuine, Tag) ∷ []

abbrev pub send_refusal : State → Reports → ℕ → ℕ → Bool → Option Refusal
send_refusal st d long room spent = first_of (send_reasons st d long room spent)

abbrev pub finish_refusal : State → Reports → ℕ → Bool → Option Refusal
finish_refusal st d room spent = first_of (finish_reasons st d room spent)

abbrev pub init_refusal : State → Reports → ℕ → ℕ → ℕ → Content → ℕ → Bool → Bool → Option Refusal
init_refusal st d v s n c room genuine spent = first_of (init_reasons st d v s n c room genuine spent)

abbrev pub echo_refusal : State → Reports → ℕ → ℕ → ℕ → Content → ℕ → ℕ → Bool → Option Refusal
echo_refusal st d v s n c b room genuine = first_of (echo_reasons st d v s n c b room genuine)

abbrev pub commit_refusal : State → Reports → ℕ → ℕ → ℕ → ℕ → ℕ → Bool → Option Refusal
commit_refusal st d v s n a room genuine = first_of (commit_reasons st d v s n a room genuine)
