-- What follows at one row from what its calls promise, whatever the scheme and its states, the bytes and the answer.
-- Each statement is the promise of one function of src/lib.rt.
use Rattle.std.specs.Prelude.{◌≡◌, ℕ, ◌+◌, ◌≤◌, Bool, true, ◌⊎◌, List, None, Ok, Option, Result}
use Rattle.codes.specs.declared.Refusal.{Refusal}
use Rattle.views.specs.Histories.{members_of}
use Rattle.schemes.specs.declared.Scheme.{Ghosts}
use Rattle.wire.specs.Messages.{Msg, Reply}
use Rattle.row.specs.declared.state.State.{State}
use Rattle.row.specs.declared.state.Sent.{Sent}
use Rattle.row.specs.States.{latest}
use Rattle.row.specs.Refusals.{untimely, late, hear_refusal}
use Rattle.row.specs.Effects.{Effect, heard}
use Rattle.row.specs.Calls.{AsksOut, AsksIn, Hears}

-- A call, accepted or refused, takes a row from one state to the next.
pub data Goes {S : Type 0} (g : Ghosts S) (st st2 : State) : Type 0 where
  asks_out : (s s2 : S) (c : ℕ) (out out2 : List ℕ) (r : Result Sent Refusal) → AsksOut g st s c out r st2 s2 out2 → Goes g st st2
  asks_in : (s s2 : S) (c : ℕ) (y : Option ℕ) (out out2 : List ℕ) (r : Result Sent Refusal) → AsksIn g st s c y out r st2 s2 out2 → Goes g st st2
  hears : (s s2 : S) (m : Msg) (out out2 : List ℕ) (r : Result Sent Refusal) → Hears g st s m out r st2 s2 out2 → Goes g st st2

-- The floor only falls inside a view.
abbrev pub FloorFalls : {S : Type 0} → Ghosts S → Type 0
FloorFalls g = (st st2 : State) → Goes g st st2 → latest st2 ≡ latest st → st2.voter.floor ≤ st.voter.floor

-- The latest view stays or rises by one, every view so far stays as it is, and the row stays its board's.
pub record Onward (st st2 : State) : Type 0 where
  pub board : st2.board ≡ st.board
  pub rises : (latest st2 ≡ latest st) ⊎ (latest st2 ≡ latest st + 1)
  pub stay : (v : ℕ) → v ≤ latest st → members_of st2.views v ≡ members_of st.views v

abbrev pub LatestRises : {S : Type 0} → Ghosts S → Type 0
LatestRises g = (st st2 : State) → Goes g st st2 → Onward st st2

-- Any number of calls.
pub data Runs {S : Type 0} (g : Ghosts S) (st : State) : State → Type 0 where
  here : Runs g st st
  on : {st2 st3 : State} → Runs g st st2 → Goes g st2 st3 → Runs g st st3

-- Two messages for one step of a view: they are of one kind that a vote answers, and of one rank, which in a suggest is the manager's.
pub data OneStep (v : ℕ) : Msg → Msg → Type 0 where
  suggest : (c a d b : ℕ) (t u : List ℕ) → OneStep v (Msg.suggest v c a t) (Msg.suggest v d b u)
  proposal : (k c a d b : ℕ) (t u : List ℕ) → OneStep v (Msg.proposal v k c a t) (Msg.proposal v k d b u)
  query : (k a b : ℕ) (t u : List ℕ) → OneStep v (Msg.query v k a t) (Msg.query v k b u)
  suggest_last : (k a p b q : ℕ) (es fs : List Reply) (t u : List ℕ) → OneStep v (Msg.suggest_last v k a es p t) (Msg.suggest_last v k b fs q u)

-- No step is answered twice: once a row took a message for it, each message for it is late while that view is the latest, and never taken.
abbrev pub NotTwice : {S : Type 0} → Ghosts S → Type 0
NotTwice {S} g =
    (st st2 st3 : State) (s s2 : S) (m : Msg) (out out2 : List ℕ) (a : Sent) → Hears g st s m out (Ok a) st2 s2 out2 → Runs g st2 st3
    → (v : ℕ) (again : Msg) → OneStep v m again
    → (latest st3 ≡ latest st → late st3 again ≡ true) × ((room : ℕ) (genuine spent : Bool) → hear_refusal st3 again room genuine spent ≡ None → ⊥)

-- Two lone messages of one counted kind and one view, whoever speaks, and whatever rank, change, reply and proof they have.
pub data OneMore (v : ℕ) : Msg → Msg → Type 0 where
  notify : (c b d e : ℕ) (t u : List ℕ) → OneMore v (Msg.notify v c b t) (Msg.notify v d e u)
  ack : (k c b j d e : ℕ) (t u : List ℕ) → OneMore v (Msg.ack v k c b t) (Msg.ack v j d e u)
  ready : (k c b j d e : ℕ) (t u : List ℕ) → OneMore v (Msg.ready v k c b t) (Msg.ready v j d e u)
  deputy : (k b j e : ℕ) (t u : List ℕ) → OneMore v (Msg.deputy v k b t) (Msg.deputy v j e u)
  last : (k b j e p q : ℕ) (r w : Reply) (t u : List ℕ) → OneMore v (Msg.last v k b r p t) (Msg.last v j e w q u)

-- After a full count, the one at which a message is sent on, one more of its kind is out of turn while that view is the latest, and never taken.
abbrev pub FullCount : {S : Type 0} → Ghosts S → Type 0
FullCount {S} g =
    (st st2 st3 : State) (s s2 : S) (m : Msg) (out out2 : List ℕ) (a : Sent) → Hears g st s m out (Ok a) st2 s2 out2
    → (to : ℕ) (sent : Msg) → (heard st m).1 ≡ Effect.sends to sent → Runs g st2 st3 → (v : ℕ) (more : Msg) → OneMore v m more
    → (latest st3 ≡ latest st → untimely st3 more ≡ true) × ((room : ℕ) (genuine spent : Bool) → hear_refusal st3 more room genuine spent ≡ None → ⊥)
