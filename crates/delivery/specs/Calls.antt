-- What each call of the delivery layer promises, over any scheme: the answer, what the board then holds of reports, what the scheme then holds, and every offered byte.
-- Only a new tag is fixed by no equation; it is given by what signing means.
use Rattle.std.specs.Prelude.{◌≡◌, ℕ, Bool, true, false, not, List, length, Some, None, Ok, Err, Option, Result}
use Rattle.codes.specs.declared.Refusal.{Refusal}
use Rattle.schemes.specs.declared.Scheme.{Ghosts}
use Rattle.checks.specs.Checks.{genuine}
use Rattle.wire.specs.Messages.{Msg}
use Rattle.wire.specs.Format.{Formed}
use Rattle.wire.specs.Acts.{Allowed, tag_number}
use Rattle.row.specs.declared.state.Sent.{Sent}
use Rattle.row.specs.declared.state.State.{State}
use Rattle.row.specs.Refusals.{of_group}
use Rattle.row.specs.States.{latest}
use Rattle.row.specs.Calls.{Done}
use Rattle.row.specs.Effects.{Effect}
use Rattle.delivery.specs.Reports.{content, Record, Reports, with_out}
use Rattle.delivery.specs.Refusals.{send_refusal, finish_refusal, init_refusal, echo_refusal, commit_refusal}
use Rattle.delivery.specs.Effects.{Outcome, reporting, ending, echoing, collects, delivering, taken, followed}

-- Why a hear is refused, and what one that is not does; nothing is said of kinds 1 to 10.
abbrev pub report_refusal : State → Reports → Msg → ℕ → Bool → Bool → Option Refusal
report_refusal st d (Msg.init v s n k p t) room genuine spent = init_refusal st d v s n (content k p) room genuine spent
report_refusal st d (Msg.echo v s n k p b t) room genuine spent = echo_refusal st d v s n (content k p) b room genuine
report_refusal st d (Msg.commit v s n k p a t) room genuine spent = commit_refusal st d v s n a room genuine
report_refusal st d m room genuine spent = None

abbrev pub report_heard : State → Reports → Msg → Outcome
report_heard st d (Msg.init v s n k p t) = echoing d s n (content k p)
report_heard st d (Msg.echo v s n k p b t) = collects st d d.own b (tag_number t)
report_heard st d (Msg.commit v s n k p a t) = delivering st d s n (content k p)
report_heard st d m = (d, Effect.silent)

-- Whether a message is of this layer: kinds 11 to 13; whether it is a commit.
abbrev pub of_reports : Msg → Bool
of_reports m = not (of_group m)

abbrev pub is_commit : Msg → Bool
is_commit (Msg.commit v s n k p a t) = true
is_commit m = false

-- The tag of an echo's speaker, as a number; of no other message.
abbrev pub TagOf : Msg → ℕ → Type 0
TagOf (Msg.echo v s n k p b t) x = x ≡ tag_number t
TagOf m x = Unit {0}

-- What is signed is an act that the format allows.
abbrev pub SignsAllowed : Effect → Type 0
SignsAllowed Effect.silent = Unit {0}
SignsAllowed (Effect.signs to act proof acks) = Allowed act
SignsAllowed (Effect.sends to m) = Unit {0}

module _ {S : Type 0} (g : Ghosts S) where
  -- What an accepted call leaves: the reports and the effect of its outcome.
  abbrev pub Did : ℕ → Outcome → S → List ℕ → Sent → Reports → S → List ℕ → Type 0
  Did board o s out a d2 s2 out2 = (d2 ≡ o.0) × Done g board o.1 out s a s2 out2 × SignsAllowed o.1

  -- A call that is refused for the first reason that holds changes nothing; any other does what the rule says.
  abbrev pub Called : ℕ → Option Refusal → Outcome → Reports → S → List ℕ → Result Sent Refusal → Reports → S → List ℕ → Type 0
  Called board why o d s out (Ok a) d2 s2 out2 = (why ≡ None) × (d2 ≡ o.0) × Done g board o.1 out s a s2 out2 × SignsAllowed o.1
  Called board why o d s out (Err e) d2 s2 out2 = (why ≡ Some e) × (d2 ≡ d) × (s2 ≡ s) × (out2 ≡ out)

  abbrev pub Sends : State → Reports → S → List ℕ → List ℕ → Result Sent Refusal → Reports → S → List ℕ → Type 0
  Sends st d s p out r d2 s2 out2 = Called st.board (send_refusal st d (length p) (length out) (g.spent s)) (reporting st d p) d s out r d2 s2 out2

  abbrev pub Finishes : State → Reports → S → List ℕ → Result Sent Refusal → Reports → S → List ℕ → Type 0
  Finishes st d s out r d2 s2 out2 = Called st.board (finish_refusal st d (length out) (g.spent s)) (ending st d) d s out r d2 s2 out2

  abbrev pub Hears : State → Reports → S → Msg → List ℕ → Result Sent Refusal → Reports → S → List ℕ → Type 0
  Hears st d s m out r d2 s2 out2 =
      Called st.board (report_refusal st d m (length out) (genuine (g.good s) m) (g.spent s)) (report_heard st d m) d s out r d2 s2 out2

  -- A hear of any message: one that is not formed, or of another layer, has no answer here and changes nothing.
  abbrev pub HeardAny : State → Reports → S → Msg → List ℕ → Option (Result Sent Refusal) → Reports → S → List ℕ → Type 0
  HeardAny st d s m out None d2 s2 out2 = (Formed m × (of_reports m ≡ true) → ⊥) × (d2 ≡ d) × (s2 ≡ s) × (out2 ≡ out)
  HeardAny st d s m out (Some r) d2 s2 out2 = Formed m × (of_reports m ≡ true) × Hears st d s m out r d2 s2 out2

-- A take answers the record that is out, zeros if none is, and then none is out.
abbrev pub Takes : Reports → Record → Reports → Type 0
Takes d r d2 = (r ≡ taken d.out) × (d2 ≡ with_out d None)

-- What a call of the membership layer does to the reports, the row going from st to st2.
abbrev pub Follows : State → State → Reports → Reports → Type 0
Follows st st2 d d2 = d2 ≡ followed (latest st) st2 d
