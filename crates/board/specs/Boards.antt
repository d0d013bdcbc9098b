-- What each call of a board promises, over any scheme: it is a call of one of the two layers, and the other half of the board stays, or follows.
-- The row goes from st to st2, the reports from d to d2, the scheme from s to s2, the offered bytes from out to out2; a is the answer.
use Rattle.std.specs.Prelude.{◌≡◌, ℕ, true, List, Some, None, Option, Result, MatchBool}
use Rattle.boards.specs.declared.Set.{Set}
use Rattle.codes.specs.declared.Refusal.{Refusal}
use Rattle.views.specs.Histories.{begun}
use Rattle.schemes.specs.declared.Scheme.{Ghosts}
use Rattle.wire.specs.Messages.{Msg}
use Rattle.wire.specs.Format.{Formed}
use Rattle.row.specs.declared.state.Sent.{Sent}
use Rattle.row.specs.declared.state.State.{State}
use Rattle.row.specs.States.{fresh}
use Rattle.row.specs.Refusals.{of_group}
use Rattle.row.specs.Calls.{AsksOut, AsksIn, Hears as GroupHears}
use Rattle.delivery.specs.Reports.{Reports, started}
use Rattle.delivery.specs.declared.reports.Heard.{Heard}
use Rattle.delivery.specs.Calls.{Sends, Finishes, Follows, Hears as ReportHears}
use Rattle.delivery.specs.Plain.{sent_in}

-- A board at a start: view 1 is the only one, and its members deliver in it.
abbrev pub AtStart : Set → ℕ → State → Reports → Type 0
AtStart first b st d = (st ≡ fresh b (begun first)) × (d ≡ started first.bits b)

module _ {S : Type 0} (g : Ghosts S) where
  -- An ask-out is a call at the row.
  abbrev pub OutAsked : ℕ → List ℕ → Result Sent Refusal → List ℕ → State → Reports → S → State → Reports → S → Type 0
  OutAsked c out a out2 st d s st2 d2 s2 = AsksOut g st s c out a st2 s2 out2 × (d2 ≡ d)

  -- So is an ask-in, by the board's own delivery view.
  abbrev pub InAsked : ℕ → List ℕ → Result Sent Refusal → List ℕ → State → Reports → S → State → Reports → S → Type 0
  InAsked c out a out2 st d s st2 d2 s2 = AsksIn g st s c d.view out a st2 s2 out2 × (d2 ≡ d)

  -- A send and a finish are calls of the reports.
  abbrev pub ReportSent : List ℕ → List ℕ → Result Sent Refusal → List ℕ → State → Reports → S → State → Reports → S → Type 0
  ReportSent p out a out2 st d s st2 d2 s2 = Sends g st d s p out a d2 s2 out2 × (st2 ≡ st)

  abbrev pub EndSent : List ℕ → Result Sent Refusal → List ℕ → State → Reports → S → State → Reports → S → Type 0
  EndSent out a out2 st d s st2 d2 s2 = Finishes g st d s out a d2 s2 out2 × (st2 ≡ st)

  -- A message of the group is heard at the row, which the reports follow; any other at the reports.
  abbrev pub GroupHeard : Msg → List ℕ → Result Sent Refusal → List ℕ → State → Reports → S → State → Reports → S → Type 0
  GroupHeard m out a out2 st d s st2 d2 s2 = GroupHears g st s m out a st2 s2 out2 × Follows st st2 d d2

  abbrev pub ReportHeard : Msg → List ℕ → Result Sent Refusal → List ℕ → State → Reports → S → State → Reports → S → Type 0
  ReportHeard m out a out2 st d s st2 d2 s2 = ReportHears g st d s m out a d2 s2 out2 × (st2 ≡ st)

  -- A hear of any formed message; a value that no bytes spell has no answer and changes nothing.
  abbrev pub MessageHeard : Msg → List ℕ → Option (Result Heard Refusal) → List ℕ → State → Reports → S → State → Reports → S → Type 0
  MessageHeard m out None out2 st d s st2 d2 s2 = (Formed m → ⊥) × (st2 ≡ st) × (d2 ≡ d) × (s2 ≡ s) × (out2 ≡ out)
  MessageHeard m out (Some a) out2 st d s st2 d2 s2 =
      Formed m × MatchBool (of_group m) (GroupHeard m out (sent_in a) out2 st d s st2 d2 s2) (ReportHeard m out (sent_in a) out2 st d s st2 d2 s2)

  -- A hear at the row alone: a message of the reports, and a value that no bytes spell, has no answer there and changes nothing.
  abbrev pub GroupHeardAny : Msg → List ℕ → Option (Result Sent Refusal) → List ℕ → State → Reports → S → State → Reports → S → Type 0
  GroupHeardAny m out None out2 st d s st2 d2 s2 = (Formed m × (of_group m ≡ true) → ⊥) × (st2 ≡ st) × (d2 ≡ d) × (s2 ≡ s) × (out2 ≡ out)
  GroupHeardAny m out (Some a) out2 st d s st2 d2 s2 = Formed m × (of_group m ≡ true) × GroupHeard m out a out2 st d s st2 d2 s2
