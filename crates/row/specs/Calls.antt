-- What each call at a row promises, over any scheme: the answer, the next state, what the scheme then holds, and every offered byte.
-- Only a new tag is fixed by no equation; it is given by what signing means.
use Rattle.std.specs.Prelude.{◌≡◌, ℕ, true, List, ◌++◌, length, drop, Some, None, Ok, Err, Option, Result}
use Rattle.codes.specs.declared.Refusal.{Refusal}
use Rattle.schemes.specs.declared.Scheme.{Ghosts}
use Rattle.schemes.specs.Meaning.{Signed}
use Rattle.checks.specs.Checks.{genuine}
use Rattle.wire.specs.Messages.{Msg, tag_bytes}
use Rattle.wire.specs.Format.{Formed, form}
use Rattle.wire.specs.Acts.{words}
use Rattle.row.specs.declared.state.Sent.{Sent}
use Rattle.row.specs.declared.state.State.{State}
use Rattle.row.specs.States.{the_set}
use Rattle.row.specs.Refusals.{hear_refusal, out_refusal, in_refusal, of_group}
use Rattle.row.specs.Effects.{Effect, Outcome, lone, asked_out, asked_in, heard}

-- An answer, and bytes put at the front of those offered.
abbrev pub sent : ℕ → ℕ → Sent
sent to n = record { to = the_set to; length = n }

abbrev pub put_first : List ℕ → List ℕ → List ℕ
put_first xs out = xs ++ drop (length xs) out

-- A message went out: to these boards, with its bytes at the front of those offered.
pub record Posted (to : ℕ) (m : Msg) (out : List ℕ) (a : Sent) (out2 : List ℕ) : Type 0 where
  pub answer : a ≡ sent to (length (form m))
  pub bytes : out2 ≡ put_first (form m) out

module _ {S : Type 0} (g : Ghosts S) where
  -- The row's board signed an act, and its lone message went out with the new tag.
  pub record Signs (board to : ℕ) (act : Rattle.wire.specs.Acts.Act) (proof : ℕ) (acks out : List ℕ) (s : S) (a : Sent) (s2 : S) (out2 : List ℕ) : Type 0 where
    pub tag : ℕ
    pub signed : Signed (g.good s) (g.good s2) (g.spent s) board (words act) tag
    pub posted : Posted to (lone act board proof acks (tag_bytes tag)) out a out2

  -- What an effect leaves in the scheme and in the offered bytes.
  abbrev pub Done : ℕ → Effect → List ℕ → S → Sent → S → List ℕ → Type 0
  Done board Effect.silent out s a s2 out2 = (a ≡ sent 0 0) × (s2 ≡ s) × (out2 ≡ out)
  Done board (Effect.signs to act proof acks) out s a s2 out2 = Signs board to act proof acks out s a s2 out2
  Done board (Effect.sends to m) out s a s2 out2 = Posted to m out a out2 × (s2 ≡ s)

  -- A call that is refused for the first reason that holds changes nothing; any other does what the rule says.
  abbrev pub Called : Option Refusal → Outcome → State → S → List ℕ → Result Sent Refusal → State → S → List ℕ → Type 0
  Called why o st s out (Ok a) st2 s2 out2 = (why ≡ None) × (st2 ≡ o.0) × Done st.board o.1 out s a s2 out2
  Called why o st s out (Err e) st2 s2 out2 = (why ≡ Some e) × (st2 ≡ st) × (s2 ≡ s) × (out2 ≡ out)

  abbrev pub AsksOut : State → S → ℕ → List ℕ → Result Sent Refusal → State → S → List ℕ → Type 0
  AsksOut st s c out r st2 s2 out2 = Called (out_refusal st c (length out) (g.spent s)) (asked_out st c) st s out r st2 s2 out2

  abbrev pub AsksIn : State → S → ℕ → Option ℕ → List ℕ → Result Sent Refusal → State → S → List ℕ → Type 0
  AsksIn st s c y out r st2 s2 out2 = Called (in_refusal st c y (length out) (g.spent s)) (asked_in st c) st s out r st2 s2 out2

  abbrev pub Hears : State → S → Msg → List ℕ → Result Sent Refusal → State → S → List ℕ → Type 0
  Hears st s m out r st2 s2 out2 = Called (hear_refusal st m (length out) (genuine (g.good s) m) (g.spent s)) (heard st m) st s out r st2 s2 out2

  -- A hear of any message: one that is not formed, or of another layer, has no answer here and changes nothing.
  abbrev pub HeardAny : State → S → Msg → List ℕ → Option (Result Sent Refusal) → State → S → List ℕ → Type 0
  HeardAny st s m out None st2 s2 out2 = (Formed m × (of_group m ≡ true) → ⊥) × (st2 ≡ st) × (s2 ≡ s) × (out2 ≡ out)
  HeardAny st s m out (Some r) st2 s2 out2 = Formed m × (of_group m ≡ true) × Hears st s m out r st2 s2 out2
