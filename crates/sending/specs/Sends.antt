-- When a message goes out, and when a board signs an act and its lone message goes out with the new tag.
-- What goes out is `Posted` and `Signs` of crate row; what does not changes nothing.
use Rattle.std.specs.Prelude.{◌≡◌, ℕ, ◌<◌, ◌≤◌, Bool, true, false, List, length, Some, None, Option, Result, ◌≢◌}
use Rattle.codes.specs.declared.Refusal.{Refusal}
use Rattle.schemes.specs.declared.Scheme.{Ghosts}
use Rattle.schemes.specs.Meaning.{Signed}
use Rattle.wire.specs.Messages.{Msg, tag_bytes}
use Rattle.wire.specs.Format.{Formed, form}
use Rattle.wire.specs.Acts.{Act, Allowed, words}
use Rattle.row.specs.declared.state.Sent.{Sent}
use Rattle.row.specs.declared.state.State.{State}
use Rattle.row.specs.Effects.{lone, Outcome}
use Rattle.row.specs.Calls.{Posted, Signs, Done, Hears}

-- A message goes out exactly if it is formed and has room.
abbrev pub GoesOut : ℕ → Msg → List ℕ → Option Sent → List ℕ → Type 0
GoesOut to m out (Some a) out2 = Formed m × Posted to m out a out2
GoesOut to m out None out2 = (Formed m → length (form m) ≤ length out → ⊥) × (out2 ≡ out)

module _ {S : Type 0} (g : Ghosts S) where
  -- A board can send what it has to: the bytes offered are enough for every message, and the scheme is not spent.
  pub record Able (s : S) (out : List ℕ) : Type 0 where
    pub roomy : 128 ≤ length out
    pub unspent : g.spent s ≡ false

  -- A board can send the lone message of an act: there is such a board, and the message is formed with any tag.
  pub record Speakable (board : ℕ) (act : Act) (proof : ℕ) (acks : List ℕ) (s : S) (out : List ℕ) : Type 0 where
    pub seated : board < 8
    pub formed : (t : ℕ) → Formed (lone act board proof acks (tag_bytes t))
    pub able : Able s out

  -- A board signs an allowed act exactly if the scheme is not spent; else nothing changes.
  abbrev pub SignsFor : ℕ → Act → S → Option ℕ → S → Type 0
  SignsFor board act s (Some tag) s2 = Allowed act × Signed (g.good s) (g.good s2) (g.spent s) board (words act) tag
  SignsFor board act s None s2 = (board < 8 → Allowed act → g.spent s ≢ false) × (s2 ≡ s)

  -- A board sends the lone message of an act exactly if it can; else nothing changes.
  abbrev pub Speaks : ℕ → ℕ → Act → ℕ → List ℕ → List ℕ → S → Option Sent → S → List ℕ → Type 0
  Speaks board to act proof acks out s (Some a) s2 out2 = Signs g board to act proof acks out s a s2 out2
  Speaks board to act proof acks out s None s2 out2 = (Speakable board act proof acks s out → ⊥) × (s2 ≡ s) × (out2 ≡ out)

  -- What an accepted call leaves: the state and the effect of its outcome.
  abbrev pub Did : Outcome → State → S → List ℕ → Sent → State → S → List ℕ → Type 0
  Did o st s out a st2 s2 out2 = (st2 ≡ o.0) × Done g st.board o.1 out s a s2 out2

  -- A hear of the messages that pass a test: any other has no answer and changes nothing.
  abbrev pub HeardIf : (Msg → Bool) → State → S → Msg → List ℕ → Option (Result Sent Refusal) → State → S → List ℕ → Type 0
  HeardIf test st s m out None st2 s2 out2 = (Formed m → test m ≢ true) × (st2 ≡ st) × (s2 ≡ s) × (out2 ≡ out)
  HeardIf test st s m out (Some r) st2 s2 out2 = Formed m × (test m ≡ true) × Hears g st s m out r st2 s2 out2
