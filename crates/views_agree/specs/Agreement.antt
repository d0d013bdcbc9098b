-- The boards agree on their views: over whole histories of calls at eight rows, what is assumed and what then holds.
-- A step of a history is what the call's own contract promises; how a row works is said nowhere again. Told in docs/AGREEMENT.md.
use Rattle.std.specs.Prelude.{◌≡◌, ℕ, ◌+◌, ◌<◌, ◌≤◌, true, false, ◌⊎◌, List, [], ◌∷◌, ◌++◌, length, Some, Ok, Err, Option, Result, bit_and, slice_index_or, slice_set}
use Rattle.boards.specs.Boards.{member, size}
use Rattle.codes.specs.declared.Refusal.{Refusal}
use Rattle.views.specs.Shares.{share}
use Rattle.views.specs.Groups.{toggle}
use Rattle.views.specs.Histories.{begun, members_of}
use Rattle.schemes.specs.declared.Scheme.{Ghosts}
use Rattle.wire.specs.Messages.{Msg, tag_bytes}
use Rattle.wire.specs.Acts.{Act, words, signers, act_of, proof_of, proved_act}
use Rattle.row.specs.declared.state.State.{State}
use Rattle.row.specs.declared.state.Sent.{Sent}
use Rattle.row.specs.States.{the_set, latest, fresh}
use Rattle.row.specs.Effects.{lone}
use Rattle.row.specs.Calls.{Posted, AsksOut, AsksIn, HeardAny}

-- A call of the membership layer: to ask a board out, to ask one in with this delivery view, to hear a message.
pub data Call : Type 0 where
  ask_out : (change : ℕ) → Call
  ask_in : (change : ℕ) (delivery : Option ℕ) → Call
  hear : (message : Msg) → Call

-- A step: one call at the row of a board, its answer, the offered bytes before and after it, and the row before and after it.
pub record Step : Type 0 where
  pub board : ℕ
  pub call : Call
  pub answer : Result Sent Refusal
  pub offered : List ℕ
  pub written : List ℕ
  pub before : State
  pub after : State

-- A board outside the faulty ones.
abbrev pub Outside : ℕ → ℕ → Type 0
Outside faulty b = (b < 8) × (member faulty b ≡ false)

-- The row of a board.
abbrev pub row_of : List State → ℕ → State
row_of rows b = slice_index_or rows b (fresh 0 (begun (the_set 0)))

-- Eight rows as a start makes them, all with the same view 1, which is not empty, those of outsiders too.
abbrev pub Started : ℕ → List State → Type 0
Started first rows = (1 ≤ size first) × (length rows ≡ 8) × ((b : ℕ) → b < 8 → row_of rows b ≡ fresh b (begun (the_set first)))

module _ {S : Type 0} (g : Ghosts S) where
  -- What the contract of a call promises, the scheme going from s to s2. A message that is heard has an answer: it is formed, and of kinds 1 to 10.
  abbrev pub Promised : Call → Step → S → S → Type 0
  Promised (Call.ask_out c) e s s2 = AsksOut g e.before s c e.offered e.answer e.after s2 e.written
  Promised (Call.ask_in c y) e s s2 = AsksIn g e.before s c y e.offered e.answer e.after s2 e.written
  Promised (Call.hear m) e s s2 = HeardAny g e.before s m e.offered (Some e.answer) e.after s2 e.written

  -- A step from eight rows to eight: at the row of a board outside the faulty ones, as promised for some states of the scheme; the other rows stay.
  pub record Taken (faulty : ℕ) (e : Step) (rows rows2 : List State) : Type 0 where
    pub outside : Outside faulty e.board
    pub here : e.before ≡ row_of rows e.board
    pub scheme : S
    pub scheme_after : S
    pub promised : Promised e.call e scheme scheme_after
    pub put : rows2 ≡ slice_set rows e.board e.after

  -- A history: steps, the latest first, that lead from the rows at the start to the rows as they are.
  pub data Leads (faulty : ℕ) (start : List State) : List State → List Step → Type 0 where
    begin : Leads faulty start start []
    next : {rows rows2 : List State} {h : List Step} → Leads faulty start rows h → (e : Step) → Taken faulty e rows rows2 → Leads faulty start rows2 (e ∷ h)

-- A step that was not refused.
abbrev pub Accepted : Result Sent Refusal → Type 0
Accepted (Ok a) = Unit {0}
Accepted (Err e) = ⊥

-- In this step its board signed w: the message written in the offered bytes is the lone message of an act, and w are the words of that act.
pub record Signs (e : Step) (w : List ℕ) : Type 0 where
  pub sent : Sent
  pub accepted : e.answer ≡ Ok sent
  pub to : ℕ
  pub act : Act
  pub proof : ℕ
  pub acks : List ℕ
  pub tag : ℕ
  pub posted : Posted to (lone act e.board proof acks (tag_bytes tag)) e.offered sent e.written
  pub signed : w ≡ words act

-- Board b signed w in a step of the history.
abbrev pub Signed : List Step → ℕ → List ℕ → Type 0
Signed [] b w = ⊥
Signed (e ∷ h) b w = ((e.board ≡ b) × Signs e w) ⊎ Signed h b w

-- A call that asks for change c.
abbrev pub Asks : Call → ℕ → Type 0
Asks (Call.ask_out d) c = d ≡ c
Asks (Call.ask_in d y) c = d ≡ c
Asks (Call.hear m) c = ⊥

-- Board b asked for change c while its latest view was x.
abbrev pub Asked : List Step → ℕ → ℕ → ℕ → Type 0
Asked [] b x c = ⊥
Asked (e ∷ h) b x c = ((e.board ≡ b) × Accepted e.answer × Asks e.call c × (latest e.before ≡ x)) ⊎ Asked h b x c

-- Board b defines v as its x-th view: its row, asked for its x-th view, answers v, which is not empty.
abbrev pub Defines : List State → ℕ → ℕ → ℕ → Type 0
Defines rows b x v = (members_of (row_of rows b).views x ≡ v) × (1 ≤ size v)

-- An accepted hear is vouched for by the steps before it: each board outside the faulty ones, in its set or in its proof, signed the words that its tag there stands for.
abbrev pub VouchedFor : ℕ → List Step → Call → Result Sent Refusal → Type 0
VouchedFor faulty h (Call.ask_out c) r = Unit {0}
VouchedFor faulty h (Call.ask_in c y) r = Unit {0}
VouchedFor faulty h (Call.hear m) (Err e) = Unit {0}
VouchedFor faulty h (Call.hear m) (Ok a) =
    ((b : ℕ) → Outside faulty b → member (signers m) b ≡ true → Signed h b (words (act_of m b)))
    × ((b : ℕ) → Outside faulty b → member (proof_of m).boards b ≡ true → Signed h b (words (proved_act m)))

-- Every accepted hear of the history is.
abbrev pub Vouched : ℕ → List Step → Type 0
Vouched faulty [] = Unit {0}
Vouched faulty (e ∷ h) = Vouched faulty h × VouchedFor faulty h e.call e.answer

-- In each view that a board outside the faulty ones defines, at most ⌊(n - 1) / 3⌋ of the n members are faulty.
abbrev pub Bounded : ℕ → List State → Type 0
Bounded faulty rows = (b x v : ℕ) → Outside faulty b → Defines rows b x v → size (bit_and faulty v) ≤ share (size v)

-- For every x, all boards outside the faulty ones that define an x-th view define the same one.
abbrev pub OneView : ℕ → List State → Type 0
OneView faulty rows = (b d x v w : ℕ) → Outside faulty b → Outside faulty d → Defines rows b x v → Defines rows d x w → v ≡ w

-- Board b went from its x-th view v to the next one w in a step, by a change that a member of v outside the faulty ones had asked for in x, in an earlier step.
pub record Earned (faulty : ℕ) (h : List Step) (b x v w : ℕ) : Type 0 where
  pub later : List Step
  pub step : Step
  pub earlier : List Step
  pub history : h ≡ later ++ (step ∷ earlier)
  pub board : step.board ≡ b
  pub from : latest step.before ≡ x
  pub to : latest step.after ≡ x + 1
  pub change : ℕ
  pub of_board : change < 8
  pub by : w ≡ toggle v change
  pub asker : ℕ
  pub outside : Outside faulty asker
  pub within : member v asker ≡ true
  pub asked : Asked earlier asker x change

-- Whatever view a board outside the faulty ones defines after its first was earned so.
abbrev pub AskedFor : ℕ → List State → List Step → Type 0
AskedFor faulty rows h = (b x v w : ℕ) → Outside faulty b → Defines rows b x v → Defines rows b (x + 1) w → Earned faulty h b x v w

-- The theorem: in every history from a common start that is vouched for and bounded, views agree and were asked for.
abbrev pub ViewsAgree : {S : Type 0} → Ghosts S → Type 0
ViewsAgree g =
    (faulty first : ℕ) (start rows : List State) (h : List Step) → Started first start → Leads g faulty start rows h
    → Vouched faulty h → Bounded faulty rows → OneView faulty rows × AskedFor faulty rows h
