-- What the story shows: a history of just its calls that meets every premise of the agreement theorem, and what the boards define at its end.
-- Five boards begin, 0 to 4, of which board 1 is faulty. Each board has a page; to hear from a board is to read the frame that it wrote there last.
use Rattle.std.specs.Prelude.{◌≡◌, ℕ, true, cond, List, [], ◌∷◌, take, replicate, Some, Ok, Err, Result, nat_lt, slice_index_or, slice_set}
use Rattle.boards.specs.Boards.{member}
use Rattle.codes.specs.declared.Refusal.{Refusal}
use Rattle.schemes.specs.declared.Scheme.{Ghosts}
use Rattle.schemes.specs.declared.register.Register.{Register}
use Rattle.schemes.specs.Registers.{good_in, spent_in}
use Rattle.wire.specs.Messages.{Msg, tag_bytes}
use Rattle.wire.specs.Reads.{Reads}
use Rattle.words.specs.declared.statement.Statement.{Statement}
use Rattle.words.specs.Said.{said}
use Rattle.row.specs.declared.state.Sent.{Sent}
use Rattle.row.specs.declared.state.State.{State}
use Rattle.row.specs.States.{latest}
use Rattle.row.specs.Effects.{lone}
use Rattle.row.specs.Calls.{Posted}
use Rattle.views_agree.specs.Agreement.{Call, Step, Outside, row_of, Started, Leads, Vouched, Bounded, Defines}
use Rattle.bench.specs.declared.desk.Page.{Page}
use Rattle.bench.specs.declared.story.Move.{Move}
use Rattle.bench.specs.declared.story.Move.TheVariants.{AskOut, AskIn, Hear, Sign}

-- The register as a scheme.
abbrev pub over_register : Ghosts Register
over_register = record { good = good_in; spent = spent_in }

-- Boards 0 to 4; the faulty board; the group after the manager's change, by which board 3 left; and after the deputy's, by which board 5 joined.
abbrev pub first : ℕ
first = 0xF8

abbrev pub faulty : ℕ
faulty = 0x40

abbrev pub second : ℕ
second = 0xE8

abbrev pub third : ℕ
third = 0xEC

-- A page with no frame on it, a board's page, and the frame on a page.
abbrev pub blank : Page
blank = record { bytes = replicate 128 0; length = 0 }

abbrev pub page_of : List Page → ℕ → Page
page_of ps b = slice_index_or ps b blank

abbrev pub frame : Page → List ℕ
frame p = take p.length p.bytes

-- A page after a call that left these bytes on it with this answer: who sends nothing leaves the frame as it was.
abbrev pub told : Result Sent Refusal → ℕ → ℕ
told (Ok a) n = cond (nat_lt 0 a.length) a.length n
told (Err e) n = n

abbrev pub turned : List ℕ → Result Sent Refusal → Page → Page
turned out r p = record { bytes = out; length = told r p.length }

-- The step that a move makes; a faulty board's signature makes none. An ask-in is made with the row's latest view as delivery view.
abbrev pub Makes : List Page → Move → Step → Type 0
Makes ps (AskOut at c) e = (e.board ≡ at) × (e.call ≡ Call.ask_out c)
Makes ps (AskIn at c) e = (e.board ≡ at) × (e.call ≡ Call.ask_in c (Some (latest e.before)))
Makes ps (Hear at from) e = (e.board ≡ at) × (m : Msg) × (e.call ≡ Call.hear m) × Reads (frame (page_of ps from)) (Ok m)
Makes ps (Sign board x) e = ⊥

-- Moves lead from one history to a longer one. A call is offered its board's page, and adds a step, the latest first; a faulty board writes the
-- lone message of what it states, with some tag, and adds none.
pub data Adds : List Move → List Page → List Step → List Step → Type 0 where
  none : {ps : List Page} {h : List Step} → Adds [] ps h h
  call : {m : Move} {ms : List Move} {ps : List Page} {h h2 : List Step} (e : Step) → Makes ps m e → e.offered ≡ (page_of ps e.board).bytes
      → Adds ms (slice_set ps e.board (turned e.written e.answer (page_of ps e.board))) (e ∷ h) h2 → Adds (m ∷ ms) ps h h2
  signature : {board : ℕ} {x : Statement} {ms : List Move} {ps : List Page} {h h2 : List Step} (tag : ℕ) (a : Sent) (out : List ℕ) → member faulty board ≡ true
      → Posted 0 (lone (said x) board 0 [] (tag_bytes tag)) (page_of ps board).bytes a out → Adds ms (slice_set ps board (turned out (Ok a) (page_of ps board))) h h2
      → Adds (Sign board x ∷ ms) ps h h2

-- A history of just these calls, vouched for and bounded, after which every board that is not faulty is in view 3, and came there by these groups.
pub record Story (moves : List Move) : Type 0 where
  pub start : List State
  pub rows : List State
  pub history : List Step
  pub started : Started first start
  pub leads : Leads over_register faulty start rows history
  pub calls : Adds moves (replicate 8 blank) [] history
  pub vouched : Vouched faulty history
  pub bounded : Bounded faulty rows
  pub ends : (b : ℕ) → Outside faulty b → (latest (row_of rows b) ≡ 3) × Defines rows b 2 second × Defines rows b 3 third
