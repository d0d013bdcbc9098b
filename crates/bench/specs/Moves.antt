-- What a move does on the bench: one step of the membership layer at a row outside the faulty boards, or a faulty board's signature.
-- A step is what the call's own contract promises, with the register as it was before and after.
use Rattle.std.specs.Prelude.{◌≡◌, ℕ, true, List, [], ◌∷◌, map, Ok, slice_set}
use Rattle.boards.specs.Boards.{member}
use Rattle.schemes.specs.Meaning.{Signed}
use Rattle.schemes.specs.Registers.{good_in, spent_in}
use Rattle.wire.specs.Messages.{tag_bytes}
use Rattle.wire.specs.Acts.{words}
use Rattle.words.specs.declared.statement.Statement.{Statement}
use Rattle.words.specs.Said.{said}
use Rattle.row.specs.declared.state.Sent.{Sent}
use Rattle.row.specs.declared.state.State.{State}
use Rattle.row.specs.Effects.{lone}
use Rattle.row.specs.Calls.{Posted}
use Rattle.views_agree.specs.Agreement.{Step, Outside, row_of, Promised}
use Rattle.bench.specs.declared.desk.Page.{Page}
use Rattle.bench.specs.declared.desk.Desk.{Desk}
use Rattle.bench.specs.declared.desk.Bench.{Bench}
use Rattle.bench.specs.declared.story.Move.{Move}
use Rattle.bench.specs.declared.story.Move.TheVariants.{AskOut, AskIn, Hear, Sign}
use Rattle.bench.specs.Story.{over_register, page_of, turned, Makes}

-- The states of the rows, and the pages.
abbrev pub states : List Desk → List State
states ds = map (λ d. d.row.state) ds

abbrev pub pages : List Desk → List Page
pages ds = map (λ d. d.page) ds

-- A row and a page are put down at a board's desk; nothing else changes.
pub record Put (b : Bench) (board : ℕ) (st : State) (page : Page) (b2 : Bench) : Type 0 where
  pub states : states b2.desks ≡ slice_set (states b.desks) board st
  pub pages : pages b2.desks ≡ slice_set (pages b.desks) board page
  pub register : b2.register ≡ b.register
  pub faulty : b2.faulty ≡ b.faulty

-- A call was made at a row: a step.
pub record Called (b : Bench) (e : Step) (b2 : Bench) : Type 0 where
  pub outside : Outside b.faulty.bits e.board
  pub before : e.before ≡ row_of (states b.desks) e.board
  pub offered : e.offered ≡ (page_of (pages b.desks) e.board).bytes
  pub promised : Promised over_register e.call e b.register b2.register
  pub states : states b2.desks ≡ slice_set (states b.desks) e.board e.after
  pub pages : pages b2.desks ≡ slice_set (pages b.desks) e.board (turned e.written e.answer (page_of (pages b.desks) e.board))
  pub faulty : b2.faulty ≡ b.faulty

-- A faulty board signed a statement and wrote its lone message.
pub record FaultySigned (b : Bench) (board : ℕ) (x : Statement) (b2 : Bench) : Type 0 where
  pub of_faulty : member b.faulty.bits board ≡ true
  pub tag : ℕ
  pub sent : Sent
  pub out : List ℕ
  pub signed : Signed (good_in b.register) (good_in b2.register) (spent_in b.register) board (words (said x)) tag
  pub posted : Posted 0 (lone (said x) board 0 [] (tag_bytes tag)) (page_of (pages b.desks) board).bytes sent out
  pub states : states b2.desks ≡ states b.desks
  pub pages : pages b2.desks ≡ slice_set (pages b.desks) board (turned out (Ok sent) (page_of (pages b.desks) board))
  pub faulty : b2.faulty ≡ b.faulty

-- A move that is a call was made; any move was.
abbrev pub ByCall : Bench → Move → Bench → Type 0
ByCall b m b2 = (e : Step) × Makes (pages b.desks) m e × Called b e b2

abbrev pub Moved : Bench → Move → Bench → Type 0
Moved b (AskOut at c) b2 = ByCall b (AskOut at c) b2
Moved b (AskIn at c) b2 = ByCall b (AskIn at c) b2
Moved b (Hear at from) b2 = ByCall b (Hear at from) b2
Moved b (Sign board x) b2 = FaultySigned b board x b2

-- Moves were made, one after another.
pub data Played : List Move → Bench → Bench → Type 0 where
  over : {b : Bench} → Played [] b b
  on : {m : Move} {ms : List Move} {b b2 b3 : Bench} → Moved b m b2 → Played ms b2 b3 → Played (m ∷ ms) b b3
