-- The boards agree on their reports: over whole histories of the membership layer's and the delivery layer's calls at eight boards.
-- A board has two halves, its row and its reports. A call of the membership layer is a step of `views_agree` at the rows, and the reports follow it;
-- a call of the delivery layer changes no row.
use Rattle.std.specs.Prelude.{◌≡◌, ℕ, ◌+◌, ◌<◌, ◌≤◌, Bool, true, false, cond, ◌&&◌, ◌⊎◌, List, [], ◌∷◌, length, Some, None, Ok, Err, Result, ◌==◌, slice_index_or, slice_set}
use Rattle.boards.specs.Boards.{member}
use Rattle.codes.specs.declared.Refusal.{Refusal}
use Rattle.schemes.specs.declared.Scheme.{Ghosts}
use Rattle.wire.specs.Messages.{Msg, tag_bytes}
use Rattle.wire.specs.Acts.{Act, Allowed, words, signers, act_of, proof_of, proved_act}
use Rattle.row.specs.declared.state.State.{State}
use Rattle.row.specs.declared.state.Sent.{Sent}
use Rattle.row.specs.Effects.{lone}
use Rattle.row.specs.Calls.{Posted}
use Rattle.views_agree.specs.Agreement.{Call as GroupCall, Step as GroupStep, Outside, row_of, Started as RowsStarted, Taken as GroupTaken, Accepted, Defines, Bounded, OneView, AskedFor}
use Rattle.delivery.specs.Reports.{Content, content, claim, Record, Reports, opened, started}
use Rattle.delivery.specs.Calls.{Sends, Finishes, HeardAny, Takes, Follows}

-- A call of the delivery layer.
pub data Call : Type 0 where
  send : (payload : List ℕ) → Call
  finish : Call
  hear : (message : Msg) → Call

-- One such call at a board: its answer, the offered bytes, the row that it is lent, and the reports before and after it.
pub record Event : Type 0 where
  pub board : ℕ
  pub call : Call
  pub answer : Result Sent Refusal
  pub offered : List ℕ
  pub written : List ℕ
  pub row : State
  pub before : Reports
  pub after : Reports

-- A step: a call of the membership layer, with the board's reports before and after it; one of the delivery layer; or a take at a board.
pub data Step : Type 0 where
  of_group : (e : GroupStep) (before after : Reports) → Step
  of_reports : (e : Event) → Step
  takes : (board : ℕ) (record_out : Record) (before after : Reports) → Step

-- The board of a step, and its reports before and after it.
abbrev pub at_board : Step → ℕ
at_board (Step.of_group e d d2) = e.board
at_board (Step.of_reports e) = e.board
at_board (Step.takes b r d d2) = b

abbrev pub reports_before : Step → Reports
reports_before (Step.of_group e d d2) = d
reports_before (Step.of_reports e) = e.before
reports_before (Step.takes b r d d2) = d

abbrev pub reports_after : Step → Reports
reports_after (Step.of_group e d d2) = d2
reports_after (Step.of_reports e) = e.after
reports_after (Step.takes b r d d2) = d2

-- The eight boards: their rows, and their reports.
pub record Boards : Type 0 where
  pub rows : List State
  pub reports : List Reports

abbrev pub reports_of : Boards → ℕ → Reports
reports_of w b = slice_index_or w.reports b (opened None None)

-- The start: rows as membership has them at a start, members of view 1 deliver in it, and other boards in none.
abbrev pub Started : ℕ → Boards → Type 0
Started first w = RowsStarted first w.rows × (length w.reports ≡ 8) × ((b : ℕ) → b < 8 → reports_of w b ≡ started first b)

-- A take may be at any of the eight boards.
pub record TakeMoves (b : ℕ) (r : Record) (d d2 : Reports) (w w2 : Boards) : Type 0 where
  pub below : b < 8
  pub here : d ≡ reports_of w b
  pub promised : Takes d r d2
  pub rows : w2.rows ≡ w.rows
  pub put : w2.reports ≡ slice_set w.reports b d2

module _ {S : Type 0} (g : Ghosts S) where
  -- What the contract of a call promises; a message that is heard has an answer: it is formed, and of kinds 11 to 13.
  abbrev pub Promised : Call → Event → S → S → Type 0
  Promised (Call.send p) e s s2 = Sends g e.row e.before s p e.offered e.answer e.after s2 e.written
  Promised Call.finish e s s2 = Finishes g e.row e.before s e.offered e.answer e.after s2 e.written
  Promised (Call.hear m) e s s2 = HeardAny g e.row e.before s m e.offered (Some e.answer) e.after s2 e.written

  -- A call of the membership layer moves the row of its board, and then the reports of that board follow it; the scheme goes as the call says.
  pub record GroupMoves (faulty : ℕ) (e : GroupStep) (d d2 : Reports) (w w2 : Boards) : Type 0 where
    pub taken : GroupTaken g faulty e w.rows w2.rows
    pub here : d ≡ reports_of w e.board
    pub follows : Follows e.before e.after d d2
    pub put : w2.reports ≡ slice_set w.reports e.board d2

  -- A call of the delivery layer, at a board outside the faulty ones, moves its reports.
  pub record ReportsMove (faulty : ℕ) (e : Event) (w w2 : Boards) : Type 0 where
    pub outside : Outside faulty e.board
    pub row : e.row ≡ row_of w.rows e.board
    pub here : e.before ≡ reports_of w e.board
    pub scheme : S
    pub scheme_after : S
    pub promised : Promised e.call e scheme scheme_after
    pub rows : w2.rows ≡ w.rows
    pub put : w2.reports ≡ slice_set w.reports e.board e.after

  abbrev pub Taken : ℕ → Step → Boards → Boards → Type 0
  Taken faulty (Step.of_group e d d2) w w2 = GroupMoves faulty e d d2 w w2
  Taken faulty (Step.of_reports e) w w2 = ReportsMove faulty e w w2
  Taken faulty (Step.takes b r d d2) w w2 = TakeMoves b r d d2 w w2

  -- A history: steps, the latest first, that lead from the boards at the start to the boards as they are.
  pub data Leads (faulty : ℕ) (start : Boards) : Boards → List Step → Type 0 where
    begin : Leads faulty start start []
    next : {w w2 : Boards} {h : List Step} → Leads faulty start w h → (e : Step) → Taken faulty e w w2 → Leads faulty start w2 (e ∷ h)

-- The steps of the membership layer among those of both.
abbrev pub group_steps : List Step → List GroupStep
group_steps [] = []
group_steps (Step.of_group e d d2 ∷ h) = e ∷ group_steps h
group_steps (Step.of_reports e ∷ h) = group_steps h
group_steps (Step.takes b r d d2 ∷ h) = group_steps h

-- In a call at board b with this answer, the message then in the offered bytes is the lone message of an act.
pub record Wrote (b : ℕ) (answer : Result Sent Refusal) (offered written : List ℕ) (act : Act) : Type 0 where
  pub sent : Sent
  pub accepted : answer ≡ Ok sent
  pub to : ℕ
  pub proof : ℕ
  pub acks : List ℕ
  pub tag : ℕ
  pub posted : Posted to (lone act b proof acks (tag_bytes tag)) offered sent written

-- In this step board b wrote the lone message of an act.
abbrev pub WroteIn : Step → ℕ → Act → Type 0
WroteIn (Step.of_group e d d2) b act = (e.board ≡ b) × Wrote b e.answer e.offered e.written act
WroteIn (Step.of_reports e) b act = (e.board ≡ b) × Wrote b e.answer e.offered e.written act
WroteIn (Step.takes c r d d2) b act = ⊥

-- Board b signed w: the words of an act whose lone message it wrote.
abbrev pub Signed : List Step → ℕ → List ℕ → Type 0
Signed [] b w = ⊥
Signed (e ∷ h) b w = ((act : Act) × WroteIn e b act × (w ≡ words act)) ⊎ Signed h b w

-- Board b sent a content under a view and number: it wrote the init, whose fields the format allows.
abbrev pub SentBy : List Step → ℕ → ℕ → ℕ → Content → Type 0
SentBy [] b y i c = ⊥
SentBy (e ∷ h) b y i c = (WroteIn e b (Act.init y b i c.sort c.payload) × Allowed (Act.init y b i c.sort c.payload)) ⊎ SentBy h b y i c

-- A commit of this view, sender, number and content: an accepted hear of one delivers it.
abbrev pub Commits : Msg → ℕ → ℕ → ℕ → Content → Type 0
Commits (Msg.commit v t n k p a ts) y s i c = (y ≡ v) × (s ≡ t) × (i ≡ n) × (c ≡ content k p)
Commits m y s i c = ⊥

abbrev pub Delivers : Call → ℕ → ℕ → ℕ → Content → Type 0
Delivers (Call.send p) y s i c = ⊥
Delivers Call.finish y s i c = ⊥
Delivers (Call.hear m) y s i c = Commits m y s i c

-- Board b delivered a content under a view, sender and number.
abbrev pub Delivered : List Step → ℕ → ℕ → ℕ → ℕ → Content → Type 0
Delivered [] b y s i c = ⊥
Delivered (Step.of_group e d d2 ∷ h) b y s i c = Delivered h b y s i c
Delivered (Step.of_reports e ∷ h) b y s i c = ((e.board ≡ b) × Accepted e.answer × Delivers e.call y s i c) ⊎ Delivered h b y s i c
Delivered (Step.takes t r d d2 ∷ h) b y s i c = Delivered h b y s i c

-- The same as tests: whether a call was not refused, and whether it is the hear of a commit of this view and sender.
abbrev pub accepted : Result Sent Refusal → Bool
accepted (Ok a) = true
accepted (Err e) = false

abbrev pub commits : Call → ℕ → ℕ → Bool
commits (Call.hear (Msg.commit v t n k p a ts)) y s = y == v && s == t
commits c y s = false

-- How many messages board b delivered from a sender under a view.
unfoldable pub number_delivered : List Step → ℕ → ℕ → ℕ → ℕ
number_delivered [] b y s = 0
number_delivered (Step.of_group e d d2 ∷ h) b y s = number_delivered h b y s
number_delivered (Step.of_reports e ∷ h) b y s = cond (b == e.board && (accepted e.answer && commits e.call y s)) (number_delivered h b y s + 1) (number_delivered h b y s)
number_delivered (Step.takes t r d d2 ∷ h) b y s = number_delivered h b y s

-- An accepted hear is vouched for by the steps before it: each board outside the faulty ones, in its set or in its proof, signed the words that its tag there stands for.
abbrev pub Backs : ℕ → List Step → Msg → Result Sent Refusal → Type 0
Backs faulty h m (Err e) = Unit {0}
Backs faulty h m (Ok a) =
    ((b : ℕ) → Outside faulty b → member (signers m) b ≡ true → Signed h b (words (act_of m b)))
    × ((b : ℕ) → Outside faulty b → member (proof_of m).boards b ≡ true → Signed h b (words (proved_act m)))

abbrev pub GroupVouched : ℕ → List Step → GroupCall → Result Sent Refusal → Type 0
GroupVouched faulty h (GroupCall.ask_out c) r = Unit {0}
GroupVouched faulty h (GroupCall.ask_in c y) r = Unit {0}
GroupVouched faulty h (GroupCall.hear m) r = Backs faulty h m r

abbrev pub ReportsVouched : ℕ → List Step → Call → Result Sent Refusal → Type 0
ReportsVouched faulty h (Call.send p) r = Unit {0}
ReportsVouched faulty h Call.finish r = Unit {0}
ReportsVouched faulty h (Call.hear m) r = Backs faulty h m r

abbrev pub VouchedFor : ℕ → List Step → Step → Type 0
VouchedFor faulty h (Step.of_group e d d2) = GroupVouched faulty h e.call e.answer
VouchedFor faulty h (Step.of_reports e) = ReportsVouched faulty h e.call e.answer
VouchedFor faulty h (Step.takes b r d d2) = Unit {0}

-- Every accepted hear of the history is.
abbrev pub Vouched : ℕ → List Step → Type 0
Vouched faulty [] = Unit {0}
Vouched faulty (e ∷ h) = Vouched faulty h × VouchedFor faulty h e

-- All boards outside the faulty ones deliver one content for a view, sender and number.
abbrev pub OneContent : ℕ → List Step → Type 0
OneContent faulty h = (b d y s i : ℕ) (c e : Content) → Outside faulty b → Outside faulty d → Delivered h b y s i c → Delivered h d y s i e → c ≡ e

-- What a sender outside the faulty ones is delivered with it sent, and it sent no other under that number.
abbrev pub TheOneSent : ℕ → List Step → Type 0
TheOneSent faulty h =
    (b y s i : ℕ) (c : Content) → Outside faulty b → Outside faulty s → Delivered h b y s i c → SentBy h s y i c × ((e : Content) → SentBy h s y i e → c ≡ e)

-- Board b closed view y: it is in y and y + 1, both defined there, and delivered under y the ends of all boards of both, and from a board that y + 1 leaves out at least as many messages
-- as each of these ends claims.
pub record Closed (faulty : ℕ) (w : Boards) (h : List Step) (b y : ℕ) : Type 0 where
  pub outside : Outside faulty b
  pub view : ℕ
  pub next : ℕ
  pub defined : Defines w.rows b y view
  pub defined_next : Defines w.rows b (y + 1) next
  pub within : member view b ≡ true
  pub within_next : member next b ≡ true
  pub ends : (t : ℕ) → member view t ≡ true → member next t ≡ true → (i : ℕ) × (c : Content) × (m : ℕ) × (claim c ≡ Some m) × Delivered h b y t i c
  pub enough : (r t i : ℕ) (c : Content) (m : ℕ) → member view r ≡ true → member next r ≡ false → member view t ≡ true → member next t ≡ true
      → Delivered h b y t i c → claim c ≡ Some m → m ≤ number_delivered h b y r

-- Two boards that closed a view delivered equally many messages under it from every sender.
abbrev pub SameNumber : ℕ → Boards → List Step → Type 0
SameNumber faulty w h = (b d y s : ℕ) → Closed faulty w h b y → Closed faulty w h d y → number_delivered h b y s ≡ number_delivered h d y s

-- In this step the reports of board b went on from view y: it was their delivery view, and then was not.
abbrev pub WentOnIn : Step → ℕ → ℕ → Type 0
WentOnIn e b y = (at_board e ≡ b) × ((reports_before e).view ≡ Some y) × ((reports_after e).view ≡ Some y → ⊥)

abbrev pub WentOn : List Step → ℕ → ℕ → Type 0
WentOn [] b y = ⊥
WentOn (e ∷ h) b y = WentOnIn e b y ⊎ WentOn h b y

-- A board whose reports went on from a view although the next one has the board closed that view.
abbrev pub WentOnClosed : ℕ → Boards → List Step → Type 0
WentOnClosed faulty w h = (b y next : ℕ) → Outside faulty b → WentOn h b y → Defines w.rows b (y + 1) next → member next b ≡ true → Closed faulty w h b y

-- The theorem: in every history of both layers' calls, from a common start, that is vouched for and bounded.
pub record BoardsAgree (faulty : ℕ) (w : Boards) (h : List Step) : Type 0 where
  pub views : OneView faulty w.rows
  pub asked : AskedFor faulty w.rows (group_steps h)
  pub content : OneContent faulty h
  pub sent : TheOneSent faulty h
  pub number : SameNumber faulty w h
  pub went_on : WentOnClosed faulty w h

abbrev pub ReportsAgree : {S : Type 0} → Ghosts S → Type 0
ReportsAgree g =
    (faulty first : ℕ) (start w : Boards) (h : List Step) → Started first start → Leads g faulty start w h → Vouched faulty h → Bounded faulty w.rows → BoardsAgree faulty w h
