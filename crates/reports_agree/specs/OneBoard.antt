-- What holds of one board alone, in every history of both layers' calls from a common start, whatever was heard: nothing is asked of tags, and nothing of how many boards are faulty.
-- In each line b is the board, y a view, s a sender and i a number.
use Rattle.std.specs.Prelude.{◌≡◌, ℕ, ◌+◌, ◌<◌, ◌≤◌, true, ◌⊎◌, List, Some}
use Rattle.std.specs.List.{Contains}
use Rattle.schemes.specs.declared.Scheme.{Ghosts}
use Rattle.wire.specs.Messages.{Msg}
use Rattle.views_agree.specs.Agreement.{Outside, row_of, Accepted}
use Rattle.delivery.specs.Reports.{Content, content, claim, count_of}
use Rattle.delivery.specs.Endings.{stays, is_left_out, ends_in, cut}
use Rattle.delivery.specs.Refusals.{has_finished}
use Rattle.reports_agree.specs.Agreement.{Call, Event, Step, reports_before, reports_after, Boards, reports_of, Started, Leads, SentBy, Delivers, Delivered, number_delivered, WentOn}

-- An init of this view, sender, number and content: an accepted hear of one echoes it.
abbrev pub Inits : Msg → ℕ → ℕ → ℕ → Content → Type 0
Inits (Msg.init v t n k p ts) y s i c = (y ≡ v) × (s ≡ t) × (i ≡ n) × (c ≡ content k p)
Inits m y s i c = ⊥

abbrev pub Echoes : Call → ℕ → ℕ → ℕ → Content → Type 0
Echoes (Call.send p) y s i c = ⊥
Echoes Call.finish y s i c = ⊥
Echoes (Call.hear m) y s i c = Inits m y s i c

-- Board b delivered under y an end that claims m, of a board of y and y + 1.
pub record EndDelivered (w : Boards) (h : List Step) (b y m : ℕ) : Type 0 where
  pub board : ℕ
  pub stays : stays (row_of w.rows b).views y board ≡ true
  pub number : ℕ
  pub content : Content
  pub claims : claim content ≡ Some m
  pub delivered : Delivered h b y board number content

pub record OneBoard (faulty : ℕ) (w : Boards) (h : List Step) : Type 0 where
  -- A board's count for a sender is the number of messages that it delivered from that sender under its delivery view.
  pub counted : (b y s : ℕ) → Outside faulty b → (reports_of w b).view ≡ Some y → number_delivered h b y s ≡ count_of (reports_of w b) s
  -- What it delivers it delivers under its delivery view, and it has the next number of its sender.
  pub next : (e : Event) (y s i : ℕ) (c : Content) → Contains h (Step.of_reports e) → Accepted e.answer → Delivers e.call y s i c → (e.before.view ≡ Some y) × (i ≡ count_of e.before s + 1)
  -- So what it delivered from a sender under a view has the numbers from 1 on; each of them was delivered, and with one content.
  pub numbers : (b y s i : ℕ) (c : Content) → Outside faulty b → Delivered h b y s i c → (1 ≤ i) × (i ≤ number_delivered h b y s)
  pub no_gap : (b y s i : ℕ) → Outside faulty b → 1 ≤ i → i ≤ number_delivered h b y s → (c : Content) × Delivered h b y s i c
  pub one_each : (b y s i : ℕ) (c e : Content) → Outside faulty b → Delivered h b y s i c → Delivered h b y s i e → c ≡ e
  -- An end is the last.
  pub last : (b y s i j m : ℕ) (c e : Content) → Outside faulty b → Delivered h b y s i c → claim c ≡ Some m → Delivered h b y s j e → j ≤ i
  -- The delivery view only rises: a view that the reports went on from is below it ever after, and nothing was delivered under a view above it.
  pub rises : (b y z : ℕ) → Outside faulty b → WentOn h b y → (reports_of w b).view ≡ Some z → y < z
  pub none_above : (b y z s i : ℕ) (c : Content) → Outside faulty b → Delivered h b y s i c → (reports_of w b).view ≡ Some z → y ≤ z
  -- In a step after which the delivery view is the same no count has fallen.
  pub counts_rise : (e : Step) (s : ℕ) → Contains h e → (reports_after e).view ≡ (reports_before e).view → count_of (reports_before e) s ≤ count_of (reports_after e) s
  -- Once its own last message is an end a board echoes nothing of the board that the next view leaves out.
  pub not_echoed : (e : Event) (y r i : ℕ) (c : Content) → Contains h (Step.of_reports e) → has_finished e.before ≡ true → is_left_out e.row.views y r ≡ true → Accepted e.answer → Echoes e.call y r i c → ⊥
  -- And it delivers nothing of that board until the ends of all boards that stay are delivered, and then nothing above the cut.
  pub cut_off : (e : Event) (y r i : ℕ) (c : Content) → Contains h (Step.of_reports e) → has_finished e.before ≡ true → is_left_out e.row.views y r ≡ true → Accepted e.answer → Delivers e.call y r i c
      → (ends_in e.row.views y e.before ≡ true) × (i ≤ cut e.row.views y e.before)
  -- So the number of what it delivered from that board is within the claim of the end that it sent itself, or within that of an end that it delivered.
  pub within_claims : (b y j m r i : ℕ) (e c : Content) → Outside faulty b → SentBy h b y j e → claim e ≡ Some m → is_left_out (row_of w.rows b).views y r ≡ true → Delivered h b y r i c
      → (i ≤ m) ⊎ ((n : ℕ) × EndDelivered w h b y n × (i ≤ n))

abbrev pub OneBoardHolds : {S : Type 0} → Ghosts S → Type 0
OneBoardHolds g = (faulty first : ℕ) (start w : Boards) (h : List Step) → Started first start → Leads g faulty start w h → OneBoard faulty w h
