-- That the statement speaks of something: there are histories of the sort that it asks for, in which two boards close a view.
-- Board 0 tells boards 1 and 2 different payloads under one number, and is asked out; the ends of boards 1 and 2 make different claims, and both boards close view 1.
use Rattle.std.specs.Prelude.{◌≡◌, ℕ, ◌⊎◌, List, [], ◌∷◌}
use Rattle.schemes.specs.Meaning.{Bounded as SignableOnly}
use Rattle.wire.specs.declared.message.Sort.TheVariants.{Report, End}
use Rattle.wire.specs.Acts.{Act, words}
use Rattle.delivery.specs.Reports.{Content, content}
use Rattle.views_agree.specs.Agreement.{Accepted, Bounded, Defines}
use Rattle.views_agree.specs.Grounds.{trusting}
use Rattle.reports_agree.specs.OneBoard.{Echoes}
use Rattle.reports_agree.specs.Agreement.{Step, Boards, Started, Leads, Vouched, Signed, Delivered, number_delivered, Closed, WentOn}

-- Board b accepted an init of a content under a view, sender and number.
abbrev pub AcceptedInit : List Step → ℕ → ℕ → ℕ → ℕ → Content → Type 0
AcceptedInit [] b y s i c = ⊥
AcceptedInit (Step.of_group e d d2 ∷ h) b y s i c = AcceptedInit h b y s i c
AcceptedInit (Step.of_reports e ∷ h) b y s i c = ((e.board ≡ b) × Accepted e.answer × Echoes e.call y s i c) ⊎ AcceptedInit h b y s i c
AcceptedInit (Step.takes t r d d2 ∷ h) b y s i c = AcceptedInit h b y s i c

-- The two payloads, and an end that claims so many.
abbrev pub one_payload : Content
one_payload = content Report (7 ∷ [])

abbrev pub other_payload : Content
other_payload = content Report (8 ∷ [])

abbrev pub claiming : ℕ → Content
claiming m = content End (m ∷ [])

-- Board b accepted an init of board 0's first message with this content, and signed the echo.
pub record Echoed (h : List Step) (b : ℕ) (c : Content) : Type 0 where
  pub init : AcceptedInit h b 1 0 1 c
  pub echo : Signed h b (words (Act.echo 1 0 1 c.sort c.payload))

-- Board b defines view 2, which leaves board 0 out. In view 1 it delivered one message of board 0, and the ends of boards 1 and 2, which claim one and none. It closed view 1 and went on.
pub record ClosesFirst (w : Boards) (h : List Step) (b : ℕ) : Type 0 where
  pub second : Defines w.rows b 2 0x70
  pub payload : Delivered h b 1 0 1 one_payload
  pub number : number_delivered h b 1 0 ≡ 1
  pub higher_end : Delivered h b 1 1 1 (claiming 1)
  pub lower_end : Delivered h b 1 2 1 (claiming 0)
  pub closed : Closed 0x80 w h b 1
  pub went_on : WentOn h b 1

-- Such a history, over a scheme that keeps the law of schemes: boards 0 to 3 (0xF0) are view 1, and board 0 (0x80) is faulty; boards 1 to 3 (0x70) are view 2.
pub record SomeClosing : Type 0 where
  pub lawful : SignableOnly trusting.good
  pub start : Boards
  pub boards : Boards
  pub history : List Step
  pub started : Started 0xF0 start
  pub leads : Leads trusting 0x80 start boards history
  pub vouched : Vouched 0x80 history
  pub bounded : Bounded 0x80 boards.rows
  pub echoed_at_one : Echoed history 1 one_payload
  pub echoed_at_two : Echoed history 2 other_payload
  pub closes_at_one : ClosesFirst boards history 1
  pub closes_at_two : ClosesFirst boards history 2
