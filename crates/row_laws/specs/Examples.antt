-- Two examples in a view of five: how the floor falls as a row hears certificates, and what it acks when it hears a suggest-last.
-- Each fact is what the contract of a hear speaks of, for 128 offered bytes, good tags and a scheme that is not spent.
use Rattle.std.specs.Prelude.{◌≡◌, ℕ, ◌*◌, true, false, List, [], ◌∷◌, replicate, Some, None, Option}
use Rattle.std.specs.List.{AllByRecursion}
use Rattle.boards.specs.Boards.{boards, only}
use Rattle.views.specs.Histories.{begun}
use Rattle.codes.specs.declared.Refusal.{Refusal}
use Rattle.codes.specs.declared.Refusal.TheVariants.{Late}
use Rattle.wire.specs.declared.message.Entry.{Entry}
use Rattle.wire.specs.Messages.{Msg, Reply, none}
use Rattle.wire.specs.Format.{Formed}
use Rattle.wire.specs.Acts.{Act}
use Rattle.wire.specs.Examples.{kept}
use Rattle.row.specs.declared.state.State.{State}
use Rattle.row.specs.States.{the_set, fresh}
use Rattle.row.specs.Refusals.{hear_refusal}
use Rattle.row.specs.Effects.{Effect, heard}

-- The sets of boards 0 to 4, 0 to 3, and 0 and 1.
abbrev pub five : ℕ
five = 0xF8

abbrev pub four : ℕ
four = 0xF0

abbrev pub two : ℕ
two = 0xC0

-- The tags of so many boards; which tags are good is the scheme's matter, so they are all zero here.
abbrev pub tags : ℕ → List ℕ
tags n = replicate (8 * n) 0

-- For change 2 in view 1: the manager's suggest, the proposal of a rank, and rank 4's query.
abbrev pub the_suggest : Msg
the_suggest = Msg.suggest 1 2 two (tags 2)

abbrev pub proposal_of : ℕ → Msg
proposal_of rank = Msg.proposal 1 rank 2 four (tags 4)

abbrev pub the_query : Msg
the_query = Msg.query 1 4 two (tags 2)

-- Rank 4's suggest-last: board 1 kept rank 5's proposal for change 2, the other three nothing; or no board kept any.
abbrev pub told : Entry → Reply
told e = record { entry = e; tag = tags 1 }

abbrev pub one_kept : Msg
one_kept = Msg.suggest_last 1 4 four (told none ∷ told kept ∷ told none ∷ told none ∷ []) four (tags 4)

abbrev pub none_kept : Msg
none_kept = Msg.suggest_last 1 4 four (told none ∷ told none ∷ told none ∷ told none ∷ []) 0 []

-- Why the row refuses the message, if it does; the row that has taken it.
abbrev pub refused : State → Msg → Option Refusal
refused s m = hear_refusal s m 128 true false

abbrev pub after : State → Msg → State
after s m = (heard s m).0

-- The row takes the message, and then has this floor.
abbrev pub Leaves : State → Msg → ℕ → Type 0
Leaves s m floor = (refused s m ≡ None) × ((after s m).voter.floor ≡ floor)

-- The row takes the message, and answers this board with this act.
abbrev pub Answers : State → Msg → ℕ → Act → Type 0
Answers s m to act = (refused s m ≡ None) × ((heard s m).1 ≡ Effect.signs (only to) act 0 [])

-- The row of a board: new, and after one, two and three messages.
abbrev pub new : ℕ → State
new board = fresh board (begun (the_set five))

abbrev pub suggested : ℕ → State
suggested board = after (new board) the_suggest

abbrev pub proposed : ℕ → State
proposed board = after (suggested board) (proposal_of 5)

abbrev pub queried : ℕ → State
queried board = after (proposed board) the_query

pub record Examples (board : ℕ) : Type 0 where
  -- The members of the view, and messages that have bytes.
  pub members : boards five ≡ 0 ∷ 1 ∷ 2 ∷ 3 ∷ 4 ∷ []
  pub formed : AllByRecursion Formed (the_suggest ∷ proposal_of 5 ∷ the_query ∷ proposal_of 4 ∷ one_kept ∷ none_kept ∷ [])
  -- The floor of a new row is 15; the manager's suggest leaves 14, then rank 5's proposal 13, then rank 4's query 12.
  pub start : (new board).voter.floor ≡ 15
  pub suggest : Leaves (new board) the_suggest 14
  pub proposal : Leaves (suggested board) (proposal_of 5) 13
  pub query : Leaves (proposed board) the_query 12
  -- Then rank 5's proposal comes too late, and rank 4's leaves 10.
  pub late : refused (queried board) (proposal_of 5) ≡ Some Late
  pub lower : Leaves (queried board) (proposal_of 4) 10
  -- Earlier ranks 0, 5, 0, 0 with change 2: the row acks change 2, to rank 4, board 3.
  pub kept_is_acked : Answers (new board) one_kept 3 (Act.ack 1 4 2)
  -- Earlier ranks all 0: it acks board 4, the manager.
  pub manager_is_acked : Answers (new board) none_kept 3 (Act.ack 1 4 4)
