-- A history of thirty-five calls at boards 1 to 3. View 1 is boards 0 to 3, and board 0 is faulty; the moves are told part by part.
-- That they may be made, that they are vouched for, and what they come to, is computed (record Computed).
use Rattle.std.proofs.Common.{◌≡◌, ℕ, zero, suc, ◌*◌, ◌<◌, true, cond, not, ◌&&◌, ◌||◌, eqb, leb, List, [], ◌∷◌, get_or, replicate, refl, arith}
use Rattle.std.proofs.lemmas.Bool.{and_parts, leb-true, not-true}
use Rattle.boards.specs.Boards.{member, only, size, tally, place, any, every}
use Rattle.boards.proofs.Members.{member_below}
use Rattle.views.specs.Shares.{share, quorum}
use Rattle.views.specs.Groups.{toggle}
use Rattle.views.specs.Histories.{members_from, members_of, begun, grown}
use Rattle.schemes.specs.Bounds.{signable_says}
use Rattle.wire.specs.Messages.{Msg}
use Rattle.wire.specs.Acts.{Act}
use Rattle.row.specs.States.{highest, insert, latest_members, the_set, fresh}
use Rattle.delivery.specs.Reports.{Content, started}
use Rattle.delivery.specs.Endings.{largest, lowest_from}
use Rattle.views_agree.specs.Agreement.{row_of}
use Rattle.reports_agree.specs.Agreement.{Step, Boards, Delivered, number_delivered}
use Rattle.reports_agree.specs.Grounds.{Echoed, ClosesFirst, SomeClosing, one_payload, other_payload, claiming}
use Rattle.reports_agree.proofs.WitnessData.{or_second, each_of, each_of_true}
use Rattle.reports_agree.proofs.WitnessMoves.{Move, in_turn, boards_after, history_of, signings, signed_in, all_may, all_vouched, moves_lead, moves_vouched, signed_true}
use Rattle.reports_agree.proofs.WitnessHistory.{delivers, delivers_true, accepts_init, accepts_init_true, goes_on, goes_on_true, largest_claim, claimed_most, all_bear, bounded_true}

-- The messages: boards 0 and 1 ask board 0 out, and boards 0 to 2 vote for it. The tags are zeros, eight bytes a board.
abbrev zeros : ℕ → List ℕ
zeros n = replicate (8 * n) 0

abbrev the_suggest : Msg
the_suggest = Msg.suggest 1 0 0xC0 (zeros 2)

abbrev the_proposal : Msg
the_proposal = Msg.proposal 1 4 0 0xE0 (zeros 3)

abbrev the_change : Msg
the_change = Msg.change 1 4 0 0xE0 (zeros 3)

-- The init of a sender's first message with a content, and its commit by a set.
abbrev init_of : ℕ → Content → Msg
init_of s c = Msg.init 1 s 1 c.sort c.payload (zeros 1)

abbrev commit_of : ℕ → Content → ℕ → Msg
commit_of s c set = Msg.commit 1 s 1 c.sort c.payload set (zeros 3)

-- The claim of a board's end.
abbrev claim_by : ℕ → ℕ
claim_by t = cond (eqb t 1) 1 0

abbrev end_of : ℕ → Content
end_of t = claiming (claim_by t)

-- The moves, part by part. Board 0 tells boards 1 and 3 one payload, and board 2 another.
abbrev told : List Move
told = in_turn (Move.hears_report 1 (init_of 0 one_payload) ∷ Move.hears_report 3 (init_of 0 one_payload) ∷ Move.hears_report 2 (init_of 0 other_payload) ∷ []) []

-- Board 1 delivers the one that boards 0, 1 and 3 echoed.
abbrev delivered : List Move
delivered = in_turn (Move.hears_report 1 (commit_of 0 one_payload 0xD0) ∷ Move.takes 1 ∷ []) told

-- Board 1 asks board 0 out, and boards 1 and 2 vote for it.
abbrev voted : List Move
voted =
    in_turn (
    Move.asks_out 1 0 ∷ Move.hears_group 1 the_suggest ∷ Move.hears_group 2 the_suggest ∷ Move.hears_group 1 the_proposal ∷ Move.hears_group 2 the_proposal ∷ []) delivered

-- Boards 1 to 3 define view 2, and end view 1.
abbrev ended : List Move
ended =
    in_turn (
    Move.hears_group 1 the_change ∷ Move.hears_group 2 the_change ∷ Move.hears_group 3 the_change ∷ Move.finishes 1 ∷ Move.finishes 2 ∷ Move.finishes 3 ∷ []) voted

-- A board echoes the three ends; it delivers them, as boards 0 to 2 echoed them, and takes what it delivered.
abbrev echoes : ℕ → List Move → List Move
echoes b = in_turn (Move.hears_report b (init_of 1 (end_of 1)) ∷ Move.hears_report b (init_of 2 (end_of 2)) ∷ Move.hears_report b (init_of 3 (end_of 3)) ∷ [])

abbrev delivers_end : ℕ → ℕ → List Move → List Move
delivers_end b t = in_turn (Move.hears_report b (commit_of t (end_of t) 0xE0) ∷ Move.takes b ∷ [])

abbrev delivers_ends : ℕ → List Move → List Move
delivers_ends b before = delivers_end b 3 (delivers_end b 2 (delivers_end b 1 before))

-- Boards 1 and 2 do so. With the third end board 1 closes view 1; board 2 lacks a message of board 0, and closes it with that.
abbrev closed : List Move
closed = Move.hears_report 2 (commit_of 0 one_payload 0xD0) ∷ delivers_ends 2 (delivers_ends 1 (echoes 2 (echoes 1 ended)))

-- The boards at the start and at the end, and the history.
abbrev each_board : {X : Type 0} → (ℕ → X) → List X
each_board f = f 0 ∷ f 1 ∷ f 2 ∷ f 3 ∷ f 4 ∷ f 5 ∷ f 6 ∷ f 7 ∷ []

abbrev start : Boards
start = record { rows = each_board (λ b. fresh b (begun (the_set 0xF0))); reports = each_board (started 0xF0) }

abbrev boards : Boards
boards = boards_after start closed

abbrev history : List Step
history = history_of start closed

board_at : {X : Type 0} (f : ℕ → X) (x : X) (b : ℕ) → b < 8 → get_or (each_board f) b x ≡ f b
board_at f x zero h = refl
board_at f x (suc zero) h = refl
board_at f x (suc (suc zero)) h = refl
board_at f x (suc (suc (suc zero))) h = refl
board_at f x (suc (suc (suc (suc zero)))) h = refl
board_at f x (suc (suc (suc (suc (suc zero))))) h = refl
board_at f x (suc (suc (suc (suc (suc (suc zero)))))) h = refl
board_at f x (suc (suc (suc (suc (suc (suc (suc zero))))))) h = refl
board_at f x (suc (suc (suc (suc (suc (suc (suc (suc b)))))))) h = absurd (omega arith)

-- What the moves come to at board b.
record Echoes (b : ℕ) (c : Content) : Type 0 where
  init : accepts_init history b 1 0 1 c ≡ true
  echo : signed_in (signings start closed) b (Act.echo 1 0 1 c.sort c.payload) ≡ true

record Closes (b : ℕ) : Type 0 where
  first : members_of (row_of boards.rows b).views 1 ≡ 0xF0
  second : members_of (row_of boards.rows b).views 2 ≡ 0x70
  payload : delivers history b 1 0 1 one_payload ≡ true
  number : number_delivered history b 1 0 ≡ 1
  ends : each_of 0x70 (λ t. delivers history b 1 t 1 (end_of t)) ≡ true
  enough : each_of 0xF0 (λ t. member 0x70 t || leb (largest_claim history) (number_delivered history b 1 t)) ≡ true
  goes : goes_on history b 1 ≡ true

-- All that is computed.
record Computed : Type 0 where
  four : size 0xF0 ≡ 4
  three : size 0x70 ≡ 3
  may : all_may 0x80 start closed ≡ true
  vouched : all_vouched 0x80 (signings start closed) ≡ true
  bear : all_bear 0x80 3 boards.rows ≡ true
  correct : each_of 0x70 (λ b. member 0xF0 b && not (member 0x80 b)) ≡ true
  members : (member 0x70 1 ≡ true) × (member 0x70 2 ≡ true)
  one_echoes : Echoes 1 one_payload
  two_echoes : Echoes 2 other_payload
  one_closes : Closes 1
  two_closes : Closes 2

computed : Computed
unfolding begun grown toggle latest_members members_of members_from highest any member only size tally share quorum every largest lowest_from place insert number_delivered
computed = record {
  four = refl;
  three = refl;
  may = refl;
  vouched = refl;
  bear = refl;
  correct = refl;
  members = (refl, refl);
  one_echoes = record { init = refl; echo = refl };
  two_echoes = record { init = refl; echo = refl };
  one_closes = record { first = refl; second = refl; payload = refl; number = refl; ends = refl; enough = refl; goes = refl };
  two_closes = record { first = refl; second = refl; payload = refl; number = refl; ends = refl; enough = refl; goes = refl };
}

echoed_by : (b : ℕ) (c : Content) → Echoes b c → Echoed history b c
echoed_by b c e = record { init = accepts_init_true history b 1 0 1 c e.init; echo = signed_true start closed b (Act.echo 1 0 1 c.sort c.payload) e.echo }

closed_by : (b : ℕ) → member 0x70 b ≡ true → Closes b → ClosesFirst boards history b
closed_by b i e =
    let end : (t : ℕ) → member 0x70 t ≡ true → Delivered history b 1 t 1 (end_of t) = λ t j. delivers_true history b 1 t 1 (end_of t) (each_of_true 0x70 _ e.ends t j) in
    let p = and_parts (member 0xF0 b) _ (each_of_true 0x70 _ computed.correct b i) in
    record {
      second = (e.second, omega (arith, computed.three));
      payload = delivers_true history b 1 0 1 one_payload e.payload;
      number = e.number;
      higher_end = end 1 computed.members.0;
      lower_end = end 2 computed.members.1;
      closed = record {
        outside = (member_below 0x70 b i, not-true (member 0x80 b) p.1);
        view = 0xF0;
        next = 0x70;
        defined = (e.first, omega (arith, computed.four));
        defined_next = (e.second, omega (arith, computed.three));
        within = p.0;
        within_next = i;
        ends = λ t j k. (1, end_of t, claim_by t, refl, end t k);
        enough = λ r t n c m j o k l d is.
            let most = claimed_most history b 1 t n m c d is in
            let many = leb-true (largest_claim history) (number_delivered history b 1 r) (or_second (member 0x70 r) _ (each_of_true 0xF0 _ e.enough r j) o) in
            omega (arith, most, many);
      };
      went_on = goes_on_true history b 1 e.goes;
    }

pub some_closing : SomeClosing
some_closing = record {
  lawful = λ s b w t h. signable_says b w h;
  start = start;
  boards = boards;
  history = history;
  started = ((omega (arith, computed.four), refl, board_at _ _), refl, board_at _ _);
  leads = moves_lead 0x80 start closed computed.may;
  vouched = moves_vouched 0x80 start closed computed.vouched;
  bounded = bounded_true 0x80 3 boards.rows computed.bear;
  echoed_at_one = echoed_by 1 one_payload computed.one_echoes;
  echoed_at_two = echoed_by 2 other_payload computed.two_echoes;
  closes_at_one = closed_by 1 computed.members.0 computed.one_closes;
  closes_at_two = closed_by 2 computed.members.1 computed.two_closes;
}
