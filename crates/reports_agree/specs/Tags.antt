-- What the premise on tags gives a caller of both layers: that histories are vouched for.
-- The premise is of the tags in a heard message alone. For a register that began empty it is shown, by what holds of all its good tags.
use Rattle.std.specs.Prelude.{◌≡◌, ℕ, ◌<◌, true, List, ◌∷◌}
use Rattle.boards.specs.Boards.{member}
use Rattle.schemes.specs.declared.Scheme.{Ghosts}
use Rattle.schemes.specs.Meaning.{Good, Signed as SignedGood}
use Rattle.checks.specs.Checks.{boards_in, act_in, good_in}
use Rattle.checks.specs.declared.Part.{Part}
use Rattle.wire.specs.Messages.{Msg}
use Rattle.wire.specs.Acts.{words}
use Rattle.views_agree.specs.Agreement.{Call as GroupCall, Step as GroupStep, Outside, row_of, Promised as GroupPromised}
use Rattle.delivery.specs.Reports.{Record, Reports}
use Rattle.reports_agree.specs.Agreement.{Call, Event, Step, Boards, Started, Signed, Promised, Leads, VouchedFor}

-- Where the tag of a board outside the faulty ones is good in a heard message, that board signed in an earlier step what the tag stands for.
abbrev pub Honest : ℕ → List Step → Good → Msg → Type 0
Honest faulty h good m = (part : Part) (b : ℕ) → Outside faulty b → member (boards_in part m) b ≡ true → good_in part good m b ≡ true → Signed h b (words (act_in part m b))

-- The premise at a call of the membership layer, and at one of the delivery layer.
abbrev pub HonestGroup : ℕ → List Step → Good → GroupCall → Type 0
HonestGroup faulty h good (GroupCall.ask_out c) = Unit {0}
HonestGroup faulty h good (GroupCall.ask_in c y) = Unit {0}
HonestGroup faulty h good (GroupCall.hear m) = Honest faulty h good m

abbrev pub HonestReports : ℕ → List Step → Good → Call → Type 0
HonestReports faulty h good (Call.send p) = Unit {0}
HonestReports faulty h good Call.finish = Unit {0}
HonestReports faulty h good (Call.hear m) = Honest faulty h good m

-- Whatever tag of a board outside the faulty ones is good, that board signed its words in a step.
abbrev pub TagsSigned : ℕ → List Step → Good → Type 0
TagsSigned faulty h good = (b : ℕ) (w : List ℕ) (t : ℕ) → Outside faulty b → good b w t ≡ true → Signed h b w

-- What good tags give, in a scheme g.
pub record TagsVouch {S : Type 0} (g : Ghosts S) : Type 0 where
  -- Where the premise holds at a call, the steps before it vouch for it.
  pub group_vouched : (faulty : ℕ) (h : List Step) (e : GroupStep) (d d2 : Reports) (s s2 : S) → HonestGroup faulty h (g.good s) e.call → GroupPromised g e.call e s s2
      → VouchedFor faulty h (Step.of_group e d d2)
  pub reports_vouched : (faulty : ℕ) (h : List Step) (e : Event) (s s2 : S) → HonestReports faulty h (g.good s) e.call → Promised g e.call e s s2 → VouchedFor faulty h (Step.of_reports e)
  -- It holds at every message where all good tags were signed.
  pub honest : (faulty : ℕ) (h : List Step) (good : Good) (m : Msg) → TagsSigned faulty h good → Honest faulty h good m
  -- And that stays so in a call of either layer at a row, in a take, and where a faulty board signs.
  pub group_stay : (faulty : ℕ) (h : List Step) (e : GroupStep) (d d2 : Reports) (s s2 : S) → TagsSigned faulty h (g.good s) → GroupPromised g e.call e s s2 → e.before.board ≡ e.board
      → TagsSigned faulty (Step.of_group e d d2 ∷ h) (g.good s2)
  pub reports_stay : (faulty : ℕ) (h : List Step) (e : Event) (s s2 : S) → TagsSigned faulty h (g.good s) → Promised g e.call e s s2 → e.row.board ≡ e.board
      → TagsSigned faulty (Step.of_reports e ∷ h) (g.good s2)
  pub take_stays : (faulty : ℕ) (h : List Step) (b : ℕ) (r : Record) (d d2 : Reports) (good : Good) → TagsSigned faulty h good → TagsSigned faulty (Step.takes b r d d2 ∷ h) good
  pub faulty_signs : (faulty : ℕ) (h : List Step) (s s2 : S) (b t : ℕ) (w : List ℕ) → TagsSigned faulty h (g.good s) → member faulty b ≡ true → SignedGood (g.good s) (g.good s2) (g.spent s) b w t
      → TagsSigned faulty h (g.good s2)
  -- In every history each row stays its board's.
  pub seated : (faulty first : ℕ) (start w : Boards) (h : List Step) → Started first start → Leads g faulty start w h → (b : ℕ) → b < 8 → (row_of w.rows b).board ≡ b
