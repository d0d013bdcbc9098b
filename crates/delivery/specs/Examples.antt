-- Worked examples. Of boards 0 to 4 board 2 is left out, and the others' ends claim 4, 6, 5 and 6 of its messages. A board that counts 4 accepts the fifth and the sixth and then closes the view;
-- the seventh offered first is refused with ORDER, and so is the fifth while an end is missing. In a view of five a commit with three tags is refused with SIZE; with four it is accepted.
use Rattle.std.specs.Prelude.{◌≡◌, ℕ, true, [], ◌∷◌, replicate, Some, None, Option}
use Rattle.codes.specs.declared.Refusal.{Refusal}
use Rattle.codes.specs.declared.Refusal.TheVariants.{Order, Size}
use Rattle.views.specs.Histories.{begun, grown}
use Rattle.wire.specs.declared.message.Sort.TheVariants.{Report, End}
use Rattle.row.specs.declared.state.State.{State}
use Rattle.row.specs.States.{the_set, fresh, no_count}
use Rattle.delivery.specs.Reports.{content, Reports, started, with_out}
use Rattle.delivery.specs.Refusals.{commit_refusal}
use Rattle.delivery.specs.Effects.{delivering}

-- Boards 0 to 4, and the row of board 0, whose own end claims 4, before and after board 2 left the group.
abbrev pub five : ℕ
five = 0xF8

abbrev pub row_before : State
row_before = fresh 0 (begun (the_set five))

abbrev pub row_at : State
row_at = fresh 0 (grown (begun (the_set five)) 2)

abbrev pub ends_told : Reports
ends_told =
    record {
      view = Some 1;
      counts = 1 ∷ 1 ∷ 4 ∷ 1 ∷ 1 ∷ 0 ∷ 0 ∷ 0 ∷ [];
      echoed = replicate 8 None;
      claims = Some 4 ∷ Some 6 ∷ None ∷ Some 5 ∷ Some 6 ∷ None ∷ None ∷ None ∷ [];
      own = Some (record { number = 1; content = content End (4 ∷ []); collecting = true; echoes = no_count });
      out = None;
    }

-- The same with the end of board 3 missing.
abbrev pub one_missing : Reports
one_missing = record ends_told { claims = Some 4 ∷ Some 6 ∷ None ∷ None ∷ Some 6 ∷ None ∷ None ∷ None ∷ [] }

-- The refusal of a commit of board 2's n-th message by boards 0, 1, 3 and 4, and the reports once it is delivered and the record taken.
abbrev pub offered : Reports → ℕ → Option Refusal
offered d n = commit_refusal row_at d 1 2 n 0xD8 128 true

abbrev pub once_taken : Reports → ℕ → Reports
once_taken d n = with_out (delivering row_at d 2 n (content Report [])).0 None

-- The refusal of the first commit of board 2 in view 1 by a set.
abbrev pub first_by : ℕ → Option Refusal
first_by a = commit_refusal row_before (started five 0) 1 2 1 a 128 true

pub record Worked : Type 0 where
  pub three_tags : first_by 0xD0 ≡ Some Size
  pub four_tags : first_by 0xD8 ≡ None
  pub seventh : offered ends_told 7 ≡ Some Order
  pub too_early : offered one_missing 5 ≡ Some Order
  pub fifth : offered ends_told 5 ≡ None
  pub still_open : (once_taken ends_told 5).view ≡ Some 1
  pub sixth : offered (once_taken ends_told 5) 6 ≡ None
  pub closes : (once_taken (once_taken ends_told 5) 6).view ≡ Some 2
