-- Whether a heard message is of this layer, and why a row does not take it, over any scheme.
-- The reasons and their order are those of crate row.
use Rattle.std.specs.Prelude.{◌≡◌, ℕ, true, Some, None, Option, Result, ◌≢◌}
use Rattle.codes.specs.declared.Refusal.{Refusal}
use Rattle.schemes.specs.declared.Scheme.{Ghosts}
use Rattle.checks.specs.Checks.{genuine}
use Rattle.wire.specs.Messages.{Msg}
use Rattle.wire.specs.Format.{Formed}
use Rattle.row.specs.declared.state.State.{State}
use Rattle.row.specs.Refusals.{hear_refusal, of_group, Unless}

module _ {S : Type 0} (g : Ghosts S) where
  -- A message that a row takes: it is formed, and no reason holds.
  pub record Taken (st : State) (s : S) (m : Msg) (room : ℕ) : Type 0 where
    pub formed : Formed m
    pub unrefused : hear_refusal st m room (genuine (g.good s) m) (g.spent s) ≡ None

  -- A formed message of kinds 1 to 10 goes on or is refused for the first reason that holds; any other message has no answer.
  abbrev pub Judged : State → S → Msg → ℕ → Option (Result (Unit {0}) Refusal) → Type 0
  Judged st s m room None = Formed m → of_group m ≢ true
  Judged st s m room (Some r) = Formed m × (of_group m ≡ true) × Unless (hear_refusal st m room (genuine (g.good s) m) (g.spent s)) r
