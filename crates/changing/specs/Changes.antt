-- Which messages are changes, and to whom a row passes one on.
-- The whole of what a change does is `heard` of crate row.
use Rattle.std.specs.Prelude.{◌≡◌, Bool, true, false, Some, None, Option, ◌==◌}
use Rattle.boards.specs.declared.Set.{Set}
use Rattle.wire.specs.Messages.{Msg, kind}
use Rattle.row.specs.declared.state.State.{State}
use Rattle.row.specs.States.{inside, set_of}
use Rattle.row.specs.Effects.{passed_on}

-- Kind 6.
abbrev pub is_change : Msg → Bool
is_change m = kind m == 6

-- A member passes a change on to these boards, an outsider to none.
abbrev pub Hearers : State → Option Set → Type 0
Hearers s (Some to) = (inside s ≡ true) × (to.bits ≡ set_of (passed_on s) 8)
Hearers s None = inside s ≡ false
