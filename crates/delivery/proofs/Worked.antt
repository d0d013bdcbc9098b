-- The examples, computed.
-- Each is what its definition comes to.
use Rattle.std.proofs.Common.{refl}
use Rattle.boards.specs.Boards.{any, every, member, only, size, tally}
use Rattle.views.specs.Groups.{toggle}
use Rattle.views.specs.Shares.{share, quorum}
use Rattle.views.specs.Histories.{begun, grown, members_of, members_from}
use Rattle.row.specs.States.{highest}
use Rattle.delivery.specs.Endings.{largest, lowest_from}
use Rattle.delivery.specs.Examples.{Worked}

pub worked : Worked
unfolding any every member only size tally toggle share quorum begun grown members_of members_from highest largest lowest_from
worked = record { three_tags = refl; four_tags = refl; seventh = refl; too_early = refl; fifth = refl; still_open = refl; sixth = refl; closes = refl }
