-- At the first bit all bits are left.
-- Both facts hold by computing.
use Rattle.std.proofs.Common.{rules}
use Rattle.reader.specs.Places.{met}
use Rattle.reader.proofs.place.Reader.new.Goals as goal

pub returns : goal.returns
unfolding met
returns c = search rules
