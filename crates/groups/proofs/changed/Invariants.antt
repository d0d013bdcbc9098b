-- What is made so far goes on with the changes left.
-- The laws are in Walks.
use Rattle.std.proofs.Common.{drop}
use Rattle.groups.proofs.Walks.{Going}
use Rattle.groups.proofs.changed.Given as goal

abbrev pub invariant-loop-digit : goal.invariant-loop-digit
invariant-loop-digit l = Going l.number l.initial.views.history l.changes l.initial.text.items l.views.history (drop l.digit-index l.changes) l.text.items
