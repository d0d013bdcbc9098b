-- The line so far: some of the items, and the others are left.
-- Each turn takes one.
use Rattle.std.proofs.Common.{ℕ, List}
use Rattle.std.specs.Iterator.{AlwaysYields}
use Rattle.script.proofs.Listings.{others, Going}
use Rattle.script.proofs.lists.commas.Given as goal

abbrev pub invariant-loop-item : goal.invariant-loop-item
invariant-loop-item g l =
    (ys : List (List ℕ)) → AlwaysYields g.I.Iterator.next_gives g.I.Item.Text.text l.initial.item-iterator ys
    → Going g.I.Iterator.next_gives g.I.Item.Text.text l.initial.line (others ys) l.item-iterator l.line
