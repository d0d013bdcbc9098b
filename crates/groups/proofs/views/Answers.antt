-- The first view begins a history, and the changes are made on that.
-- The law is in Walks.
use Rattle.groups.proofs.Walks.{answers}
use Rattle.groups.proofs.views.Goals as goal

pub returns-in-Ok : goal.returns-in-Ok
returns-in-Ok c = answers c.args.number c.args.members.now c.args.changes.now c.args.text.items c.in-Ok.view c.changed.result c.in-Ok.ensures c.new.ensures c.changed.ensures
