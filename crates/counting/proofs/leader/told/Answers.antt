-- With one last more the leader keeps what every leader keeps.
-- From the laws of leaders.
use Rattle.std.proofs.Common.{true, false, sym, ap, ◌∙◌, rules}
use Rattle.row.specs.declared.state.Count.{Count}
use Rattle.row.specs.States.{counted}
use Rattle.counting.proofs.Leaders.{told_keeps}
use Rattle.counting.proofs.leader.told.Goals as goal

pub returns-then-undercuts : goal.returns-then-undercuts
returns-then-undercuts c =
    let l = c.args.leader.now in
    let n = c.counted.ensures ∙ ap (λ (x : Count). counted x c.args.board c.args.tag) c.at.ensures.is in
    let u = sym c.if-undercuts.true ∙ c.undercuts.ensures in
    let k = told_keeps l c.args.board c.args.tag c.args.entry c.args.proof c.place.result c.counted.result c.with_entry.result true c.place.ensures n c.with_entry.ensures.is u c.at.ensures.table c.with_entry.ensures.eight c.requires in
    record { is = search rules; tells = k.0; proves = k.1 }

pub returns-else-undercuts : goal.returns-else-undercuts
returns-else-undercuts c =
    let l = c.args.leader.now in
    let n = c.counted.ensures ∙ ap (λ (x : Count). counted x c.args.board c.args.tag) c.at.ensures.is in
    let u = sym c.if-undercuts.false ∙ c.undercuts.ensures in
    let k = told_keeps l c.args.board c.args.tag c.args.entry c.args.proof c.place.result c.counted.result c.with_entry.result false c.place.ensures n c.with_entry.ensures.is u c.at.ensures.table c.with_entry.ensures.eight c.requires in
    record { is = search rules; tells = k.0; proves = k.1 }
