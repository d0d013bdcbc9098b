-- A reason before the tags is the first whatever the tags are; where there is none, tags and scheme decide.
-- From the law of two lists of reasons.
use Rattle.std.proofs.Common.{sym, subst, rules}
use Rattle.std.proofs.lemmas.Result.{err_from_is_err_and}
use Rattle.checks.specs.Checks.{genuine}
use Rattle.wire.specs.Messages.{meaning}
use Rattle.row.specs.Refusals.{fit_reasons, seal_reasons, Unless}
use Rattle.admission.proofs.Early.{early, then}
use Rattle.admission.proofs.may_take.Goals as goal

pub returns-in_err-may_hear : goal.returns-in_err-may_hear
returns-in_err-may_hear g c =
    let m = meaning c.args.m.now in
    let s = c.args.scheme.now in
    let p = err_from_is_err_and c.from_residual.result c.from_residual.ensures.1 in
    rw (p.1, p.2) (early (fit_reasons c.args.row.now.state m c.args.room) (seal_reasons m (genuine (g.S.Scheme.good s) m) (g.S.Scheme.spent s)) _ c.in_err-may_hear.ensures)

pub returns : goal.returns
returns g c =
    let m = meaning c.args.m.now in
    let s = c.args.scheme.now in
    let fit = fit_reasons c.args.row.now.state m c.args.room in
    let seal = seal_reasons m (genuine (g.S.Scheme.good s) m) (g.S.Scheme.spent s) in
    subst (λ o. Unless o c.may_trust.result) (sym (then fit seal c.in_ok-may_hear.ensures)) (search rules)
