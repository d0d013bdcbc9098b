-- What is put in the reports is what the rules say of a delivery; then the board settles.
-- From the laws of what the reports mean.
use Rattle.std.proofs.Common.{ap, ◌∙◌}
use Rattle.delivery.specs.Reports.{claim, content}
use Rattle.delivery.specs.Endings.{settled}
use Rattle.delivery.proofs.Plainly.{plain_delivered}
use Rattle.delivery.proofs.reports.Reports.deliver.Goals as goal

pub returns : goal.returns
returns c =
    let q = c.args.said in
    let st = c.args.row.now.state in
    c.settle.ensures
    ∙ ap (settled st.views st.board)
    (plain_delivered c.args.self.now q.sender q.number c.now.result c.of-content.result c.claim.result (content q.sort q.payload.now) c.now.ensures.is c.of-content.ensures
    (c.claim.ensures ∙ ap claim c.of-content.ensures))
