-- A row that hears a frame makes a step.
-- What it promises is the call's own contract.
use Rattle.std.proofs.Common.{refl, ap, ◌∙◌}
use Rattle.wire.specs.Messages.{meaning}
use Rattle.views_agree.specs.Agreement.{Call, Step}
use Rattle.bench.specs.Story.{frame}
use Rattle.bench.proofs.Desks.{made, desk_page, read_frame}
use Rattle.bench.proofs.desk.Bench.hear.Goals as goal

pub returns : goal.returns
returns c =
    let b = c.args.self.now in
    let found = c.in_ok-heard.ensures.lookup in
    let page = desk_page b.desks c.from.result c.args.from c.in_ok-heard.field-0.now c.from.ensures found.3.0 found.1 in
    let e : Step = record {
      board = c.args.at;
      call = Call.hear (meaning c.in_ok-m.m);
      answer = c.in_ok-answer.answer;
      offered = c.in_ok-row.field-0.page.bytes;
      written = c.hear.new.out;
      before = c.in_ok-row.field-0.row.state;
      after = c.hear.new.row.state;
    } in (
      e,
      (refl, meaning c.in_ok-m.m, refl, read_frame _ _ c.read.result c.in_ok-m.m (c.in_ok-frame.ensures ∙ ap frame page) c.read.ensures c.in_ok-m.ensures.value),
      made b e c.hear.new.scheme c.in_ok-row.field-0.page c.after.result c.put.new.self c.in_ok-row.ensures.0 c.in_ok-row.ensures.1 refl c.in_ok-row.ensures.2 c.in_ok-answer.ensures c.after.ensures c.put.ensures,
    )
