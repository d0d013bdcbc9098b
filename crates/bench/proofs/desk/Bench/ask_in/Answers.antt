-- A row that asks a board in makes a step.
-- What it promises is the call's own contract.
use Rattle.std.proofs.Common.{Some, refl, ap}
use Rattle.views_agree.specs.Agreement.{Call, Step}
use Rattle.bench.proofs.Desks.{made}
use Rattle.bench.proofs.desk.Bench.ask_in.Goals as goal

pub returns : goal.returns
returns c =
    let e : Step = record {
      board = c.args.at;
      call = Call.ask_in c.args.change (Some c.latest.result);
      answer = c.ask_in-answer.result;
      offered = c.in_ok-row.field-0.page.bytes;
      written = c.ask_in-answer.new.out;
      before = c.in_ok-row.field-0.row.state;
      after = c.ask_in-answer.new.row.state;
    } in
    (e, (refl, ap (λ y. Call.ask_in c.args.change (Some y)) c.latest.ensures), made c.args.self.now e c.ask_in-answer.new.scheme c.in_ok-row.field-0.page c.after.result c.put.new.self c.in_ok-row.ensures.0 c.in_ok-row.ensures.1 refl c.in_ok-row.ensures.2 c.ask_in-answer.ensures c.after.ensures c.put.ensures)
