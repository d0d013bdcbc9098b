-- A row that asks a member out makes a step.
-- What it promises is the call's own contract.
use Rattle.std.proofs.Common.{refl}
use Rattle.views_agree.specs.Agreement.{Call, Step}
use Rattle.bench.proofs.Desks.{made}
use Rattle.bench.proofs.desk.Bench.ask_out.Goals as goal

pub returns : goal.returns
returns c =
    let e : Step = record {
      board = c.args.at;
      call = Call.ask_out c.args.change;
      answer = c.ask_out-answer.result;
      offered = c.in_ok-row.field-0.page.bytes;
      written = c.ask_out-answer.new.out;
      before = c.in_ok-row.field-0.row.state;
      after = c.ask_out-answer.new.row.state;
    } in
    (e, (refl, refl), made c.args.self.now e c.ask_out-answer.new.scheme c.in_ok-row.field-0.page c.after.result c.put.new.self c.in_ok-row.ensures.0 c.in_ok-row.ensures.1 refl c.in_ok-row.ensures.2 c.ask_out-answer.ensures c.after.ensures c.put.ensures)
