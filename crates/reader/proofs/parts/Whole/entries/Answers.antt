-- Entry by entry, each as the format has it; a fault in one is the fault of all.
-- At the end the bytes between the two places are those of all the entries.
use Rattle.std.proofs.Common.{rules, ◌≡◌, ◌-◌, max, refl, arith}
use Rattle.std.proofs.lemmas.Bool.Decides.{nat_tests}
use Rattle.reader.proofs.Loops.{start, next, halt, ended}
use Rattle.reader.proofs.parts.Whole.entries.Goals as goal

pub loop-init : goal.loop-init
loop-init c = search (rules, start)

pub returns-in_err-answer : goal.returns-in_err-answer
returns-in_err-answer c = search (rules, halt c.args.n c.loop.counter c.loop.highest c.in_err-answer.field-0.0 (omega arith) c.loop.invariant c.in_err-answer.ensures)

pub loop-preserved : goal.loop-preserved
loop-preserved c =
    let m : c.max-highest.result ≡ max c.loop.highest c.in_ok-answer.answer.entry.earlier = grind (arith, nat_tests) in
    rw m (next c.args.n c.loop.counter c.loop.highest (omega arith) c.loop.invariant c.in_ok-answer.ensures)

pub returns : goal.returns
returns c =
    ended c.args.n c.loop.counter c.loop.highest (c.loop.rest.reader.byte - c.args.self.reader.byte) _ (omega arith) c.loop.invariant (omega (arith, c.loop.invariant.moved)) refl
