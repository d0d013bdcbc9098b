-- A board that suspects another one still trusts a member, itself at least.
-- From the laws of asks; opens `keeps`.
use Rattle.row.specs.Rows.{keeps}
use Rattle.membership.proofs.Asking.{still_trusts, trusted_member}
use Rattle.membership.proofs.asks.asked_out.Goals as goal

pub deputise-sent-requires-clause-member : goal.deputise-sent-requires-clause-member
deputise-sent-requires-clause-member g c =
    let w = c.args.row.now in
    trusted_member w c.insert-suspects.result.bits _ c.requires.asked.1 (still_trusts w c.args.c _ c.insert-suspects.ensures c.requires.asked.2) c.trusted-board.ensures

pub invariant_of-row : goal.invariant_of-row
unfolding keeps
invariant_of-row g c =
    let w = c.args.row.now in
    (tt, tt, (w.seated, (w.sound, (w.keeps, (w.tells, (w.proves, (still_trusts w c.args.c _ c.insert-suspects.ensures c.requires.asked.2, tt)))))))

pub trusted-board-requires-clause-trusts : goal.trusted-board-requires-clause-trusts
trusted-board-requires-clause-trusts g c = still_trusts c.args.row.now c.args.c _ c.insert-suspects.ensures c.requires.asked.2
