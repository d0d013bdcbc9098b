-- The init can be sent: its head is in range. It goes out with the new tag, and is what the board's own last message now is.
-- From the laws of heads.
use Rattle.std.proofs.Common.{◌≡◌, ◌+◌, true, Some, sym, ap, ◌∙◌, arith}
use Rattle.delivery.specs.Reports.{now, count_of, with_own}
use Rattle.delivery.specs.Refusals.{next_number}
use Rattle.delivery.specs.Ranges.{AllowedHead}
use Rattle.delivery.specs.Plain.{plain, plain_content}
use Rattle.row.specs.States.{no_count}
use Rattle.sending.proofs.Lones.{goes_out}
use Rattle.delivery.proofs.Heads.{allowed_init, can_own, init_as, signs_as}
use Rattle.delivery.proofs.reports.Reports.send_own.Goals as goal

pub unwrap-sent-requires : goal.unwrap-sent-requires
unwrap-sent-requires g c =
    let r : AllowedHead c.now.result c.carried.result.sender c.carried.result.number (plain_content c.args.content) = record {
      view = (omega (arith, c.now.ensures.is, c.requires.there), c.now.ensures.few);
      sender = omega (arith, c.carried.ensures.head, c.board-2.ensures.below);
      number = (omega (arith, c.carried.ensures.head), omega (arith, c.carried.ensures.head, c.count-number.ensures, ap (count_of (plain c.args.self.now)) c.board.ensures.is, c.requires.next));
      content = c.requires.fits;
    } in
    goes_out g.S.Scheme _ _ _ _ _ _ _ c.say.result _ _
    (can_own g.S.Scheme c.board-3.result c.now.result c.carried.result.sender c.carried.result.number _ _ (plain_content c.args.content) _ _ (c.board-3.ensures.is ∙ sym c.board-2.ensures.is ∙ sym c.carried.ensures.head.0) c.carried.ensures.is r c.requires.able)
    c.say.ensures

pub returns : goal.returns
returns g c =
    let d = plain c.args.self.now in
    let st = c.args.row.now.state in
    let k = plain_content c.args.content in
    let more : c.count-number.result + 1 ≡ next_number st d = ap (λ n. n + 1) (c.count-number.ensures ∙ ap (count_of d) c.board.ensures.is) in
    let r : AllowedHead (now d) st.board (next_number st d) k = record {
      view = (c.requires.there, omega (arith, c.now.ensures.is, c.now.ensures.few));
      sender = omega (arith, c.board.ensures.is, c.board.ensures.below);
      number = (omega arith, c.requires.next);
      content = c.requires.fits;
    } in (
      ap (λ n. with_own d (Some (record { number = n; content = k; collecting = true; echoes = no_count }))) more,
      signs_as g.S.Scheme _ st.board _ _ _ _ _ _ c.say.result c.unwrap-sent.result _ _ c.unwrap-sent.ensures c.board-3.ensures.is c.readers.ensures
          (init_as _ (now d) _ st.board _ (next_number st d) _ _ k c.now.ensures.is (c.carried.ensures.head.0 ∙ c.board-2.ensures.is) (c.carried.ensures.head.1 ∙ more) c.carried.ensures.is)
          c.say.ensures,
      allowed_init (now d) st.board (next_number st d) k r,
    )
