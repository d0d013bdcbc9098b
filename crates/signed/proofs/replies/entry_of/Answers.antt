-- The reply at a board's place: heard at nine times the place, stored at the board's number.
-- Both are the entry that the list of replies has there.
use Rattle.std.proofs.Common.{◌≡◌, ◌*◌, get_or, sym, ap, ◌∙◌, arith}
use Rattle.boards.specs.Boards.{place}
use Rattle.boards.proofs.Members.{member_below}
use Rattle.wire.specs.Messages.{replies_of, reply_at}
use Rattle.wire.specs.Acts.{no_reply}
use Rattle.signed.proofs.Listed.{heard_at, stored_reply_at}
use Rattle.signed.proofs.replies.entry_of.Goals as goal

pub bounds-entries-from : goal.bounds-entries-from
bounds-entries-from c = omega (arith, member_below _ _ (c.in_ok-place.ensures).0, c.from-in-Stored.ensures)

pub returns-in-Heard : goal.returns-in-Heard
returns-in-Heard c =
    let s = c.args.replies.set.bits in
    let i = place s c.args.board in
    let has = c.in_ok-place.ensures in
    let at : c.from.result ≡ i = omega (arith, has.1, c.from.ensures) in
    (has.0, c.entry_at.ensures ∙ ap (λ k. (reply_at c.in-Heard.bytes.now (9 * k)).entry) at ∙ ap (λ r. r.entry) (sym (ap (λ es. get_or (replies_of s es) i no_reply) c.in-Heard.is ∙ heard_at c.in-Heard.bytes.now i)))

pub returns-in-Stored : goal.returns-in-Stored
returns-in-Stored c =
    let s = c.args.replies.set.bits in
    let b = c.args.board in
    let has = (c.in_ok-place.ensures).0 in (
      has,
      ap (λ k. get_or c.in-Stored.entries.now k (record { earlier = 0; change = 0 })) c.from-in-Stored.ensures
          ∙ sym (ap (λ es. (get_or (replies_of s es) (place s b) no_reply).entry) c.in-Stored.is ∙ ap (λ r. r.entry) (stored_reply_at s _ b has)),
    )
