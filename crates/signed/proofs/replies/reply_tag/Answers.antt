-- The tag behind an entry: heard one byte after it, stored at the board's number.
-- Both are the tag that the list of replies has there.
use Rattle.std.proofs.Common.{◌≡◌, ◌*◌, get_or, sym, ap, ◌∙◌, arith}
use Rattle.boards.specs.Boards.{place}
use Rattle.boards.proofs.Members.{member_below}
use Rattle.wire.specs.Messages.{replies_of, reply_at, tag_bytes}
use Rattle.wire.specs.Acts.{no_reply}
use Rattle.signed.proofs.Listed.{heard_at, stored_reply_at, had}
use Rattle.signed.proofs.replies.reply_tag.Goals as goal

pub bounds-tags-from : goal.bounds-tags-from
bounds-tags-from c = omega (arith, member_below _ _ (c.in_ok-place.ensures).0, c.from-in-Stored.ensures)

pub returns-in-Heard : goal.returns-in-Heard
returns-in-Heard c =
    let s = c.args.replies.set.bits in
    let i = place s c.args.board in
    let has = c.in_ok-place.ensures in
    let at : c.from.result ≡ i = omega (arith, has.1, c.from.ensures) in
    had s c.args.board _ _ c.eight.result has.0
    (ap (λ k. (reply_at c.in-Heard.bytes.now (9 * k)).tag) at ∙ ap (λ r. r.tag) (sym (ap (λ es. get_or (replies_of s es) i no_reply) c.in-Heard.is ∙ heard_at c.in-Heard.bytes.now i))) c.eight.ensures

pub returns-in-Stored : goal.returns-in-Stored
returns-in-Stored c =
    let s = c.args.replies.set.bits in
    let b = c.args.board in
    let has = (c.in_ok-place.ensures).0 in (
      has,
      ap (λ k. tag_bytes (get_or c.in-Stored.tags.now k 0)) c.from-in-Stored.ensures
          ∙ sym (ap (λ es. (get_or (replies_of s es) (place s b) no_reply).tag) c.in-Stored.is ∙ ap (λ r. r.tag) (stored_reply_at s _ b has)),
    )
