-- A stored tag stands at its board's place.
-- All other goals are closed by the search.
use Rattle.std.proofs.Common.{get_or, sym, ap, ◌∙◌, arith}
use Rattle.boards.proofs.Members.{member_below}
use Rattle.wire.specs.Messages.{tag_bytes, tags_of}
use Rattle.wire.specs.Acts.{tag_at}
use Rattle.boards.specs.Boards.{place}
use Rattle.signed.proofs.Listed.{stored_at}
use Rattle.signed.proofs.tags.tag_by.Goals as goal

pub bounds-tags-from : goal.bounds-tags-from
bounds-tags-from c = omega (arith, member_below _ _ (c.in_ok-place.ensures).0, c.from-in-Stored.ensures)

pub returns-in-Stored : goal.returns-in-Stored
returns-in-Stored c =
    let s = c.args.by.set.bits in
    let b = c.args.board in
    let has = (c.in_ok-place.ensures).0 in
    (has, ap (λ k. tag_bytes (get_or c.in-Stored.tags.now k 0)) c.from-in-Stored.ensures ∙ sym (ap (λ t. tag_at (place s b) (tags_of s t)) c.in-Stored.is ∙ stored_at s c.in-Stored.tags.now b has))
