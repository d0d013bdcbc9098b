-- Each turn puts the reply of the first of the boards that are left.
-- There is room for nine bytes for each.
use Rattle.std.proofs.Common.{length, ap, sym, ◌∙◌, arith, rules, subst, refl, length-append}
use Rattle.boards.specs.Boards.{boards}
use Rattle.wire.specs.Messages.{tags_of}
use Rattle.layout.proofs.Fronts.{replies_even}
use Rattle.writer.proofs.Puts.{starts, room, turn, ends}
use Rattle.boards.proofs.Lists.{all_boards}
use Rattle.writer.proofs.Rows.{answers_at, answers_boards, Of, next_reply, no_reply}
use Rattle.writer.proofs.put.Cursor.put_replies.Goals as goal

pub loop-entry-init : goal.loop-entry-init
loop-entry-init c =
    let x = c.args.gathered in
    let of = ap (λ w. w.iter.left) c.into_iter-entry-iterator.ensures.into_iter_gives ∙ ap (λ w. w.left) c.filter_map-entry-items.ensures.source ∙ c.boards-boards.ensures in
    (starts (ap (λ s. answers_at x.replies (boards s.bits)) of ∙ answers_boards x), subst (λ s. Of x.replies.set.bits (boards s.bits)) (sym of) (all_boards _), refl)

pub put_reply-requires : goal.put_reply-requires
put_reply-requires c =
    let x = c.args.gathered in
    let q = x.replies in
    let i = c.loop-entry.invariant in
    let n = next_reply x (λ b r f h. search (rules)) _ _ _ i.2 i.1 c.in-Some.ensures.steps in
    let whole = room (omega (arith, c.requires, replies_even q.set.bits q.entries x.even)) i.0 in
    omega (arith, whole, ap length n.0, length-append (tags_of q.set.bits c.in-Some.tags) (answers_at q (boards c.next.new.self.iter.left.bits)))

pub loop-entry-preserved : goal.loop-entry-preserved
loop-entry-preserved c =
    let i = c.loop-entry.invariant in
    let n = next_reply c.args.gathered (λ b r f h. search (rules)) _ _ _ i.2 i.1 c.in-Some.ensures.steps in
    (turn n.0 (omega (arith, c.requires)) i.0 c.put_reply.ensures, n.1, n.2)

pub returns : goal.returns
returns c =
    let i = c.loop-entry.invariant in
    ends (no_reply c.args.gathered (λ b r f h. search (rules)) _ _ i.2 i.1 c.in-None.ensures.steps) i.0
