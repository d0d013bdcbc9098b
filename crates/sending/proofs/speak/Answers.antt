-- A board that can speak does: its message is formed whatever the tag, and there is room for it.
-- Each way out that sends nothing is one that such a board does not come to.
use Rattle.std.proofs.Common.{false, sym, refl, subst, arith}
use Rattle.std.proofs.lemmas.Bool.{both_ways}
use Rattle.wire.specs.Format.{Formed}
use Rattle.wire.specs.Messages.{tag_bytes}
use Rattle.words.specs.Said.{said}
use Rattle.row.specs.States.{count_tags}
use Rattle.row.specs.Effects.{lone}
use Rattle.sending.proofs.Lones.{spoken, lone_allowed}
use Rattle.sending.proofs.speak.Goals as goal
use Rattle.sending.proofs.speak.Goals.{then-out-lt-ENOUGH-via-then-out-lt-ENOUGH, then-out-lt-ENOUGH-via-else-out-lt-ENOUGH+then-not-is_formed}

pub returns-then-out-lt-ENOUGH : goal.returns-then-out-lt-ENOUGH
returns-then-out-lt-ENOUGH g c =
    elim c.then-out-lt-ENOUGH.branch [
      | then-out-lt-ENOUGH-via-then-out-lt-ENOUGH w ↦ (λ sp. omega (arith, sp.able.roomy, w.if-out-lt-ENOUGH.true), refl, refl)
      | then-out-lt-ENOUGH-via-else-out-lt-ENOUGH+then-not-is_formed w ↦ (
        λ sp. both_ways false refl (w.if-not-is_formed.ensures.1 (subst Formed (sym w.lone.ensures) (sp.formed 0))),
        refl,
        refl,
      )
    ]

pub returns-in_err-tag : goal.returns-in_err-tag
returns-in_err-tag g c =
    let n = c.args.shown.now in
    rw c.from_residual.ensures (
      λ sp. c.in_err-tag.ensures.0 sp.seated (lone_allowed (said c.args.statement) c.args.board n.set.bits (count_tags n) 0 (sp.formed 0)) sp.able.unspent,
      c.in_err-tag.ensures.1,
      refl,
    )

pub returns : goal.returns
returns g c =
    let a = said c.args.statement in
    let n = c.args.shown.now in
    let f : Formed (lone a c.args.board n.set.bits (count_tags n) (tag_bytes 0)) = subst Formed c.lone.ensures (c.is_formed.ensures.0 c.if-not-is_formed.false) in
    spoken g.S.Scheme c.args.board c.args.to.bits a n.set.bits (count_tags n) _ _ _ _ _ _ c.post.result c.lone-2.ensures f c.if-out-lt-ENOUGH.false c.in_ok-tag.ensures.1 c.post.ensures
