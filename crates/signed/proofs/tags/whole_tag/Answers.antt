-- A lone speaker's tag is the whole of its bytes, since the set of the speaker has one place.
-- Heard bytes that are not eight are refused before.
use Rattle.std.proofs.Common.{ℕ, length, ap, ◌∙◌, subst}
use Rattle.boards.specs.Boards.{only, place}
use Rattle.wire.specs.Messages.{tags_of}
use Rattle.wire.specs.declared.message.Tags.{Tags}
use Rattle.wire.specs.Acts.{tag_at}
use Rattle.signed.specs.Signed.{TagIs}
use Rattle.signed.proofs.Listed.{whole_alone, alone_long}
use Rattle.signed.proofs.tags.whole_tag.Goals as goal
use Rattle.signed.proofs.tags.whole_tag.Goals.{in_default-via-in-Heard+else-bytes-ne8, in_default-via-in_default}

pub returns-in_default : goal.returns-in_default
returns-in_default c =
    let b = c.args.board in
    let r = c.tag_by.result in
    let told : TagIs (only c.args.own.speaker) b (tag_at (place (only c.args.own.speaker) b) (tags_of (only c.args.own.speaker) c.args.own.tag)) r =
    subst (λ (s : ℕ). TagIs s b (tag_at (place s b) (tags_of s c.args.own.tag)) r) c.tagged.ensures.set
    (subst (λ (t : Tags). TagIs c.tagged.result.set.bits b (tag_at (place c.tagged.result.set.bits b) (tags_of c.tagged.result.set.bits t)) r) c.tagged.ensures.tags c.tag_by.ensures) in
    elim c.in_default.branch [
      | in_default-via-in-Heard+else-bytes-ne8 w ↦ whole_alone c.args.own.speaker b _ r (λ _. ap (λ t. length (tags_of (only c.args.own.speaker) t)) w.in-Heard.is ∙ w.if-bytes-ne8.false) told
      | in_default-via-in_default w ↦ whole_alone c.args.own.speaker b _ r (alone_long c.args.own.speaker b c.args.own.tag w.in_default.not-Heard) told
    ]
