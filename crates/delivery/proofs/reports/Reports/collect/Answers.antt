-- The commit goes out: its head is in range, and it has the tags of a quorum.
-- From the laws of heads.
use Rattle.std.proofs.Common.{◌<◌, option_map, sym, ap, ◌∙◌, arith}
use Rattle.boards.specs.Boards.{size}
use Rattle.wire.specs.Messages.{stored_tags}
use Rattle.sending.proofs.Certificates.{certified_posted}
use Rattle.delivery.specs.Plain.{plain_content, plain_own}
use Rattle.delivery.proofs.Heads.{certified_as, in_range_as}
use Rattle.delivery.proofs.reports.Reports.collect.Goals as goal

pub unwrap-requires : goal.unwrap-requires
unwrap-requires c =
    let own = c.in-Some.own in
    let k = plain_content own.content in
    let here = c.requires.head (plain_own own) (ap (option_map plain_own) c.in-Some.is) in
    let head = c.carried.ensures.head in
    let r = in_range_as c.now.result _ c.carried.result.sender _ c.carried.result.number _ k c.now.ensures.is (head.0 ∙ c.board.ensures.is) head.1 here in
    let a = c.tagged.result.set.bits in
    let byte : a < 256 = omega (arith, c.tagged.ensures.set) in
    certified_posted _ _ _ c.post.result _
    (certified_as c.now.result c.carried.result.sender c.carried.result.number _ _ k a c.readers-readers.result.bits _ c.counted-echoes.result.tags c.carried.ensures.is
    (c.tagged.ensures.tags ∙ ap (λ x. stored_tags x c.counted-echoes.result.tags) (sym c.tagged.ensures.set)) r byte
    (ap size c.tagged.ensures.set ∙ sym c.len.ensures.is ∙ c.if-len-quorum.false ∙ c.quorum.ensures))
    c.requires.room c.post.ensures
