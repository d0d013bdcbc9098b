-- Heard tags are in the pieces of nine, and stored tags have the text of the message's.
-- The laws are in Sources and in Stored.
use Rattle.std.proofs.Common.{sym, ◌∙◌, rules}
use Rattle.std.proofs.lemmas.List.{take_rest}
use Rattle.std.proofs.lemmas.Iterator.{YieldsList-from_map_by}
use Rattle.std.proofs.lemmas.Iterator.Consumers.{YieldsList-at}
use Rattle.script.specs.Texts.{hex}
use Rattle.script.proofs.Chains.{wrote_as}
use Rattle.script.proofs.Listings.{written}
use Rattle.script.proofs.Sources.{replies_run, replies_are, reply_in}
use Rattle.script.proofs.Stored.{stored_text, stored_list}
use Rattle.script.proofs.lists.TagsOfText.write.Goals as goal

pub returns-in-Heard : goal.returns-in-Heard
returns-in-Heard c =
    let bs = c.in-Heard.bytes.now in
    rw c.in-Heard.is
    (written c.commas.ensures
    (YieldsList-from_map_by _ (λ r. hex r.0.now) (λ p. hex (reply_in p).tag) (YieldsList-at c.map.ensures.source (replies_run bs c.chunks.ensures.rest c.chunks.ensures.size)) c.map.ensures.closure
    (λ x r q k. search (rules, take_rest x.now 1)))
    (replies_are (λ e. hex e.tag) bs))

pub returns-in-Stored : goal.returns-in-Stored
returns-in-Stored c =
    let set = c.args.self.now.0.set.bits in
    let ts = c.in-Stored.tags.now in
    rw c.in-Stored.is
    (wrote_as c.write.ensures (sym (stored_text set ts) ∙ stored_list (λ e. hex e.tag) set _ ts))
