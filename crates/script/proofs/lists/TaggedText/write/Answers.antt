-- Heard tags are the pieces of eight, and stored ones and a fresh one have the text of the message's.
-- The laws are in Sources and in Stored.
use Rattle.std.proofs.Common.{get_or, rules}
use Rattle.std.proofs.lemmas.Iterator.{YieldsList-from_map_by}
use Rattle.std.proofs.lemmas.Iterator.Consumers.{YieldsList-at}
use Rattle.wire.specs.Messages.{tag_bytes}
use Rattle.script.specs.Texts.{hex}
use Rattle.script.proofs.Chains.{wrote_as}
use Rattle.script.proofs.Listings.{written}
use Rattle.script.proofs.Sources.{tags_run, tags_are}
use Rattle.script.proofs.Stored.{fresh_text, stored_text}
use Rattle.script.proofs.lists.TaggedText.write.Goals as goal

pub returns-in-Heard : goal.returns-in-Heard
returns-in-Heard c =
    let bs = c.in-Heard.bytes.now in
    rw c.in-Heard.is
    (written c.commas.ensures
    (YieldsList-from_map_by _ (λ r. hex r.0.now) hex (YieldsList-at c.map.ensures.source (tags_run bs c.chunks.ensures.rest c.chunks.ensures.size)) c.map.ensures.closure (λ x r q k. search rules))
    (tags_are bs))

pub returns-in-Stored : goal.returns-in-Stored
returns-in-Stored c =
    let set = c.args.self.now.set.bits in
    let ts = c.in-Stored.tags.now in
    rw c.in-Stored.is
    (wrote_as (c.at_boards.ensures (λ b. hex (tag_bytes (get_or ts b 0))) (λ b item k. search rules)) (stored_text set ts))

pub returns-in-Fresh : goal.returns-in-Fresh
returns-in-Fresh c =
    rw c.in-Fresh.is
    (wrote_as c.write.ensures (fresh_text c.in-Fresh.tag))
