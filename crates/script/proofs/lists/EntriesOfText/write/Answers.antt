-- Heard entries are in the pieces of nine, and stored entries have the text of the message's.
-- The laws are in Sources and in Stored.
use Rattle.std.proofs.Common.{get_or, rules}
use Rattle.std.proofs.lemmas.Iterator.{YieldsList-from_map_by}
use Rattle.std.proofs.lemmas.Iterator.Consumers.{YieldsList-at}
use Rattle.wire.specs.Messages.{none}
use Rattle.script.specs.Texts.{entry_text}
use Rattle.script.proofs.Chains.{wrote_as}
use Rattle.script.proofs.Listings.{written}
use Rattle.script.proofs.Sources.{replies_run, replies_are, reply_in}
use Rattle.script.proofs.Stored.{stored_list}
use Rattle.script.proofs.lists.EntriesOfText.write.Goals as goal

pub returns-in-Heard : goal.returns-in-Heard
returns-in-Heard c =
    let bs = c.in-Heard.bytes.now in
    rw c.in-Heard.is
    (written c.commas.ensures
    (YieldsList-from_map_by _ (λ r. entry_text r) (λ p. entry_text (reply_in p).entry) (YieldsList-at c.map.ensures.source (replies_run bs c.chunks.ensures.rest c.chunks.ensures.size)) c.map.ensures.closure (λ x r q k. search rules))
    (replies_are (λ e. entry_text e.entry) bs))

pub returns-in-Stored : goal.returns-in-Stored
returns-in-Stored c =
    let set = c.args.self.now.0.set.bits in
    let es = c.in-Stored.entries.now in
    rw c.in-Stored.is
    (wrote_as (c.at_boards.ensures (λ b. entry_text (get_or es b none)) (λ b item k. search rules)) (stored_list (λ e. entry_text e.entry) set es _))
