-- A faulty board signs; its row stays.
-- What it signs and writes is what sending promises.
use Rattle.std.proofs.Common.{◌≡◌, [], Ok, get_or, set, sym, subst, ap, ◌∙◌}
use Rattle.schemes.specs.Meaning.{Signed}
use Rattle.schemes.specs.Registers.{good_in, spent_in}
use Rattle.schemes.specs.declared.register.Register.{Register}
use Rattle.wire.specs.Messages.{tag_bytes}
use Rattle.wire.specs.Acts.{words}
use Rattle.words.specs.Said.{said}
use Rattle.row.specs.Effects.{lone}
use Rattle.row.specs.Calls.{Posted}
use Rattle.bench.specs.declared.desk.Page.{Page}
use Rattle.bench.specs.Story.{page_of, turned}
use Rattle.bench.specs.Moves.{pages}
use Rattle.bench.proofs.Desks.{same_row, desk_page}
use Rattle.bench.proofs.desk.Bench.sign.Goals as goal

pub returns : goal.returns
returns c =
    let b = c.args.self.now in
    let board = c.args.board in
    let act = said c.args.said in
    let d = c.in_ok-row.field-0.now in
    let found = c.in_ok-row.ensures.lookup in
    let signs = c.in_ok-sent.ensures in
    let sent = c.in_ok-sent.sent in
    let page : d.page ≡ page_of (pages b.desks) board = desk_page b.desks c.from.result board d c.from.ensures found.3.0 found.1 in
    record {
      of_faulty = sym c.if-not-has.ensures.is;
      tag = signs.tag;
      sent = sent;
      out = c.say.new.out;
      signed = subst (λ (r : Register). Signed (good_in b.register) (good_in r) (spent_in b.register) board (words act) signs.tag) (sym c.put.ensures.register) signs.signed;
      posted = subst (λ (p : Page). Posted 0 (lone act board 0 [] (tag_bytes signs.tag)) p.bytes sent c.say.new.out) page signs.posted;
      states = c.put.ensures.states ∙ same_row b.desks board d (found.1 ∙ ap (λ k. get_or b.desks k d) c.from.ensures);
      pages = c.put.ensures.pages ∙ ap (set (pages b.desks) board) (c.after.ensures ∙ ap (turned c.say.new.out (Ok sent)) page);
      faulty = c.put.ensures.faulty;
    }
