-- The items of a list, one after another.
-- The laws are in Chains and Listings.
use Rattle.std.proofs.Common.{length, Ok, refl, ap, arith, length-append}
use Rattle.script.specs.Texts.{commas}
use Rattle.script.proofs.Chains.{has_none, has_one, not_written, last}
use Rattle.script.proofs.Listings.{others, opens, dash, going_none, going_more, going_not, going_all}
use Rattle.script.proofs.lists.commas.Goals as goal

pub returns-in_default : goal.returns-in_default
returns-in_default g c = λ ys h.
    last c.write.result (has_none c.args.line.now) c.write.ensures (dash g.I.Iterator.next_gives g.I.Item.Text.text ys h c.in_default.ensures.steps)

pub returns-in_err-write : goal.returns-in_err-write
returns-in_err-write g c = λ ys h.
    let text = g.I.Item.Text.text in
    let o = opens g.I.Iterator.next_gives text c.next.new.self ys h c.in-Some.ensures.steps refl in
    not_written (commas ys) c.from_residual.result (has_none c.args.line.now) c.in_err-write.ensures
    (omega (arith, ap length o.joins, length-append (text c.in-Some.first) (others o.zs))) c.from_residual.ensures.0

pub loop-item-init : goal.loop-item-init
loop-item-init g c = λ ys h. going_none g.I.Iterator.next_gives g.I.Item.Text.text c.write-2.new.line ys h

pub returns-in_err-write-2 : goal.returns-in_err-write-2
returns-in_err-write-2 g c = λ ys h.
    let steps = g.I.Iterator.next_gives in
    let text = g.I.Item.Text.text in
    let o = opens steps text c.into_iter-item-iterator.result ys h c.in-Some.ensures.steps c.into_iter-item-iterator.ensures.into_iter_gives in
    last c.from_residual-in_err-write-2.result (has_one c.in_ok-write.ensures)
    (going_not steps text c.from_residual-in_err-write-2.result (c.loop-item.invariant o.zs o.runs) c.in-Some-item.ensures.steps c.in_err-write-2.ensures c.from_residual-in_err-write-2.ensures.0)
    o.joins

pub loop-item-preserved : goal.loop-item-preserved
loop-item-preserved g c = λ ys h.
    going_more g.I.Iterator.next_gives g.I.Item.Text.text (c.loop-item.invariant ys h) c.in-Some-item.ensures.steps c.in_ok-write-2.ensures

pub returns : goal.returns
returns g c = λ ys h.
    let steps = g.I.Iterator.next_gives in
    let text = g.I.Item.Text.text in
    let o = opens steps text c.into_iter-item-iterator.result ys h c.in-Some.ensures.steps c.into_iter-item-iterator.ensures.into_iter_gives in
    last (Ok tt) (has_one c.in_ok-write.ensures) (going_all steps text (c.loop-item.invariant o.zs o.runs) c.in-None.ensures.steps) o.joins
