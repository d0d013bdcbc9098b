-- The set so far is that of the boards below this one; the own rank is one of the view's.
-- From the laws of picked sets.
use Rattle.std.proofs.Common.{◌≡◌, ℕ, ◌+◌, Bool, true, false, sym, ap, ◌∙◌, arith}
use Rattle.std.proofs.lemmas.Bool.{cond-true, cond-false}
use Rattle.boards.specs.Boards.{place}
use Rattle.boards.specs.declared.Set.{Set}
use Rattle.boards.proofs.Sets.{place_below}
use Rattle.row.specs.States.{insert, set_of}
use Rattle.row.specs.Effects.{passed_on}
use Rattle.row.proofs.Picked.{set_of_first, set_of_next}
use Rattle.changing.proofs.hearers.Goals as goal
use Rattle.changing.proofs.hearers.Goals.{then-is_hearer, else-is_hearer}

put : (P : ℕ → Bool) (n s t : ℕ) → s ≡ set_of P n → P n ≡ true → t ≡ insert s n → t ≡ set_of P (n + 1)
put P n s t before y e = e ∙ ap (λ x. insert x n) before ∙ sym (set_of_next P n ∙ cond-true (P n) _ _ y)

left : (P : ℕ → Bool) (n s t : ℕ) → s ≡ set_of P n → P n ≡ false → t ≡ s → t ≡ set_of P (n + 1)
left P n s t before out e = e ∙ before ∙ sym (set_of_next P n ∙ cond-false (P n) _ _ out)

pub loop-board-init : goal.loop-board-init
loop-board-init c = sym (set_of_first (passed_on c.args.row.now.state))

pub is_hearer-requires : goal.is_hearer-requires
is_hearer-requires c = omega (arith, c.in_ok-own.ensures.1, place_below c.view-view.result.set.bits c.board.result c.in_ok-own.ensures.0)

pub loop-board-preserved : goal.loop-board-preserved
loop-board-preserved c =
    let st = c.args.row.now.state in
    let before = c.loop-board in
    let rank = sym (c.in_ok-own.ensures.1 ∙ (λ i. place (c.view-view.ensures i) (c.board.ensures.is i) + 1)) in
    let told = sym (c.is_hearer.ensures st (sym c.view-view.ensures) rank) in
    let put_in = put (passed_on st) before.board before.to.bits in
    let left_out = left (passed_on st) before.board before.to.bits in
    elim c.if-is_hearer.branch [
      | then-is_hearer w ↦ put_in _ before.invariant (told ∙ w.if-is_hearer.true) (ap (λ (x : Set). x.bits) w.to-is ∙ w.insert-to.ensures)
      | else-is_hearer w ↦ left_out _ before.invariant (told ∙ w.if-is_hearer.false) (ap (λ (x : Set). x.bits) w.to-is)
    ]
