-- Uneven entries and an entry that is not allowed may not stand.
-- What has passed may, with one reply more at each member.
use Rattle.std.proofs.Common.{◌≡◌, refl, subst, rules, tests}
use Rattle.std.proofs.lemmas.Option.{same_Some}
use Rattle.layout.specs.Measures.{Gathers, Going}
use Rattle.layout.proofs.Turns.{tried}
use Rattle.layout.proofs.Replies.{begin, Turn, turned, stopped, finish, uneven, evens}
use Rattle.layout.proofs.gather.gather.Goals as goal

pub returns-then-not-even : goal.returns-then-not-even
returns-then-not-even c = record { some = λ x e. cc; none = λ _. uneven c.args.replies.set.bits c.args.replies.entries c.even.result c.even.ensures c.if-not-even.true }

pub returns-in_err-top : goal.returns-in_err-top
returns-in_err-top c =
    let s = c.args.replies.set.bits in
    let es = c.args.replies.entries in
    let even = evens _ _ _ c.even.ensures c.if-not-even.false in
    let turns = tried _ (Turn s es) (Going s es) (λ a b v h k. search (rules, tests)) (λ a b h. turned _ c.even.ensures c.if-not-even.false) (λ a b. stopped even) (begin s es) c.try_fold.ensures.ran in
    record { some = λ x e. cc; none = λ _. rw c.in_err-top.was at turns }

pub returns : goal.returns
returns c =
    let q = c.args.replies in
    let s = q.set.bits in
    let es = q.entries in
    let even = evens _ _ _ c.even.ensures c.if-not-even.false in
    let turns = tried _ (Turn s es) (Going s es) (λ a b v h k. search (rules, tests)) (λ a b h. turned _ c.even.ensures c.if-not-even.false) (λ a b. stopped even) (begin s es) c.try_fold.ensures.ran in
    let g = finish even (rw c.in_ok-top.was at turns) in
    record {
      some = λ x e. subst (λ y. (y.replies ≡ q) × Gathers s es y.top) (same_Some _ x e) (refl, g);
      none = λ e. cc;
    }
