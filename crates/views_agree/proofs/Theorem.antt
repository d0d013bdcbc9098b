-- The boards agree on their views, and each view after the first was asked for: the theorem of specs/Agreement.antt.
-- A history is a group of rows that lived, and such rows have the same views.
use Rattle.std.proofs.Common.{◌≡◌, ℕ, ◌+◌, ◌<◌, ◌≤◌, List, sym, refl, ap, ◌∙◌, subst, ⊎_elim, arith}
use Rattle.std.proofs.lemmas.Bool.{cases_lt}
use Rattle.boards.specs.Boards.{size}
use Rattle.boards.proofs.Sets.{size_none}
use Rattle.views.specs.declared.history.History.{History}
use Rattle.views.specs.Histories.{members_of}
use Rattle.views.proofs.Histories.{no_view_zero, no_view_past, begun_latest}
use Rattle.schemes.specs.declared.Scheme.{Ghosts}
use Rattle.row.specs.declared.state.State.{State}
use Rattle.row.specs.States.{the_set, latest}
use Rattle.views_agree.specs.Agreement.{Step, Outside, row_of, Started, Taken, Leads, VouchedFor, Vouched, Bounded, OneView, Earned, AskedFor, ViewsAgree}
use Rattle.views_agree.proofs.Group.{Few}
use Rattle.views_agree.proofs.SameViews.{same_views}
use Rattle.views_agree.proofs.Lives.{group_of, Alive, lives, onward}
use Rattle.views_agree.proofs.Earned.{view_at, earned_still, earned_now}

-- A view that is defined is one of 1 to the latest.
in_range : (h : History) (x v : ℕ) → members_of h x ≡ v → 1 ≤ size v → (1 ≤ x) × (x ≤ h.latest)
in_range h x v e some = (
  ⊎_elim (λ low. absurd (omega (arith, some, ap size (sym e ∙ no_view_zero h x low), size_none))) (λ ok. ok) (cases_lt x 1),
  ⊎_elim (λ high. absurd (omega (arith, some, ap size (sym e ∙ no_view_past h x high), size_none))) (λ ok. ok) (cases_lt h.latest x),
)

few : {faulty first : ℕ} {rows : List State} {h : List Step} → Alive faulty first rows h → Bounded faulty rows → Few (group_of faulty first rows h)
few a bound b x o h1 h2 = bound b x _ o (refl, (a.lived.laws b o).course.peopled x h1 h2)

one_view : {faulty first : ℕ} {rows : List State} {h : List Step} → Alive faulty first rows h → Bounded faulty rows → OneView faulty rows
one_view {faulty} {first} {rows} {h} a bound b d x v w ob od pb pd =
    let rb = in_range (row_of rows b).views x v pb.0 pb.1 in
    let rd = in_range (row_of rows d).views x w pd.0 pd.1 in
    sym pb.0 ∙ same_views (group_of faulty first rows h) a.lived (few a bound) b d x ob od rb.0 rb.1 rd.1 ∙ pd.0

module _ {S : Type 0} (g : Ghosts S) (faulty first : ℕ) where
  -- What is bounded after a step was bounded before it, since views stay.
  bounded_before : (rows rows2 : List State) (h : List Step) (e : Step) → Alive faulty first rows h → Taken g faulty e rows rows2 → VouchedFor faulty h e.call e.answer
      → Bounded faulty rows2 → Bounded faulty rows
  bounded_before rows rows2 h e a t v bound b x w o p =
      let r = in_range (row_of rows b).views x w p.0 p.1 in
      bound b x w o ((onward g faulty first rows rows2 h e a t v b).stay x r.1 ∙ p.0, p.1)

  module _ (start : List State) (st : Started first start) where
    earned : {rows : List State} {h : List Step} → Leads g faulty start rows h → Vouched faulty h → Bounded faulty rows
        → (b x : ℕ) → Outside faulty b → 1 ≤ x → x < latest (row_of rows b) → Earned faulty h b x (view_at rows b x) (view_at rows b (x + 1))
    earned Leads.begin v bound b x o h1 h2 = absurd (omega (arith, h1, h2, ap latest (st.2 b o.0), begun_latest (the_set first)))
    earned (Leads.next {rows} {rows2} {h} run e t) v bound b x o h1 h2 =
        let a = lives g faulty first start st run v.0 in
        let before = bounded_before rows rows2 h e a t v.1 bound in
        ⊎_elim (λ old. earned_still g faulty first rows rows2 h e a t v.1 b x (earned run v.0 before b x o h1 old) old)
        (λ new. earned_now g faulty first rows rows2 h e a t v.1 b x o (few a before) h1 new h2) (cases_lt x (latest (row_of rows b)))

    asked_for : {rows : List State} {h : List Step} → Leads g faulty start rows h → Vouched faulty h → Bounded faulty rows → AskedFor faulty rows h
    asked_for {rows} {h} run v bound b x y w o p q =
        let r = in_range (row_of rows b).views x y p.0 p.1 in
        let n = in_range (row_of rows b).views (x + 1) w q.0 q.1 in
        let z = earned run v bound b x o r.0 (omega (arith, n.1)) in
        subst (λ m. Earned faulty h b x m w) p.0 (subst (λ m. Earned faulty h b x (view_at rows b x) m) q.0 z)

pub views_agree : {S : Type 0} (g : Ghosts S) → ViewsAgree g
views_agree g faulty first start rows h st run v bound =
    (one_view (lives g faulty first start st run v) bound, asked_for g faulty first start st run v bound)
