-- The course of views: a row's first view is the common one, each later view comes from the one before by a change that the row made, and none is empty.
-- A view once defined stays as it is.
use Rattle.std.proofs.Common.{◌≡◌, ℕ, ◌+◌, ◌<◌, ◌≤◌, sym, refl, ◌∙◌, subst, inl, inr, ⊎_elim, arith}
use Rattle.std.proofs.lemmas.Bool.{cases_lt}
use Rattle.boards.specs.Boards.{size}
use Rattle.views.specs.Groups.{toggle}
use Rattle.views_agree.proofs.Deeds.{Row, Growing, Begins, More}

pub record Course (first now : ℕ) (views : ℕ → ℕ) (changed : ℕ → ℕ → Type 0) : Type 0 where
  pub some : 1 ≤ now
  pub start : views 1 ≡ first
  pub peopled : (x : ℕ) → 1 ≤ x → x ≤ now → 1 ≤ size (views x)
  pub past : (x c : ℕ) → changed x c → (1 ≤ x) × (x < now) × (views (x + 1) ≡ toggle (views x) c)
  pub made : (x : ℕ) → 1 ≤ x → x < now → (c : ℕ) × changed x c

pub course_changed : (first : ℕ) (r r2 : Row) (y c : ℕ) {changed : ℕ → ℕ → Type 0} → Course first r.x r.views changed → y ≡ r.x → Growing r c r2
    → Course first r2.x r2.views (More changed y c)
course_changed first r r2 y c p same g = record {
  some = omega (arith, p.some, g.next);
  start = g.same 1 p.some ∙ p.start;
  peopled = λ x h1 h2. ⊎_elim
      (λ old. subst (λ m. 1 ≤ size m) (sym (g.same x (omega arith))) (p.peopled x h1 (omega arith)))
      (λ new. let e : r.x + 1 ≡ x = omega (arith, g.next) in subst (λ z. 1 ≤ size (r2.views z)) e g.peopled)
      (cases_lt x (r.x + 1));
  past = λ x d. ⊎_elim
      (λ e.
      let here : x ≡ r.x = e.0 ∙ same in
      let now = g.same r.x (omega arith) in
      let new = g.view in
      let of = e.1 in
      (omega (arith, p.some), omega (arith, g.next), cc))
      (λ old.
      let t = p.past x d old in
      let now = g.same x (omega (arith, t.1)) in
      let then = g.same (x + 1) (omega (arith, t.1)) in
      let was = t.2 in
      (t.0, omega (arith, t.1, g.next), cc));
  made = λ x h1 h2. ⊎_elim (λ old. let t = p.made x h1 old in (t.0, inr t.1)) (λ new. (c, inl (omega (arith, g.next), refl))) (cases_lt x r.x);
}

-- A row in view 1 has made no change.
pub course_begins : (first : ℕ) (r : Row) → Begins first r → 1 ≤ size first → Course first r.x r.views (λ x c. ⊥)
course_begins first r b some = record {
  some = omega (arith, b.one);
  start = b.view;
  peopled = λ x h1 h2. let one : 1 ≡ x = omega (arith, b.one) in subst (λ z. 1 ≤ size (r.views z)) one (subst (λ m. 1 ≤ size m) (sym b.view) some);
  past = λ x c d. absurd d;
  made = λ x h1 h2. absurd (omega (arith, b.one));
}
