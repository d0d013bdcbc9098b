-- A `try_fold` over the eight boards, board by board.
-- What holds before a board's turn and what the turn answers make what holds after it.
use Rattle.std.proofs.Common.{ControlFlow, ◌≡◌, ℕ, ◌+◌, ◌<◌, ◌≤◌, List, [], ◌∷◌, Option, Some, None, sym, refl, ap, ◌∙◌, subst, arith}
use Rattle.std.specs.ControlFlow.{continue_value}
use Rattle.std.specs.Fn.{Called}
use Rattle.std.specs.List.{FoldsTo}
use Rattle.std.specs.Option.{MatchOption}
use Rattle.std.specs.Iterator.{Yields, YieldsThen, TryFoldTurn}
use Rattle.std.proofs.iter.Yields.{nat_range_steps}
use Rattle.std.specs.declared.ops.Range.{Range}
use denote.Param.Members.{Mut}

-- the turns that went on
went : {F : Type 0} (E : Type 0) (g : Mut F (ℕ × (ℕ × Unit {0})) (Option ℕ)) (f : F) (S : ℕ → ℕ → Option ℕ → Type 0) (H : ℕ → ℕ → Type 0)
    → ((a b : ℕ) (v : Option ℕ) (h : F) → Called g f (a, (b, tt)) v h → (h ≡ f) × S a b v) → ((a b c : ℕ) → H b a → S a b (Some c) → H (b + 1) c)
    → (xs : List ℕ) (s t : Range ℕ) (p q : F × ℕ) → p.0 ≡ f → s.start ≤ s.end → H s.start p.1 → Yields nat_range_steps s xs t
    → FoldsTo {P = F × ℕ} (TryFoldTurn g (λ v (r : ControlFlow E ℕ). v ≡ continue_value r)) p xs q → (q.0 ≡ f) × (t.end ≡ s.end) × (t.start ≤ t.end) × H t.start q.1
went E g f S H tells more [] s t p q k l j y w =
    let here = subst (λ r. H s.start r.1) w j in
    (ap (λ r. r.0) (sym w) ∙ k, ap (λ u. u.end) (sym y), subst (λ (u : Range ℕ). u.start ≤ u.end) y l, subst (λ u. H u.start q.1) y here)
went E g f S H tells more (x ∷ xs) s t p q k l j y w =
    let n = w.0 in
    let c = tells p.1 x w.1.0 n.0 (subst (λ h. Called g h (p.1, (x, tt)) w.1.0 n.0) k w.1.1) in
    let here = more p.1 x n.1 (subst (λ b. H b p.1) (sym y.1.1.1) j) (subst (S p.1 x) w.1.2 c.1) in
    let r = went E g f S H tells more xs y.0 t n q c.0 (omega (arith, y.1.0, y.1.1)) (subst (λ b. H b n.1) (omega (arith, y.1.1)) here) y.2 w.2 in
    (r.0, r.1 ∙ y.1.0, r.2, r.3)

-- S a b v: at total a, board b's turn answers v. H b a: after the boards below b, the total is a.
pub tried : {F : Type 0} (E : Type 0) {g : Mut F (ℕ × (ℕ × Unit {0})) (Option ℕ)} {f : F} {r : Option ℕ} {u : Range ℕ} {Stop : Type 0} (S : ℕ → ℕ → Option ℕ → Type 0) (H : ℕ → ℕ → Type 0)
    → ((a b : ℕ) (v : Option ℕ) (h : F) → Called g f (a, (b, tt)) v h → (h ≡ f) × S a b v) → ((a b c : ℕ) → H b a → S a b (Some c) → H (b + 1) c)
    → ((a b : ℕ) → b < 8 → H b a → S a b None → Stop) → H 0 0
    → (xs : List ℕ) × (o : Option ℕ) × (h : F) × (a : ℕ) × YieldsThen nat_range_steps (record { start = 0; end = 8 }) xs o u
    × FoldsTo {P = F × ℕ} (TryFoldTurn g (λ v (x : ControlFlow E ℕ). v ≡ continue_value x)) (f, 0) xs (h, a)
    × MatchOption o (r ≡ Some a) (λ x. (v : Option ℕ) × (i : F) × E × Called g h (a, (x, tt)) v i × (v ≡ None) × (r ≡ None))
    → MatchOption r Stop (H 8)
tried {F} E {g} {f} {r} {u} {Stop} S H tells more stop j d =
    let t = d.4.0 in
    let a = d.3 in
    let w = went E g f S H tells more d.0 (record { start = 0; end = 8 }) t (f, 0) (d.2, a) refl (omega arith) j d.4.1 d.5 in
    let P : Option ℕ → Type 0 = λ o. nat_range_steps t o u → MatchOption o (r ≡ Some a) (λ x. (v : Option ℕ) × (i : F) × E × Called g d.2 (a, (x, tt)) v i × (v ≡ None) × (r ≡ None)) → MatchOption r Stop (H 8) in
    elim d.1 as P [
      | None ↦ λ n e. rw e (subst (λ b. H b a) (omega (arith, w.1, w.2, n.1)) w.3)
      | Some x ↦ λ n e.
          let c = tells a x e.0 e.1 (subst (λ h. Called g h (a, (x, tt)) e.0 e.1) w.0 e.3) in
          rw e.5 (stop a x (omega (arith, w.1, n.1)) (subst (λ b. H b a) (sym n.1.1) w.3) (subst (S a x) e.4 c.1))
    ] d.4.2 d.6
