-- Suspects: whom a row suspects it asked out in its latest view, so whoever wrote to a deputy had asked the manager out.
-- A new view suspects nobody.
use Rattle.std.proofs.Common.{◌≡◌, ℕ, ◌≤◌, Bool, true, sym, ◌∙◌, subst, inl, inr, ⊎_elim, arith}
use Rattle.std.proofs.lemmas.Bool.{false≢true}
use Rattle.row.specs.States.{manager_in}
use Rattle.views_agree.proofs.Deeds.{Row, Suspecting, Growing, More}

pub record Suspects (now : ℕ) (suspect : ℕ → Bool) (views : ℕ → ℕ) (asked deputised : ℕ → ℕ → Type 0) : Type 0 where
  pub suspected : (b : ℕ) → suspect b ≡ true → asked now b
  pub deputy : (x k : ℕ) → deputised x k → (x ≤ now) × asked x (manager_in (views x))

module _ (r : Row) {asked deputised : ℕ → ℕ → Type 0} (p : Suspects r.x r.suspect r.views asked deputised) where
  marks : (r2 : Row) (y c : ℕ) → y ≡ r.x → Suspecting r c r2 → (b : ℕ) → r2.suspect b ≡ true → More asked y c r.x b
  marks r2 y c same s b t = ⊎_elim (λ old. inr (p.suspected b old)) (λ new. inl (sym same, new)) (s.suspects b t)

  -- An ask that wrote a notify.
  pub suspects_asked : (r2 : Row) (y c : ℕ) → y ≡ r.x → Suspecting r c r2 → Suspects r.x r2.suspect r.views (More asked y c) deputised
  suspects_asked r2 y c same s = record { suspected = marks r2 y c same s; deputy = λ x k d. let t = p.deputy x k d in (t.0, inr t.1) }

  -- An ask that wrote to a deputy.
  pub suspects_deputised : (r2 : Row) (y c j : ℕ) → y ≡ r.x → Suspecting r c r2 → r2.suspect (manager_in (r.views r.x)) ≡ true
      → Suspects r.x r2.suspect r.views (More asked y c) (More deputised y j)
  suspects_deputised r2 y c j same s out = record {
    suspected = marks r2 y c same s;
    deputy = λ x k. ⊎_elim
        (λ e. let here : r.x ≡ x = sym (e.0 ∙ same) in (omega arith, subst (λ z. More asked y c z (manager_in (r.views z))) here (marks r2 y c same s _ out)))
        (λ d. let t = p.deputy x k d in (t.0, inr t.1));
  }

  pub suspects_changed : (r2 : Row) (c : ℕ) → Growing r c r2 → Suspects r2.x r2.suspect r2.views asked deputised
  suspects_changed r2 c g = record {
    suspected = λ b t. absurd (false≢true (sym (g.clear b) ∙ t));
    deputy = λ x k d. let t = p.deputy x k d in (omega (arith, t.0, g.next), subst (λ m. asked x (manager_in m)) (sym (g.same x t.0)) t.1);
  }
