-- Views only grow: a deed leaves every view that its row had, and only a change makes the latest view rise, by one.
-- So what was said of a view at one time is said of it ever after.
use Rattle.std.proofs.Common.{◌≡◌, ℕ, ◌+◌, ◌<◌, ◌≤◌, ◌⊎◌, List, Some, None, Option, sym, ap, inl, inr, ⊎_elim, arith}
use Rattle.views.specs.Groups.{toggle}
use Rattle.views_agree.proofs.Deeds.{Row, Deed, view_in, Has, Does}
use Rattle.views_agree.proofs.StepDeeds.{Moves, put}

-- A row has all that it had, in as many views or more.
pub record Onward (r r2 : Row) : Type 0 where
  pub rises : r.x ≤ r2.x
  pub stay : (v : ℕ) → v ≤ r.x → r2.views v ≡ r.views v

onward_same : (r r2 : Row) → r2.x ≡ r.x → r2.views ≡ r.views → Onward r r2
onward_same r r2 e f = record { rises = omega (arith, e); stay = λ v h. ap (λ (z : ℕ → ℕ). z v) f }

does_onward : (d : Deed) (r r2 : Row) → Does d r r2 → Onward r r2
does_onward (Deed.Asks y c) r r2 s = onward_same r r2 (ap (λ (z : Row). z.x) s.1.after) (ap (λ (z : Row). z.views) s.1.after)
does_onward (Deed.Deputes y c k) r r2 s = onward_same r r2 (ap (λ (z : Row). z.x) s.2.after) (ap (λ (z : Row). z.views) s.2.after)
does_onward (Deed.Voted y v) r r2 s = onward_same r r2 (ap (λ (z : Row). z.x) s.1.after) (ap (λ (z : Row). z.views) s.1.after)
does_onward (Deed.Changed y c) r r2 s = record { rises = omega (arith, s.1.next); stay = s.1.same }

pub moves_onward : (o : Option Deed) (r r2 : Row) → Moves o r r2 → Onward r r2
moves_onward None r r2 e = onward_same r r2 (ap (λ (z : Row). z.x) e) (ap (λ (z : Row). z.views) e)
moves_onward (Some d) r r2 s = does_onward d r r2 s

-- A deed is of the row's latest view.
pub does_now : (d : Deed) (r r2 : Row) → Does d r r2 → view_in d ≡ r.x
does_now (Deed.Asks y c) r r2 s = s.0
does_now (Deed.Deputes y c k) r r2 s = s.0
does_now (Deed.Voted y v) r r2 s = s.0
does_now (Deed.Changed y c) r r2 s = s.0

-- What a row did when its latest view rose.
pub record Rise (o : Option Deed) (r r2 : Row) : Type 0 where
  pub change : ℕ
  pub deed : o ≡ Some (Deed.Changed r.x change)
  pub next : r2.x ≡ r.x + 1
  pub view : r2.views (r.x + 1) ≡ toggle (r.views r.x) change

flat : {A : Type 0} (r r2 : Row) → r2.x ≡ r.x → r.x < r2.x → A
flat r r2 e h = absurd (omega (arith, e, h))

pub rise : (o : Option Deed) (r r2 : Row) → Moves o r r2 → r.x < r2.x → Rise o r r2
rise None r r2 e h = flat r r2 (ap (λ (z : Row). z.x) e) h
rise (Some (Deed.Asks y c)) r r2 s h = flat r r2 (ap (λ (z : Row). z.x) s.1.after) h
rise (Some (Deed.Deputes y c k)) r r2 s h = flat r r2 (ap (λ (z : Row). z.x) s.2.after) h
rise (Some (Deed.Voted y v)) r r2 s h = flat r r2 (ap (λ (z : Row). z.x) s.1.after) h
rise (Some (Deed.Changed y c)) r r2 s h = record { change = c; deed = ap (λ n. Some (Deed.Changed n c)) s.0; next = s.1.next; view = s.1.view }

-- A deed of a longer list is the new one, or one of the list.
pub has_put : (o : Option Deed) (l : List Deed) (d : Deed) → Has (put o l) d → (o ≡ Some d) ⊎ Has l d
has_put None l d p = inr p
has_put (Some e) l d p = ⊎_elim (λ same. inl (ap Some (sym same))) inr p
