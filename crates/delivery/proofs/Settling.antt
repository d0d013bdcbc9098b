-- Where a board's steps end: where it settles no step can be taken, and its steps lead there, view by view.
-- A view that was just opened is not closed, since the board's own end is not in; so from there on a board only leaves.
use Rattle.std.proofs.Common.{◌≡◌, ℕ, zero, suc, ◌+◌, ◌-◌, ◌<◌, Bool, true, false, not, ◌||◌, eqb, ltb, get_or, replicate, Some, None, Option, is_some, sym, refl, ap, ◌∙◌, subst, ◌⊎◌, inl, inr, ⊎_elim, arith}
use Rattle.std.proofs.lemmas.Bool.{and_parts, and_from, and_left, both_ways, or_cases, or_from, or_left, or_parts, or_right, cases_Bool, cases_lt, cond-true, cond-false, eq-eqb, eqb-true, not_from_false, not_from_true, lt-ltb, ltb-true}
use Rattle.boards.specs.Boards.{member}
use Rattle.boards.proofs.Chosen.{every_false}
use Rattle.boards.proofs.Members.{member_below}
use Rattle.views.specs.declared.history.History.{History}
use Rattle.views.specs.Histories.{members_of}
use Rattle.delivery.specs.Reports.{Record, Reports, opened, claim_of}
use Rattle.delivery.specs.Endings.{stays, ends_in, closed, done, may_stay, lowest_from, next_with, settled_in, GoesOn}
use Rattle.delivery.specs.Laws.{Steps, Ends, StepsEnd}
use Rattle.delivery.proofs.Telling.{lowest_here, lowest_on, lowest_over}

pub all_same : {A : Type 0} (n i : ℕ) (a : A) → get_or (replicate n a) i a ≡ a
all_same zero i a = refl
all_same (suc n) zero a = refl
all_same (suc n) (suc i) a = all_same n i a

-- A view that was just opened is not closed where the board stays: its own end is not in.
open_yet : (h : History) (b y : ℕ) (o : Option ℕ) (r : Option Record) → member (members_of h y) b ≡ true → member (members_of h (y + 1)) b ≡ true → closed h y (opened o r) ≡ false
open_yet h b y o r here next =
    let both : stays h y b ≡ true = and_from _ _ here next in
    let unended : is_some (claim_of (opened o r) b) ≡ false = ap is_some (all_same {A = Option ℕ} 8 b None) in
    and_left (ends_in h y (opened o r)) _
    (every_false (λ s. not (stays h y s) || is_some (claim_of (opened o r) s)) 8 b (member_below (members_of h y) b here) (or_from (not (stays h y b)) _ (not_from_true _ both) unended))

-- A board rests in a view that was just opened and in which it may stay.
rests_in : (h : History) (b y : ℕ) (r : Option Record) → may_stay h b y ≡ true → (f : Reports) → GoesOn h b (opened (Some y) r) f → ⊥
rests_in h b y r e f (GoesOn.closes z q low has is) =
    let same : y ≡ z = cc in
    let p = and_parts (member (members_of h y) b) _ e in
    both_ways _ (open_yet h b y (Some y) r p.0 (ap (λ v. member (members_of h (v + 1)) b) same ∙ has)) (ap (λ v. closed h v (opened (Some y) r)) same ∙ is)
rests_in h b y r e f (GoesOn.leaves z q low has) =
    let same : y ≡ z = cc in
    let p = and_parts (member (members_of h y) b) _ e in
    ⊎_elim (λ last. omega (arith, eqb-true y h.latest last, same, low)) (λ next. both_ways _ (ap (λ v. member (members_of h (v + 1)) b) same ∙ has) next) (or_cases (eqb y h.latest) _ p.1)
rests_in h b y r e f (GoesOn.enters q has) = let z : ◌≡◌ {A = Option ℕ} (Some y) None = q in cc

-- A board without a view rests where the latest view has not its board.
rests_out : (h : History) (b : ℕ) (d : Reports) → d.view ≡ None → member (members_of h h.latest) b ≡ false → (f : Reports) → GoesOn h b d f → ⊥
rests_out h b d e out f (GoesOn.closes z q low has is) = let w : ◌≡◌ {A = Option ℕ} None (Some z) = sym e ∙ q in cc
rests_out h b d e out f (GoesOn.leaves z q low has) = let w : ◌≡◌ {A = Option ℕ} None (Some z) = sym e ∙ q in cc
rests_out h b d e out f (GoesOn.enters q has) = both_ways _ out has

-- A board rests in a view that it is not done with.
rests_undone : (h : History) (b y : ℕ) (d : Reports) → d.view ≡ Some y → done h b y d ≡ false → (f : Reports) → GoesOn h b d f → ⊥
rests_undone h b y d e undone f (GoesOn.closes z q low has is) =
    let same : y ≡ z = let w : Some y ≡ Some z = sym e ∙ q in cc in
    both_ways _ undone (and_from _ _ (lt-ltb y h.latest (omega (arith, same, low))) (or_right (not (member (members_of h (y + 1)) b)) _ (ap (λ v. closed h v d) same ∙ is)))
rests_undone h b y d e undone f (GoesOn.leaves z q low has) =
    let same : y ≡ z = let w : Some y ≡ Some z = sym e ∙ q in cc in
    both_ways _ undone (and_from _ _ (lt-ltb y h.latest (omega (arith, same, low))) (or_left _ (closed h y d) (not_from_false _ (ap (λ v. member (members_of h (v + 1)) b) same ∙ has))))
rests_undone h b y d e undone f (GoesOn.enters q has) = let w : ◌≡◌ {A = Option ℕ} (Some y) None = sym e ∙ q in cc

module _ (h : History) (b : ℕ) (r : Option Record) where
  abbrev has : ℕ → Bool
  has v = member (members_of h v) b

  joined : {d e f : Reports} → Steps h b d e → Steps h b e f → Steps h b d f
  joined g Steps.here = g
  joined g (Steps.on k s) = Steps.on (joined g k) s

  -- From the lowest of the views from v on that has the board, a board goes on to the lowest in which it may stay, and rests there.
  pub leaving : (n v : ℕ) → v + n ≡ h.latest + 1 → (n ≡ 0 → has h.latest ≡ false) → Ends h b (opened (lowest_from has v n) r) (opened (lowest_from (may_stay h b) v n) r)
  leaving zero v e out =
      let d1 : opened (lowest_from has v 0) r ≡ opened None r = ap (λ o. opened o r) (lowest_over has v 0 refl) in
      let d2 : opened (lowest_from (may_stay h b) v 0) r ≡ opened None r = ap (λ o. opened o r) (lowest_over (may_stay h b) v 0 refl) in
      subst (λ x. Ends h b x (opened (lowest_from (may_stay h b) v 0) r)) (sym d1) (subst (λ x. Ends h b (opened None r) x) (sym d2)
      (record { goes = Steps.here; rests = rests_out h b (opened None r) refl (out refl) }))
  leaving (suc n) v e out =
      let Goal : Type 0 = Ends h b (opened (lowest_from has v (suc n)) r) (opened (lowest_from (may_stay h b) v (suc n)) r) in
      let stay : has v ≡ true → may_stay h b v ≡ true → Goal = λ t l.
      subst (λ x. Ends h b x (opened (lowest_from (may_stay h b) v (suc n)) r)) (sym (ap (λ o. opened o r) (lowest_here has v (suc n) (omega arith) t)))
      (subst (λ x. Ends h b (opened (Some v) r) x) (sym (ap (λ o. opened o r) (lowest_here (may_stay h b) v (suc n) (omega arith) l)))
      (record { goes = Steps.here; rests = rests_in h b v r l })) in
      let onward : may_stay h b v ≡ false → Ends h b (opened (lowest_from has v (suc n)) r) (opened (lowest_from (may_stay h b) (v + 1) n) r) → Goal = λ l k.
      subst (λ x. Ends h b (opened (lowest_from has v (suc n)) r) x) (sym (ap (λ o. opened o r) (lowest_on (may_stay h b) v (suc n) n (omega arith) l))) k in
      let last_empty : n ≡ 0 → has v ≡ false → has h.latest ≡ false = λ z f. ap has (omega (arith, e, z)) ∙ f in
      ⊎_elim
      (λ t. ⊎_elim
      (λ l. stay t l)
      (λ l.
      let q = or_parts (eqb v h.latest) (has (v + 1)) (⊎_elim (λ y. absurd (both_ways (may_stay h b v) l (and_from _ _ t y))) (λ z. z) (cases_Bool (eqb v h.latest || has (v + 1)))) in
      let below : v < h.latest = ⊎_elim (λ y. y) (λ y. absurd (both_ways _ q.0 (eq-eqb v h.latest (omega (arith, e))))) (cases_lt v h.latest) in
      let rest = leaving n (v + 1) (omega (arith, e)) (λ z. absurd (omega (arith, e, below, z))) in
      let step : GoesOn h b (opened (Some v) r) (opened (next_with h b v) r) = GoesOn.leaves v refl below q.1 in
      let same : next_with h b v ≡ lowest_from has (v + 1) n = ap (lowest_from has (v + 1)) (omega (arith, e)) in
      let step2 : GoesOn h b (opened (Some v) r) (opened (lowest_from has (v + 1) n) r) = subst (λ o. GoesOn h b (opened (Some v) r) (opened o r)) same step in
      onward l (subst (λ x. Ends h b x (opened (lowest_from (may_stay h b) (v + 1) n) r)) (sym (ap (λ o. opened o r) (lowest_here has v (suc n) (omega arith) t)))
      (record { goes = joined (Steps.on Steps.here step2) rest.goes; rests = rest.rests })))
      (cases_Bool (may_stay h b v)))
      (λ f.
      let rest = leaving n (v + 1) (omega (arith, e)) (λ z. last_empty z f) in
      onward (and_left (member (members_of h v) b) _ f) (subst (λ x. Ends h b x (opened (lowest_from (may_stay h b) (v + 1) n) r)) (sym (ap (λ o. opened o r) (lowest_on has v (suc n) n (omega arith) f))) rest))
      (cases_Bool (has v))

before : (h : History) (b : ℕ) {d e f : Reports} → GoesOn h b d e → Ends h b e f → Ends h b d f
before h b s k = record { goes = joined h b None (Steps.on Steps.here s) k.goes; rests = k.rests }

ends_in_view : (h : History) (b : ℕ) (d : Reports) (o : Option ℕ) → d.view ≡ o → Ends h b d (settled_in h b o d)
ends_in_view h b d None e =
    ⊎_elim
    (λ t. subst (λ x. Ends h b d x) (sym (cond-true (member (members_of h h.latest) b) (opened (Some h.latest) d.out) d t))
    (record { goes = Steps.on Steps.here (GoesOn.enters e t); rests = rests_in h b h.latest d.out (and_from _ _ t (or_left _ _ (eq-eqb h.latest h.latest refl))) }))
    (λ f. subst (λ x. Ends h b d x) (sym (cond-false (member (members_of h h.latest) b) (opened (Some h.latest) d.out) d f)) (record { goes = Steps.here; rests = rests_out h b d e f }))
    (cases_Bool (member (members_of h h.latest) b))
ends_in_view h b d (Some y) e =
    let o = lowest_from (may_stay h b) (y + 1) (h.latest - y) in
    ⊎_elim
    (λ t.
    let p = and_parts (ltb y h.latest) _ t in
    let low = ltb-true y h.latest p.0 in
    let rest = leaving h b d.out (h.latest - y) (y + 1) (omega (arith, low)) (λ z. absurd (omega (arith, low, z))) in
    subst (λ x. Ends h b d x) (sym (cond-true (done h b y d) (opened o d.out) d t))
    (⊎_elim
    (λ in_next.
    let shut : closed h y d ≡ true = ⊎_elim (λ gone. absurd (both_ways _ (not_from_true _ in_next) gone)) (λ s. s) (or_cases (not (member (members_of h (y + 1)) b)) _ p.1) in
    let next : lowest_from (λ v. member (members_of h v) b) (y + 1) (h.latest - y) ≡ Some (y + 1) =
    lowest_here (λ v. member (members_of h v) b) (y + 1) (h.latest - y) (omega (arith, low)) in_next in
    before h b (GoesOn.closes y e low in_next shut) (subst (λ v. Ends h b (opened v d.out) (opened o d.out)) next rest))
    (λ out. before h b (GoesOn.leaves y e low out) rest)
    (cases_Bool (member (members_of h (y + 1)) b))))
    (λ f. subst (λ x. Ends h b d x) (sym (cond-false (done h b y d) (opened o d.out) d f)) (record { goes = Steps.here; rests = rests_undone h b y d e f }))
    (cases_Bool (done h b y d))

some_is : {y z : ℕ} → Some y ≡ Some z → y ≡ z
some_is w = cc

-- Of a board that goes on the next step is determined: so its steps end at one place.
one_step : (h : History) (b : ℕ) (d e f : Reports) → GoesOn h b d e → GoesOn h b d f → e ≡ f
one_step h b d e f (GoesOn.closes y q low has is) (GoesOn.closes z p l u v) = let w : Some y ≡ Some z = sym q ∙ p in ap (λ n. opened (Some (n + 1)) d.out) (some_is w)
one_step h b d e f (GoesOn.closes y q low has is) (GoesOn.leaves z p l u) = let w : Some y ≡ Some z = sym q ∙ p in absurd (both_ways _ u (ap (λ n. member (members_of h (n + 1)) b) (sym (some_is w)) ∙ has))
one_step h b d e f (GoesOn.closes y q low has is) (GoesOn.enters p u) = let w : ◌≡◌ {A = Option ℕ} (Some y) None = sym q ∙ p in cc
one_step h b d e f (GoesOn.leaves y q low has) (GoesOn.closes z p l u v) = let w : Some y ≡ Some z = sym q ∙ p in absurd (both_ways _ has (ap (λ n. member (members_of h (n + 1)) b) (some_is w) ∙ u))
one_step h b d e f (GoesOn.leaves y q low has) (GoesOn.leaves z p l u) = let w : Some y ≡ Some z = sym q ∙ p in ap (λ n. opened (next_with h b n) d.out) (some_is w)
one_step h b d e f (GoesOn.leaves y q low has) (GoesOn.enters p u) = let w : ◌≡◌ {A = Option ℕ} (Some y) None = sym q ∙ p in cc
one_step h b d e f (GoesOn.enters q has) (GoesOn.closes z p l u v) = let w : ◌≡◌ {A = Option ℕ} None (Some z) = sym q ∙ p in cc
one_step h b d e f (GoesOn.enters q has) (GoesOn.leaves z p l u) = let w : ◌≡◌ {A = Option ℕ} None (Some z) = sym q ∙ p in cc
one_step h b d e f (GoesOn.enters q has) (GoesOn.enters p u) = refl

-- Steps begin with one, unless there are none.
first_step : (h : History) (b : ℕ) {d f : Reports} → Steps h b d f → (d ≡ f) ⊎ ((e : Reports) × GoesOn h b d e × Steps h b e f)
first_step h b Steps.here = inl refl
first_step h b {f = f} (Steps.on g s) = ⊎_elim (λ same. inr (f, subst (λ x. GoesOn h b x f) (sym same) s, Steps.here)) (λ k. inr (k.0, k.1, Steps.on k.2 s)) (first_step h b g)

-- Where steps lead to a place at which a board rests, all its steps lead on to there.
leads_on : (h : History) (b : ℕ) {d e f : Reports} → Steps h b d e → Steps h b d f → ((x : Reports) → GoesOn h b f x → ⊥) → Steps h b e f
leads_on h b Steps.here k rest = k
leads_on h b {e = e} {f = f} (Steps.on g s) k rest =
    ⊎_elim (λ same. absurd (rest e (subst (λ x. GoesOn h b x e) same s))) (λ m. subst (λ x. Steps h b x f) (one_step h b _ m.0 e m.1 s) m.2) (first_step h b (leads_on h b g k rest))

pub steps_end : StepsEnd
steps_end = record {
  ends = λ h b d. ends_in_view h b d d.view refl;
  alone = λ h b d e k.
      let here = ends_in_view h b d d.view refl in
      ⊎_elim (λ same. same) (λ m. absurd (k.rests m.0 m.1)) (first_step h b (leads_on h b k.goes here.goes here.rests));
}
