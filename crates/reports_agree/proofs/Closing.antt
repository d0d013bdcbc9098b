-- A board whose reports go on from a view although the next one has the board closed it: the ends of all that stay are delivered, and of a board that the next view leaves out as many as
-- each claim. First of one board's state, then of a call of the delivery layer.
use Rattle.std.proofs.Common.{◌≡◌, ℕ, zero, suc, ◌+◌, ◌<◌, ◌≤◌, true, cond, not, ◌||◌, eqb, ltb, List, length, Some, None, Ok, Err, Option, Result, is_some, sym, refl, ap, ◌∙◌, subst, ⊎_elim, arith}
use Rattle.std.proofs.lemmas.Bool.{cases_eq, cases_Bool, cond-true, cond-false, and_parts, and_from, or_cases, not-true, not_from_false, eqb-true, ltb-true, lt-ltb, both_ways, false≢true}
use Rattle.boards.specs.Boards.{member, any}
use Rattle.boards.proofs.Chosen.{every_at, any_true}
use Rattle.boards.proofs.Members.{member_below}
use Rattle.codes.specs.declared.Refusal.{Refusal}
use Rattle.schemes.specs.declared.Scheme.{Ghosts}
use Rattle.checks.specs.Checks.{genuine}
use Rattle.views.specs.declared.history.History.{History}
use Rattle.views.specs.Histories.{members_of}
use Rattle.wire.specs.Messages.{Msg}
use Rattle.row.specs.declared.state.State.{State}
use Rattle.row.specs.declared.state.Sent.{Sent as Answer}
use Rattle.delivery.specs.Reports.{Content, content, claim, Reports, opened, count_of, claim_of, or_zero}
use Rattle.delivery.specs.Endings.{stays, is_left_out, left_out, largest, ends_in, cut, closed, done, lowest_from, may_stay, settled_in, settled}
use Rattle.delivery.specs.Effects.{delivered}
use Rattle.reports_agree.specs.Agreement.{Call, Step, Promised, Delivered, number_delivered}
use Rattle.reports_agree.proofs.Held.{Facts, Stay, Leave, none_some, some_same}
use Rattle.reports_agree.proofs.Keeps.{HeldAs}
use Rattle.reports_agree.proofs.Leaving.{one_leaves}
use Rattle.reports_agree.proofs.Turns.{awaits_echoes}
use Rattle.reports_agree.proofs.Events.{ev, after, Before, hears_commit}

pub record Shut (h : History) (y : ℕ) (total : ℕ → ℕ → ℕ) (D : Facts) : Type 0 where
  pub ends : (t : ℕ) → Stay (members_of h y) (members_of h (y + 1)) t → (i : ℕ) × (c : Content) × (m : ℕ) × (claim c ≡ Some m) × D y t i c
  pub enough : (r t i m : ℕ) (c : Content) → Leave (members_of h y) (members_of h (y + 1)) r → Stay (members_of h y) (members_of h (y + 1)) t → D y t i c → claim c ≡ Some m → m ≤ total y r

largest_over : (f : ℕ → ℕ) (n k : ℕ) → k < n → f k ≤ largest f n
unfolding largest
largest_over f zero k low = absurd (omega arith)
largest_over f (suc n) k low = ⊎_elim (λ same. omega (arith, ap f same)) (λ other. omega (arith, largest_over f n k (omega arith))) (cases_eq k n)

some_claim : (o : Option ℕ) → is_some o ≡ true → (m : ℕ) × (o ≡ Some m)
some_claim None e = absurd (false≢true e)
some_claim (Some m) e = (m, refl)

module _ {b : ℕ} {h : History} {d : Reports} {total : ℕ → ℕ → ℕ} {D E : Facts} {S : ℕ → ℕ → Content → Type 0} (k : HeldAs b h d total D E S)
    (y : ℕ) (here : d.view ≡ Some y) (later : y < h.latest) where
  at : y ≡ k.at
  at = k.here y here

  closed_shut : closed h y d ≡ true → Shut h y total D
  closed_shut e =
      let p = and_parts (ends_in h y d) _ e in record {
        ends = λ t st.
            let in_both : stays h y t ≡ true = and_from _ _ st.0 st.1 in
            let ended : is_some (claim_of d t) ≡ true =
            ⊎_elim (λ f. absurd (both_ways (stays h y t) (not-true _ f) in_both)) (λ u. u)
            (or_cases (not (stays h y t)) (is_some (claim_of d t)) (every_at (λ s. not (stays h y s) || is_some (claim_of d s)) 8 t p.0 (member_below (members_of h y) t st.0))) in
            let c = some_claim (claim_of d t) ended in
            let g = k.counts.claimed t c.0 c.1 in
            (g.0, g.1, c.0, g.3, subst (λ v. D v t g.0 g.1) (sym at) g.2);
        enough = λ r t i m c lv st x is.
            let low = member_below (members_of h y) r lv.0 in
            let gone : is_left_out h y r ≡ true = and_from (ltb y h.latest) _ (lt-ltb y h.latest later) (and_from (member (members_of h y) r) _ lv.0 (not_from_false _ lv.1)) in
            let some : any (is_left_out h y) 8 ≡ true = any_true (is_left_out h y) 8 r low gone in
            let full : count_of d (left_out h y) ≡ cut h y d =
            ⊎_elim (λ f. absurd (both_ways (any (is_left_out h y) 8) (not-true _ f) some)) (λ u. eqb-true _ _ u) (or_cases (not (any (is_left_out h y) 8)) (eqb (count_of d (left_out h y)) (cut h y d)) p.1) in
            let claimed : claim_of d t ≡ Some m = k.counts.ended t i m c (subst (λ v. D v t i c) at x) is in
            let mine : cond (stays h y t) (or_zero (claim_of d t)) 0 ≡ m = cond-true _ _ _ (and_from _ _ st.0 st.1) ∙ ap or_zero claimed in
            let over : cond (stays h y t) (or_zero (claim_of d t)) 0 ≤ cut h y d =
            largest_over (λ s. cond (stays h y s) (or_zero (claim_of d s)) 0) 8 t (member_below (members_of h y) t st.0) in
            let seen : total y r ≡ count_of d r = ap (λ v. total v r) at ∙ k.counts.here r in
            let is_left = ap (count_of d) (one_leaves h y r (omega (arith, at, k.some)) later lv) in
            omega (arith, mine, over, seen, is_left, full);
      }

  pub done_shut : done h b y d ≡ true → member (members_of h (y + 1)) b ≡ true → Shut h y total D
  done_shut e in_next =
      closed_shut
      (⊎_elim (λ f. absurd (both_ways (member (members_of h (y + 1)) b) (not-true _ f) in_next)) (λ u. u)
      (or_cases (not (member (members_of h (y + 1)) b)) (closed h y d) (and_parts (ltb y h.latest) _ e).1))

settled_done_in : (h : History) (b y : ℕ) (d : Reports) (o : Option ℕ) → o ≡ Some y → d.view ≡ Some y → ((settled_in h b o d).view ≡ Some y → ⊥) → done h b y d ≡ true
settled_done_in h b y d None e here gone = none_some y e
settled_done_in h b y d (Some x) e here gone =
    let same : x ≡ y = some_same x y e in
    ⊎_elim (λ yes. ap (λ v. done h b v d) (sym same) ∙ yes)
    (λ nope. absurd (gone (ap (λ (z : Reports). z.view) (cond-false (done h b x d) (opened (lowest_from (may_stay h b) (x + 1) _) d.out) d nope) ∙ here)))
    (cases_Bool (done h b x d))

pub settled_done : (h : History) (b y : ℕ) (d : Reports) → d.view ≡ Some y → ((settled h b d).view ≡ Some y → ⊥) → done h b y d ≡ true
settled_done h b y d here gone = settled_done_in h b y d d.view here here gone

-- A call of the delivery layer in which a board's reports go on from a view is the hear of a commit.
module _ (hs : List Step) (b : ℕ) (st : State) (seat : st.board ≡ b) (d d2 : Reports) (out out2 : List ℕ) (keeps : Before hs b st seat d d2 out out2 d) {S : Type 0} (g : Ghosts S) (s s2 : S) (y : ℕ)
    (here : d.view ≡ Some y) (gone : d2.view ≡ Some y → ⊥) where
  unmoved : {A : Type 0} (z : Reports) → d2 ≡ z → z.view ≡ d.view → A
  unmoved z e v = absurd (gone (ap (λ (x : Reports). x.view) e ∙ v ∙ here))

  pub event_goes_on : (c : Call) (r : Result Answer Refusal) → Promised g c (ev hs b st seat d d2 out out2 c r) s s2
      → (y < st.views.latest)
      × (member (members_of st.views (y + 1)) b ≡ true → Shut st.views y (number_delivered (after hs b st seat d d2 out out2 c r) b) (Delivered (after hs b st seat d d2 out out2 c r) b))
  event_goes_on (Call.send p) (Ok a) h = unmoved _ h.1 refl
  event_goes_on (Call.send p) (Err e) h = unmoved d h.1 refl
  event_goes_on Call.finish (Ok a) h = unmoved _ h.1 refl
  event_goes_on Call.finish (Err e) h = unmoved d h.1 refl
  event_goes_on (Call.hear (Msg.init v t n k p ts)) (Ok a) h = unmoved _ h.2.1 refl
  event_goes_on (Call.hear (Msg.echo v t n k p e ts)) (Ok a) h = unmoved _ h.2.1 (awaits_echoes st d d.own e _).0
  event_goes_on (Call.hear (Msg.commit v t n k p c ts)) (Ok a) h =
      let kept = hears_commit hs b st seat d d2 out out2 keeps v t n k p c ts a (length out) (genuine (g.good s) (Msg.commit v t n k p c ts)) h.0 h.2.0 in
      let z = delivered d t n (content k p) in
      let went : (settled st.views b z).view ≡ Some y → ⊥ = λ e. gone (ap (λ (x : Reports). x.view) h.2.1 ∙ ap (λ x. (settled st.views x z).view) seat ∙ e) in
      let over = settled_done st.views b y z here went in
      let later = ltb-true y st.views.latest (and_parts (ltb y st.views.latest) _ over).0 in
      (later, done_shut kept y here later over)
  event_goes_on (Call.hear m) (Ok a) h = absurd (false≢true h.1)
  event_goes_on (Call.hear m) (Err e) h = unmoved d h.2.1 refl
