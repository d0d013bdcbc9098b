-- What a call of the delivery layer does to its board's delivery view and counts: nothing, or a delivery raises one count, after which the reports may go on.
-- So a new delivery view is above the one before it, or the latest; and no count falls while the delivery view is the same.
use Rattle.std.proofs.Common.{◌≡◌, ℕ, ◌+◌, ◌-◌, ◌<◌, ◌≤◌, Bool, true, false, cond, ◌⊎◌, List, length, get_or, set, Some, None, Ok, Err, Option, Result, sym, refl, ap, ◌∙◌, inl, inr, ⊎_elim, arith, get_or-set_other, get_or-set_same}
use Rattle.std.proofs.lemmas.Bool.{cases_eq, cases_Bool, cond-true, cond-false, false≢true}
use Rattle.boards.specs.Boards.{member}
use Rattle.codes.specs.declared.Refusal.{Refusal}
use Rattle.schemes.specs.declared.Scheme.{Ghosts}
use Rattle.checks.specs.Checks.{genuine}
use Rattle.views.specs.declared.history.History.{History}
use Rattle.views.specs.Histories.{members_of}
use Rattle.wire.specs.Messages.{Msg}
use Rattle.row.specs.declared.state.State.{State}
use Rattle.row.specs.declared.state.Sent.{Sent as Answer}
use Rattle.row.specs.States.{latest}
use Rattle.row.specs.Effects.{Effect}
use Rattle.delivery.specs.Reports.{Content, content, Own, Reports, opened, count_of}
use Rattle.delivery.specs.Endings.{done, may_stay, lowest_from, settled_in, settled}
use Rattle.delivery.specs.Effects.{collects, delivered}
use Rattle.reports_agree.specs.Agreement.{Call, Event, Promised}
use Rattle.reports_agree.proofs.Held.{none_some, some_same}
use Rattle.reports_agree.proofs.Keeps.{lowest_above}
use Rattle.reports_agree.proofs.Passed.{passed_commit}
use Rattle.reports_agree.proofs.Events.{commit_sender}

-- Where a delivery view z may come from, o being the one before it.
abbrev pub From : ℕ → Option ℕ → ℕ → Type 0
From top o z = (o ≡ Some z) ⊎ (((x : ℕ) × (o ≡ Some x) × (x < z)) ⊎ (z ≡ top))

settled_from_in : (h : History) (b : ℕ) (d : Reports) (o : Option ℕ) → d.view ≡ o → (z : ℕ) → (settled_in h b o d).view ≡ Some z → From h.latest d.view z
settled_from_in h b d None e z q =
    ⊎_elim
    (λ t. inr (inr (sym (some_same h.latest z (sym (ap (λ (r : Reports). r.view) (cond-true (member (members_of h h.latest) b) (opened (Some h.latest) d.out) d t)) ∙ q)))))
    (λ f. inl (sym (ap (λ (r : Reports). r.view) (cond-false (member (members_of h h.latest) b) (opened (Some h.latest) d.out) d f)) ∙ q))
    (cases_Bool (member (members_of h h.latest) b))
settled_from_in h b d (Some x) e z q =
    let o = lowest_from (may_stay h b) (x + 1) (h.latest - x) in
    ⊎_elim
    (λ t.
    let up = lowest_above (may_stay h b) (x + 1) (h.latest - x) z (sym (ap (λ (r : Reports). r.view) (cond-true (done h b x d) (opened o d.out) d t)) ∙ q) in
    inr (inl (x, e, omega (arith, up.0))))
    (λ f. inl (sym (ap (λ (r : Reports). r.view) (cond-false (done h b x d) (opened o d.out) d f)) ∙ q))
    (cases_Bool (done h b x d))

pub settled_from : (h : History) (b : ℕ) (d : Reports) (z : ℕ) → (settled h b d).view ≡ Some z → From h.latest d.view z
settled_from h b d z q = settled_from_in h b d d.view refl z q

-- Reports that settle in the view in which they are do not change.
settled_still_in : (h : History) (b : ℕ) (d : Reports) (o : Option ℕ) → d.view ≡ o → (settled_in h b o d).view ≡ d.view → settled_in h b o d ≡ d
settled_still_in h b d None e q =
    ⊎_elim
    (λ t. none_some h.latest (sym e ∙ sym q ∙ ap (λ (r : Reports). r.view) (cond-true (member (members_of h h.latest) b) (opened (Some h.latest) d.out) d t)))
    (λ f. cond-false (member (members_of h h.latest) b) (opened (Some h.latest) d.out) d f)
    (cases_Bool (member (members_of h h.latest) b))
settled_still_in h b d (Some x) e q =
    let o = lowest_from (may_stay h b) (x + 1) (h.latest - x) in
    ⊎_elim
    (λ t.
    let up = lowest_above (may_stay h b) (x + 1) (h.latest - x) x (sym (ap (λ (r : Reports). r.view) (cond-true (done h b x d) (opened o d.out) d t)) ∙ q ∙ e) in
    absurd (omega (arith, up.0)))
    (λ f. cond-false (done h b x d) (opened o d.out) d f)
    (cases_Bool (done h b x d))

pub settled_still : (h : History) (b : ℕ) (d : Reports) → (settled h b d).view ≡ d.view → settled h b d ≡ d
settled_still h b d q = settled_still_in h b d d.view refl q

-- An echo that is collected.
pub awaits_echoes : (st : State) (d : Reports) (o : Option Own) (e t : ℕ) → ((collects st d o e t).0.view ≡ d.view) × ((collects st d o e t).0.counts ≡ d.counts)
awaits_echoes st d None e t = (refl, refl)
awaits_echoes st d (Some o) e t = (either (λ z. z.view) _ _ _ _ _ refl refl, either (λ z. z.counts) _ _ _ _ _ refl refl)
  where
    either : {A : Type 0} (f : Reports → A) (q : Bool) (d1 d2 : Reports) (e1 e2 : Effect) → f d1 ≡ f d → f d2 ≡ f d → f (cond {A = Reports × Effect} q (d1, e1) (d2, e2)).0 ≡ f d
    either f true d1 d2 e1 e2 p q = p
    either f false d1 d2 e1 e2 p q = q

-- A delivery, after which the reports may go on.
pub record Delivery (st : State) (d d2 : Reports) : Type 0 where
  pub sender : ℕ
  pub number : ℕ
  pub stood : Content
  pub below : sender < 8
  pub next : number ≡ count_of d sender + 1
  pub after : d2 ≡ settled st.views st.board (delivered d sender number stood)

abbrev pub Turns : State → Reports → Reports → Type 0
Turns st d d2 = ((d2.view ≡ d.view) × (d2.counts ≡ d.counts)) ⊎ Delivery st d d2

-- A call of the delivery layer.
module _ {S : Type 0} (g : Ghosts S) (s s2 : S) (b : ℕ) (st : State) (d d2 : Reports) (out out2 : List ℕ) where
  abbrev ev : Call → Result Answer Refusal → Event
  ev c r = record { board = b; call = c; answer = r; offered = out; written = out2; row = st; before = d; after = d2 }

  still : (z : Reports) → d2 ≡ z → z.view ≡ d.view → z.counts ≡ d.counts → Turns st d d2
  still z e v c = inl (ap (λ (x : Reports). x.view) e ∙ v, ap (λ (x : Reports). x.counts) e ∙ c)

  pub event_turns : (c : Call) (r : Result Answer Refusal) → Promised g c (ev c r) s s2 → Turns st d d2
  event_turns (Call.send p) (Ok a) h = still _ h.1 refl refl
  event_turns (Call.send p) (Err e) h = still d h.1 refl refl
  event_turns Call.finish (Ok a) h = still _ h.1 refl refl
  event_turns Call.finish (Err e) h = still d h.1 refl refl
  event_turns (Call.hear (Msg.init v t n k p ts)) (Ok a) h = still _ h.2.1 refl refl
  event_turns (Call.hear (Msg.echo v t n k p e ts)) (Ok a) h = let z = awaits_echoes st d d.own e _ in still _ h.2.1 z.0 z.1
  event_turns (Call.hear (Msg.commit v t n k p c ts)) (Ok a) h = inr (record {
    sender = t;
    number = n;
    stood = content k p;
    below = commit_sender v t n k p c ts h.0;
    next = (passed_commit st d v t n c (length out) (genuine (g.good s) (Msg.commit v t n k p c ts)) h.2.0).next;
    after = h.2.1;
  })
  event_turns (Call.hear m) (Ok a) h = absurd (false≢true h.1)
  event_turns (Call.hear m) (Err e) h = still d h.2.1 refl refl

-- In both cases a new view is above the one before it, or the latest; and no count falls while the view is the same.
pub turned_from : (st : State) (d d2 : Reports) → Turns st d d2 → (z : ℕ) → d2.view ≡ Some z → From (latest st) d.view z
turned_from st d d2 t z q =
    ⊎_elim (λ still. inl (sym still.0 ∙ q))
    (λ v. settled_from st.views st.board (delivered d v.sender v.number v.stood) z (sym (ap (λ (x : Reports). x.view) v.after) ∙ q)) t

pub turned_counts : (st : State) (d d2 : Reports) → length d.counts ≡ 8 → Turns st d d2 → d2.view ≡ d.view → (s : ℕ) → count_of d s ≤ count_of d2 s
turned_counts st d d2 eight t q s =
    ⊎_elim (λ still. omega (arith, ap (λ xs. get_or xs s 0) still.1))
    (λ v.
    let z = delivered d v.sender v.number v.stood in
    let is : d2 ≡ z = v.after ∙ settled_still st.views st.board z (sym (ap (λ (x : Reports). x.view) v.after) ∙ q) in
    let up : count_of d s ≤ count_of z s =
    ⊎_elim
    (λ same.
    let new = get_or-set_same d.counts v.sender v.number 0 (omega (arith, v.below, eight)) in
    omega (arith, v.next, ap (λ k. get_or d.counts k 0) same, ap (λ k. get_or (set d.counts v.sender v.number) k 0) same, new))
    (λ other. omega (arith, get_or-set_other d.counts v.sender s v.number 0 other))
    (cases_eq s v.sender) in
    omega (arith, up, ap (λ (x : Reports). count_of x s) is))
    t
