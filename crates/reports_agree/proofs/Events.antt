-- A call of the delivery layer keeps the laws of its board's reports.
-- This is the only place where a contract's relation is taken apart for the laws.
use Rattle.std.proofs.Common.{◌≡◌, ℕ, ◌+◌, ◌<◌, ◌≤◌, Bool, true, false, ◌&&◌, eqb, List, [], ◌∷◌, length, Some, None, Ok, Err, Option, Result, sym, refl, ap, ◌∙◌, subst, inl, inr, ⊎_elim, arith}
use Rattle.std.proofs.lemmas.Bool.{and_right, and_from, and_parts, cond-true, cond-false, eq-eqb, eqb-true, cases_Bool, false≢true, cases_lt}
use Rattle.codes.specs.declared.Refusal.{Refusal}
use Rattle.schemes.specs.declared.Scheme.{Ghosts}
use Rattle.checks.specs.Checks.{genuine}
use Rattle.grammar.proofs.Held.{held}
use Rattle.views.specs.Histories.{members_of}
use Rattle.wire.specs.declared.message.Sort.{Sort}
use Rattle.wire.specs.Messages.{Msg}
use Rattle.wire.specs.Format.{Formed}
use Rattle.wire.specs.Acts.{tag_number}
use Rattle.wire.specs.declared.message.Sort.TheVariants.{Report, End}
use Rattle.row.specs.declared.state.State.{State}
use Rattle.row.specs.declared.state.Sent.{Sent as Answer}
use Rattle.row.specs.States.{no_count}
use Rattle.views_agree.specs.Agreement.{Accepted}
use Rattle.delivery.specs.Reports.{Content, content, Reports, now, count_of, claim_of, or_zero}
use Rattle.delivery.specs.Refusals.{next_number, init_refusal, finish_refusal, send_refusal, commit_refusal}
use Rattle.delivery.specs.Effects.{finish_claim, delivered, delivering, collects, echoing, ending, reporting}
use Rattle.delivery.specs.Endings.{left_out, settled}
use Rattle.reports_agree.specs.Agreement.{Call, Event, Step, Promised, Delivers, Delivered, accepted, commits, number_delivered}
use Rattle.reports_agree.specs.OneBoard.{Echoes}
use Rattle.reports_agree.proofs.Held.{Adds, Rises, none_some, some_same, Leave, Stay, Sends}
use Rattle.reports_agree.proofs.Keeps.{HeldAs, end_of, as_same, as_collected, as_echoed, as_delivered, as_sent, as_settled}
use Rattle.reports_agree.proofs.Passed.{passed_init, passed_commit, passed_send, passed_finish, end_sent}
use Rattle.reports_agree.proofs.Facts.{HeldIn, Echoed, SendsOf, Sent}
use Rattle.reports_agree.proofs.Leaving.{one_leaves, let_by}

pub now_is : (o : Option ℕ) (v : ℕ) → o ≡ Some v → or_zero o ≡ v
now_is None v e = none_some v e
now_is (Some w) v e = some_same w v e

-- The sender of a commit and of an init is one of the eight boards.
pub commit_sender : (v s n : ℕ) (k : Sort) (p : List ℕ) (a : ℕ) (t : List ℕ) → Formed (Msg.commit v s n k p a t) → s < 8
commit_sender v s n k p a t f = (held f).3.3.1

init_sender : (v s n : ℕ) (k : Sort) (p t : List ℕ) → Formed (Msg.init v s n k p t) → s < 8
init_sender v s n k p t f = (held f).3.3.1

module _ (hs : List Step) (b : ℕ) (st : State) (seat : st.board ≡ b) (d d2 : Reports) (out out2 : List ℕ) where
  abbrev pub ev : Call → Result Answer Refusal → Event
  ev c r = record { board = b; call = c; answer = r; offered = out; written = out2; row = st; before = d; after = d2 }

  abbrev pub after : Call → Result Answer Refusal → List Step
  after c r = Step.of_reports (ev c r) ∷ hs

  abbrev pub Before : Reports → Type 0
  Before z = HeldIn hs b st z

  abbrev pub After : Call → Result Answer Refusal → Reports → Type 0
  After c r z = HeldIn (after c r) b st z

  number_stays : (c : Call) (r : Result Answer Refusal) (y s : ℕ) → (accepted r && commits c y s) ≡ false → number_delivered (after c r) b y s ≡ number_delivered hs b y s
  unfolding number_delivered
  number_stays c r y s ok = cond-false _ _ _ (and_right (eqb b b) _ ok)

  number_more : (c : Call) (r : Result Answer Refusal) (y s : ℕ) → (accepted r && commits c y s) ≡ true → number_delivered (after c r) b y s ≡ number_delivered hs b y s + 1
  unfolding number_delivered
  number_more c r y s is = cond-true _ _ _ (and_from (eqb b b) _ (eq-eqb b b refl) is)

  -- A call in which nothing of the sort happens.
  quiet : (c : Call) (r : Result Answer Refusal) (z : Reports) → ((y s i : ℕ) (q : Content) → Accepted r → Delivers c y s i q → ⊥) → ((y s i : ℕ) (q : Content) → Accepted r → Echoes c y s i q → ⊥)
      → ((y i : ℕ) (q : Content) → Accepted r → SendsOf c st d y i q → ⊥) → ((y s : ℕ) → (accepted r && commits c y s) ≡ false) → Before z → After c r z
  quiet c r z nd ne ns nm k =
      as_same k (λ y s. number_stays c r y s (nm y s)) (λ y s i q o. ⊎_elim (λ x. absurd (nd y s i q x.1 x.2)) (λ x. x) o) (λ y s i q o. inr o)
      (λ y s i q o. ⊎_elim (λ x. absurd (ne y s i q x.1 x.2)) (λ x. x) o) (λ y i q o. ⊎_elim (λ x. absurd (ns y i q x.1 x.2)) (λ x. x) o)

  module _ (keeps : Before d) where
    refused : (c : Call) (e : Refusal) → After c (Err e) d
    refused c e = quiet c (Err e) d (λ y s i q x. absurd x) (λ y s i q x. absurd x) (λ y i q x. absurd x) (λ y s. refl) keeps

    hears_init : (v s n : ℕ) (k : Sort) (p t : List ℕ) (a : Answer) (room : ℕ) (genuine spent : Bool) → Formed (Msg.init v s n k p t)
        → init_refusal st d v s n (content k p) room genuine spent ≡ None → After (Call.hear (Msg.init v s n k p t)) (Ok a) (echoing d s n (content k p)).0
    hears_init v s n k p t a room genuine spent f ok =
        let m = Call.hear (Msg.init v s n k p t) in
        let q = passed_init st d v s n (content k p) room genuine spent ok in
        let at : v ≡ keeps.at = keeps.here v q.view in
        let add : Adds (Echoed hs b) keeps.at s n (content k p) (Echoed (after m (Ok a)) b) = record {
          from = λ y r j c o. ⊎_elim (λ x. inl (x.2.0 ∙ at, x.2.1, x.2.2, x.2.3)) inr o;
          keep = λ y r j c o. inr o;
          here = inl (refl, tt, (sym at, refl, refl, refl));
        } in
        as_same (as_echoed keeps s n (content k p) (init_sender v s n k p t f) q.next q.first add)
        (λ y r. number_stays m (Ok a) y r refl) (λ y r i c o. ⊎_elim (λ x. absurd x.2) (λ x. x) o) (λ y r i c o. inr o) (λ y r i c o. o)
        (λ y i c o. ⊎_elim (λ x. absurd x.2) (λ x. x) o)

    hears_echo : (v s n : ℕ) (k : Sort) (p : List ℕ) (e : ℕ) (t : List ℕ) (a : Answer)
        → After (Call.hear (Msg.echo v s n k p e t)) (Ok a) (collects st d d.own e (tag_number t)).0
    hears_echo v s n k p e t a =
        quiet (Call.hear (Msg.echo v s n k p e t)) (Ok a) _ (λ y r i c x z. z) (λ y r i c x z. z) (λ y i c x z. z) (λ y r. refl) (as_collected keeps st d.own e (tag_number t) refl)

    -- What a commit leaves before the row may be done with its view.
    pub hears_commit : (v s n : ℕ) (k : Sort) (p : List ℕ) (c : ℕ) (t : List ℕ) (a : Answer) (room : ℕ) (genuine : Bool) → Formed (Msg.commit v s n k p c t)
        → commit_refusal st d v s n c room genuine ≡ None → After (Call.hear (Msg.commit v s n k p c t)) (Ok a) (delivered d s n (content k p))
    hears_commit v s n k p c t a room genuine f ok =
        let m = Call.hear (Msg.commit v s n k p c t) in
        let q = passed_commit st d v s n c room genuine ok in
        let at : v ≡ keeps.at = keeps.here v q.view in
        let is : now d ≡ keeps.at = now_is d.view v q.view ∙ at in
        let add : Adds (Delivered hs b) keeps.at s n (content k p) (Delivered (after m (Ok a)) b) = record {
          from = λ y u j w o. ⊎_elim (λ x. inl (x.2.0 ∙ at, x.2.1, x.2.2, x.2.3)) inr o;
          keep = λ y u j w o. inr o;
          here = inl (refl, tt, (sym at, refl, refl, refl));
        } in
        let up : Rises (number_delivered hs b) keeps.at s (number_delivered (after m (Ok a)) b) = record {
          at = number_more m (Ok a) keeps.at s (and_from (eqb keeps.at v) (eqb s s) (eq-eqb keeps.at v (sym at)) (eq-eqb s s refl));
          else = λ y u ne. number_stays m (Ok a) y u (apart y u (λ e g. ne (e ∙ at, g)));
        } in
        let pass : (w : ℕ) → end_of d.own ≡ Some w → Leave (members_of st.views keeps.at) (members_of st.views (keeps.at + 1)) s
        → (t x : ℕ) × Stay (members_of st.views keeps.at) (members_of st.views (keeps.at + 1)) t × (claim_of d t ≡ Some x) × (n ≤ x) = λ w e lv.
        let g = let_by st d s n (omega (arith, q.next)) (omega (arith, is, keeps.some)) (omega (arith, is, keeps.sends.mine_in_time w e)) q.cut (end_sent d.own w e)
        (subst (λ x. Leave (members_of st.views x) (members_of st.views (x + 1)) s) (sym is) lv) in
        (g.0, g.1, subst (λ x. Stay (members_of st.views x) (members_of st.views (x + 1)) g.0) is g.2, g.3, g.4) in
        let del : HeldAs b st.views (delivered d s n (content k p)) (number_delivered (after m (Ok a)) b) (Delivered (after m (Ok a)) b) (Echoed hs b) (Sent hs b) =
        as_delivered keeps s n (content k p) (commit_sender v s n k p c t f) q.next q.unended pass up add in
        as_same del (λ y u. refl) (λ y u i w o. o) (λ y u i w o. o) (λ y u i w o. ⊎_elim (λ x. absurd x.2) (λ x. x) o) (λ y i w o. ⊎_elim (λ x. absurd x.2) (λ x. x) o)
      where
        apart : (y u : ℕ) → (y ≡ v → u ≡ s → ⊥) → (eqb y v && eqb u s) ≡ false
        apart y u ne = ⊎_elim (λ t. let p = and_parts (eqb y v) (eqb u s) t in absurd (ne (eqb-true y v p.0) (eqb-true u s p.1))) (λ ok. ok) (cases_Bool (eqb y v && eqb u s))

    settles : (v s n : ℕ) (k : Sort) (p : List ℕ) (c : ℕ) (t : List ℕ) (a : Answer) (room : ℕ) (genuine : Bool) → Formed (Msg.commit v s n k p c t)
        → commit_refusal st d v s n c room genuine ≡ None → After (Call.hear (Msg.commit v s n k p c t)) (Ok a) (delivering st d s n (content k p)).0
    settles v s n k p c t a room genuine f ok =
        subst (λ x. After (Call.hear (Msg.commit v s n k p c t)) (Ok a) (settled st.views x (delivered d s n (content k p)))) (sym seat)
        (as_settled (hears_commit v s n k p c t a room genuine f ok) (λ none. none_some v (sym none ∙ (passed_commit st d v s n c room genuine ok).view)))

    sends_report : (p : List ℕ) (a : Answer) (long room : ℕ) (spent : Bool) → send_refusal st d long room spent ≡ None → After (Call.send p) (Ok a) (reporting st d p).0
    sends_report p a long room spent ok =
        let q = passed_send st d long room spent ok in
        let at : now d ≡ keeps.at = keeps.here (now d) q.view in
        let add : Sends keeps.sends keeps.at (next_number st d) (content Report p) (Sent (after (Call.send p) (Ok a)) b) =
        record { from = λ y j w o. ⊎_elim (λ x. inl (x.2.0 ∙ at, x.2.1, x.2.2)) inr o } in
        as_same (as_sent keeps (next_number st d) _ true no_count q.above q.unended (λ m e. none_some m e) add)
        (λ y r. number_stays (Call.send p) (Ok a) y r refl) (λ y r i c o. ⊎_elim (λ x. absurd x.2) (λ x. x) o) (λ y r i c o. inr o)
        (λ y r i c o. ⊎_elim (λ x. absurd x.2) (λ x. x) o) (λ y i c o. o)

    sends_end : (a : Answer) (room : ℕ) (spent : Bool) → finish_refusal st d room spent ≡ None → After Call.finish (Ok a) (ending st d).0
    sends_end a room spent ok =
        let q = passed_finish st d room spent ok in
        let at : now d ≡ keeps.at = keeps.here (now d) q.0.view in
        let add : Sends keeps.sends keeps.at (next_number st d) (content End (finish_claim st d ∷ [])) (Sent (after Call.finish (Ok a)) b) =
        record { from = λ y j w o. ⊎_elim (λ x. inl (x.2.0 ∙ at, x.2.1, x.2.2)) inr o } in
        let later : keeps.at < st.views.latest = ⊎_elim (λ l. l) (λ ge. absurd (q.1 (omega (arith, keeps.reached)))) (cases_lt keeps.at st.views.latest) in
        as_same (as_sent keeps (next_number st d) _ true no_count q.0.above q.0.unended
        (λ m e. (later, λ s lv. ap (count_of d) (one_leaves st.views keeps.at s keeps.some later lv ∙ ap (left_out st.views) (sym at)) ∙ some_same (finish_claim st d) m e))
        add)
        (λ y r. number_stays Call.finish (Ok a) y r refl) (λ y r i c o. ⊎_elim (λ x. absurd x.2) (λ x. x) o) (λ y r i c o. inr o)
        (λ y r i c o. ⊎_elim (λ x. absurd x.2) (λ x. x) o) (λ y i c o. o)

    pub keeps_on : {S : Type 0} (g : Ghosts S) (c : Call) (r : Result Answer Refusal) (s s2 : S) → Promised g c (ev c r) s s2 → After c r d2
    keeps_on g (Call.send p) (Ok a) s s2 h = subst (After (Call.send p) (Ok a)) (sym h.1) (sends_report p a (length p) (length out) (g.spent s) h.0)
    keeps_on g (Call.send p) (Err e) s s2 h = subst (After (Call.send p) (Err e)) (sym h.1) (refused (Call.send p) e)
    keeps_on g Call.finish (Ok a) s s2 h = subst (After Call.finish (Ok a)) (sym h.1) (sends_end a (length out) (g.spent s) h.0)
    keeps_on g Call.finish (Err e) s s2 h = subst (After Call.finish (Err e)) (sym h.1) (refused Call.finish e)
    keeps_on g (Call.hear (Msg.init v t n k p ts)) (Ok a) s s2 h =
        subst (After (Call.hear (Msg.init v t n k p ts)) (Ok a)) (sym h.2.1) (hears_init v t n k p ts a (length out) (genuine (g.good s) (Msg.init v t n k p ts)) (g.spent s) h.0 h.2.0)
    keeps_on g (Call.hear (Msg.echo v t n k p e ts)) (Ok a) s s2 h = subst (After (Call.hear (Msg.echo v t n k p e ts)) (Ok a)) (sym h.2.1) (hears_echo v t n k p e ts a)
    keeps_on g (Call.hear (Msg.commit v t n k p c ts)) (Ok a) s s2 h =
        subst (After (Call.hear (Msg.commit v t n k p c ts)) (Ok a)) (sym h.2.1) (settles v t n k p c ts a (length out) (genuine (g.good s) (Msg.commit v t n k p c ts)) h.0 h.2.0)
    keeps_on g (Call.hear m) (Ok a) s s2 h = absurd (false≢true h.1)
    keeps_on g (Call.hear m) (Err e) s s2 h = subst (After (Call.hear m) (Err e)) (sym h.2.1) (refused (Call.hear m) e)
