-- What holds of one board alone: the statement of specs/OneBoard.antt.
-- What its reports keep is read off at the end of a history; what a call says is read off at each step.
use Rattle.std.proofs.Common.{◌≡◌, ℕ, ◌+◌, ◌<◌, ◌≤◌, true, eqb, ltb, List, length, Some, Ok, Err, Result, sym, refl, ap, ◌∙◌, subst, inl, inr, ⊎_elim, arith}
use Rattle.std.specs.List.{All}
use Rattle.std.proofs.lemmas.List.Elements.{All-nil, All-cons, All-contains}
use Rattle.std.proofs.lemmas.Bool.{cases_Bool, cond-true, cond-false, and_parts, and_from, eq-eqb, leb-true, ltb-true, both_ways, not-true}
use Rattle.boards.specs.Boards.{member}
use Rattle.codes.specs.declared.Refusal.{Refusal}
use Rattle.schemes.specs.declared.Scheme.{Ghosts}
use Rattle.checks.specs.Checks.{genuine}
use Rattle.views.specs.declared.history.History.{History}
use Rattle.views.specs.Histories.{members_of}
use Rattle.wire.specs.Messages.{Msg}
use Rattle.wire.specs.Acts.{Act}
use Rattle.row.specs.declared.state.State.{State}
use Rattle.row.specs.declared.state.Sent.{Sent as Answer}
use Rattle.row.specs.States.{latest}
use Rattle.views_agree.specs.Agreement.{Outside, row_of, Accepted}
use Rattle.delivery.specs.Reports.{Content, content, Reports, count_of, now}
use Rattle.delivery.specs.Endings.{is_left_out, left_out, ends_in, cut}
use Rattle.delivery.specs.Refusals.{has_finished, cut_off, let_through}
use Rattle.reports_agree.specs.Agreement.{Call, Event, Step, at_board, reports_before, reports_after, Boards, reports_of, Started, Taken, Leads, Promised, Delivers, number_delivered, WentOn}
use Rattle.reports_agree.specs.OneBoard.{Echoes, OneBoard, OneBoardHolds}
use Rattle.reports_agree.proofs.Held.{some_same, not_later, Leave}
use Rattle.reports_agree.proofs.Passed.{passed_init, passed_commit}
use Rattle.reports_agree.proofs.Leaving.{one_leaves}
use Rattle.reports_agree.proofs.Events.{now_is}
use Rattle.reports_agree.proofs.Alone.{Alone, row_at, kept, row_stays, reports_seen, sent_signed, eight_rows, seated, alone}
use Rattle.reports_agree.proofs.Turns.{From, settled_from, settled_still, event_turns, turned_from, turned_counts}
use Rattle.reports_agree.proofs.WentOn.{went_on_over}

-- What each step keeps holds of each step of a history.
each_step : {S : Type 0} (g : Ghosts S) (faulty : ℕ) (start : Boards) (P : Step → Type 0) {w : Boards} {h : List Step} → Leads g faulty start w h
    → ((w1 w2 : Boards) (h1 : List Step) → Leads g faulty start w1 h1 → (e : Step) → Taken g faulty e w1 w2 → P e) → All P h
each_step g faulty start P Leads.begin f = All-nil P
each_step g faulty start P (Leads.next {w} {w2} {h} run e t) f = All-cons P e h (f w w2 h run e t) (each_step g faulty start P run f)

-- A step.
module _ {S : Type 0} (g : Ghosts S) (faulty : ℕ) (w w2 : Boards) (h : List Step) (rows : length w.rows ≡ 8) (seats : (b : ℕ) → b < 8 → (row_of w.rows b).board ≡ b) (each : Alone faulty w h) where
  step_from : (e : Step) → Taken g faulty e w w2 → (z : ℕ) → (reports_after e).view ≡ Some z → From (latest (row_of w2.rows (at_board e))) (reports_before e).view z
  step_from (Step.of_group e d d2) t z q =
      let row = (row_at g faulty w w2 h rows seats each e d d2 t e.board refl).1 in
      subst (λ n. From n d.view z) (ap latest (sym row))
      (⊎_elim
      (λ same. inl (sym (ap (λ (x : Reports). x.view) (t.follows ∙ cond-true _ _ _ same)) ∙ q))
      (λ more. settled_from e.after.views e.after.board d z (sym (ap (λ (x : Reports). x.view) (t.follows ∙ cond-false _ _ _ more)) ∙ q))
      (cases_Bool (eqb (latest e.after) (latest e.before))))
  step_from (Step.of_reports e) t z q =
      let row : row_of w2.rows e.board ≡ e.row = row_stays g faulty w w2 h rows seats each e t e.board ∙ sym t.row in
      subst (λ n. From n e.before.view z) (ap latest (sym row))
      (turned_from e.row e.before e.after (event_turns g t.scheme t.scheme_after e.board e.row e.before e.after e.offered e.written e.call e.answer t.promised) z q)
  step_from (Step.takes b r d d2) t z q = inl (sym (ap (λ (x : Reports). x.view) t.promised.1) ∙ q)

  step_counts : (e : Step) → Taken g faulty e w w2 → (s : ℕ) → (reports_after e).view ≡ (reports_before e).view → count_of (reports_before e) s ≤ count_of (reports_after e) s
  step_counts (Step.of_group e d d2) t s q =
      ⊎_elim
      (λ same. omega (arith, ap (λ (x : Reports). count_of x s) (t.follows ∙ cond-true _ _ _ same)))
      (λ more.
      let is = t.follows ∙ cond-false _ _ _ more in
      omega (arith, ap (λ (x : Reports). count_of x s) (is ∙ settled_still e.after.views e.after.board d (sym (ap (λ (x : Reports). x.view) is) ∙ q))))
      (cases_Bool (eqb (latest e.after) (latest e.before)))
  step_counts (Step.of_reports e) t s q =
      turned_counts e.row e.before e.after (kept g faulty w w2 h rows seats each e t).eight.0
      (event_turns g t.scheme t.scheme_after e.board e.row e.before e.after e.offered e.written e.call e.answer t.promised) q s
  step_counts (Step.takes b r d d2) t s q = omega (arith, ap (λ (x : Reports). count_of x s) t.promised.1)

-- The delivery view only rises.
rises : {S : Type 0} (g : Ghosts S) (faulty first : ℕ) (start : Boards) {w : Boards} {h : List Step} → Started first start → Leads g faulty start w h
    → (b y z : ℕ) → Outside faulty b → WentOn h b y → (reports_of w b).view ≡ Some z → y < z
rises g faulty first start st Leads.begin b y z o x v = absurd x
rises g faulty first start st (Leads.next {w} {w2} {h} run e t) b y z o x v =
    let rows = eight_rows g faulty first start st run in
    let seats = seated g faulty first start st run in
    let each = alone g faulty first start st run in
    let over = went_on_over g faulty first start st (Leads.next run e t) b y o x in
    let old : (u : ℕ) → WentOn h b y → (reports_of w b).view ≡ Some u → y < u = λ u p q. rises g faulty first start st run b y u o p q in
    ⊎_elim
    (λ here.
    let now : (reports_after e).view ≡ Some z = sym (ap (λ (r : Reports). r.view) here.2) ∙ v in
    let was = ap (λ (r : Reports). r.view) here.1 in
    ⊎_elim
    (λ same. ⊎_elim (λ new. absurd (new.2 (now ∙ sym same ∙ new.1))) (λ p. old z p (was ∙ same)) x)
    (λ moved. ⊎_elim
    (λ up. ⊎_elim (λ new. omega (arith, some_same y up.0 (sym new.1 ∙ up.1), up.2)) (λ p. omega (arith, old up.0 p (was ∙ up.1), up.2)) x)
    (λ top. omega (arith, over.0, top, ap (λ c. latest (row_of w2.rows c)) here.0)) moved)
    (step_from g faulty w w2 h rows seats each e t z now))
    (λ there. ⊎_elim (λ new. absurd (there.0 (sym new.0))) (λ p. old z p (sym (ap (λ (r : Reports). r.view) there.1) ∙ v)) x)
    (reports_seen g faulty w w2 h rows seats each e t b)

-- What a call of the delivery layer says of the sender whose init it echoes, or whose message it delivers.
abbrev NextNumber : Step → Type 0
NextNumber (Step.of_group e d d2) = Unit {0}
NextNumber (Step.of_reports e) = (y s i : ℕ) (c : Content) → Accepted e.answer → Delivers e.call y s i c → (e.before.view ≡ Some y) × (i ≡ count_of e.before s + 1)
NextNumber (Step.takes b r d d2) = Unit {0}

abbrev NotEchoed : Step → Type 0
NotEchoed (Step.of_group e d d2) = Unit {0}
NotEchoed (Step.of_reports e) = (y r i : ℕ) (c : Content) → has_finished e.before ≡ true → is_left_out e.row.views y r ≡ true → Accepted e.answer → Echoes e.call y r i c → ⊥
NotEchoed (Step.takes b r d d2) = Unit {0}

abbrev CutOff : Step → Type 0
CutOff (Step.of_group e d d2) = Unit {0}
CutOff (Step.of_reports e) =
    (y r i : ℕ) (c : Content) → has_finished e.before ≡ true → is_left_out e.row.views y r ≡ true → Accepted e.answer → Delivers e.call y r i c
    → (ends_in e.row.views y e.before ≡ true) × (i ≤ cut e.row.views y e.before)
CutOff (Step.takes b r d d2) = Unit {0}

leave_of : (h : History) (y r : ℕ) → is_left_out h y r ≡ true → (y < h.latest) × Leave (members_of h y) (members_of h (y + 1)) r
leave_of h y r e =
    let p = and_parts (ltb y h.latest) _ e in
    let q = and_parts (member (members_of h y) r) _ p.1 in
    (ltb-true y h.latest p.0, (q.0, not-true _ q.1))

-- A board that the next view leaves out is cut off from the row's end on.
off : (st : State) (d : Reports) (y r : ℕ) → now d ≡ y → 1 ≤ y → has_finished d ≡ true → is_left_out st.views y r ≡ true → cut_off st d r ≡ true
off st d y r is low over gone =
    let p = leave_of st.views y r gone in
    and_from (has_finished d) _ over (eq-eqb r (left_out st.views (now d)) (one_leaves st.views y r low p.0 p.1 ∙ ap (left_out st.views) (sym is)))

module _ {S : Type 0} (g : Ghosts S) (s s2 : S) (b : ℕ) (st : State) (d d2 : Reports) (out out2 : List ℕ) (low : (y : ℕ) → d.view ≡ Some y → 1 ≤ y) where
  abbrev ev : Call → Result Answer Refusal → Event
  ev c r = record { board = b; call = c; answer = r; offered = out; written = out2; row = st; before = d; after = d2 }

  event_next : (c : Call) (r : Result Answer Refusal) → Promised g c (ev c r) s s2 → NextNumber (Step.of_reports (ev c r))
  event_next (Call.hear (Msg.commit v t n k p a ts)) (Ok z) h y r i c ok x =
      let q = passed_commit st d v t n a (length out) (genuine (g.good s) (Msg.commit v t n k p a ts)) h.2.0 in
      (q.view ∙ ap (λ u. Some u) (sym x.0), x.2 ∙ q.next ∙ ap (λ u. count_of d u + 1) (sym x.1))
  event_next (Call.hear m) (Ok z) h y r i c ok x = absurd x
  event_next (Call.send p) (Ok z) h y r i c ok x = absurd x
  event_next Call.finish (Ok z) h y r i c ok x = absurd x
  event_next c (Err e) h y r i q ok x = absurd ok

  event_not_echoed : (c : Call) (r : Result Answer Refusal) → Promised g c (ev c r) s s2 → NotEchoed (Step.of_reports (ev c r))
  event_not_echoed (Call.hear (Msg.init v t n k p ts)) (Ok z) h y r i c over gone ok x =
      let q = passed_init st d v t n (content k p) (length out) (genuine (g.good s) (Msg.init v t n k p ts)) (g.spent s) h.2.0 in
      let is : now d ≡ y = now_is d.view v q.view ∙ sym x.0 in
      both_ways (cut_off st d r) (ap (cut_off st d) x.1 ∙ q.taken) (off st d y r is (omega (arith, x.0, low v q.view)) over gone)
  event_not_echoed (Call.hear m) (Ok z) h y r i c over gone ok x = absurd x
  event_not_echoed (Call.send p) (Ok z) h y r i c over gone ok x = absurd x
  event_not_echoed Call.finish (Ok z) h y r i c over gone ok x = absurd x
  event_not_echoed c (Err e) h y r i q over gone ok x = absurd ok

  event_cut_off : (c : Call) (r : Result Answer Refusal) → Promised g c (ev c r) s s2 → CutOff (Step.of_reports (ev c r))
  event_cut_off (Call.hear (Msg.commit v t n k p a ts)) (Ok z) h y r i c over gone ok x =
      let q = passed_commit st d v t n a (length out) (genuine (g.good s) (Msg.commit v t n k p a ts)) h.2.0 in
      let is : now d ≡ y = now_is d.view v q.view ∙ sym x.0 in
      let through : let_through st d n ≡ true =
      ⊎_elim (λ f. absurd (both_ways (cut_off st d r) (ap (cut_off st d) x.1 ∙ f) (off st d y r is (omega (arith, x.0, low v q.view)) over gone))) (λ u. u) q.cut in
      let both = and_parts (ends_in st.views (now d) d) _ through in
      (ap (λ u. ends_in st.views u d) (sym is) ∙ both.0, omega (arith, x.2, leb-true n _ both.1, ap (λ u. cut st.views u d) is))
  event_cut_off (Call.hear m) (Ok z) h y r i c over gone ok x = absurd x
  event_cut_off (Call.send p) (Ok z) h y r i c over gone ok x = absurd x
  event_cut_off Call.finish (Ok z) h y r i c over gone ok x = absurd x
  event_cut_off c (Err e) h y r i q over gone ok x = absurd ok

module _ {S : Type 0} (g : Ghosts S) (faulty first : ℕ) (start w : Boards) (h : List Step) (st : Started first start) (run : Leads g faulty start w h) where
  -- A delivery view is at least 1.
  some_view : (w1 w2 : Boards) (h1 : List Step) → Leads g faulty start w1 h1 → (e : Event) → Taken g faulty (Step.of_reports e) w1 w2 → (y : ℕ) → e.before.view ≡ Some y → 1 ≤ y
  some_view w1 w2 h1 run1 e t y q =
      let k = kept g faulty w1 w2 h1 (eight_rows g faulty first start st run1) (seated g faulty first start st run1) (alone g faulty first start st run1) e t in omega (arith, k.here y q, k.some)

  nexts : All NextNumber h
  nexts = each_step g faulty start NextNumber run here
    where
      here : (w1 w2 : Boards) (h1 : List Step) → Leads g faulty start w1 h1 → (e : Step) → Taken g faulty e w1 w2 → NextNumber e
      here w1 w2 h1 run1 (Step.of_group e d d2) t = tt
      here w1 w2 h1 run1 (Step.of_reports e) t = event_next g t.scheme t.scheme_after e.board e.row e.before e.after e.offered e.written (some_view w1 w2 h1 run1 e t) e.call e.answer t.promised
      here w1 w2 h1 run1 (Step.takes b r d d2) t = tt

  none_echoed : All NotEchoed h
  none_echoed = each_step g faulty start NotEchoed run here
    where
      here : (w1 w2 : Boards) (h1 : List Step) → Leads g faulty start w1 h1 → (e : Step) → Taken g faulty e w1 w2 → NotEchoed e
      here w1 w2 h1 run1 (Step.of_group e d d2) t = tt
      here w1 w2 h1 run1 (Step.of_reports e) t = event_not_echoed g t.scheme t.scheme_after e.board e.row e.before e.after e.offered e.written (some_view w1 w2 h1 run1 e t) e.call e.answer t.promised
      here w1 w2 h1 run1 (Step.takes b r d d2) t = tt

  cuts_off : All CutOff h
  cuts_off = each_step g faulty start CutOff run here
    where
      here : (w1 w2 : Boards) (h1 : List Step) → Leads g faulty start w1 h1 → (e : Step) → Taken g faulty e w1 w2 → CutOff e
      here w1 w2 h1 run1 (Step.of_group e d d2) t = tt
      here w1 w2 h1 run1 (Step.of_reports e) t = event_cut_off g t.scheme t.scheme_after e.board e.row e.before e.after e.offered e.written (some_view w1 w2 h1 run1 e t) e.call e.answer t.promised
      here w1 w2 h1 run1 (Step.takes b r d d2) t = tt

  abbrev CountsRise : Step → Type 0
  CountsRise e = (s : ℕ) → (reports_after e).view ≡ (reports_before e).view → count_of (reports_before e) s ≤ count_of (reports_after e) s

  counts_rise : All CountsRise h
  counts_rise = each_step g faulty start CountsRise run
      (λ w1 w2 h1 run1 e t. step_counts g faulty w1 w2 h1 (eight_rows g faulty first start st run1) (seated g faulty first start st run1) (alone g faulty first start st run1) e t)

  each : Alone faulty w h
  each = alone g faulty first start st run

  pub one_board : OneBoard faulty w h
  one_board = record {
    counted = λ b y s o v. let k = each.held b o in ap (λ u. number_delivered h b u s) (k.here y v) ∙ k.counts.here s;
    next = λ e y s i c at ok x. All-contains NextNumber h (Step.of_reports e) nexts at y s i c ok x;
    numbers = λ b y s i c o x. (each.held b o).counts.past y s i c x;
    no_gap = λ b y s i o low high. (each.held b o).counts.all y s i low high;
    one_each = λ b y s i c e o x z. (each.held b o).counts.one y s i c e x z;
    last = λ b y s i j m c e o x is z. let k = (each.held b o).counts in omega (arith, k.last y s i m c x is, (k.past y s j e z).1);
    rises = λ b y z o x v. rises g faulty first start st run b y z o x v;
    none_above = λ b y z s i c o x v. let k = each.held b o in omega (arith, k.here z v, not_later k.counts y s i c x);
    counts_rise = λ e s at same. All-contains CountsRise h e counts_rise at s same;
    not_echoed = λ e y r i c at over gone ok x. All-contains NotEchoed h (Step.of_reports e) none_echoed at y r i c over gone ok x;
    cut_off = λ e y r i c at over gone ok x. All-contains CutOff h (Step.of_reports e) cuts_off at y r i c over gone ok x;
    within_claims = λ b y j m r i e c o sent is gone x.
        let q = sent_signed h b y j e sent in
        let done = each.wrote b (Act.init y b j e.sort e.payload) o q.1 q.0 in
        ⊎_elim inl
        (λ u. inr (u.0, record { board = u.1.board; stays = and_from _ _ u.1.stays.0 u.1.stays.1; number = u.1.number; content = u.1.content; claims = u.1.claims; delivered = u.1.was }, u.2))
        ((each.held b o).sends.held_back y j m r i e c done.1 is (leave_of (row_of w.rows b).views y r gone).1 x);
  }

pub one_board_holds : {S : Type 0} (g : Ghosts S) → OneBoardHolds g
one_board_holds g faulty first start w h st run = one_board g faulty first start w h st run
