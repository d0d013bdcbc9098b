-- A view that the reports of a board went on from is over there, then and ever after: the next view is there, and if it has the board, the board closed that view.
-- So in every history from a start, whatever was heard.
use Rattle.std.proofs.Common.{◌≡◌, ℕ, ◌+◌, ◌<◌, ◌≤◌, true, ◌&&◌, eqb, ltb, List, ◌∷◌, length, Some, sym, refl, ap, ◌∙◌, subst, inr, ⊎_elim, arith}
use Rattle.std.proofs.lemmas.Bool.{cases_lt, cases_Bool, cond-true, cond-false, cond_both, and_parts, ltb-true, both_ways}
use Rattle.boards.specs.Boards.{member, size}
use Rattle.boards.proofs.Sets.{no_member, size_none}
use Rattle.schemes.specs.declared.Scheme.{Ghosts}
use Rattle.views.specs.declared.history.History.{History}
use Rattle.views.specs.Histories.{members_of}
use Rattle.views.proofs.Histories.{no_view_past}
use Rattle.row.specs.declared.state.State.{State}
use Rattle.row.specs.States.{latest}
use Rattle.views_agree.specs.Agreement.{Step as GroupStep, Outside, row_of}
use Rattle.delivery.specs.Reports.{Content, claim, Reports}
use Rattle.delivery.specs.Endings.{settled}
use Rattle.reports_agree.specs.Agreement.{Event, Step, Boards, Started, Taken, GroupMoves, ReportsMove, Leads, Delivered, number_delivered, Closed, WentOnIn, WentOn}
use Rattle.reports_agree.proofs.Keeps.{as_onward}
use Rattle.reports_agree.proofs.Facts.{HeldIn}
use Rattle.reports_agree.proofs.Closing.{Shut, done_shut, settled_done, event_goes_on}
use Rattle.reports_agree.proofs.Alone.{views_of, Alone, onward, row_at, kept_group, seat_after, seat, kept, row_stays, alone_next, views_stay, eight_rows, seated, alone}

has_member : (v b : ℕ) → member v b ≡ true → 1 ≤ size v
has_member v b i = ⊎_elim (λ none. absurd (both_ways (member v b) (no_member v b (omega arith)) i)) (λ some. some) (cases_lt (size v) 1)

-- View y is over at board b: the next one is there, and if it has the board, b closed y.
abbrev pub Over : ℕ → Boards → List Step → ℕ → ℕ → Type 0
Over faulty w h b y = (y < latest (row_of w.rows b)) × (member (views_of w b (y + 1)) b ≡ true → Closed faulty w h b y)

closed_from : (faulty : ℕ) (w : Boards) (h : List Step) (b y : ℕ) → Outside faulty b → member (views_of w b y) b ≡ true → member (views_of w b (y + 1)) b ≡ true
    → Shut (row_of w.rows b).views y (number_delivered h b) (Delivered h b) → Closed faulty w h b y
closed_from faulty w h b y o here next s = record {
  outside = o;
  view = views_of w b y;
  next = views_of w b (y + 1);
  defined = (refl, has_member (views_of w b y) b here);
  defined_next = (refl, has_member (views_of w b (y + 1)) b next);
  within = here;
  within_next = next;
  ends = λ t p q. s.ends t (p, q);
  enough = λ r t i c m p q u v x is. s.enough r t i m c (p, q) (u, v) x is;
}

delivered_on : (e : Step) (h : List Step) (b y s i : ℕ) (c : Content) → Delivered h b y s i c → Delivered (e ∷ h) b y s i c
delivered_on (Step.of_group e d d2) h b y s i c x = x
delivered_on (Step.of_reports e) h b y s i c x = inr x
delivered_on (Step.takes k r d d2) h b y s i c x = x

number_rises : (e : Step) (h : List Step) (b y s : ℕ) → number_delivered h b y s ≤ number_delivered (e ∷ h) b y s
unfolding number_delivered
number_rises (Step.of_group e d d2) h b y s = omega arith
number_rises (Step.of_reports e) h b y s =
    cond_both (eqb b e.board && _) (number_delivered h b y s + 1) (number_delivered h b y s) (λ n. number_delivered h b y s ≤ n) (λ t. omega arith) (λ f. omega arith)
number_rises (Step.takes k r d d2) h b y s = omega arith

in_range : (h : History) (x v : ℕ) → members_of h x ≡ v → 1 ≤ size v → x ≤ h.latest
in_range h x v e some =
    ⊎_elim (λ high. absurd (omega (arith, some, ap size (sym e ∙ no_view_past h x high), size_none))) (λ le. le) (cases_lt h.latest x)

module _ {S : Type 0} (g : Ghosts S) (faulty : ℕ) (w w2 : Boards) (h : List Step) (rows : length w.rows ≡ 8) (seats : (b : ℕ) → b < 8 → (row_of w.rows b).board ≡ b)
    (each : Alone faulty w h) where
  -- What is closed stays closed.
  closed_on : (e : Step) → Taken g faulty e w w2 → (b y : ℕ) → Closed faulty w h b y → Closed faulty w2 (e ∷ h) b y
  closed_on e t b y c =
      let each2 = alone_next g faulty w w2 h rows seats each e t in
      let k = (each2.held b c.outside).counts in
      let grew = views_stay g faulty w w2 h rows seats each e t b in
      record {
        outside = c.outside;
        view = c.view;
        next = c.next;
        defined = (grew.1 y (in_range (row_of w.rows b).views y c.view c.defined.0 c.defined.1) ∙ c.defined.0, c.defined.1);
        defined_next = (grew.1 (y + 1) (in_range (row_of w.rows b).views (y + 1) c.next c.defined_next.0 c.defined_next.1) ∙ c.defined_next.0, c.defined_next.1);
        within = c.within;
        within_next = c.within_next;
        ends = λ t2 p q. let z = c.ends t2 p q in (z.0, z.1, z.2, z.3, delivered_on e h b y t2 z.0 z.1 z.4);
        enough = λ r t2 i q m pr nr pt nt x is.
            let z = c.ends t2 pt nt in
            let old = delivered_on e h b y t2 z.0 z.1 z.4 in
            let number : z.0 ≡ i = k.last y t2 z.0 z.2 z.1 old z.3 ∙ sym (k.last y t2 i m q x is) in
            let same : z.1 ≡ q = k.one y t2 i z.1 q (subst (λ n. Delivered (e ∷ h) b y t2 n z.1) number old) x in
            omega (arith, c.enough r t2 z.0 z.1 m pr nr pt nt z.4 (ap claim same ∙ is), number_rises e h b y r);
      }

  group_over : (e : GroupStep) (d d2 : Reports) (t : GroupMoves g faulty e d d2 w w2) (y : ℕ) → d.view ≡ Some y → (d2.view ≡ Some y → ⊥)
      → Over faulty w2 (Step.of_group e d d2 ∷ h) e.board y
  unfolding number_delivered
  group_over e d d2 t y here gone =
      let on = onward g faulty w w2 h rows seats each e d d2 t in
      let k = kept_group g faulty w w2 h rows seats each e d d2 t in
      let up : latest e.before ≤ latest e.after = ⊎_elim (λ z. omega arith) (λ z. omega arith) on.rises in
      let k2 : HeldIn h e.board e.after d = as_onward k up on.stay in
      let at_board = seat_after g faulty w w2 h rows seats each e d d2 t in
      let row = (row_at g faulty w w2 h rows seats each e d d2 t e.board refl).1 in
      let went : (settled e.after.views e.board d).view ≡ Some y → ⊥ =
      ⊎_elim (λ same. absurd (gone (ap (λ (z : Reports). z.view) (t.follows ∙ cond-true _ _ _ same) ∙ here)))
      (λ more q. gone (ap (λ (z : Reports). z.view) (t.follows ∙ cond-false _ _ _ more) ∙ ap (λ x. (settled e.after.views x d).view) at_board ∙ q))
      (cases_Bool (eqb (latest e.after) (latest e.before))) in
      let over = settled_done e.after.views e.board y d here went in
      let later : y < e.after.views.latest = ltb-true y e.after.views.latest (and_parts (ltb y e.after.views.latest) _ over).0 in (
        omega (arith, later, ap latest row),
        λ next.
            let s = done_shut k2 y here later over (ap (λ (z : State). member (members_of z.views (y + 1)) e.board) (sym row) ∙ next) in
            closed_from faulty w2 (Step.of_group e d d2 ∷ h) e.board y t.taken.outside (ap (λ (z : State). member (members_of z.views y) e.board) row ∙ k2.inside y here) next
            (subst (λ (z : State). Shut z.views y (number_delivered h e.board) (Delivered h e.board)) (sym row) s),
      )

  event_over : (e : Event) (t : ReportsMove g faulty e w w2) (y : ℕ) → e.before.view ≡ Some y → (e.after.view ≡ Some y → ⊥)
      → Over faulty w2 (Step.of_reports e ∷ h) e.board y
  event_over e t y here gone =
      let k = kept g faulty w w2 h rows seats each e t in
      let at_board = seat g faulty w w2 h rows seats each e t in
      let row : row_of w2.rows e.board ≡ e.row = row_stays g faulty w w2 h rows seats each e t e.board ∙ sym t.row in
      let z = event_goes_on h e.board e.row at_board e.before e.after e.offered e.written k g t.scheme t.scheme_after y here gone e.call e.answer t.promised in (
        omega (arith, z.0, ap latest row),
        λ next.
            let s = z.1 (ap (λ (x : State). member (members_of x.views (y + 1)) e.board) (sym row) ∙ next) in
            closed_from faulty w2 (Step.of_reports e ∷ h) e.board y t.outside (ap (λ (x : State). member (members_of x.views y) e.board) row ∙ k.inside y here) next
            (subst (λ (x : State). Shut x.views y (number_delivered (Step.of_reports e ∷ h) e.board) (Delivered (Step.of_reports e ∷ h) e.board)) (sym row) s),
      )

  over_now : (e : Step) → Taken g faulty e w w2 → (b y : ℕ) → WentOnIn e b y → Over faulty w2 (e ∷ h) b y
  over_now (Step.of_group e d d2) t b y x = subst (λ c. Over faulty w2 (Step.of_group e d d2 ∷ h) c y) x.0 (group_over e d d2 t y x.1 x.2)
  over_now (Step.of_reports e) t b y x = subst (λ c. Over faulty w2 (Step.of_reports e ∷ h) c y) x.0 (event_over e t y x.1 x.2)
  over_now (Step.takes c r d d2) t b y x = absurd (x.2 (ap (λ (z : Reports). z.view) t.promised.1 ∙ x.1))

pub went_on_over : {S : Type 0} (g : Ghosts S) (faulty first : ℕ) (start : Boards) {w : Boards} {h : List Step} → Started first start → Leads g faulty start w h
    → (b y : ℕ) → Outside faulty b → WentOn h b y → Over faulty w h b y
went_on_over g faulty first start st Leads.begin b y o x = absurd x
went_on_over g faulty first start st (Leads.next {w} {w2} {h} run e t) b y o x =
    let rows = eight_rows g faulty first start st run in
    let seats = seated g faulty first start st run in
    let each = alone g faulty first start st run in
    let grew = views_stay g faulty w w2 h rows seats each e t b in
    ⊎_elim (λ new. over_now g faulty w w2 h rows seats each e t b y new)
    (λ old.
    let p = went_on_over g faulty first start st run b y o old in (
      omega (arith, p.0, grew.0),
      λ next. closed_on g faulty w w2 h rows seats each e t b y (p.1 (ap (λ z. member z b) (sym (grew.1 (y + 1) (omega (arith, p.0)))) ∙ next)),
    ))
    x
