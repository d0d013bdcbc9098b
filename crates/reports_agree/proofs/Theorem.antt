-- The boards agree on their reports: the theorem of specs/Agreement.antt.
-- Views agree, by the theorem of `views_agree`; two quorums of echoes share a board outside the faulty ones; and a closed view ends alike everywhere.
use Rattle.std.proofs.Common.{◌≡◌, ℕ, ◌+◌, ◌≤◌, true, false, List, Some, sym, refl, ap, ◌∙◌, subst, ⊎_elim, arith}
use Rattle.std.proofs.lemmas.Bool.{cases_lt, cases_Bool}
use Rattle.boards.specs.Boards.{member, size}
use Rattle.schemes.specs.declared.Scheme.{Ghosts}
use Rattle.views.specs.Shares.{quorum}
use Rattle.wire.specs.Acts.{Act}
use Rattle.row.specs.States.{latest}
use Rattle.views_agree.specs.Agreement.{Outside, row_of, Bounded, OneView}
use Rattle.views_agree.proofs.OneView.{Sound, Certificate}
use Rattle.views_agree.proofs.Shared.{shared, in_quorum}
use Rattle.views_agree.proofs.Lives.{lives}
use Rattle.views_agree.proofs.Theorem.{views_agree}
use Rattle.delivery.specs.Reports.{Content, claim}
use Rattle.reports_agree.specs.Agreement.{Step, Boards, SentBy, Delivered, number_delivered, OneContent, TheOneSent, Closed, ReportsAgree, group_steps}
use Rattle.reports_agree.proofs.Held.{Leave}
use Rattle.reports_agree.proofs.Facts.{Echoed, Sent}
use Rattle.reports_agree.proofs.WentOn.{went_on_over}
use Rattle.reports_agree.proofs.Alone.{rows_led, views_of, Alone, sent_signed, alone}
use Rattle.reports_agree.proofs.Causes.{Cause, Caused, caused}

module _ (faulty : ℕ) (w : Boards) (h : List Step) (each : Alone faulty w h) (l : Caused faulty w h)
    (peopled : (b y : ℕ) → Outside faulty b → 1 ≤ y → y ≤ latest (row_of w.rows b) → 1 ≤ size (views_of w b y))
    (bound : Bounded faulty w.rows) (one : OneView faulty w.rows) where
  sound : (b y : ℕ) → Outside faulty b → 1 ≤ y → y ≤ latest (row_of w.rows b) → Sound faulty (views_of w b y)
  sound b y o low high = let p = peopled b y o low high in record { some = p; few = bound b y (views_of w b y) o (refl, p) }

  -- The view in which two boards delivered is one.
  same_view : (b d y s t i j : ℕ) (c e : Content) → Outside faulty b → Outside faulty d → Cause faulty w h b y s i c → Cause faulty w h d y t j e → views_of w d y ≡ views_of w b y
  same_view b d y s t i j c e ob od r q = one d b y (views_of w d y) (views_of w b y) od ob (refl, peopled d y od q.some q.reached) (refl, peopled b y ob r.some r.reached)

  one_content : OneContent faulty h
  one_content b d y s i c e ob od x z =
      let r = l.delivered b y s i c ob x in
      let q = l.delivered d y s i e od z in
      let moved = subst (λ v. Certificate faulty v (quorum (size v)) (λ k. Echoed h k y s i e)) (same_view b d y s s i i c e ob od r q) q.echoes in
      let m = shared (sound b y ob r.some r.reached) r.echoes moved in
      (each.held m.board m.outside).echoes.one y s i c e m.did_first m.did_second

  own : (b y s i : ℕ) (c : Content) → Outside faulty b → Outside faulty s → Delivered h b y s i c → Sent h s y i c × SentBy h s y i c
  own b y s i c ob os x =
      let r = l.delivered b y s i c ob x in
      let m = in_quorum (sound b y ob r.some r.reached) r.echoes in
      l.echoed m.board y s i c m.outside os m.did_first

  the_one_sent : TheOneSent faulty h
  the_one_sent b y s i c ob os x =
      let r = own b y s i c ob os x in (
        r.1,
        λ e z.
            let q = sent_signed h s y i e z in
            let done = each.wrote s (Act.init y s i e.sort e.payload) os q.1 q.0 in
            (each.held s os).sends.one y i c e r.0 done.1,
      )

  -- A board whose end two boards delivered has as many at both.
  ends_alike : (b d y t i j m n : ℕ) (c e : Content) → Outside faulty b → Outside faulty d → Delivered h b y t i c → claim c ≡ Some m
      → Delivered h d y t j e → claim e ≡ Some n → number_delivered h b y t ≤ number_delivered h d y t
  ends_alike b d y t i j m n c e ob od x cx z cz =
      let kb = (each.held b ob).counts in
      let kd = (each.held d od).counts in
      let last_d : j ≡ number_delivered h d y t = kd.last y t j n e z cz in
      ⊎_elim
      (λ less.
      let p = kb.all y t j (kd.past y t j e z).0 (omega arith) in
      let same : p.0 ≡ e = one_content b d y t j p.0 e ob od p.1 z in
      let last_b : j ≡ number_delivered h b y t = kb.last y t j n p.0 p.1 (ap claim same ∙ cz) in
      omega (arith, last_b, last_d))
      (λ le. omega (arith, last_d))
      (cases_lt j (number_delivered h b y t))

  module _ (b d y : ℕ) (cb : Closed faulty w h b y) (cd : Closed faulty w h d y) where
    view_is : cd.view ≡ cb.view
    view_is = one d b y cd.view cb.view cd.outside cb.outside cd.defined cb.defined

    next_is : cd.next ≡ cb.next
    next_is = one d b (y + 1) cd.next cb.next cd.outside cb.outside cd.defined_next cb.defined_next

    -- An end that b delivered of a board that stays is the one that d delivered.
    claim_there : (t k m : ℕ) (c : Content) → member cb.view t ≡ true → member cb.next t ≡ true → Delivered h b y t k c → claim c ≡ Some m
        → (j : ℕ) × (e : Content) × Delivered h d y t j e × (claim e ≡ Some m)
    claim_there t k m c here there x is =
        let z = cd.ends t (ap (λ v. member v t) view_is ∙ here) (ap (λ v. member v t) next_is ∙ there) in
        let le = ends_alike b d y t k z.0 m z.2 c z.1 cb.outside cd.outside x is z.4 z.3 in
        let ge = ends_alike d b y t z.0 k z.2 m z.1 c cd.outside cb.outside z.4 z.3 x is in
        let kb : k ≡ number_delivered h b y t = (each.held b cb.outside).counts.last y t k m c x is in
        let kd : z.0 ≡ number_delivered h d y t = (each.held d cd.outside).counts.last y t z.0 z.2 z.1 z.4 z.3 in
        let number : z.0 ≡ k = omega (arith, le, ge, kb, kd) in
        let at : Delivered h d y t k z.1 = subst (λ v. Delivered h d y t v z.1) number z.4 in
        let same : c ≡ z.1 = one_content b d y t k c z.1 cb.outside cd.outside x at in
        (z.0, z.1, z.4, sym (ap claim same) ∙ is)

    -- What b delivered of a board that the next view leaves out is within a claim that d delivered.
    left_out_le : (s i : ℕ) (c : Content) → member cb.view s ≡ true → member cb.next s ≡ false → Delivered h b y s i c → i ≤ number_delivered h d y s
    left_out_le s i c here gone x =
        let e = cb.ends b cb.within cb.within_next in
        let mine = (own b y b e.0 e.1 cb.outside cb.outside e.4).0 in
        let k = each.held b cb.outside in
        let lv : Leave (views_of w b y) (views_of w b (y + 1)) s = (ap (λ v. member v s) cb.defined.0 ∙ here, ap (λ v. member v s) cb.defined_next.0 ∙ gone) in
        let within = k.sends.held_back y e.0 e.2 s i e.1 c mine e.3 lv x in
        let there : (t j n : ℕ) (q : Content) → member cb.view t ≡ true → member cb.next t ≡ true → Delivered h b y t j q → claim q ≡ Some n → n ≤ number_delivered h d y s = λ t j n q tv tn z is.
        let f = claim_there t j n q tv tn z is in
        cd.enough s t f.0 f.1 n (ap (λ v. member v s) view_is ∙ here) (ap (λ v. member v s) next_is ∙ gone) (ap (λ v. member v t) view_is ∙ tv) (ap (λ v. member v t) next_is ∙ tn) f.2 f.3 in
        ⊎_elim
        (λ le. omega (arith, le, there b e.0 e.2 e.1 cb.within cb.within_next e.4 e.3))
        (λ u.
        let t = u.1.board in
        let here_t = sym (ap (λ v. member v t) cb.defined.0) ∙ u.1.stays.0 in
        let there_t = sym (ap (λ v. member v t) cb.defined_next.0) ∙ u.1.stays.1 in
        omega (arith, u.2, there t u.1.number u.0 u.1.content here_t there_t u.1.was u.1.claims))
        within

    pub no_more : (s : ℕ) → number_delivered h b y s ≤ number_delivered h d y s
    no_more s =
        ⊎_elim
        (λ none. omega arith)
        (λ some.
        let p = (each.held b cb.outside).counts.all y s (number_delivered h b y s) some (omega arith) in
        let r = l.delivered b y s (number_delivered h b y s) p.0 cb.outside p.1 in
        let here : member cb.view s ≡ true = sym (ap (λ v. member v s) cb.defined.0) ∙ r.sender in
        ⊎_elim
        (λ stays.
        let e = cb.ends s here stays in
        let z = cd.ends s (ap (λ v. member v s) view_is ∙ here) (ap (λ v. member v s) next_is ∙ stays) in
        ends_alike b d y s e.0 z.0 e.2 z.2 e.1 z.1 cb.outside cd.outside e.4 e.3 z.4 z.3)
        (λ gone. left_out_le s (number_delivered h b y s) p.0 here gone p.1)
        (cases_Bool (member cb.next s)))
        (cases_lt (number_delivered h b y s) 1)

pub reports_agree : {S : Type 0} (g : Ghosts S) → ReportsAgree g
reports_agree g faulty first start w h st run v bound =
    let each = alone g faulty first start st run in
    let l = caused g faulty first start st run v in
    let rows = rows_led g faulty start run in
    let a = lives g faulty first start.rows st.0 rows l.vouched in
    let both = views_agree g faulty first start.rows w.rows (group_steps h) st.0 rows l.vouched bound in
    let peopled : (b y : ℕ) → Outside faulty b → 1 ≤ y → y ≤ latest (row_of w.rows b) → 1 ≤ size (views_of w b y) = λ b y o low high. (a.lived.laws b o).course.peopled y low high in record {
      views = both.0;
      asked = both.1;
      content = one_content faulty w h each l peopled bound both.0;
      sent = the_one_sent faulty w h each l peopled bound both.0;
      number = λ b d y s cb cd.
          let le = no_more faulty w h each l peopled bound both.0 b d y cb cd s in
          let ge = no_more faulty w h each l peopled bound both.0 d b y cd cb s in
          omega (arith, le, ge);
      went_on = λ b y next o went def within. (went_on_over g faulty first start st run b y o went).1 (ap (λ x. member x b) def.0 ∙ within);
    }
