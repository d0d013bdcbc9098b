-- Each board alone: in every history from a common start, whatever was heard, its reports keep their laws, and what it signed it did.
-- Nothing is asked here of tags, and nothing of how many boards are faulty.
use Rattle.std.proofs.Common.{◌≡◌, ℕ, ◌<◌, ◌≤◌, Bool, true, false, cond, eqb, ◌⊎◌, List, [], ◌∷◌, length, set, get_or, Some, None, Option, sym, refl, ap, ◌∙◌, subst, inl, inr, ⊎_elim, arith, length-set, get_or-set_other, get_or-set_same}
use Rattle.std.proofs.lemmas.Bool.{cases_eq, cond_both, cond-false, and_left, eqb-false, ne_eqb}
use Rattle.boards.specs.Boards.{member}
use Rattle.schemes.specs.declared.Scheme.{Ghosts}
use Rattle.views.specs.Histories.{begun, members_of}
use Rattle.views.proofs.Histories.{begun_latest, begun_first}
use Rattle.wire.specs.Messages.{tag_bytes}
use Rattle.wire.specs.Acts.{Act, Allowed, words}
use Rattle.wire.proofs.Answered.{words_tell}
use Rattle.row.specs.declared.state.State.{State}
use Rattle.row.specs.States.{the_set, latest, fresh}
use Rattle.row.specs.Effects.{lone}
use Rattle.row.specs.Calls.{Posted}
use Rattle.row_laws.specs.Laws.{Goes, Onward}
use Rattle.row_laws.proofs.Row.{latest_rises}
use Rattle.views_agree.specs.Agreement.{Call as GroupCall, Step as GroupStep, Outside, row_of, Promised as GroupPromised, Leads as GroupLeads, Signs as GroupSigns, Signed as GroupSigned}
use Rattle.views_agree.proofs.Signing.{signed_step}
use Rattle.views_agree.proofs.Tags.{eight_rows as rows_eight, tags_vouch as group_tags_vouch}
use Rattle.delivery.specs.Reports.{Content, content, Record, Reports, opened, started}
use Rattle.delivery.specs.Endings.{settled}
use Rattle.delivery.specs.Effects.{followed}
use Rattle.reports_agree.specs.Agreement.{Event, Step, Boards, reports_of, Started, at_board, reports_before, reports_after, GroupMoves, ReportsMove, TakeMoves, Taken, Leads, Wrote, WroteIn, Signed, SentBy, number_delivered, group_steps}
use Rattle.reports_agree.proofs.Held.{none_some, some_same}
use Rattle.reports_agree.proofs.Keeps.{as_same, as_onward, as_taken, as_followed, as_started}
use Rattle.reports_agree.proofs.Facts.{HeldIn, Echoed, Sent, echoed_on, sent_on}
use Rattle.reports_agree.proofs.Events.{keeps_on}
use Rattle.reports_agree.proofs.Words.{act_kind, same_kinds, deed_kind}
use Rattle.reports_agree.proofs.EventSigns.{Does, event_signs}

-- The rows go through the steps of the membership layer alone.
pub rows_led : {S : Type 0} (g : Ghosts S) (faulty : ℕ) (start : Boards) {w : Boards} {h : List Step} → Leads g faulty start w h → GroupLeads g faulty start.rows w.rows (group_steps h)
rows_led g faulty start Leads.begin = GroupLeads.begin
rows_led g faulty start (Leads.next {w} {w2} {h} run (Step.of_group e d d2) t) = GroupLeads.next (rows_led g faulty start run) e t.taken
rows_led g faulty start (Leads.next {w} {w2} {h} run (Step.of_reports e) t) = subst (λ r. GroupLeads g faulty start.rows r (group_steps h)) (sym t.rows) (rows_led g faulty start run)
rows_led g faulty start (Leads.next {w} {w2} {h} run (Step.takes b r d d2) t) = subst (λ x. GroupLeads g faulty start.rows x (group_steps h)) (sym t.rows) (rows_led g faulty start run)

abbrev pub views_of : Boards → ℕ → ℕ → ℕ
views_of w b = members_of (row_of w.rows b).views

-- What an act that was signed means.
abbrev pub DoneBy : List Step → ℕ → Act → Type 0
DoneBy h b (Act.init y s i k p) = (s ≡ b) × Sent h b y i (content k p) × SentBy h b y i (content k p)
DoneBy h b (Act.echo y s i k p) = Echoed h b y s i (content k p)
DoneBy h b (Act.notify v c) = GroupSigned (group_steps h) b (words (Act.notify v c))
DoneBy h b (Act.ack v k c) = GroupSigned (group_steps h) b (words (Act.ack v k c))
DoneBy h b (Act.ready v k c) = GroupSigned (group_steps h) b (words (Act.ready v k c))
DoneBy h b (Act.deputy v k) = GroupSigned (group_steps h) b (words (Act.deputy v k))
DoneBy h b (Act.last v k e) = GroupSigned (group_steps h) b (words (Act.last v k e))

pub record Alone (faulty : ℕ) (w : Boards) (h : List Step) : Type 0 where
  pub eight : length w.reports ≡ 8
  pub held : (b : ℕ) → Outside faulty b → HeldIn h b (row_of w.rows b) (reports_of w b)
  pub wrote : (b : ℕ) (a : Act) → Outside faulty b → Allowed a → Signed h b (words a) → DoneBy h b a

-- What was done stays done.
group_signed_on : (e : Step) (h : List Step) (b : ℕ) (x : List ℕ) → GroupSigned (group_steps h) b x → GroupSigned (group_steps (e ∷ h)) b x
group_signed_on (Step.of_group e d d2) h b x o = inr o
group_signed_on (Step.of_reports e) h b x o = o
group_signed_on (Step.takes c r d d2) h b x o = o

done_on : (e : Step) (h : List Step) (b : ℕ) (a : Act) → DoneBy h b a → DoneBy (e ∷ h) b a
done_on e h b (Act.init y s i k p) o = (o.0, sent_on e h b y i (content k p) o.1, inr o.2)
done_on e h b (Act.echo y s i k p) o = echoed_on e h b y s i (content k p) o
done_on e h b (Act.notify v c) o = group_signed_on e h b _ o
done_on e h b (Act.ack v k c) o = group_signed_on e h b _ o
done_on e h b (Act.ready v k c) o = group_signed_on e h b _ o
done_on e h b (Act.deputy v k) o = group_signed_on e h b _ o
done_on e h b (Act.last v k x) o = group_signed_on e h b _ o

-- The reports after a step at board b.
reports_put : (w w2 : Boards) (b : ℕ) (d : Reports) → length w.reports ≡ 8 → b < 8 → w2.reports ≡ set w.reports b d
    → (c : ℕ) → ((c ≡ b) × (reports_of w2 c ≡ d)) ⊎ ((c ≡ b → ⊥) × (reports_of w2 c ≡ reports_of w c))
reports_put w w2 b d eight low put c =
    let is : reports_of w2 c ≡ get_or (set w.reports b d) c (opened None None) = ap (λ l. get_or l c (opened None None)) put in
    ⊎_elim
    (λ same. inl (same, is ∙ ap (λ k. get_or (set w.reports b d) k (opened None None)) same ∙ get_or-set_same w.reports b d (opened None None) (omega (arith, low, eight))))
    (λ other. inr (other, is ∙ get_or-set_other w.reports b c d (opened None None) other))
    (cases_eq c b)

module _ {S : Type 0} (g : Ghosts S) (faulty : ℕ) (w w2 : Boards) (h : List Step) (rows : length w.rows ≡ 8) (seats : (b : ℕ) → b < 8 → (row_of w.rows b).board ≡ b) (l : Alone faulty w h) where
  -- A call of the membership layer.
  module _ (e : GroupStep) (d d2 : Reports) (t : GroupMoves g faulty e d d2 w w2) where
    abbrev step : Step
    step = Step.of_group e d d2

    goes : (c : GroupCall) → GroupPromised g c e t.taken.scheme t.taken.scheme_after → Goes g e.before e.after
    goes (GroupCall.ask_out c) p = Goes.asks_out t.taken.scheme t.taken.scheme_after c e.offered e.written e.answer p
    goes (GroupCall.ask_in c y) p = Goes.asks_in t.taken.scheme t.taken.scheme_after c y e.offered e.written e.answer p
    goes (GroupCall.hear m) p = Goes.hears t.taken.scheme t.taken.scheme_after m e.offered e.written e.answer p.2

    pub onward : Onward e.before e.after
    onward = latest_rises g e.before e.after (goes e.call t.taken.promised)

    pub row_at : (b : ℕ) → b ≡ e.board → (row_of w.rows b ≡ e.before) × (row_of w2.rows b ≡ e.after)
    row_at b same = (
      ap (row_of w.rows) same ∙ sym t.taken.here,
      ap (λ z. row_of z b) t.taken.put ∙ ap (row_of (set w.rows e.board e.after)) same ∙ get_or-set_same w.rows e.board e.after _ (omega (arith, t.taken.outside.0, rows)),
    )

    row_elsewhere : (b : ℕ) → (b ≡ e.board → ⊥) → row_of w2.rows b ≡ row_of w.rows b
    row_elsewhere b other = ap (λ z. row_of z b) t.taken.put ∙ get_or-set_other w.rows e.board b e.after _ other

    pub grew : (b : ℕ) → (latest (row_of w.rows b) ≤ latest (row_of w2.rows b)) × ((x : ℕ) → x ≤ latest (row_of w.rows b) → views_of w2 b x ≡ views_of w b x)
    grew b = ⊎_elim
        (λ same.
        let r = row_at b same in
        let up : latest e.before ≤ latest e.after = ⊎_elim (λ z. omega arith) (λ z. omega arith) onward.rises in (
          omega (arith, ap latest r.0, ap latest r.1, up),
          λ x le. ap (λ s. members_of s.views x) r.1 ∙ onward.stay x (omega (arith, ap latest r.0)) ∙ sym (ap (λ s. members_of s.views x) r.0),
        ))
        (λ other. let r = row_elsewhere b other in (omega (arith, ap latest r), λ x le. ap (λ s. members_of s.views x) r))
        (cases_eq b e.board)

    pub kept_group : HeldIn h e.board e.before d
    kept_group =
        subst (HeldIn h e.board e.before) (sym t.here) (subst (λ z. HeldIn h e.board z (reports_of w e.board)) (sym t.taken.here) (l.held e.board t.taken.outside))

    pub seat_after : e.after.board ≡ e.board
    seat_after = onward.board ∙ ap (λ (z : State). z.board) t.taken.here ∙ seats e.board t.taken.outside.0

    followed_held : HeldIn h e.board e.after (followed (latest e.before) e.after d)
    followed_held =
        let k = kept_group in
        let up : latest e.before ≤ latest e.after = ⊎_elim (λ z. omega arith) (λ z. omega arith) onward.rises in
        let same = eqb (latest e.after) (latest e.before) in
        let k2 : HeldIn h e.board e.after d = as_onward k up onward.stay in
        subst (λ x. HeldIn h e.board e.after (cond same d (settled e.after.views x d))) (sym seat_after)
        (cond_both same d (settled e.after.views e.board d) (HeldIn h e.board e.after) (λ is. k2)
        (λ more. as_followed k up onward.stay
        (λ none. let ne = eqb-false (latest e.after) (latest e.before) more in ⊎_elim (λ z. absurd (ne z)) (λ z. omega (arith, k.reached)) onward.rises)))

    group_held : (b : ℕ) → Outside faulty b → HeldIn (step ∷ h) b (row_of w2.rows b) (reports_of w2 b)
    unfolding number_delivered
    group_held b o =
        ⊎_elim
        (λ here.
        let new : HeldIn h e.board e.after d2 = subst (HeldIn h e.board e.after) (sym t.follows) followed_held in
        let new_row : HeldIn h b (row_of w2.rows b) d2 = subst (λ z. HeldIn h b z d2) (sym (row_at b here.0).1) (subst (λ c. HeldIn h c e.after d2) (sym here.0) new) in
        subst (HeldIn h b (row_of w2.rows b)) (sym here.1) new_row)
        (λ there. subst (HeldIn h b (row_of w2.rows b)) (sym there.1) (subst (λ z. HeldIn h b z (reports_of w b)) (sym (row_elsewhere b there.0)) (l.held b o)))
        (reports_put w w2 e.board d2 l.eight t.taken.outside.0 t.put b)

    signs_here : (b : ℕ) (act act2 : Act) → WroteIn step b act2 → words act ≡ words act2 → (e.board ≡ b) × GroupSigns e (words act)
    signs_here b act act2 x told = (
      x.0,
      record {
        sent = x.1.sent;
        accepted = x.1.accepted;
        to = x.1.to;
        act = act2;
        proof = x.1.proof;
        acks = x.1.acks;
        tag = x.1.tag;
        posted = subst (λ z. Posted x.1.to (lone act2 z x.1.proof x.1.acks (tag_bytes x.1.tag)) e.offered x.1.sent e.written) (sym x.0) x.1.posted;
        signed = told;
      },
    )

    -- Neither an init nor an echo is signed in a call of the membership layer: their words are of other kinds.
    group_acts : (b : ℕ) (act : Act) → (e.board ≡ b) × GroupSigns e (words act) → DoneBy (step ∷ h) b act
    group_acts b act x =
        let z = signed_step g e t.taken.scheme t.taken.scheme_after t.taken.promised (words act) x.1 in
        by_act act x (omega (arith, same_kinds act z.act z.told, deed_kind z.deed z.act z.signs))
      where
        by_act : (y : Act) → (e.board ≡ b) × GroupSigns e (words y) → act_kind y ≤ 9 → DoneBy (step ∷ h) b y
        by_act (Act.init y s i k p) q low = absurd (omega arith)
        by_act (Act.echo y s i k p) q low = absurd (omega arith)
        by_act (Act.notify y c) q low = inl q
        by_act (Act.ack y k c) q low = inl q
        by_act (Act.ready y k c) q low = inl q
        by_act (Act.deputy y k) q low = inl q
        by_act (Act.last y k c) q low = inl q

    group_alone : Alone faulty w2 (step ∷ h)
    group_alone = record {
      eight = ap length t.put ∙ length-set w.reports e.board d2 ∙ l.eight;
      held = group_held;
      wrote = λ b act o ok x. ⊎_elim (λ new. group_acts b act (signs_here b act new.0 new.1 new.2)) (λ old. done_on step h b act (l.wrote b act o ok old)) x;
    }

  -- A take.
  take_alone : (b0 : ℕ) (r : Record) (d d2 : Reports) → TakeMoves b0 r d d2 w w2 → Alone faulty w2 (Step.takes b0 r d d2 ∷ h)
  unfolding number_delivered
  take_alone b0 r d d2 t = record {
    eight = ap length t.put ∙ length-set w.reports b0 d2 ∙ l.eight;
    held = λ b o.
        let k = l.held b o in
        let At : Reports → Type 0 = HeldIn h b (row_of w.rows b) in
        subst (λ z. HeldIn h b z (reports_of w2 b)) (sym (ap (λ x. row_of x b) t.rows))
        (⊎_elim
        (λ here.
        let old : At d = subst At (ap (reports_of w) here.0 ∙ sym t.here) k in
        subst At (sym here.1) (subst At (sym t.promised.1) (as_taken old None)))
        (λ there. subst At (sym there.1) k)
        (reports_put w w2 b0 d2 l.eight t.below t.put b));
    wrote = λ b act o ok x. ⊎_elim (λ new. absurd new.1) (λ old. done_on (Step.takes b0 r d d2) h b act (l.wrote b act o ok old)) x;
  }

  -- A call of the delivery layer.
  module _ (e : Event) (t : ReportsMove g faulty e w w2) where
    abbrev event : Step
    event = Step.of_reports e

    pub row_stays : (b : ℕ) → row_of w2.rows b ≡ row_of w.rows b
    row_stays b = ap (λ x. row_of x b) t.rows

    pub seat : e.row.board ≡ e.board
    seat = ap (λ (z : State). z.board) t.row ∙ seats e.board t.outside.0

    pub kept : HeldIn h e.board e.row e.before
    kept = subst (HeldIn h e.board e.row) (sym t.here) (subst (λ z. HeldIn h e.board z (reports_of w e.board)) (sym t.row) (l.held e.board t.outside))

    number_elsewhere : (b y s : ℕ) → (b ≡ e.board → ⊥) → number_delivered (event ∷ h) b y s ≡ number_delivered h b y s
    unfolding number_delivered
    number_elsewhere b y s other = cond-false _ _ _ (and_left (eqb b e.board) _ (ne_eqb b e.board other))

    event_held : (b : ℕ) → Outside faulty b → HeldIn (event ∷ h) b (row_of w2.rows b) (reports_of w2 b)
    event_held b o =
        let At : ℕ → State → Reports → Type 0 = HeldIn (event ∷ h) in
        ⊎_elim
        (λ here.
        let new : At e.board e.row e.after = keeps_on h e.board e.row seat e.before e.after e.offered e.written kept g e.call e.answer t.scheme t.scheme_after t.promised in
        let row : row_of w2.rows b ≡ e.row = row_stays b ∙ ap (row_of w.rows) here.0 ∙ sym t.row in
        let new_row : At e.board (row_of w2.rows b) e.after = subst (λ z. At e.board z e.after) (sym row) new in
        subst (λ c. At c (row_of w2.rows b) (reports_of w2 b)) (sym here.0) (subst (At e.board (row_of w2.rows b)) (sym here.1) new_row))
        (λ there.
        let other : b ≡ e.board → ⊥ = there.0 in
        let was : At b (row_of w.rows b) (reports_of w b) =
        as_same (l.held b o) (λ y s. number_elsewhere b y s other) (λ y s i c p. ⊎_elim (λ x. absurd (other (sym x.0))) (λ x. x) p) (λ y s i c p. inr p)
        (λ y s i c p. ⊎_elim (λ x. absurd (other (sym x.0))) (λ x. x) p) (λ y i c p. ⊎_elim (λ x. absurd (other (sym x.0))) (λ x. x) p) in
        subst (At b (row_of w2.rows b)) (sym there.1) (subst (λ z. At b z (reports_of w b)) (sym (row_stays b)) was))
        (reports_put w w2 e.board e.after l.eight t.outside.0 t.put b)

    -- An act that the event does, by its words.
    done_here : (b : ℕ) (act : Act) → e.board ≡ b → Allowed act → WroteIn event b act → Does e act → DoneBy (event ∷ h) b act
    done_here b (Act.init y s i k p) here ok wr d =
        let own = d.0 ∙ here in
        (own, inl (here, d.1, d.2), inl (subst (λ z. WroteIn event b (Act.init y z i k p)) own wr, subst (λ z. Allowed (Act.init y z i k p)) own ok))
    done_here b (Act.echo y s i k p) here ok wr d = inl (here, d.0, d.1)
    done_here b (Act.notify y c) here ok wr d = absurd d
    done_here b (Act.ack y k c) here ok wr d = absurd d
    done_here b (Act.ready y k c) here ok wr d = absurd d
    done_here b (Act.deputy y k) here ok wr d = absurd d
    done_here b (Act.last y k c) here ok wr d = absurd d

    wrote_here : (b : ℕ) (act act2 : Act) → Allowed act → WroteIn event b act2 → words act ≡ words act2 → DoneBy (event ∷ h) b act
    wrote_here b act act2 ok x told =
        let wr : Wrote e.board e.answer e.offered e.written act2 = subst (λ z. Wrote z e.answer e.offered e.written act2) (sym x.0) x.1 in
        let z = event_signs e.board e.row seat e.before e.after e.offered e.written g e.call e.answer t.scheme t.scheme_after t.promised act2 wr in
        let same : act ≡ z.act = words_tell act z.act ok z.allowed (told ∙ z.told) in
        let here : WroteIn event b z.act = (x.0, subst (λ c. Wrote c e.answer e.offered e.written z.act) x.0 z.wrote) in
        subst (DoneBy (event ∷ h) b) (sym same) (done_here b z.act x.0 z.allowed here z.does)

    event_alone : Alone faulty w2 (event ∷ h)
    event_alone = record {
      eight = ap length t.put ∙ length-set w.reports e.board e.after ∙ l.eight;
      held = event_held;
      wrote = λ b act o ok x. ⊎_elim (λ new. wrote_here b act new.0 ok new.1 new.2) (λ old. done_on event h b act (l.wrote b act o ok old)) x;
    }

  pub alone_next : (e : Step) → Taken g faulty e w w2 → Alone faulty w2 (e ∷ h)
  alone_next (Step.of_group e d d2) t = group_alone e d d2 t
  alone_next (Step.of_reports e) t = event_alone e t
  alone_next (Step.takes b r d d2) t = take_alone b r d d2 t

  -- The reports of a board before and after a step.
  pub reports_seen : (e : Step) → Taken g faulty e w w2 → (b : ℕ)
      → ((b ≡ at_board e) × (reports_of w b ≡ reports_before e) × (reports_of w2 b ≡ reports_after e)) ⊎ ((b ≡ at_board e → ⊥) × (reports_of w2 b ≡ reports_of w b))
  reports_seen (Step.of_group e d d2) t b =
      ⊎_elim (λ here. inl (here.0, ap (reports_of w) here.0 ∙ sym t.here, here.1)) inr (reports_put w w2 e.board d2 l.eight t.taken.outside.0 t.put b)
  reports_seen (Step.of_reports e) t b = ⊎_elim (λ here. inl (here.0, ap (reports_of w) here.0 ∙ sym t.here, here.1)) inr (reports_put w w2 e.board e.after l.eight t.outside.0 t.put b)
  reports_seen (Step.takes c r d d2) t b = ⊎_elim (λ here. inl (here.0, ap (reports_of w) here.0 ∙ sym t.here, here.1)) inr (reports_put w w2 c d2 l.eight t.below t.put b)

  -- Views stay.
  pub views_stay : (e : Step) → Taken g faulty e w w2 → (b : ℕ)
      → (latest (row_of w.rows b) ≤ latest (row_of w2.rows b)) × ((x : ℕ) → x ≤ latest (row_of w.rows b) → views_of w2 b x ≡ views_of w b x)
  views_stay (Step.of_group e d d2) t b = grew e d d2 t b
  views_stay (Step.of_reports e) t b = let r = ap (λ x. row_of x b) t.rows in (omega (arith, ap latest r), λ x le. ap (λ (s : State). members_of s.views x) r)
  views_stay (Step.takes c z d d2) t b = let r = ap (λ x. row_of x b) t.rows in (omega (arith, ap latest r), λ x le. ap (λ (s : State). members_of s.views x) r)

pub alone_begins : (faulty first : ℕ) (w : Boards) → Started first w → Alone faulty w []
unfolding number_delivered
alone_begins faulty first w st = record {
  eight = st.1;
  held = begin_held;
  wrote = λ b act o ok x. absurd x;
}
  where
    begin_held : (b : ℕ) → Outside faulty b → HeldIn [] b (row_of w.rows b) (reports_of w b)
    begin_held b o =
        let At : State → Reports → Type 0 = HeldIn [] b in
        let one = begun_latest (the_set first) in
        let new : At (fresh b (begun (the_set first))) (started first b) =
        as_started b (begun (the_set first)) (cond (member first b) (Some 1) None) None (omega (arith, one)) (one_or_none (member first b) refl) in
        subst (At (row_of w.rows b)) (sym (st.2 b o.0)) (subst (λ s. At s (started first b)) (sym (st.0.2 b o.0)) new)
      where
        one_or_none : (t : Bool) → member first b ≡ t → (y : ℕ) → cond {A = Option ℕ} t (Some 1) None ≡ Some y → (y ≡ 1) × (member (members_of (begun (the_set first)) y) b ≡ true)
        one_or_none true is y e =
            let one = some_same 1 y e in (sym one, ap (λ v. member (members_of (begun (the_set first)) v) b) (sym one) ∙ ap (λ v. member v b) (begun_first (the_set first)) ∙ is)
        one_or_none false is y e = none_some y e

-- What was sent was signed.
pub sent_signed : (h : List Step) (b y i : ℕ) (c : Content) → SentBy h b y i c → Signed h b (words (Act.init y b i c.sort c.payload)) × Allowed (Act.init y b i c.sort c.payload)
sent_signed [] b y i c x = absurd x
sent_signed (e ∷ h) b y i c x =
    ⊎_elim (λ new. (inl (Act.init y b i c.sort c.payload, new.0, refl), new.1)) (λ old. let r = sent_signed h b y i c old in (inr r.0, r.1)) x

-- What a history from a start says of its rows, by the laws of views_agree.
module _ {S : Type 0} (g : Ghosts S) (faulty first : ℕ) (start : Boards) {w : Boards} {h : List Step} (st : Started first start) (run : Leads g faulty start w h) where
  pub eight_rows : length w.rows ≡ 8
  eight_rows = rows_eight g faulty first start.rows w.rows (group_steps h) st.0 (rows_led g faulty start run)

  pub seated : (b : ℕ) → b < 8 → (row_of w.rows b).board ≡ b
  seated = (group_tags_vouch g).seated faulty first start.rows w.rows (group_steps h) st.0 (rows_led g faulty start run)

pub alone : {S : Type 0} (g : Ghosts S) (faulty first : ℕ) (start : Boards) {w : Boards} {h : List Step} → Started first start → Leads g faulty start w h → Alone faulty w h
alone g faulty first start st Leads.begin = alone_begins faulty first start st
alone g faulty first start st (Leads.next {w} {w2} {h} run e t) =
    alone_next g faulty w w2 h (eight_rows g faulty first start st run) (seated g faulty first start st run) (alone g faulty first start st run) e t
