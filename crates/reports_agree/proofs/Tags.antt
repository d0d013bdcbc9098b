-- Good tags vouch: an accepted hear has only good tags, and a call makes no tag good but that of the words which its step signed.
-- All that boards outside the faulty ones sign is a step of one of the two layers, so nothing is asked of the kind of what is signed.
use Rattle.std.proofs.Common.{◌≡◌, ℕ, Bool, true, ◌⊎◌, List, ◌∷◌, length, None, Ok, Err, Option, Result, sym, refl, ap, ◌∙◌, subst, inl, inr, ⊎_elim}
use Rattle.std.proofs.lemmas.Bool.{and_parts, not-false, both_ways, false≢true}
use Rattle.boards.specs.Boards.{member}
use Rattle.codes.specs.declared.Refusal.{Refusal}
use Rattle.schemes.specs.declared.Scheme.{Ghosts}
use Rattle.schemes.specs.Meaning.{Good}
use Rattle.checks.specs.Checks.{part_genuine, genuine}
use Rattle.checks.specs.declared.Part.TheVariants.{Signers, Proof}
use Rattle.wire.specs.Messages.{Msg, tag_bytes}
use Rattle.wire.specs.Acts.{Act, words}
use Rattle.row.specs.declared.state.State.{State}
use Rattle.row.specs.declared.state.Sent.{Sent as Answer}
use Rattle.row.specs.Effects.{Effect, lone, Outcome as RowOutcome}
use Rattle.row.specs.Calls.{Posted, Done, Called as RowCalled, Hears as GroupHears}
use Rattle.row_laws.proofs.Calls.{none_holds}
use Rattle.views_agree.specs.Agreement.{Call as GroupCall, Step as GroupStep, Promised as GroupPromised}
use Rattle.views_agree.proofs.Passed.{was_genuine}
use Rattle.views_agree.proofs.Tags.{part_good}
use Rattle.views_agree.proofs.StepDeeds.{outcome}
use Rattle.views_agree.proofs.Signing.{called_as}
use Rattle.delivery.specs.Reports.{Content, content, Reports}
use Rattle.delivery.specs.Refusals.{init_reasons, echo_reasons, commit_reasons, init_refusal, echo_refusal, commit_refusal}
use Rattle.delivery.specs.Calls.{report_refusal, report_heard, Called, of_reports, Hears as ReportsHears}
use Rattle.delivery.specs.Effects.{Outcome, reporting, ending}
use Rattle.reports_agree.specs.Agreement.{Call, Event, Step, Wrote, Promised, Backs, GroupVouched, WroteIn, ReportsVouched}
use Rattle.reports_agree.proofs.Alone.{seated}
use Rattle.reports_agree.specs.Tags.{Honest, HonestGroup, HonestReports, TagsSigned, TagsVouch}

-- Each board of a genuine part has a good tag there.
backed : (faulty : ℕ) (h : List Step) (good : Good) (m : Msg) (a : Answer) → Honest faulty h good m → genuine good m ≡ true → Backs faulty h m (Ok a)
backed faulty h good m a honest is =
    let p = and_parts (part_genuine Signers good m) _ is in
    (λ b o i. honest Signers b o i (part_good Signers good m b p.0 i), λ b o i. honest Proof b o i (part_good Proof good m b p.1 i))

-- A hear of kinds 11 to 13 that was accepted has good tags.
init_genuine : (st : State) (d : Reports) (v s n : ℕ) (c : Content) (room : ℕ) (ok spent : Bool) → init_refusal st d v s n c room ok spent ≡ None → ok ≡ true
init_genuine st d v s n c room ok spent h = not-false ok (none_holds (init_reasons st d v s n c room ok spent) h 5)

echo_genuine : (st : State) (d : Reports) (v s n : ℕ) (c : Content) (b room : ℕ) (ok : Bool) → echo_refusal st d v s n c b room ok ≡ None → ok ≡ true
echo_genuine st d v s n c b room ok h = not-false ok (none_holds (echo_reasons st d v s n c b room ok) h 5)

commit_genuine : (st : State) (d : Reports) (v s n a room : ℕ) (ok : Bool) → commit_refusal st d v s n a room ok ≡ None → ok ≡ true
commit_genuine st d v s n a room ok h = not-false ok (none_holds (commit_reasons st d v s n a room ok) h 6)

hear_genuine : (st : State) (d : Reports) (m : Msg) (room : ℕ) (ok spent : Bool) → of_reports m ≡ true → report_refusal st d m room ok spent ≡ None → ok ≡ true
hear_genuine st d (Msg.init v s n k p t) room ok spent of h = init_genuine st d v s n (content k p) room ok spent h
hear_genuine st d (Msg.echo v s n k p b t) room ok spent of h = echo_genuine st d v s n (content k p) b room ok h
hear_genuine st d (Msg.commit v s n k p b t) room ok spent of h = commit_genuine st d v s n b room ok h
hear_genuine st d m room ok spent of h = absurd (false≢true of)

module _ {S : Type 0} (g : Ghosts S) where
  -- What became good was signed.
  New : (b0 : ℕ) (r : Result Answer Refusal) (out out2 : List ℕ) (s s2 : S) → Type 0
  New b0 r out out2 s s2 = (b : ℕ) (w : List ℕ) (t : ℕ) → g.good s2 b w t ≡ true → (g.good s b w t ≡ true) ⊎ ((b0 ≡ b) × (act : Act) × Wrote b r out out2 act × (w ≡ words act))

  done_signs : (x : Effect) (board b0 : ℕ) (out : List ℕ) (s : S) (a : Answer) (s2 : S) (out2 : List ℕ) → board ≡ b0 → Done g board x out s a s2 out2 → New b0 (Ok a) out out2 s s2
  unfolding New
  done_signs Effect.silent board b0 out s a s2 out2 same d b w t is = inl (subst (λ z. g.good z b w t ≡ true) d.1 is)
  done_signs (Effect.sends to m) board b0 out s a s2 out2 same d b w t is = inl (subst (λ z. g.good z b w t ≡ true) d.1 is)
  done_signs (Effect.signs to act proof acks) board b0 out s a s2 out2 same d b w t is =
      ⊎_elim inl
      (λ new. inr (
        sym (new.0 ∙ same),
        act,
        record {
          sent = a;
          accepted = refl;
          to = to;
          proof = proof;
          acks = acks;
          tag = d.tag;
          posted = subst (λ y. Posted to (lone act y proof acks (tag_bytes d.tag)) out a out2) (sym new.0) d.posted;
        },
        new.1,
      ))
      (d.signed.only b w t is)

  row_called : (r : Result Answer Refusal) (why : Option Refusal) (o : RowOutcome) (st st2 : State) (b0 : ℕ) (s s2 : S) (out out2 : List ℕ) → st.board ≡ b0
      → RowCalled g why o st s out r st2 s2 out2 → New b0 r out out2 s s2
  unfolding New
  row_called (Ok a) why o st st2 b0 s s2 out out2 same p = done_signs o.1 st.board b0 out s a s2 out2 same p.2
  row_called (Err e) why o st st2 b0 s s2 out out2 same p = λ b w t is. inl (subst (λ z. g.good z b w t ≡ true) p.2 is)

  called : (r : Result Answer Refusal) (why : Option Refusal) (o : Outcome) (board b0 : ℕ) (d d2 : Reports) (s s2 : S) (out out2 : List ℕ) → board ≡ b0
      → Called g board why o d s out r d2 s2 out2 → New b0 r out out2 s s2
  unfolding New
  called (Ok a) why o board b0 d d2 s s2 out out2 same p = done_signs o.1 board b0 out s a s2 out2 same p.2
  called (Err e) why o board b0 d d2 s s2 out out2 same p = λ b w t is. inl (subst (λ z. g.good z b w t ≡ true) p.2 is)

  event_new : (c : Call) (e : Event) (s s2 : S) → Promised g c e s s2 → e.row.board ≡ e.board → New e.board e.answer e.offered e.written s s2
  event_new (Call.send p) e s s2 h same = called e.answer _ (reporting e.row e.before p) e.row.board e.board e.before e.after s s2 e.offered e.written same h
  event_new Call.finish e s s2 h same = called e.answer _ (ending e.row e.before) e.row.board e.board e.before e.after s s2 e.offered e.written same h
  event_new (Call.hear m) e s s2 h same = called e.answer _ (report_heard e.row e.before m) e.row.board e.board e.before e.after s s2 e.offered e.written same h.2

  group_back : (faulty : ℕ) (h : List Step) (c : GroupCall) (r : Result Answer Refusal) (e : GroupStep) (s s2 : S) → HonestGroup faulty h (g.good s) c → e.answer ≡ r → GroupPromised g c e s s2
      → GroupVouched faulty h c r
  group_back faulty h (GroupCall.ask_out c) r e s s2 honest is p = tt
  group_back faulty h (GroupCall.ask_in c y) r e s s2 honest is p = tt
  group_back faulty h (GroupCall.hear m) (Err x) e s s2 honest is p = tt
  group_back faulty h (GroupCall.hear m) (Ok x) e s s2 honest is p =
      let q = subst (λ r. GroupHears g e.before s m e.offered r e.after s2 e.written) is p.2 in
      backed faulty h (g.good s) m x honest (was_genuine e.before m (length e.offered) (genuine (g.good s) m) (g.spent s) q.0)

  reports_back : (faulty : ℕ) (h : List Step) (c : Call) (r : Result Answer Refusal) (e : Event) (s s2 : S) → HonestReports faulty h (g.good s) c → e.answer ≡ r → Promised g c e s s2
      → ReportsVouched faulty h c r
  reports_back faulty h (Call.send c) r e s s2 honest is p = tt
  reports_back faulty h Call.finish r e s s2 honest is p = tt
  reports_back faulty h (Call.hear m) (Err x) e s s2 honest is p = tt
  reports_back faulty h (Call.hear m) (Ok x) e s s2 honest is p =
      let q = subst (λ r. ReportsHears g e.row e.before s m e.offered r e.after s2 e.written) is p.2 in
      backed faulty h (g.good s) m x honest (hear_genuine e.row e.before m (length e.offered) (genuine (g.good s) m) (g.spent s) p.1 q.0)

  stay : (faulty : ℕ) (h : List Step) (e : Step) (b0 : ℕ) (r : Result Answer Refusal) (out out2 : List ℕ) (s s2 : S) → TagsSigned faulty h (g.good s) → New b0 r out out2 s s2
      → ((b : ℕ) (act : Act) → b0 ≡ b → Wrote b r out out2 act → WroteIn e b act) → TagsSigned faulty (e ∷ h) (g.good s2)
  unfolding New
  stay faulty h e b0 r out out2 s s2 signed new wrote b w t o is =
      ⊎_elim (λ old. inr (signed b w t o old)) (λ z. inl (z.1, wrote b z.1 z.0 z.2, z.3)) (new b w t is)

  pub tags_vouch : TagsVouch g
  tags_vouch = record {
    group_vouched = λ faulty h e d d2 s s2 honest p. group_back faulty h e.call e.answer e s s2 honest refl p;
    reports_vouched = λ faulty h e s s2 honest p. reports_back faulty h e.call e.answer e s s2 honest refl p;
    honest = λ faulty h good m signed part b o i is. signed b _ _ o is;
    group_stay = λ faulty h e d d2 s s2 signed p same.
        let q = called_as g e.call e s s2 p in
        stay faulty h (Step.of_group e d d2) e.board e.answer e.offered e.written s s2 signed
        (row_called e.answer q.why (outcome e.call e.before) e.before e.after e.board s s2 e.offered e.written same q.called) (λ b act is w. (is, w));
    reports_stay = λ faulty h e s s2 signed p same.
        stay faulty h (Step.of_reports e) e.board e.answer e.offered e.written s s2 signed (event_new e.call e s s2 p same) (λ b act is w. (is, w));
    take_stays = λ faulty h b r d d2 good signed c w t o is. inr (signed c w t o is);
    faulty_signs = λ faulty h s s2 b t w signed bad new c x u o is. ⊎_elim (λ old. signed c x u o old)
        (λ z. absurd (both_ways (member faulty c) o.1 (ap (member faulty) z.0 ∙ bad))) (new.only c x u is);
    seated = λ faulty first start w h st run. seated g faulty first start st run;
  }
