-- Each delivery has its cause: a quorum echoed it; and each echo of a sender outside the faulty ones has its own: that sender sent it. In every history from a start that is vouched for.
-- The membership steps of such a history are vouched for as `views_agree` asks it.
use Rattle.std.proofs.Common.{◌≡◌, ℕ, ◌<◌, ◌≤◌, true, List, ◌∷◌, length, Ok, Err, Result, sym, refl, ap, ◌∙◌, subst, inr, ⊎_elim, arith}
use Rattle.std.proofs.lemmas.Bool.{eq-eqb, false≢true}
use Rattle.boards.specs.Boards.{member, only, size, Within}
use Rattle.boards.proofs.Members.{member_only}
use Rattle.codes.specs.declared.Refusal.{Refusal}
use Rattle.schemes.specs.declared.Scheme.{Ghosts}
use Rattle.checks.specs.Checks.{genuine}
use Rattle.views.specs.Shares.{quorum}
use Rattle.views.specs.Histories.{members_of}
use Rattle.wire.specs.Messages.{Msg}
use Rattle.wire.specs.Format.{Formed}
use Rattle.wire.specs.Acts.{Act, words, signers, act_of, proved_act}
use Rattle.wire.proofs.Signs.{signed_allowed, proved_allowed}
use Rattle.row.specs.declared.state.State.{State}
use Rattle.row.specs.declared.state.Sent.{Sent as Answer}
use Rattle.row.specs.States.{latest}
use Rattle.row.specs.Refusals.{of_group}
use Rattle.views_agree.specs.Agreement.{Call as GroupCall, Step as GroupStep, Outside, row_of, Promised as GroupPromised, Signed as GroupSigned, VouchedFor as GroupVouchedFor, Vouched as GroupVouched, Accepted}
use Rattle.views_agree.proofs.OneView.{Certificate}
use Rattle.delivery.specs.Reports.{Content, content, now}
use Rattle.delivery.specs.Refusals.{readers}
use Rattle.reports_agree.specs.Agreement.{Call, Event, Step, Boards, Started, ReportsMove, Taken, Leads, Promised, Signed, SentBy, Delivers, Delivered, GroupVouched as GroupBacked, ReportsVouched, VouchedFor, Vouched, group_steps}
use Rattle.reports_agree.specs.OneBoard.{Echoes}
use Rattle.reports_agree.proofs.Passed.{passed_commit}
use Rattle.reports_agree.proofs.Facts.{Echoed, Sent, echoed_on}
use Rattle.reports_agree.proofs.Events.{now_is, commit_sender}
use Rattle.reports_agree.proofs.Alone.{views_of, Alone, kept, views_stay, eight_rows, seated, alone}

-- Why a board delivered: a quorum of the view echoed it.
pub record Cause (faulty : ℕ) (w : Boards) (h : List Step) (b y s i : ℕ) (c : Content) : Type 0 where
  pub some : 1 ≤ y
  pub reached : y ≤ latest (row_of w.rows b)
  pub sender : member (views_of w b y) s ≡ true
  pub echoes : Certificate faulty (views_of w b y) (quorum (size (views_of w b y))) (λ d. Echoed h d y s i c)

pub record Caused (faulty : ℕ) (w : Boards) (h : List Step) : Type 0 where
  pub vouched : GroupVouched faulty (group_steps h)
  pub delivered : (b y s i : ℕ) (c : Content) → Outside faulty b → Delivered h b y s i c → Cause faulty w h b y s i c
  pub echoed : (b y s i : ℕ) (c : Content) → Outside faulty b → Outside faulty s → Echoed h b y s i c → Sent h s y i c × SentBy h s y i c

-- A cause holds on, as views stay.
cause_on : (faulty : ℕ) (w w2 : Boards) (e : Step) (h : List Step) (b y s i : ℕ) (c : Content) → latest (row_of w.rows b) ≤ latest (row_of w2.rows b)
    → ((v : ℕ) → v ≤ latest (row_of w.rows b) → views_of w2 b v ≡ views_of w b v) → Cause faulty w h b y s i c → Cause faulty w2 (e ∷ h) b y s i c
cause_on faulty w w2 e h b y s i c up stay r =
    let same = stay y r.reached in
    let cert : Certificate faulty (views_of w b y) (quorum (size (views_of w b y))) (λ d. Echoed (e ∷ h) d y s i c) =
    record { set = r.echoes.set; within = r.echoes.within; large = r.echoes.large; did = λ d k o. echoed_on e h d y s i c (r.echoes.did d k o) } in record {
      some = r.some;
      reached = omega (arith, r.reached);
      sender = subst (λ v. member v s ≡ true) (sym same) r.sender;
      echoes = subst (λ v. Certificate faulty v (quorum (size v)) (λ d. Echoed (e ∷ h) d y s i c)) (sym same) cert;
    }

module _ {S : Type 0} (g : Ghosts S) (faulty : ℕ) (w w2 : Boards) (h : List Step) (rows : length w.rows ≡ 8) (seats : (b : ℕ) → b < 8 → (row_of w.rows b).board ≡ b) (each : Alone faulty w h)
    (l : Caused faulty w h) where
  -- A call of the membership layer.
  module _ (e : GroupStep) (s s2 : S) where
    set_vouched : (m : Msg) (b : ℕ) → Formed m → of_group m ≡ true → Outside faulty b → member (signers m) b ≡ true → Signed h b (words (act_of m b))
        → GroupSigned (group_steps h) b (words (act_of m b))
    set_vouched (Msg.notify x c k q) b f of o i s = each.wrote b (act_of (Msg.notify x c k q) b) o (signed_allowed (Msg.notify x c k q) b f i) s
    set_vouched (Msg.suggest x c k q) b f of o i s = each.wrote b (act_of (Msg.suggest x c k q) b) o (signed_allowed (Msg.suggest x c k q) b f i) s
    set_vouched (Msg.ack x r c k q) b f of o i s = each.wrote b (act_of (Msg.ack x r c k q) b) o (signed_allowed (Msg.ack x r c k q) b f i) s
    set_vouched (Msg.proposal x r c k q) b f of o i s = each.wrote b (act_of (Msg.proposal x r c k q) b) o (signed_allowed (Msg.proposal x r c k q) b f i) s
    set_vouched (Msg.ready x r c k q) b f of o i s = each.wrote b (act_of (Msg.ready x r c k q) b) o (signed_allowed (Msg.ready x r c k q) b f i) s
    set_vouched (Msg.change x r c k q) b f of o i s = each.wrote b (act_of (Msg.change x r c k q) b) o (signed_allowed (Msg.change x r c k q) b f i) s
    set_vouched (Msg.deputy x r k q) b f of o i s = each.wrote b (act_of (Msg.deputy x r k q) b) o (signed_allowed (Msg.deputy x r k q) b f i) s
    set_vouched (Msg.query x r k q) b f of o i s = each.wrote b (act_of (Msg.query x r k q) b) o (signed_allowed (Msg.query x r k q) b f i) s
    set_vouched (Msg.last x r k z p ak) b f of o i s = each.wrote b (act_of (Msg.last x r k z p ak) b) o (signed_allowed (Msg.last x r k z p ak) b f i) s
    set_vouched (Msg.suggest_last x r k es p ak) b f of o i s = each.wrote b (act_of (Msg.suggest_last x r k es p ak) b) o (signed_allowed (Msg.suggest_last x r k es p ak) b f i) s
    set_vouched (Msg.init x s2 n k p q) b f of o i s = absurd (false≢true of)
    set_vouched (Msg.echo x s2 n k p c q) b f of o i s = absurd (false≢true of)
    set_vouched (Msg.commit x s2 n k p c q) b f of o i s = absurd (false≢true of)

    group_vouched : (c : GroupCall) (r : Result Answer Refusal) → GroupPromised g c e s s2 → GroupBacked faulty h c r → GroupVouchedFor faulty (group_steps h) c r
    group_vouched (GroupCall.ask_out c) r p q = tt
    group_vouched (GroupCall.ask_in c y) r p q = tt
    group_vouched (GroupCall.hear m) (Err x) p q = tt
    group_vouched (GroupCall.hear m) (Ok x) p q = (
      λ b o i. set_vouched m b p.0 p.1 o i (q.0 b o i),
      λ b o i. each.wrote b (proved_act m) o (proved_allowed m b p.0 i) (q.1 b o i),
    )

  -- A call of the delivery layer.
  module _ (e : Event) (t : ReportsMove g faulty e w w2) where
    abbrev heard_at : Call → Result Answer Refusal → Event
    heard_at c r = record { board = e.board; call = c; answer = r; offered = e.offered; written = e.written; row = e.row; before = e.before; after = e.after }

    -- What a commit delivers a quorum echoed.
    new_cause : (c : Call) (r : Result Answer Refusal) → Promised g c (heard_at c r) t.scheme t.scheme_after → ReportsVouched faulty h c r
        → (y s i : ℕ) (q : Content) → Accepted r → Delivers c y s i q → Cause faulty w h e.board y s i q
    new_cause (Call.hear (Msg.commit x u n k p m ts)) (Ok z) f bk y s i q ok d =
        let ps = passed_commit e.row e.before x u n m (length e.offered) (genuine (g.good t.scheme) (Msg.commit x u n k p m ts)) f.2.0 in
        let at : now e.before ≡ x = now_is e.before.view x ps.view in
        let low = commit_sender x u n k p m ts f.0 in
        let seen : readers e.row e.before ≡ views_of w e.board x = ap (members_of e.row.views) at ∙ ap (λ (z : State). members_of z.views x) t.row in
        let here = (kept g faulty w w2 h rows seats each e t).here x ps.view in
        let cert : Certificate faulty (views_of w e.board x) (quorum (size (views_of w e.board x))) (λ b. Echoed h b x u n (content k p)) =
        record {
          set = m;
          within = subst (Within m) seen ps.within;
          large = subst (λ z. quorum (size z) ≤ size m) seen (omega (arith, ps.large));
          did = λ b i o. each.wrote b (Act.echo x u n k p) o (signed_allowed (Msg.commit x u n k p m ts) b f.0 i) (bk.0 b o i);
        } in
        let r0 : Cause faulty w h e.board x u n (content k p) = record {
          some = omega (arith, here, (kept g faulty w w2 h rows seats each e t).some);
          reached = omega (arith, here, (kept g faulty w w2 h rows seats each e t).reached, ap latest t.row);
          sender = subst (λ z. member z u ≡ true) seen (ps.sender low);
          echoes = cert;
        } in
        subst (λ z. Cause faulty w h e.board z s i q) (sym d.0) (subst (λ z. Cause faulty w h e.board x z i q) (sym d.1)
        (subst (λ z. Cause faulty w h e.board x u z q) (sym d.2) (subst (Cause faulty w h e.board x u n) (sym d.3) r0)))
    new_cause (Call.hear m) (Ok z) f bk y s i q ok d = absurd d
    new_cause (Call.send p) (Ok z) f bk y s i q ok d = absurd d
    new_cause Call.finish (Ok z) f bk y s i q ok d = absurd d
    new_cause c (Err z) f bk y s i q ok d = absurd ok

    -- What is echoed of a sender outside the faulty ones it sent.
    new_echo : (c : Call) (r : Result Answer Refusal) → Promised g c (heard_at c r) t.scheme t.scheme_after → ReportsVouched faulty h c r
        → (y s i : ℕ) (q : Content) → Outside faulty s → Accepted r → Echoes c y s i q → Sent h s y i q × SentBy h s y i q
    new_echo (Call.hear (Msg.init x u n k p ts)) (Ok z) f bk y s i q o ok d =
        let out : Outside faulty u = subst (Outside faulty) d.1 o in
        let speaks : member (only u) u ≡ true = member_only u u out.0 ∙ eq-eqb u u refl in
        let r = each.wrote u (Act.init x u n k p) out (signed_allowed (Msg.init x u n k p ts) u f.0 speaks) (bk.0 u out speaks) in
        let both : Sent h u x n (content k p) × SentBy h u x n (content k p) = (r.1, r.2) in
        subst (λ z. Sent h s z i q × SentBy h s z i q) (sym d.0) (subst (λ z. Sent h z x i q × SentBy h z x i q) (sym d.1)
        (subst (λ z. Sent h u x z q × SentBy h u x z q) (sym d.2) (subst (λ z. Sent h u x n z × SentBy h u x n z) (sym d.3) both)))
    new_echo (Call.hear m) (Ok z) f bk y s i q o ok d = absurd d
    new_echo (Call.send p) (Ok z) f bk y s i q o ok d = absurd d
    new_echo Call.finish (Ok z) f bk y s i q o ok d = absurd d
    new_echo c (Err z) f bk y s i q o ok d = absurd ok

  grew : (e : Step) → Taken g faulty e w w2 → (b y s i : ℕ) (c : Content) → Cause faulty w h b y s i c → Cause faulty w2 (e ∷ h) b y s i c
  grew e t b y s i c r = let v = views_stay g faulty w w2 h rows seats each e t b in cause_on faulty w w2 e h b y s i c v.0 v.1 r

  pub caused_next : (e : Step) → Taken g faulty e w w2 → VouchedFor faulty h e → Caused faulty w2 (e ∷ h)
  caused_next (Step.of_group e d d2) t v = record {
    vouched = (l.vouched, group_vouched e t.taken.scheme t.taken.scheme_after e.call e.answer t.taken.promised v);
    delivered = λ b y s i c o x. grew (Step.of_group e d d2) t b y s i c (l.delivered b y s i c o x);
    echoed = λ b y s i c o p x. let r = l.echoed b y s i c o p x in (r.0, inr r.1);
  }
  caused_next (Step.of_reports e) t v = record {
    vouched = l.vouched;
    delivered = λ b y s i c o x. grew (Step.of_reports e) t b y s i c
        (⊎_elim (λ new. subst (λ z. Cause faulty w h z y s i c) new.0 (new_cause e t e.call e.answer t.promised v y s i c new.1 new.2)) (λ old. l.delivered b y s i c o old) x);
    echoed = λ b y s i c o p x.
        let r : Sent h s y i c × SentBy h s y i c = ⊎_elim (λ new. new_echo e t e.call e.answer t.promised v y s i c p new.1 new.2) (λ old. l.echoed b y s i c o p old) x in (inr r.0, inr r.1);
  }
  caused_next (Step.takes b0 r d d2) t v = record {
    vouched = l.vouched;
    delivered = λ b y s i c o x. grew (Step.takes b0 r d d2) t b y s i c (l.delivered b y s i c o x);
    echoed = λ b y s i c o p x. let q = l.echoed b y s i c o p x in (q.0, inr q.1);
  }

pub caused : {S : Type 0} (g : Ghosts S) (faulty first : ℕ) (start : Boards) {w : Boards} {h : List Step} → Started first start → Leads g faulty start w h → Vouched faulty h → Caused faulty w h
caused g faulty first start st Leads.begin v = record { vouched = tt; delivered = λ b y s i c o x. absurd x; echoed = λ b y s i c o p x. absurd x }
caused g faulty first start st (Leads.next {w} {w2} {h} run e t) v =
    caused_next g faulty w w2 h (eight_rows g faulty first start st run) (seated g faulty first start st run) (alone g faulty first start st run) (caused g faulty first start st run v.0) e t v.1
