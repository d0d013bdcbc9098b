-- What a call of the delivery layer signed, by the bytes that it wrote: the init that it sent, or its echo of the init that it heard.
-- That the act is allowed is said by the call's own relation.
use Rattle.std.proofs.Common.{◌≡◌, ℕ, ◌≤◌, Bool, true, false, cond, eqb, List, [], ◌∷◌, length, Some, None, Ok, Err, Option, Result, sym, refl, ap, ◌∙◌, subst, arith}
use Rattle.std.proofs.lemmas.Bool.{false≢true}
use Rattle.boards.specs.Boards.{size}
use Rattle.codes.specs.declared.Refusal.{Refusal}
use Rattle.schemes.specs.declared.Scheme.{Ghosts}
use Rattle.checks.specs.Checks.{genuine}
use Rattle.views.specs.Shares.{quorum}
use Rattle.wire.specs.declared.message.Sort.{Sort}
use Rattle.wire.specs.declared.message.Sort.TheVariants.{Report, End}
use Rattle.wire.specs.Messages.{Msg, kind, tag_bytes}
use Rattle.wire.specs.Format.{form}
use Rattle.wire.specs.Acts.{Act, Allowed, words, tag_number}
use Rattle.row.specs.declared.state.State.{State}
use Rattle.row.specs.declared.state.Sent.{Sent as Answer}
use Rattle.row.specs.Effects.{Effect, lone}
use Rattle.row.specs.Calls.{Posted, Signs, Done, sent}
use Rattle.row.specs.States.{counted, count_tags}
use Rattle.views_agree.specs.Agreement.{Accepted}
use Rattle.views_agree.proofs.Written.{same_kind, form_some, one_form}
use Rattle.delivery.specs.Reports.{content, Own, Reports, now, with_own}
use Rattle.delivery.specs.Refusals.{next_number, readers}
use Rattle.delivery.specs.Effects.{collects, finish_claim, own_done, own_with}
use Rattle.reports_agree.specs.Agreement.{Call, Event, Promised, Wrote}
use Rattle.reports_agree.specs.OneBoard.{Echoes}
use Rattle.reports_agree.proofs.Passed.{passed_init}
use Rattle.reports_agree.proofs.Events.{now_is}
use Rattle.reports_agree.proofs.Facts.{SendsOf}
use Rattle.reports_agree.proofs.Words.{same_words, lone_most}

-- The act is what the event signs.
abbrev pub Does : Event → Act → Type 0
Does e (Act.init y s i k p) = (s ≡ e.board) × Accepted e.answer × SendsOf e.call e.row e.before y i (content k p)
Does e (Act.echo y s i k p) = Accepted e.answer × Echoes e.call y s i (content k p)
Does e a = ⊥

pub record SignedIn (e : Event) (w : List ℕ) : Type 0 where
  pub act : Act
  pub allowed : Allowed act
  pub told : w ≡ words act
  pub wrote : Wrote e.board e.answer e.offered e.written act
  pub does : Does e act

answer_is : (a c : Answer) → ◌≡◌ {A = Result Answer Refusal} (Ok a) (Ok c) → a ≡ c
answer_is a c e = cc

err_ok : {B : Type 0} (e : Refusal) (c : Answer) → ◌≡◌ {A = Result Answer Refusal} (Err e) (Ok c) → B
err_ok e c h = absurd (let z : ◌≡◌ {A = ℕ} 0 1 = cc in omega arith)

module _ {b : ℕ} {out out2 : List ℕ} {a : Answer} {act : Act} (w : Wrote b (Ok a) out out2 act) where
  posted_here : Posted w.to (lone act b w.proof w.acks (tag_bytes w.tag)) out a out2
  posted_here = subst (λ x. Posted w.to (lone act b w.proof w.acks (tag_bytes w.tag)) out x out2) (sym (answer_is a w.sent w.accepted)) w.posted

  not_silent : {B : Type 0} → a ≡ sent 0 0 → B
  not_silent e =
      let long : length (form (lone act b w.proof w.acks (tag_bytes w.tag))) ≡ 0 = ap (λ (z : Answer). z.length) (sym posted_here.answer ∙ e) in
      absurd (form_some (lone act b w.proof w.acks (tag_bytes w.tag)) (lone_most act b w.proof w.acks (tag_bytes w.tag)).0 long)

  not_commit : {B : Type 0} {to v s n : ℕ} {k : Sort} {p : List ℕ} {c : ℕ} {t : List ℕ} → Posted to (Msg.commit v s n k p c t) out a out2 → B
  not_commit {B} {to} {v} {s} {n} {k} {p} {c} {t} q =
      let same = same_kind (lone act b w.proof w.acks (tag_bytes w.tag)) (Msg.commit v s n k p c t) (one_form posted_here q) in
      absurd (omega (arith, same, (lone_most act b w.proof w.acks (tag_bytes w.tag)).1))

  -- The bytes of a lone message that the call signed.
  by_signing : {S : Type 0} (g : Ghosts S) (board to : ℕ) (c : Act) (s s2 : S) → board ≡ b → 11 ≤ kind (lone c board 0 [] (tag_bytes w.tag)) → Signs g board to c 0 [] out s a s2 out2
      → ((t : ℕ) → 11 ≤ kind (lone c board 0 [] (tag_bytes t))) → (words act ≡ words c) × Wrote b (Ok a) out out2 c
  by_signing g board to c s s2 same h d all = (
    same_words act c b w.proof board 0 w.acks [] w.tag d.tag (one_form posted_here d.posted) (all d.tag),
    record { sent = a; accepted = refl; to = to; proof = 0; acks = []; tag = d.tag; posted = subst (λ x. Posted to (lone c x 0 [] (tag_bytes d.tag)) out a out2) same d.posted },
  )

  commit_or_none : {S : Type 0} (g : Ghosts S) (board : ℕ) (q : Bool) (d1 d2 : Reports) (to v x n : ℕ) (k : Sort) (p : List ℕ) (c : ℕ) (t : List ℕ) (s s2 : S) {B : Type 0}
      → Done g board (cond {A = Reports × Effect} q (d1, Effect.sends to (Msg.commit v x n k p c t)) (d2, Effect.silent)).1 out s a s2 out2 → B
  commit_or_none g board true d1 d2 to v x n k p c t s s2 h = not_commit h.0
  commit_or_none g board false d1 d2 to v x n k p c t s s2 h = not_silent h.0

  no_lone : {S : Type 0} (g : Ghosts S) (st : State) (d : Reports) (o : Option Own) (e t : ℕ) (s s2 : S) {B : Type 0} → Done g st.board (collects st d o e t).1 out s a s2 out2 → B
  no_lone g st d None e t s s2 h = not_silent h.0
  no_lone g st d (Some o) e t s s2 h =
      let f = counted o.echoes e t in
      commit_or_none g st.board (eqb (size f.set.bits) (quorum (size (readers st d)))) (with_own d (Some (own_done o))) (with_own d (Some (own_with o f))) (readers st d) (now d) st.board o.number
      o.content.sort o.content.payload f.set.bits (count_tags f) s s2 h

module _ (b : ℕ) (st : State) (board : st.board ≡ b) (d d2 : Reports) (out out2 : List ℕ) where
  abbrev ev : Call → Result Answer Refusal → Event
  ev c r = record { board = b; call = c; answer = r; offered = out; written = out2; row = st; before = d; after = d2 }

  pub event_signs : {S : Type 0} (g : Ghosts S) (c : Call) (r : Result Answer Refusal) (s s2 : S) → Promised g c (ev c r) s s2 → (act : Act) → Wrote b r out out2 act → SignedIn (ev c r) (words act)
  event_signs g c (Err e) s s2 h act w = err_ok e w.sent w.accepted
  event_signs g (Call.send p) (Ok a) s s2 h act w =
      let z = by_signing w g st.board _ (Act.init (now d) st.board (next_number st d) Report p) s s2 board (omega arith) h.2 (λ t. omega arith) in
      record { act = Act.init (now d) st.board (next_number st d) Report p; allowed = h.3; told = z.0; wrote = z.1; does = (board, tt, (refl, refl, refl)) }
  event_signs g Call.finish (Ok a) s s2 h act w =
      let z = by_signing w g st.board _ (Act.init (now d) st.board (next_number st d) End (finish_claim st d ∷ [])) s s2 board (omega arith) h.2 (λ t. omega arith) in
      record { act = Act.init (now d) st.board (next_number st d) End (finish_claim st d ∷ []); allowed = h.3; told = z.0; wrote = z.1; does = (board, tt, (refl, refl, refl)) }
  event_signs g (Call.hear (Msg.init v t n k p ts)) (Ok a) s s2 h act w =
      let q = passed_init st d v t n (content k p) (length out) (genuine (g.good s) (Msg.init v t n k p ts)) (g.spent s) h.2.0 in
      let z = by_signing w g st.board _ (Act.echo (now d) t n k p) s s2 board (omega arith) h.2.2 (λ x. omega arith) in
      record { act = Act.echo (now d) t n k p; allowed = h.2.3; told = z.0; wrote = z.1; does = (tt, (now_is d.view v q.view, refl, refl, refl)) }
  event_signs g (Call.hear (Msg.echo v t n k p e ts)) (Ok a) s s2 h act w = no_lone w g st d d.own e (tag_number ts) s s2 h.2.2
  event_signs g (Call.hear (Msg.commit v t n k p c ts)) (Ok a) s s2 h act w = not_silent w h.2.2.0
  event_signs g (Call.hear m) (Ok a) s s2 h act w = absurd (false≢true h.1)
