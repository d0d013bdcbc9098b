-- One step of a history: what its contract promises makes it a deed of its row, or nothing, with a cause in the steps before it.
-- This is the only place where a contract's relation is taken apart.
use Rattle.std.proofs.Common.{◌≡◌, ℕ, ◌<◌, ◌≤◌, Bool, true, false, cond, ◌⊎◌, List, Some, None, Ok, Err, Result, sym, refl, subst, inl, inr, ⊎_elim}
use Rattle.boards.specs.Boards.{member}
use Rattle.codes.specs.declared.Refusal.{Refusal}
use Rattle.schemes.specs.declared.Scheme.{Ghosts}
use Rattle.wire.specs.Messages.{Msg}
use Rattle.wire.specs.Acts.{Act, Allowed, words, act_of, proved_act}
use Rattle.wire.proofs.Signs.{signed_allowed, proved_allowed}
use Rattle.row.specs.declared.state.State.{State}
use Rattle.row.specs.declared.state.Sent.{Sent}
use Rattle.row.specs.States.{insert, latest, group, many, manager}
use Rattle.views_agree.specs.Agreement.{Call, Step, Outside, Promised, Accepted, Asks, Signed, VouchedFor}
use Rattle.views_agree.proofs.OneView.{Acts}
use Rattle.views_agree.proofs.Deeds.{Deed, AskedIn}
use Rattle.views_agree.proofs.Group.{acts_in, Caused}
use Rattle.views_agree.proofs.Passed.{taken_up, asked_out_when, asked_in_when}
use Rattle.views_agree.proofs.StepDeeds.{deputy_rank, deed_in, heard_deed, deeds_of, put}
use Rattle.views_agree.proofs.Plays.{Sane, Plays, hear_plays, out_plays, in_plays}
use Rattle.views_agree.proofs.Signing.{DoneAct}
use Rattle.views_agree.proofs.Causes.{CausedIf, heard_caused}

abbrev step_of : ℕ → Call → Result Sent Refusal → List ℕ → List ℕ → State → State → Step
step_of b c r out out2 st st2 = record { board = b; call = c; answer = r; offered = out; written = out2; before = st; after = st2 }

still : (b : ℕ) (st st2 : State) → Sane b st → st2 ≡ st → Plays b st None st2
still b st st2 sane e = subst (Plays b st None) (sym e) (record { moves = refl; sane = sane; fits = tt })

module _ {S : Type 0} (g : Ghosts S) (b : ℕ) (below : b < 8) (st : State) (sane : Sane b st) (peopled : 1 ≤ many st) (st2 : State) (s s2 : S) (out out2 : List ℕ) where
  step_plays : (c : Call) (r : Result Sent Refusal) → Promised g c (step_of b c r out out2 st st2) s s2 → Plays b st (deed_in r c st) st2
  step_plays (Call.ask_out c) (Ok a) p = subst (Plays b st _) (sym p.1) (out_plays b below st sane peopled c (asked_out_when st c _ _ p.0))
  step_plays (Call.ask_out c) (Err e) p = still b st st2 sane p.1
  step_plays (Call.ask_in c y) (Ok a) p = subst (Plays b st _) (sym p.1) (in_plays b below st sane peopled c (asked_in_when st c y _ _ p.0))
  step_plays (Call.ask_in c y) (Err e) p = still b st st2 sane p.1
  step_plays (Call.hear m) (Ok a) p = subst (Plays b st _) (sym p.2.1) (hear_plays b below st sane peopled m p.0 (taken_up st m _ _ _ p.2.0))
  step_plays (Call.hear m) (Err e) p = still b st st2 sane p.2.1

-- What the boards signed in these steps they did.
abbrev pub KeptWord : ℕ → List Step → Type 0
KeptWord faulty h = (b : ℕ) (a : Act) → Outside faulty b → Allowed a → Signed h b (words a) → DoneAct (deeds_of h b) a

asks_uncaused : (faulty m : ℕ) (a : Acts) (t : Bool) (x c k : ℕ) → Caused faulty m a (cond t (Deed.Deputes x c k) (Deed.Asks x c))
asks_uncaused faulty m a true x c k = tt
asks_uncaused faulty m a false x c k = tt

module _ {S : Type 0} (g : Ghosts S) (faulty : ℕ) (h : List Step) (word : KeptWord faulty h) (b : ℕ) (st st2 : State) (s s2 : S) (out out2 : List ℕ) where
  step_caused : (c : Call) (r : Result Sent Refusal) → Promised g c (step_of b c r out out2 st st2) s s2 → VouchedFor faulty h c r
      → CausedIf faulty (group st) (acts_in (deeds_of h) (latest st)) (deed_in r c st)
  step_caused (Call.ask_out c) (Ok a) p v = asks_uncaused faulty (group st) _ (member (insert st.voter.suspects.bits c) (manager st)) (latest st) c (deputy_rank st c)
  step_caused (Call.ask_out c) (Err e) p v = tt
  step_caused (Call.ask_in c y) (Ok a) p v = tt
  step_caused (Call.ask_in c y) (Err e) p v = tt
  step_caused (Call.hear m) (Ok a) p v = heard_caused faulty (deeds_of h) st m p.0 (taken_up st m _ _ _ p.2.0) (record {
    set = λ d o i. word d (act_of m d) o (signed_allowed m d p.0 i) (v.0 d o i);
    proof = λ d o i. word d (proved_act m) o (proved_allowed m d p.0 i) (v.1 d o i);
  })
  step_caused (Call.hear m) (Err e) p v = tt

-- What a step does at its row, and why.
pub record Stepped (faulty : ℕ) (h : List Step) (e : Step) : Type 0 where
  pub plays : Plays e.board e.before (deed_in e.answer e.call e.before) e.after
  pub caused : CausedIf faulty (group e.before) (acts_in (deeds_of h) (latest e.before)) (deed_in e.answer e.call e.before)

pub stepped : {S : Type 0} (g : Ghosts S) (faulty : ℕ) (h : List Step) (e : Step) (s s2 : S) → Promised g e.call e s s2 → VouchedFor faulty h e.call e.answer
    → KeptWord faulty h → e.board < 8 → Sane e.board e.before → 1 ≤ many e.before → Stepped faulty h e
stepped g faulty h e s s2 p v word below sane peopled = record {
  plays = step_plays g e.board below e.before sane peopled e.after s s2 e.offered e.written e.call e.answer p;
  caused = step_caused g faulty h word e.board e.before e.after s s2 e.offered e.written e.call e.answer p v;
}

-- An ask among the deeds of a step is an accepted call that asks.
abbrev AskedNow : Result Sent Refusal → Call → State → ℕ → ℕ → Type 0
AskedNow r c st x d = Accepted r × Asks c d × (latest st ≡ x)

asked_deed : (t : Bool) (l : List Deed) (y c k x d : ℕ) → AskedIn (put (Some (cond t (Deed.Deputes y c k) (Deed.Asks y c))) l) x d → ((x ≡ y) × (d ≡ c)) ⊎ AskedIn l x d
asked_deed true l y c k x d a = a
asked_deed false l y c k x d a = a

heard_none : (st : State) (m : Msg) (l : List Deed) (x d : ℕ) → AskedIn (put (heard_deed st m) l) x d → AskedIn l x d
heard_none st (Msg.notify v c b t) l x d a = a
heard_none st (Msg.suggest v c b t) l x d a = a
heard_none st (Msg.ack v k c b t) l x d a = a
heard_none st (Msg.proposal v k c b t) l x d a = a
heard_none st (Msg.ready v k c b t) l x d a = a
heard_none st (Msg.change v k c b t) l x d a = a
heard_none st (Msg.deputy v k b t) l x d a = a
heard_none st (Msg.query v k b t) l x d a = a
heard_none st (Msg.last v k b e p ak) l x d a = a
heard_none st (Msg.suggest_last v k b es p ak) l x d a = a
heard_none st (Msg.init v b n k p t) l x d a = a
heard_none st (Msg.echo v b n k p e t) l x d a = a
heard_none st (Msg.commit v b n k p e t) l x d a = a

pub asked_now : (r : Result Sent Refusal) (c : Call) (st : State) (l : List Deed) (x d : ℕ) → AskedIn (put (deed_in r c st) l) x d → AskedNow r c st x d ⊎ AskedIn l x d
asked_now (Err e) c st l x d a = inr a
asked_now (Ok z) (Call.ask_out c) st l x d a =
    ⊎_elim (λ e. inl (tt, sym e.1, sym e.0)) inr (asked_deed (member (insert st.voter.suspects.bits c) (manager st)) l (latest st) c (deputy_rank st c) x d a)
asked_now (Ok z) (Call.ask_in c y) st l x d a = ⊎_elim (λ e. inl (tt, sym e.1, sym e.0)) inr a
asked_now (Ok z) (Call.hear m) st l x d a = inr (heard_none st m l x d a)
