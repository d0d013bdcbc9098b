-- What a board signed it did: words that a step of a board signed, by the bytes that it wrote, are the words of what its deed signs.
-- An allowed act is told by its words, so the board did that very act.
use Rattle.std.proofs.Common.{◌≡◌, ℕ, ◌%◌, ◌≤◌, Bool, true, false, cond, ◌&&◌, eqb, leb, List, ◌∷◌, Some, None, Ok, Option, sym, refl, ap, ◌∙◌, subst, inl, ⊎_elim, arith}
use Rattle.std.proofs.lemmas.Bool.{and_parts, eqb-true, leb-true}
use Rattle.boards.specs.Boards.{member}
use Rattle.codes.specs.declared.Refusal.{Refusal}
use Rattle.schemes.specs.declared.Scheme.{Ghosts}
use Rattle.wire.specs.Messages.{Msg, kind}
use Rattle.wire.specs.Acts.{Act, Allowed, words}
use Rattle.wire.proofs.Answered.{words_tell}
use Rattle.row.specs.declared.state.State.{State}
use Rattle.row.specs.declared.state.Sent.{Sent}
use Rattle.row.specs.States.{insert, latest, manager}
use Rattle.row.specs.Effects.{Effect, Outcome, lone, trusted, deputises, notifies}
use Rattle.row.specs.Calls.{Posted, Signs as Sends, Done, Called}
use Rattle.views_agree.specs.Agreement.{Call, Step, Promised, Signs}
use Rattle.views_agree.specs.Grounds.{SignedWasHanded}
use Rattle.views_agree.proofs.Deeds.{Vote, Deed, Did, NotifiedIn, DeputisedIn}
use Rattle.views_agree.proofs.Group.{did_cons, notified_cons, deputised_cons}
use Rattle.views_agree.proofs.StepDeeds.{deputy_rank, outcome, deed_of, deed_in, deed_at}
use Rattle.views_agree.proofs.Plays.{Fits}
use Rattle.views_agree.proofs.Written.{same_kind, same_words, lone_kinds, form_some, one_form}

-- What a deed signs.
abbrev pub SignedAs : Deed → Act → Type 0
SignedAs (Deed.Asks x c) a = a ≡ Act.notify x c
SignedAs (Deed.Deputes x c k) a = a ≡ Act.deputy x k
SignedAs (Deed.Voted x (Vote.Ack k c)) a = a ≡ Act.ack x k c
SignedAs (Deed.Voted x (Vote.Ready k c)) a = a ≡ Act.ready x k c
SignedAs (Deed.Voted x (Vote.Last k e)) a = a ≡ Act.last x k e
SignedAs (Deed.Changed x c) a = ⊥

-- A list of deeds has an act.
abbrev pub DoneAct : List Deed → Act → Type 0
DoneAct l (Act.notify x c) = NotifiedIn l x c
DoneAct l (Act.ack x k c) = Did l x (Vote.Ack k c)
DoneAct l (Act.ready x k c) = Did l x (Vote.Ready k c)
DoneAct l (Act.deputy x k) = DeputisedIn l x k
DoneAct l (Act.last x k e) = Did l x (Vote.Last k e)
DoneAct l (Act.init x s n k p) = ⊥
DoneAct l (Act.echo x s n k p) = ⊥

pub done_cons : (a : Act) (d : Deed) (l : List Deed) → DoneAct l a → DoneAct (d ∷ l) a
done_cons (Act.notify x c) d l p = notified_cons d l x c p
done_cons (Act.ack x k c) d l p = did_cons d l x (Vote.Ack k c) p
done_cons (Act.ready x k c) d l p = did_cons d l x (Vote.Ready k c) p
done_cons (Act.deputy x k) d l p = deputised_cons d l x k p
done_cons (Act.last x k e) d l p = did_cons d l x (Vote.Last k e) p
done_cons (Act.init x s n k q) d l p = p
done_cons (Act.echo x s n k q) d l p = p

-- The deed that signs an act does it.
pub done_now : (d : Deed) (a : Act) (l : List Deed) → SignedAs d a → DoneAct (d ∷ l) a
done_now (Deed.Asks x c) a l e = subst (DoneAct (Deed.Asks x c ∷ l)) (sym e) (inl (refl, refl))
done_now (Deed.Deputes x c k) a l e = subst (DoneAct (Deed.Deputes x c k ∷ l)) (sym e) (inl (refl, refl))
done_now (Deed.Voted x (Vote.Ack k c)) a l e = subst (DoneAct (Deed.Voted x (Vote.Ack k c) ∷ l)) (sym e) (inl (refl, refl))
done_now (Deed.Voted x (Vote.Ready k c)) a l e = subst (DoneAct (Deed.Voted x (Vote.Ready k c) ∷ l)) (sym e) (inl (refl, refl))
done_now (Deed.Voted x (Vote.Last k c)) a l e = subst (DoneAct (Deed.Voted x (Vote.Last k c) ∷ l)) (sym e) (inl (refl, refl))
done_now (Deed.Changed x c) a l e = absurd e

signed_allowed : (d : Deed) (a : Act) → Fits d → SignedAs d a → Allowed a
signed_allowed (Deed.Asks x c) a f e = subst Allowed (sym e) f
signed_allowed (Deed.Deputes x c k) a f e = subst Allowed (sym e) f
signed_allowed (Deed.Voted x (Vote.Ack k c)) a f e = subst Allowed (sym e) f
signed_allowed (Deed.Voted x (Vote.Ready k c)) a f e = subst Allowed (sym e) f
signed_allowed (Deed.Voted x (Vote.Last k c)) a f e = subst Allowed (sym e) f
signed_allowed (Deed.Changed x c) a f e = absurd e

signed_kind : (d : Deed) (a : Act) (b p : ℕ) (ak t : List ℕ) → SignedAs d a → kind (lone a b p ak t) ≤ 9
signed_kind (Deed.Asks x c) a b p ak t e = subst (λ z. kind (lone z b p ak t) ≤ 9) (sym e) (omega arith)
signed_kind (Deed.Deputes x c k) a b p ak t e = subst (λ z. kind (lone z b p ak t) ≤ 9) (sym e) (omega arith)
signed_kind (Deed.Voted x (Vote.Ack k c)) a b p ak t e = subst (λ z. kind (lone z b p ak t) ≤ 9) (sym e) (omega arith)
signed_kind (Deed.Voted x (Vote.Ready k c)) a b p ak t e = subst (λ z. kind (lone z b p ak t) ≤ 9) (sym e) (omega arith)
signed_kind (Deed.Voted x (Vote.Last k c)) a b p ak t e = subst (λ z. kind (lone z b p ak t) ≤ 9) (sym e) (omega arith)
signed_kind (Deed.Changed x c) a b p ak t e = absurd e

-- A message that no board signs alone: of an even kind up to 10.
abbrev Gathers : Msg → Type 0
Gathers m = (eqb (kind m % 2) 0 && leb (kind m) 10) ≡ true

-- What is sent belongs to the deed: an act that is signed is the deed's.
Matches : Option Deed → Effect → Type 0
Matches d Effect.silent = Unit {0}
Matches d (Effect.sends to m) = Gathers m
Matches None (Effect.signs to a p ak) = ⊥
Matches (Some d) (Effect.signs to a p ak) = SignedAs d a

silence : (d : Option Deed) → Matches d Effect.silent
unfolding Matches
silence d = tt

signing : (d : Deed) (to : ℕ) (a : Act) (p : ℕ) (ak : List ℕ) → SignedAs d a → Matches (Some d) (Effect.signs to a p ak)
unfolding Matches
signing d to a p ak e = e

sending : (d : Option Deed) (to : ℕ) (m : Msg) → Gathers m → Matches d (Effect.sends to m)
unfolding Matches
sending d to m e = e

either : (t : Bool) (d d2 : Deed) (e e2 : Effect) → Matches (Some d) e → Matches (Some d2) e2 → Matches (Some (cond t d d2)) (cond t e e2)
either true d d2 e e2 p q = p
either false d d2 e e2 p q = q

counted : (t : Bool) (s s2 : State) (e : Effect) → Matches None e → Matches None (cond {A = Outcome} t (s, e) (s2, Effect.silent)).1
counted true s s2 e p = p
counted false s s2 e p = silence None

passed_on : (t : Bool) (d : Option Deed) (e : Effect) → Matches d e → Matches d (cond t e Effect.silent)
passed_on true d e p = p
passed_on false d e p = silence d

matches : (c : Call) (s : State) → Matches (deed_of c s) (outcome c s).1
matches (Call.ask_out c) s =
    let bits = insert s.voter.suspects.bits c in
    either (member bits (manager s)) (Deed.Deputes (latest s) c (deputy_rank s c)) (Deed.Asks (latest s) c) (deputises s (trusted s bits)) (notifies s c)
    (signing _ _ _ _ _ refl) (signing _ _ _ _ _ refl)
matches (Call.ask_in c y) s = signing _ _ _ _ _ refl
matches (Call.hear (Msg.notify v c b t)) s = counted _ _ _ _ (sending _ _ _ refl)
matches (Call.hear (Msg.suggest v c a t)) s = signing _ _ _ _ _ refl
matches (Call.hear (Msg.ack v k c b t)) s = counted _ _ _ _ (sending _ _ _ refl)
matches (Call.hear (Msg.proposal v k c a t)) s = signing _ _ _ _ _ refl
matches (Call.hear (Msg.ready v k c b t)) s = counted _ _ _ _ (sending _ _ _ refl)
matches (Call.hear (Msg.change v k c a t)) s = passed_on _ _ _ (sending _ _ _ refl)
matches (Call.hear (Msg.deputy v k b t)) s = counted _ _ _ _ (sending _ _ _ refl)
matches (Call.hear (Msg.query v k a t)) s = signing _ _ _ _ _ refl
matches (Call.hear (Msg.last v k b e p ak)) s = counted _ _ _ _ (sending _ _ _ refl)
matches (Call.hear (Msg.suggest_last v k a es p ak)) s = signing _ _ _ _ _ refl
matches (Call.hear (Msg.init v b n k p t)) s = silence None
matches (Call.hear (Msg.echo v b n k p d t)) s = silence None
matches (Call.hear (Msg.commit v b n k p a t)) s = silence None

-- The deed of a call, and what was signed in it.
pub record SignedDeed (o : Option Deed) (w : List ℕ) : Type 0 where
  pub deed : Deed
  pub act : Act
  pub is : o ≡ Some deed
  pub signs : SignedAs deed act
  pub told : w ≡ words act

-- An effect that signs these words.
record SigningEffect (e : Effect) (w : List ℕ) : Type 0 where
  to : ℕ
  act : Act
  proof : ℕ
  acks : List ℕ
  is : e ≡ Effect.signs to act proof acks
  told : w ≡ words act

deed_signs : (d : Option Deed) (to : ℕ) (a : Act) (p : ℕ) (ak w : List ℕ) → Matches d (Effect.signs to a p ak) → w ≡ words a → SignedDeed d w
unfolding Matches
deed_signs None to a p ak w fit told = absurd fit
deed_signs (Some d) to a p ak w fit told = record { deed = d; act = a; is = refl; signs = fit; told = told }

module _ {S : Type 0} (g : Ghosts S) where
  -- What was done with an effect, and a lone message in the bytes: the effect signed it.
  from_bytes : (d : Option Deed) (e : Effect) (board to : ℕ) (act : Act) (b p : ℕ) (ak t out : List ℕ) (s : S) (a : Sent) (s2 : S) (out2 : List ℕ)
      → Matches d e → Done g board e out s a s2 out2 → Posted to (lone act b p ak t) out a out2 → SigningEffect e (words act)
  unfolding Matches
  from_bytes d Effect.silent board to act b p ak t out s a s2 out2 fit done posted =
      let none : length_of a ≡ 0 = ap length_of done.0 in
      let long = ap length_of posted.answer in
      absurd (form_some (lone act b p ak t) (⊎_elim (λ odd. omega arith) (λ echo. omega arith) (lone_kinds act b p ak t)) (sym long ∙ none))
    where
      length_of : Sent → ℕ
      length_of z = z.length
  from_bytes d (Effect.sends for m) board to act b p ak t out s a s2 out2 fit done posted =
      let same = same_kind (lone act b p ak t) m (one_form posted done.0) in
      let even = and_parts (eqb (kind m % 2) 0) (leb (kind m) 10) fit in
      absurd (⊎_elim (λ odd. omega (arith, eqb-true _ _ even.0)) (λ echo. omega (arith, leb-true _ _ even.1)) (lone_kinds act b p ak t))
  from_bytes None (Effect.signs for c q al) board to act b p ak t out s a s2 out2 fit done posted = absurd fit
  from_bytes (Some d) (Effect.signs for c q al) board to act b p ak t out s a s2 out2 fit done posted = record {
    to = for;
    act = c;
    proof = q;
    acks = al;
    is = refl;
    told = same_words act c b p board q ak t al _ (one_form posted done.posted) (signed_kind d c board q al _ fit);
  }

  -- A step is a call with some list of reasons.
  pub record CalledAs (c : Call) (e : Step) (s s2 : S) : Type 0 where
    pub why : Option Refusal
    pub called : Called g why (outcome c e.before) e.before s e.offered e.answer e.after s2 e.written

  pub called_as : (c : Call) (e : Step) (s s2 : S) → Promised g c e s s2 → CalledAs c e s s2
  called_as (Call.ask_out c) e s s2 p = record { why = _; called = p }
  called_as (Call.ask_in c y) e s s2 p = record { why = _; called = p }
  called_as (Call.hear m) e s s2 p = record { why = _; called = p.2 }

  -- A step in which words were signed: what it did, and the effect that signed them.
  record SigningStep (e : Step) (s s2 : S) (w : List ℕ) : Type 0 where
    sent : Sent
    ok : e.answer ≡ Ok sent
    done : Done g e.before.board (outcome e.call e.before).1 e.offered s sent s2 e.written
    effect : SigningEffect (outcome e.call e.before).1 w

  signing_step : (e : Step) (s s2 : S) → Promised g e.call e s s2 → (w : List ℕ) → Signs e w → SigningStep e s s2 w
  signing_step e s s2 p w h =
      let q = called_as e.call e s s2 p in
      let o = outcome e.call e.before in
      let c : Called g q.why o e.before s e.offered (Ok h.sent) e.after s2 e.written =
      subst (λ r. Called g q.why o e.before s e.offered r e.after s2 e.written) h.accepted q.called in
      let r = from_bytes (deed_of e.call e.before) o.1 e.before.board h.to h.act e.board h.proof h.acks _ e.offered s h.sent s2 e.written (matches e.call e.before) c.2 h.posted in
      record { sent = h.sent; ok = h.accepted; done = c.2; effect = record { to = r.to; act = r.act; proof = r.proof; acks = r.acks; is = r.is; told = h.signed ∙ r.told } }

  -- Words signed in a step are those of its deed.
  pub signed_step : (e : Step) (s s2 : S) → Promised g e.call e s s2 → (w : List ℕ) → Signs e w → SignedDeed (deed_at e) w
  signed_step e s s2 p w h =
      let z = signing_step e s s2 p w h in
      let f = z.effect in
      let fit = subst (Matches (deed_of e.call e.before)) f.is (matches e.call e.before) in
      let r = deed_signs (deed_of e.call e.before) f.to f.act f.proof f.acks w fit f.told in
      record { deed = r.deed; act = r.act; is = ap (λ y. deed_in y e.call e.before) z.ok ∙ r.is; signs = r.signs; told = r.told }

  -- They were handed to the scheme.
  pub signed_was_handed : SignedWasHanded g
  signed_was_handed e s s2 p same w h =
      let z = signing_step e s s2 p w h in
      let f = z.effect in
      let d : Done g e.before.board (Effect.signs f.to f.act f.proof f.acks) e.offered s z.sent s2 e.written =
      subst (λ y. Done g e.before.board y e.offered s z.sent s2 e.written) f.is z.done in
      record {
        act = f.act;
        words = f.told;
        to = f.to;
        proof = f.proof;
        acks = f.acks;
        sent = z.sent;
        accepted = z.ok;
        signs = subst (λ b. Sends g b f.to f.act f.proof f.acks e.offered s z.sent s2 e.written) same d;
      }

-- An allowed act whose words a deed signed is what the deed does.
pub told_act : (a : Act) (o : Option Deed) (l : List Deed) → Allowed a → (z : SignedDeed o (words a)) → Fits z.deed → DoneAct (z.deed ∷ l) a
told_act a o l ok z fits =
    let same : a ≡ z.act = words_tell a z.act ok (signed_allowed z.deed z.act fits z.signs) z.told in
    done_now z.deed a l (subst (SignedAs z.deed) (sym same) z.signs)
