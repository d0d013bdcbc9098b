-- What made a row vote or change: the certificate that it heard, whose boards outside the faulty ones did what their tags stand for.
-- Set, size, members and earlier ranks are what the hear was not refused for.
use Rattle.std.proofs.Common.{◌≡◌, ℕ, ◌+◌, ◌<◌, ◌≤◌, true, false, not, ◌&&◌, ◌||◌, eqb, ltb, leb, List, get_or, Some, None, Option, sym, refl, ap, ◌∙◌, subst, inl, inr, ⊎_elim, arith}
use Rattle.std.proofs.lemmas.Bool.{or_parts, and_cases, not-false, eqb-true, eqb-false, leb-false, both_ways, cases_Bool, cond-true, cond-false}
use Rattle.boards.specs.Boards.{member, size, place, Within}
use Rattle.boards.proofs.Members.{member_below}
use Rattle.boards.proofs.Sets.{place_below, place_some}
use Rattle.views.specs.Shares.{share, quorum}
use Rattle.wire.specs.declared.message.Entry.{Entry}
use Rattle.wire.specs.Messages.{Msg, Reply}
use Rattle.wire.specs.Format.{Formed}
use Rattle.wire.specs.Acts.{signers, act_of, proof_of, proved_act, lowest, no_reply}
use Rattle.wire.proofs.Signs.{replies_many, proof_shown}
use Rattle.row.specs.declared.state.State.{State}
use Rattle.row.specs.States.{latest, group, many, manager, inside}
use Rattle.row.specs.Refusals.{strays, misplaced, entry_in}
use Rattle.row.specs.Effects.{called_for}
use Rattle.boards.proofs.Chosen.{any_none}
use Rattle.views_agree.specs.Agreement.{Outside}
use Rattle.views_agree.proofs.OneView.{Acts, Acks, Basis}
use Rattle.views_agree.proofs.Deeds.{Vote, Deed, Did, NotifiedIn, DeputisedIn}
use Rattle.views_agree.proofs.Group.{acts_in, Caused}
use Rattle.views_agree.proofs.Passed.{TakenUp, not_straying}
use Rattle.views_agree.proofs.StepDeeds.{heard_deed}
use Rattle.views_agree.proofs.Signing.{DoneAct}
use Rattle.views_agree.proofs.Lowest.{Under, lowest_under, lowest_told}

abbrev pub CausedIf : ℕ → ℕ → Acts → Option Deed → Type 0
CausedIf faulty m a None = Unit {0}
CausedIf faulty m a (Some d) = Caused faulty m a d

-- Each board outside the faulty ones in the set and in the proof of a message did what its tag there stands for.
pub record Backed (faulty : ℕ) (deeds : ℕ → List Deed) (m : Msg) : Type 0 where
  pub set : (b : ℕ) → Outside faulty b → member (signers m) b ≡ true → DoneAct (deeds b) (act_of m b)
  pub proof : (b : ℕ) → Outside faulty b → member (proof_of m).boards b ≡ true → DoneAct (deeds b) (proved_act m)

as_many : (a n : ℕ) → not (eqb (size a) n) ≡ false → n ≤ size a
as_many a n h = omega (arith, eqb-true (size a) n (not-false _ h))

-- An earlier rank that is not misplaced.
placed : (k n : ℕ) (e : Entry) → misplaced k n e ≡ false → 0 < e.earlier → k < e.earlier
placed k n e h some =
    ⊎_elim (λ none. absurd (omega (arith, some, eqb-true e.earlier 0 (not-false _ none)))) (λ well. leb-false e.earlier k (or_parts (leb e.earlier k) _ well).0)
    (and_cases (not (eqb e.earlier 0)) (leb e.earlier k || ltb n e.earlier) h)

module _ (faulty : ℕ) (deeds : ℕ → List Deed) (s : State) where
  abbrev acts : Acts
  acts = acts_in deeds (latest s)

  -- A suggest-last that was taken, with what it was not refused for.
  module _ (v k a : ℕ) (es : List Reply) (p : ℕ) (ak : List ℕ) (f : Formed (Msg.suggest_last v k a es p ak)) (h : TakenUp s (Msg.suggest_last v k a es p ak)) (w : Backed faulty deeds (Msg.suggest_last v k a es p ak)) where
    abbrev low : Entry
    low = lowest es

    -- Everything in it is of the view, and its rank is below the manager's.
    record Inner : Type 0 where
      set_in : Within a (group s)
      proof_in : Within p (group s)
      below : k < many s
      told : (b : ℕ) → member a b ≡ true → misplaced k (many s) (entry_in a es b) ≡ false

    inner : Inner
    inner =
        let q = or_parts (not (inside s)) _ h.known in
        let r = or_parts (strays a (group s)) _ q.1 in
        let t = or_parts (strays p (group s)) _ r.1 in
        let u = or_parts (leb (many s) k) _ t.1 in
        record {
          set_in = not_straying a (group s) r.0;
          proof_in = not_straying p (group s) t.0;
          below = leb-false (many s) k u.0;
          told = λ b i.
              ⊎_elim (λ out. absurd (both_ways (member a b) out i)) (λ well. well)
              (and_cases (member a b) _ (any_none (λ c. member a c && misplaced k (many s) (entry_in a es c)) 8 u.1 b (member_below a b i)));
        }

    under : (b : ℕ) → member a b ≡ true → Under low (entry_in a es b)
    under b i = lowest_under es (place a b) (omega (arith, place_below a b i, replies_many v k a es p ak f))

    -- The lowest rank is above the message's.
    above : 0 < low.earlier → k < low.earlier
    above some =
        let t = lowest_told es some in
        let b = place_some a t.0 (omega (arith, t.1, replies_many v k a es p ak f)) in
        let here : entry_in a es b.0 ≡ low = ap (λ n. (get_or es n no_reply).entry) b.3 ∙ t.2 in
        let well = subst (λ z. misplaced k (many s) z ≡ false) here (inner.told b.0 b.2) in
        placed k (many s) low well some

    -- Its proof is a quorum of acks for its change.
    proved : 0 < low.earlier → Acks faulty (group s) acts low.earlier low.change
    proved some =
        let odd = (or_parts (not (eqb (size a) (quorum (many s)))) _ h.fits).1 in
        let boards = proof_shown v k a es p ak f some in
        record {
          set = p;
          within = inner.proof_in;
          large = ⊎_elim (λ none. absurd (omega (arith, boards, eqb-true (size p) 0 (not-false _ none)))) (λ well. as_many p (quorum (many s)) well) (and_cases (not (eqb (size p) 0)) _ odd);
          did = λ b i o. subst (λ x. Did (deeds b) x (Vote.Ack low.earlier low.change)) h.now (w.proof b o i);
        }

    basis : Basis faulty (group s) acts k (called_for s low)
    basis = record {
      entries = entry_in a es;
      lasts = record {
        set = a;
        within = inner.set_in;
        large = as_many a (quorum (many s)) (or_parts (not (eqb (size a) (quorum (many s)))) _ h.fits).0;
        did = λ b i o. subst (λ x. Did (deeds b) x (Vote.Last k (entry_in a es b))) h.now (w.set b o i);
      };
      choice = ⊎_elim
          (λ none.
          let zero = eqb-true low.earlier 0 none in
          inl ((λ b i. ⊎_elim (λ e. e) (λ t. absurd (omega (arith, zero, t.0))) (under b i)), cond-true (eqb low.earlier 0) (manager s) low.change none))
          (λ some.
          let ne = eqb-false low.earlier 0 some in
          let rank : 0 < low.earlier = omega arith in
          inr (
            low.earlier,
            above rank,
            (λ b i. ⊎_elim inl (λ t. inr t.1) (under b i)),
            subst (λ c. Acks faulty (group s) acts low.earlier c) (sym (cond-false (eqb low.earlier 0) (manager s) low.change some)) (proved rank),
          ))
          (cases_Bool (eqb low.earlier 0));
    }

  pub heard_caused : (m : Msg) → Formed m → TakenUp s m → Backed faulty deeds m → CausedIf faulty (group s) acts (heard_deed s m)
  heard_caused (Msg.notify v c b t) f h w = tt
  heard_caused (Msg.suggest v c a t) f h w = inl (
    refl,
    record {
      set = a;
      within = not_straying a (group s) (or_parts (not (inside s)) _ h.known).1;
      large = as_many a (share (many s) + 1) h.fits;
      did = λ b i o. subst (λ x. NotifiedIn (deeds b) x c) h.now (w.set b o i);
    },
  )
  heard_caused (Msg.ack v k c b t) f h w = tt
  heard_caused (Msg.proposal v k c a t) f h w = record {
    set = a;
    within = not_straying a (group s) (or_parts (strays a (group s)) _ (or_parts (not (inside s)) _ h.known).1).0;
    large = as_many a (quorum (many s)) h.fits;
    did = λ b i o. subst (λ x. Did (deeds b) x (Vote.Ack k c)) h.now (w.set b o i);
  }
  heard_caused (Msg.ready v k c b t) f h w = tt
  heard_caused (Msg.change v k c a t) f h w = (
    k,
    record {
      set = a;
      within = not_straying a (group s) (or_parts (strays a (group s)) _ h.known).0;
      large = as_many a (quorum (many s)) h.fits;
      did = λ b i o. subst (λ x. Did (deeds b) x (Vote.Ready k c)) h.now (w.set b o i);
    },
  )
  heard_caused (Msg.deputy v k b t) f h w = tt
  heard_caused (Msg.query v k a t) f h w = record {
    set = a;
    within = not_straying a (group s) (or_parts (strays a (group s)) _ (or_parts (not (inside s)) _ h.known).1).0;
    large = as_many a (share (many s) + 1) h.fits;
    did = λ b i o. subst (λ x. DeputisedIn (deeds b) x k) h.now (w.set b o i);
  }
  heard_caused (Msg.last v k b e p ak) f h w = tt
  heard_caused (Msg.suggest_last v k a es p ak) f h w =
      inr ((inner v k a es p ak f h w).below, basis v k a es p ak f h w)
  heard_caused (Msg.init v b n k p t) f h w = tt
  heard_caused (Msg.echo v b n k p d t) f h w = tt
  heard_caused (Msg.commit v b n k p a t) f h w = tt
