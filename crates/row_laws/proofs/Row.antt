-- A row that takes a message: in one view its floor only falls and its stage only rises, and its views only grow.
-- One clause for each kind: counts, votes, the change.
use Rattle.std.proofs.Common.{◌≡◌, ℕ, ◌<◌, ◌≤◌, leb, Bool, true, false, cond, refl, ap, ◌∙◌, inl, inr, ⊎_elim, arith}
use Rattle.std.proofs.lemmas.Bool.{leb-false}
use Rattle.views.specs.Histories.{members_of}
use Rattle.views.proofs.Histories.{grown_latest, grown_stay}
use Rattle.schemes.specs.declared.Scheme.{Ghosts}
use Rattle.wire.specs.Messages.{Msg}
use Rattle.row.specs.declared.state.State.{State}
use Rattle.row.specs.declared.state.Leader.{Leader}
use Rattle.row.specs.States.{latest, with_leader}
use Rattle.row.specs.Effects.{Effect, Outcome, heard}
use Rattle.row_laws.specs.Laws.{Goes, Runs, FloorFalls, Onward, LatestRises}
use Rattle.row_laws.proofs.Calls.{Taken, in_every_call}
use Rattle.row_laws.proofs.Stages.{stage, idle, lasts, acks, readies, waits}

-- In one view the views stay, the floor is no higher and the stage no lower.
pub record Inside (st st2 : State) : Type 0 where
  pub views : st2.views ≡ st.views
  pub floor : st2.voter.floor ≤ st.voter.floor
  pub stage : stage st.leader.stand ≤ stage st2.leader.stand

record Kept (st st2 : State) : Type 0 where
  pub inside : latest st2 ≡ latest st → Inside st st2
  pub onward : Onward st st2

same : (st st2 : State) → st2.board ≡ st.board → Inside st st2 → Kept st st2
same st st2 b i = record {
  inside = λ _. i;
  onward = record { board = b; rises = inl (ap (λ h. h.latest) i.views); stay = λ n _. ap (λ h. members_of h n) i.views };
}

stays : (st : State) → Kept st st
stays st = same st st refl (record { views = refl; floor = omega arith; stage = omega arith })

-- A vote, of a step that was not late.
votes : (st st2 : State) → st2.board ≡ st.board → st2.views ≡ st.views → st2.leader ≡ st.leader → leb st.voter.floor st2.voter.floor ≡ false → Kept st st2
votes st st2 b v l h = same st st2 b (record { views = v; floor = omega (arith, leb-false _ _ h); stage = omega (arith, ap (λ z. stage z.stand) l) })

-- A lone message, counted in turn: it leaves the leader at its stage, or with a full count at a later one.
counts : (n : ℕ) (t : Bool) (st : State) (l l2 : Leader) (e : Effect) → l.stand ≡ st.leader.stand → stage st.leader.stand ≡ n → n < stage l2.stand
    → Kept st (cond {A = Outcome} t (with_leader st l2, e) (with_leader st l, Effect.silent)).0
counts n true st l l2 e same_stand at up = same st _ refl (record { views = refl; floor = omega arith; stage = omega (arith, at, up) })
counts n false st l l2 e same_stand at up = same st _ refl (record { views = refl; floor = omega arith; stage = omega (arith, ap stage same_stand) })

takes : (st : State) (m : Msg) → Taken st m → Kept st (heard st m).0
takes st (Msg.notify v c b t) h = counts 0 _ st _ _ _ refl (idle _ (waits _ _ h.in_turn)) (omega arith)
takes st (Msg.suggest v c a t) h = votes st _ refl refl refl h.in_time
takes st (Msg.ack v k c b t) h = counts 2 _ st _ _ _ refl (acks c _ (waits _ _ h.in_turn)) (omega arith)
takes st (Msg.proposal v k c a t) h = votes st _ refl refl refl h.in_time
takes st (Msg.ready v k c b t) h = counts 3 _ st _ _ _ refl (readies c _ (waits _ _ h.in_turn)) (omega arith)
takes st (Msg.change v k c a t) h =
    let up = grown_latest st.views c in
    record {
      inside = λ e. absurd (omega (arith, up, e));
      onward = record { board = refl; rises = inr up; stay = λ n i. grown_stay st.views c n i };
    }
takes st (Msg.deputy v k b t) h = counts 0 _ st _ _ _ refl (idle _ (waits _ _ h.in_turn)) (omega arith)
takes st (Msg.query v k a t) h = votes st _ refl refl refl h.in_time
takes st (Msg.last v k b e p ak) h = counts 1 _ st _ _ _ refl (lasts _ (waits _ _ h.in_turn)) (omega arith)
takes st (Msg.suggest_last v k a es p ak) h = votes st _ refl refl refl h.in_time
takes st (Msg.init v b n k p t) h = stays st
takes st (Msg.echo v b n k p d t) h = stays st
takes st (Msg.commit v b n k p a t) h = stays st

module _ {S : Type 0} (g : Ghosts S) where
  kept : (st st2 : State) → Goes g st st2 → Kept st st2
  kept = in_every_call g Kept stays (λ st c. same st _ refl (record { views = refl; floor = omega arith; stage = omega arith })) takes

  pub floor_falls : FloorFalls g
  floor_falls st st2 p e = ((kept st st2 p).inside e).floor

  pub latest_rises : LatestRises g
  latest_rises st st2 p = (kept st st2 p).onward

  kept_up : (st st2 : State) → Goes g st st2 → latest st ≤ latest st2
  kept_up st st2 p = ⊎_elim (λ e. omega (arith, e)) (λ e. omega (arith, e)) (kept st st2 p).onward.rises

  -- So it is over any number of calls.
  record Later (st st2 : State) : Type 0 where
    pub rises : latest st ≤ latest st2
    pub inside : latest st2 ≡ latest st → Inside st st2

  later : (st st2 : State) → Runs g st st2 → Later st st2
  later st _ Runs.here = record { rises = omega arith; inside = λ _. record { views = refl; floor = omega arith; stage = omega arith } }
  later st st3 (Runs.on {st2} run p) =
      let a = later st st2 run in
      let up = kept_up st2 st3 p in
      record {
        rises = omega (arith, a.rises, up);
        inside = λ e.
            let x = a.inside (omega (arith, a.rises, up, e)) in
            let y = (kept st2 st3 p).inside (omega (arith, a.rises, up, e)) in
            record { views = y.views ∙ x.views; floor = omega (arith, x.floor, y.floor); stage = omega (arith, x.stage, y.stage) };
      }

  -- A call, and then any number of calls, all in one view.
  pub in_view : (st st2 st3 : State) → Goes g st st2 → Runs g st2 st3 → latest st3 ≡ latest st → Inside st st2 × Inside st2 st3
  in_view st st2 st3 p run e =
      let up = kept_up st st2 p in
      let on = later st2 st3 run in
      ((kept st st2 p).inside (omega (arith, up, on.rises, e)), on.inside (omega (arith, up, on.rises, e)))
