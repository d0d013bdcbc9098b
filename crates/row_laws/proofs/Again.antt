-- What a row takes only once: a message for a step that a vote answers, and after a full count any of its kind.
-- A vote leaves the floor at its own step; a full count leaves the leader past the stage of its kind.
use Rattle.std.proofs.Common.{◌≡◌, ℕ, ◌≤◌, Bool, true, None, Ok, sym, refl, ap, ◌∙◌, subst, arith}
use Rattle.std.proofs.lemmas.Bool.{le-leb, both_ways}
use Rattle.boards.specs.Boards.{size}
use Rattle.schemes.specs.declared.Scheme.{Ghosts}
use Rattle.wire.specs.Messages.{Msg, view_of}
use Rattle.row.specs.declared.state.State.{State}
use Rattle.row.specs.States.{latest, latest_members}
use Rattle.row.specs.Refusals.{untimely, late, hear_refusal}
use Rattle.row.specs.Effects.{heard}
use Rattle.row_laws.specs.Laws.{Goes, OneStep, NotTwice, OneMore, FullCount}
use Rattle.row_laws.proofs.Calls.{Taken, taken}
use Rattle.row_laws.proofs.Stages.{stage, out_of_turn, past}
use Rattle.row_laws.proofs.Row.{in_view}

-- A vote's own step is late after it, and stays so while the views stay and the floor does not rise.
late_again : (st st3 : State) (v : ℕ) (m again : Msg) → OneStep v m again → st3.views ≡ st.views → st3.voter.floor ≤ (heard st m).0.voter.floor → late st3 again ≡ true
late_again st st3 v _ _ (OneStep.suggest c a d b t u) e f = le-leb _ _ (omega (arith, f, ap (λ h. size (latest_members h)) e))
late_again st st3 v _ _ (OneStep.proposal k c a d b t u) e f = le-leb _ _ f
late_again st st3 v _ _ (OneStep.query k a b t u) e f = le-leb _ _ f
late_again st st3 v _ _ (OneStep.suggest_last k a p b q es fs t u) e f = le-leb _ _ f

-- Both messages are of one view.
step_view : (v : ℕ) (m again : Msg) → OneStep v m again → view_of again ≡ view_of m
step_view v _ _ (OneStep.suggest c a d b t u) = refl
step_view v _ _ (OneStep.proposal k c a d b t u) = refl
step_view v _ _ (OneStep.query k a b t u) = refl
step_view v _ _ (OneStep.suggest_last k a p b q es fs t u) = refl

more_view : (v : ℕ) (m more : Msg) → OneMore v m more → view_of more ≡ view_of m
more_view v _ _ (OneMore.notify c b d e t u) = refl
more_view v _ _ (OneMore.ack k c b j d e t u) = refl
more_view v _ _ (OneMore.ready k c b j d e t u) = refl
more_view v _ _ (OneMore.deputy k b j e t u) = refl
more_view v _ _ (OneMore.last k b j e p q r w t u) = refl

-- What cannot be taken again in the view in which it was taken is never taken again.
never : (st st3 : State) (m again : Msg) → Taken st m → view_of again ≡ view_of m → (latest st3 ≡ latest st → Taken st3 again → ⊥)
    → (room : ℕ) (genuine spent : Bool) → hear_refusal st3 again room genuine spent ≡ None → ⊥
never st st3 m again t same clash room genuine spent h =
    let u = taken st3 again room genuine spent h in
    clash (sym u.now ∙ same ∙ t.now) u

module _ {S : Type 0} (g : Ghosts S) where
  pub not_twice : NotTwice g
  not_twice st st2 st3 s s2 m out out2 a p run v again one =
      let too_late : latest st3 ≡ latest st → late st3 again ≡ true = λ e.
      let i = in_view g st st2 st3 (Goes.hears s s2 m out out2 (Ok a) p) run e in
      late_again st st3 v m again one (i.1.views ∙ i.0.views) (subst (λ z. st3.voter.floor ≤ z.voter.floor) p.1 i.1.floor) in (
        too_late,
        never st st3 m again (taken st m _ _ _ p.0) (step_view v m again one) (λ e u. both_ways (late st3 again) u.in_time (too_late e)),
      )

  pub full_count : FullCount g
  full_count st st2 st3 s s2 m out out2 a p to sent full run v more one =
      let no_turn : latest st3 ≡ latest st → untimely st3 more ≡ true = λ e.
      let i = in_view g st st2 st3 (Goes.hears s s2 m out out2 (Ok a) p) run e in
      out_of_turn one st3 (record { up = omega (arith, (past one st to sent full).up, ap (λ z. stage z.leader.stand) p.1, i.1.stage) }) in (
        no_turn,
        never st st3 m more (taken st m _ _ _ p.0) (more_view v m more one) (λ e u. both_ways (untimely st3 more) u.in_turn (no_turn e)),
      )
