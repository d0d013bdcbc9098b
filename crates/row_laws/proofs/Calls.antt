-- What holds of a row that stays, that suspects one board more, and that took a message, holds after every call.
-- A message was taken only if it was of the latest view, in turn and not late.
use Rattle.std.proofs.Common.{◌≡◌, ℕ, zero, suc, Bool, true, false, cond, List, [], ◌∷◌, ◌++◌, get_or, Some, None, Ok, Err, Option, Result, sym, refl, subst}
use Rattle.std.proofs.lemmas.Bool.{eqb-true, not-false}
use Rattle.codes.specs.declared.Refusal.{Refusal}
use Rattle.codes.specs.declared.Refusal.TheVariants.{Late}
use Rattle.schemes.specs.declared.Scheme.{Ghosts}
use Rattle.wire.specs.Messages.{Msg, view_of}
use Rattle.row.specs.declared.state.State.{State}
use Rattle.row.specs.declared.state.Sent.{Sent}
use Rattle.row.specs.States.{latest}
use Rattle.row.specs.Refusals.{first_of, untimely, late, fit_reasons, seal_reasons, hear_refusal}
use Rattle.row.specs.Effects.{Outcome, suspecting, asked_out, asked_in, heard}
use Rattle.row.specs.Calls.{Called}
use Rattle.row_laws.specs.Laws.{Goes}

-- Of a list that gives no answer no reason holds.
pub goes_on : (t : Bool) (e : Refusal) (rest : Option Refusal) → cond t (Some e) rest ≡ None → (t ≡ false) × (rest ≡ None)
goes_on true e rest h = absurd cc
goes_on false e rest h = (refl, h)

pub none_holds : (rs : List (Bool × Refusal)) → first_of rs ≡ None → (i : ℕ) → (get_or rs i (false, Late)).0 ≡ false
none_holds [] h i = refl
none_holds (r ∷ rs) h zero = (goes_on r.0 r.1 (first_of rs) h).0
none_holds (r ∷ rs) h (suc i) = none_holds rs (goes_on r.0 r.1 (first_of rs) h).1 i

-- What a message says that was taken; VIEW, TURN and LATE stand at these places of a hear's reasons.
pub record Taken (st : State) (m : Msg) : Type 0 where
  pub now : view_of m ≡ latest st
  pub in_turn : untimely st m ≡ false
  pub in_time : late st m ≡ false

pub taken : (st : State) (m : Msg) (room : ℕ) (genuine spent : Bool) → hear_refusal st m room genuine spent ≡ None → Taken st m
taken st m room genuine spent h =
    let none = none_holds (fit_reasons st m room ++ seal_reasons m genuine spent) h in
    record { now = eqb-true _ _ (not-false _ (none 1)); in_turn = none 4; in_time = none 5 }

module _ {S : Type 0} (g : Ghosts S) (P : State → State → Type 0) (stays : (st : State) → P st st) where
  after_call : (r : Result Sent Refusal) (why : Option Refusal) (o : Outcome) (st st2 : State) (s s2 : S) (out out2 : List ℕ)
      → Called g why o st s out r st2 s2 out2 → (why ≡ None → P st o.0) → P st st2
  after_call (Ok a) why o st st2 s s2 out out2 p goes = subst (P st) (sym p.1) (goes p.0)
  after_call (Err e) why o st st2 s s2 out out2 p goes = subst (P st) (sym p.1) (stays st)

  pub in_every_call : ((st : State) (c : ℕ) → P st (suspecting st c)) → ((st : State) (m : Msg) → Taken st m → P st (heard st m).0)
      → (st st2 : State) → Goes g st st2 → P st st2
  in_every_call suspects takes st st2 (Goes.asks_out s s2 c out out2 r p) = after_call r _ (asked_out st c) st st2 s s2 out out2 p (λ _. suspects st c)
  in_every_call suspects takes st st2 (Goes.asks_in s s2 c y out out2 r p) = after_call r _ (asked_in st c) st st2 s s2 out out2 p (λ _. stays st)
  in_every_call suspects takes st st2 (Goes.hears s s2 m out out2 r p) =
      after_call r _ (heard st m) st st2 s s2 out out2 p (λ h. takes st m (taken st m _ _ _ h))
