-- What a call that was not refused says: none of the reasons in its list holds.
-- Only what the argument rests on is drawn from the lists; that the tags are good is drawn for its callers, and is no part of it.
use Rattle.std.proofs.Common.{◌≡◌, ℕ, ◌<◌, Bool, true, false, not, ◌&&◌, ◌||◌, eqb, leb, ◌++◌, None, Option, ⊎_elim}
use Rattle.std.proofs.lemmas.Bool.{or_parts, and_cases, not-false, eqb-true, eqb-false, leb-false, both_ways}
use Rattle.boards.specs.Boards.{member, Within}
use Rattle.wire.specs.Messages.{Msg, view_of}
use Rattle.row.specs.declared.state.State.{State}
use Rattle.row.specs.States.{latest, group, many, inside}
use Rattle.row.specs.Refusals.{strays, empties, stranger, barred, late, misfit, fit_reasons, seal_reasons, hear_refusal, out_refusal, in_refusal}
use Rattle.boards.proofs.Chosen.{any_none}
use Rattle.row_laws.proofs.Calls.{goes_on, none_holds}

-- A message was heard at a row.
pub record TakenUp (s : State) (m : Msg) : Type 0 where
  pub now : view_of m ≡ latest s
  pub known : stranger s m ≡ false
  pub may : barred s m ≡ false
  pub timely : late s m ≡ false
  pub fits : misfit s m ≡ false

pub taken_up : (s : State) (m : Msg) (room : ℕ) (genuine spent : Bool) → hear_refusal s m room genuine spent ≡ None → TakenUp s m
taken_up s m room genuine spent h =
    let none = none_holds (fit_reasons s m room ++ seal_reasons m genuine spent) h in
    record { now = eqb-true _ _ (not-false _ (none 1)); known = none 2; may = none 3; timely = none 5; fits = none 7 }

-- Every tag of a message that was heard is good.
pub was_genuine : (s : State) (m : Msg) (room : ℕ) (genuine spent : Bool) → hear_refusal s m room genuine spent ≡ None → genuine ≡ true
was_genuine s m room genuine spent h = not-false genuine (none_holds (fit_reasons s m room ++ seal_reasons m genuine spent) h 9)

-- A board was asked out.
pub record AskedOut (s : State) (c : ℕ) : Type 0 where
  pub board : c < 8
  pub within : inside s ≡ true
  pub other : c ≡ s.board → ⊥

pub asked_out_when : (s : State) (c room : ℕ) (spent : Bool) → out_refusal s c room spent ≡ None → AskedOut s c
asked_out_when s c room spent h =
    let board = goes_on _ _ _ h in
    let out = goes_on _ _ _ board.1 in
    let member = goes_on _ _ _ out.1 in
    let change = goes_on _ _ _ member.1 in
    record {
      board = leb-false 8 c board.0;
      within = not-false _ member.0;
      other = eqb-false c s.board (or_parts _ _ (or_parts (leb 64 (latest s)) _ change.0).1).1;
    }

-- A board was asked in.
pub record AskedInWhen (s : State) (c : ℕ) : Type 0 where
  pub board : c < 8
  pub within : inside s ≡ true

pub asked_in_when : (s : State) (c : ℕ) (y : Option ℕ) (room : ℕ) (spent : Bool) → in_refusal s c y room spent ≡ None → AskedInWhen s c
asked_in_when s c y room spent h =
    let board = goes_on _ _ _ h in
    let out = goes_on _ _ _ board.1 in
    let member = goes_on _ _ _ out.1 in
    record { board = leb-false 8 c board.0; within = not-false _ member.0 }

-- A set that does not stray from a view lies in it.
pub not_straying : (a v : ℕ) → strays a v ≡ false → Within a v
not_straying a v h k l i =
    ⊎_elim (λ out. absurd (both_ways (member a k) out i)) (λ n. not-false (member v k) n) (and_cases (member a k) (not (member v k)) (any_none (λ b. member a b && not (member v b)) 8 h k l))

-- A change that is not barred.
pub record OpenChange (s : State) (c : ℕ) : Type 0 where
  pub room : latest s < 64
  pub not_last : many s ≡ 1 → member (group s) c ≡ false

pub open_change : (s : State) (c : ℕ) → (leb 64 (latest s) || empties s c) ≡ false → OpenChange s c
open_change s c h =
    let p = or_parts (leb 64 (latest s)) (empties s c) h in
    record {
      room = leb-false 64 (latest s) p.0;
      not_last = λ one. ⊎_elim (λ no. absurd (eqb-false (many s) 1 no one)) (λ out. out) (and_cases (eqb (many s) 1) (member (group s) c) p.1);
    }
