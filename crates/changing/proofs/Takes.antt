-- What holds of a change that a row takes: there is room for it, and it leads to a next view.
-- Opens `latest_members`.
use Rattle.std.proofs.Common.{◌≡◌, ℕ, ◌*◌, ◌≤◌, Bool, true, false, ◌&&◌, eqb, leb, Some, None, Ok, Err, Option, Result, List, length, subst, arith}
use Rattle.std.proofs.lemmas.Bool.{eq-eqb, leb-false, ltb-false, or_parts}
use Rattle.boards.specs.Boards.{member, size}
use Rattle.boards.proofs.Sets.{size_le}
use Rattle.codes.specs.declared.Refusal.{Refusal}
use Rattle.grammar.proofs.Held.{held}
use Rattle.views.specs.Histories.{Open, Sound}
use Rattle.views.proofs.Groups.{not_emptied}
use Rattle.schemes.specs.declared.Scheme.{Ghosts}
use Rattle.checks.specs.Checks.{genuine}
use Rattle.wire.specs.declared.message.Body.{Body}
use Rattle.wire.specs.Messages.{Msg, said_in}
use Rattle.wire.specs.Format.{Formed, form}
use Rattle.wire.proofs.Widths.{length_form}
use Rattle.row.specs.declared.state.State.{State}
use Rattle.row.specs.States.{latest_members, latest, group, many}
use Rattle.row.specs.Refusals.{empties, hear_refusal, Unless}
use Rattle.admission.specs.Judged.{Judged, Taken}
use Rattle.admission.proofs.Early.{passes, taken_as}

-- Where no reason stands there is none.
unless_ok : (why : Option Refusal) (r : Result (Unit {0}) Refusal) (u : Unit {0}) → r ≡ Ok u → Unless why r → why ≡ None
unless_ok why (Ok x) u e h = h
unless_ok why (Err x) u e h = cc

and_one : (x y : Bool) → x ≡ true → (x && y) ≡ false → y ≡ false
and_one x y e h = cc

module _ {S : Type 0} (g : Ghosts S) where
  -- A message that is judged to go on is taken, by any name of its body.
  pub goes_on : (st : State) (s : S) (v : ℕ) (x y : Body) (room : ℕ) (r : Result (Unit {0}) Refusal) (u : Unit {0})
      → x ≡ y → r ≡ Ok u → Judged g st s (said_in v x) room (Some r) → Taken g st s (said_in v y) room
  goes_on st s v x y room r u e o j =
      taken_as g st s v x y room e (record { formed = j.0; unrefused = unless_ok _ r u o j.2 })

  pub has_room : (st : State) (s : S) (v k c a : ℕ) (t : List ℕ) (room : ℕ) → Taken g st s (Msg.change v k c a t) room
      → length (form (Msg.change v k c a t)) ≤ room
  has_room st s v k c a t room h =
      let p = passes g st s (Msg.change v k c a t) room h in
      let long : length t ≡ 8 * size a = (held h.formed).3.3.3.3.3.3.0 in
      omega (arith, length_form (Msg.change v k c a t), long, size_le a, ltb-false room 128 p.roomy)

  pub opens : (st : State) (s : S) (v k c a : ℕ) (t : List ℕ) (room : ℕ) → Sound st.views → Taken g st s (Msg.change v k c a t) room → Open st.views c
  unfolding latest_members
  opens st s v k c a t room sound h =
      let p = passes g st s (Msg.change v k c a t) room h in
      let free = or_parts (leb 64 (latest st)) (empties st c) p.unbarred in
      let board = (held h.formed).3.3.3.3.1 in
      let some = sound.peopled st.views.latest sound.counted.2 (omega arith) in
      record {
        board = board;
        room = leb-false 64 (latest st) free.0;
        some = not_emptied (group st) c board some (λ one. and_one (eqb (many st) 1) (member (group st) c) (eq-eqb (many st) 1 one) free.1);
      }
