-- A reason that comes before TAG and SPENT is the first one whatever the tags and the scheme are; where there is none, tags and scheme decide.
-- Of a message that is taken no reason holds.
use Rattle.std.proofs.Common.{◌≡◌, ℕ, Bool, true, false, cond, not, ◌&&◌, List, [], ◌∷◌, ◌++◌, Some, None, Option, refl, subst}
use Rattle.codes.specs.declared.Refusal.{Refusal}
use Rattle.codes.specs.declared.Refusal.TheVariants.{Out, View, Member, Change, Turn, Late, Known, Size, Split, Tag, Spent}
use Rattle.schemes.specs.declared.Scheme.{Ghosts}
use Rattle.checks.specs.Checks.{genuine}
use Rattle.wire.specs.declared.message.Body.{Body}
use Rattle.wire.specs.Messages.{Msg, said_in}
use Rattle.row.specs.declared.state.State.{State}
use Rattle.admission.specs.Judged.{Taken}
use Rattle.row.specs.Refusals.{first_of, short, other_view, stranger, barred, untimely, late, known, misfit, split, answered, hear_refusal}

-- Of two lists of reasons the second is asked where no reason of the first holds.
pub early : (rs ss : List (Bool × Refusal)) (e : Refusal) → first_of rs ≡ Some e → first_of (rs ++ ss) ≡ Some e
early [] ss e h = cc
early ((true, d) ∷ rs) ss e h = h
early ((false, d) ∷ rs) ss e h = early rs ss e h

pub then : (rs ss : List (Bool × Refusal)) → first_of rs ≡ None → first_of (rs ++ ss) ≡ first_of ss
then [] ss h = refl
then ((true, d) ∷ rs) ss h = cc
then ((false, d) ∷ rs) ss h = then rs ss h

-- What a message passed that is taken.
pub record Passed (s : State) (m : Msg) (room : ℕ) (genuine spent : Bool) : Type 0 where
  pub roomy : short room ≡ false
  pub here : other_view s m ≡ false
  pub member : stranger s m ≡ false
  pub unbarred : barred s m ≡ false
  pub timely : untimely s m ≡ false
  pub early_enough : late s m ≡ false
  pub new : known s m ≡ false
  pub sized : misfit s m ≡ false
  pub whole : split m ≡ false
  pub good : not genuine ≡ false
  pub unspent : (answered m && spent) ≡ false

-- Where no reason holds, the first of them does not, nor any after it.
pub unheld : (b : Bool) (e : Refusal) (x : Option Refusal) → cond b (Some e) x ≡ None → (b ≡ false) × (x ≡ None)
unheld true e x h = (cc, cc)
unheld false e x h = (refl, h)

pub passed : (s : State) (m : Msg) (room : ℕ) (genuine spent : Bool) → hear_refusal s m room genuine spent ≡ None → Passed s m room genuine spent
passed s m room genuine spent h =
    let p0 = unheld (short room) Out _ h in
    let p1 = unheld (other_view s m) View _ p0.1 in
    let p2 = unheld (stranger s m) Member _ p1.1 in
    let p3 = unheld (barred s m) Change _ p2.1 in
    let p4 = unheld (untimely s m) Turn _ p3.1 in
    let p5 = unheld (late s m) Late _ p4.1 in
    let p6 = unheld (known s m) Known _ p5.1 in
    let p7 = unheld (misfit s m) Size _ p6.1 in
    let p8 = unheld (split m) Split _ p7.1 in
    let p9 = unheld (not genuine) Tag _ p8.1 in
    let p10 = unheld (answered m && spent) Spent _ p9.1 in
    record {
      roomy = p0.0;
      here = p1.0;
      member = p2.0;
      unbarred = p3.0;
      timely = p4.0;
      early_enough = p5.0;
      new = p6.0;
      sized = p7.0;
      whole = p8.0;
      good = p9.0;
      unspent = p10.0;
    }

module _ {S : Type 0} (g : Ghosts S) where
  pub passes : (st : State) (s : S) (m : Msg) (room : ℕ) → Taken g st s m room → Passed st m room (genuine (g.good s) m) (g.spent s)
  passes st s m room t = passed st m room (genuine (g.good s) m) (g.spent s) t.unrefused

  -- A message that is taken is taken by any name of its body.
  pub taken_as : (st : State) (s : S) (v : ℕ) (x y : Body) (room : ℕ) → x ≡ y → Taken g st s (said_in v x) room → Taken g st s (said_in v y) room
  taken_as st s v x y room e t = subst (λ z. Taken g st s (said_in v z) room) e t
