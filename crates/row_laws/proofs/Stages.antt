-- The stages of a leader in a view: it waits for each kind at one stage, and a full count leads to a later one.
-- Where a row is past the stage of a kind, a message of that kind is out of turn.
use Rattle.std.proofs.Common.{◌≡◌, ℕ, ◌<◌, Bool, true, false, cond, not, ◌&&◌, refl, arith}
use Rattle.std.proofs.lemmas.Bool.{and_parts, not-false, true_from_ne_false}
use Rattle.wire.specs.Messages.{Msg}
use Rattle.row.specs.declared.state.Stand.{Stand}
use Rattle.row.specs.declared.state.Stand.TheVariants.{Idle, Acks, Readies, Lasts, Done}
use Rattle.row.specs.declared.state.Leader.{Leader}
use Rattle.row.specs.declared.state.State.{State}
use Rattle.row.specs.States.{is_idle, awaits_acks, awaits_readies, awaits_lasts, with_leader}
use Rattle.row.specs.Refusals.{untimely}
use Rattle.row.specs.Effects.{Effect, Outcome, heard}
use Rattle.row_laws.specs.Laws.{OneMore}

abbrev pub stage : Stand → ℕ
stage Idle = 0
stage Lasts = 1
stage (Acks c) = 2
stage (Readies c) = 3
stage Done = 4

-- Who waits for a kind is at its stage.
pub idle : (w : Stand) → is_idle w ≡ true → stage w ≡ 0
idle Idle h = refl
idle (Acks c) h = absurd cc
idle (Readies c) h = absurd cc
idle Lasts h = absurd cc
idle Done h = absurd cc

pub lasts : (w : Stand) → awaits_lasts w ≡ true → stage w ≡ 1
lasts Idle h = absurd cc
lasts (Acks c) h = absurd cc
lasts (Readies c) h = absurd cc
lasts Lasts h = refl
lasts Done h = absurd cc

pub acks : (d : ℕ) (w : Stand) → awaits_acks d w ≡ true → stage w ≡ 2
acks d Idle h = absurd cc
acks d (Acks c) h = refl
acks d (Readies c) h = absurd cc
acks d Lasts h = absurd cc
acks d Done h = absurd cc

pub readies : (d : ℕ) (w : Stand) → awaits_readies d w ≡ true → stage w ≡ 3
readies d Idle h = absurd cc
readies d (Acks c) h = absurd cc
readies d (Readies c) h = refl
readies d Lasts h = absurd cc
readies d Done h = absurd cc

-- The stage of a kind.
abbrev pub due : {v : ℕ} {m more : Msg} → OneMore v m more → ℕ
due (OneMore.notify c b d e t u) = 0
due (OneMore.ack k c b j d e t u) = 2
due (OneMore.ready k c b j d e t u) = 3
due (OneMore.deputy k b j e t u) = 0
due (OneMore.last k b j e p q r w t u) = 1

pub waits : (here waiting : Bool) → not (here && waiting) ≡ false → waiting ≡ true
waits here waiting h = (and_parts here waiting (not-false (here && waiting) h)).1

-- A message in turn finds the row at the stage of its kind.
at_stage : {v : ℕ} {m more : Msg} (o : OneMore v m more) (st : State) → untimely st more ≡ false → stage st.leader.stand ≡ due o
at_stage (OneMore.notify c b d e t u) st h = idle st.leader.stand (waits _ _ h)
at_stage (OneMore.ack k c b j d e t u) st h = acks d st.leader.stand (waits _ _ h)
at_stage (OneMore.ready k c b j d e t u) st h = readies d st.leader.stand (waits _ _ h)
at_stage (OneMore.deputy k b j e t u) st h = idle st.leader.stand (waits _ _ h)
at_stage (OneMore.last k b j e p q r w t u) st h = lasts st.leader.stand (waits _ _ h)

-- The row is past a stage.
pub record Past (n : ℕ) (st : State) : Type 0 where
  pub up : n < stage st.leader.stand

pub out_of_turn : {v : ℕ} {m more : Msg} (o : OneMore v m more) (st : State) → Past (due o) st → untimely st more ≡ true
out_of_turn o st p = true_from_ne_false _ (λ h. absurd (omega (arith, p.up, at_stage o st h)))

-- What sends was filled: the row then stands as it does at a full count.
full : (n : ℕ) (t : Bool) (st : State) (l l2 : Leader) (e : Effect) (to : ℕ) (sent : Msg) → n < stage l2.stand
    → (cond {A = Outcome} t (with_leader st l2, e) (with_leader st l, Effect.silent)).1 ≡ Effect.sends to sent
    → Past n (cond {A = Outcome} t (with_leader st l2, e) (with_leader st l, Effect.silent)).0
full n true st l l2 e to sent up h = record { up = up }
full n false st l l2 e to sent up h = absurd cc

pub past : {v : ℕ} {m more : Msg} (o : OneMore v m more) (st : State) (to : ℕ) (sent : Msg) → (heard st m).1 ≡ Effect.sends to sent → Past (due o) (heard st m).0
past (OneMore.notify c b d e t u) st to sent = full 0 _ st _ _ _ to sent (omega arith)
past (OneMore.ack k c b j d e t u) st to sent = full 2 _ st _ _ _ to sent (omega arith)
past (OneMore.ready k c b j d e t u) st to sent = full 3 _ st _ _ _ to sent (omega arith)
past (OneMore.deputy k b j e t u) st to sent = full 0 _ st _ _ _ to sent (omega arith)
past (OneMore.last k b j e p q r w t u) st to sent = full 1 _ st _ _ _ to sent (omega arith)
