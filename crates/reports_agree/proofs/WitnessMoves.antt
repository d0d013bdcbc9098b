-- A history told by its moves: a move says which board is called and what it is given; the definitions compute which step that is, and the boards after it.
-- Tests that compute say whether moves may be made one after another, and whether each is vouched for. Where they say yes, the moves lead to a history that the theorem asks for.
use Rattle.std.proofs.Common.{◌≡◌, ℕ, ◌<◌, Bool, true, false, not, ◌&&◌, ◌||◌, eqb, ltb, List, [], ◌∷◌, length, set, replicate, Some, None, Ok, Option, sym, refl, ap, ◌∙◌, subst, inl, inr, ⊎_elim}
use Rattle.std.specs.Prelude.{is_none}
use Rattle.std.proofs.lemmas.Bool.{and_from, and_parts, or_left, or_right, not_from_true, not_from_false, not-true, cond-false, eqb-true, ltb-true, cases_Bool, or_cases, both_ways}
use Rattle.boards.specs.Boards.{member}
use Rattle.boards.proofs.Members.{member_none}
use Rattle.boards.proofs.Chosen.{every_true}
use Rattle.codes.specs.declared.Refusal.{Refusal}
use Rattle.schemes.specs.Meaning.{sized, Signed as SignedGood}
use Rattle.wire.specs.Messages.{Msg, tag_bytes}
use Rattle.wire.specs.Format.{form}
use Rattle.wire.specs.Acts.{Act, Allowed, words, signers, act_of}
use Rattle.wire.proofs.Signs.{signed_allowed}
use Rattle.checks.specs.Checks.{genuine}
use Rattle.row.specs.declared.state.Sent.{Sent}
use Rattle.row.specs.declared.state.State.{State}
use Rattle.row.specs.States.{latest}
use Rattle.row.specs.Refusals.{of_group, hear_refusal, out_refusal}
use Rattle.row.specs.Effects.{Effect, Outcome as RowOutcome, lone, heard, asked_out}
use Rattle.row.specs.Calls.{sent, put_first, Done}
use Rattle.views_agree.specs.Agreement.{Call as GroupCall, Outside, row_of}
use Rattle.views_agree.proofs.Witness.{can_sign}
use Rattle.views_agree.specs.Grounds.{trusting}
use Rattle.delivery.specs.Reports.{Reports, with_out}
use Rattle.delivery.specs.Refusals.{finish_refusal}
use Rattle.delivery.specs.Effects.{Outcome, ending, followed, taken}
use Rattle.delivery.specs.Calls.{report_refusal, report_heard, SignsAllowed}
use Rattle.reports_agree.specs.Agreement.{Call, Step, Boards, reports_of, Leads, Taken, Wrote, Signed, WroteIn, Backs, Vouched, VouchedFor}
use Rattle.reports_agree.proofs.WitnessData.{act_fits, act_allowed, message_fits, message_plain, Plain, false_true, or_second, each_of, each_of_true, same_act, same_words}

-- Over the scheme to which every tag is good any board signs an allowed act, with tag 0.
signs_good : (b : ℕ) (a : Act) → b < 8 → Allowed a → SignedGood (trusting.good tt) (trusting.good tt) false b (words a) 0
signs_good b a low ok =
    let can = can_sign b a low ok in
    let parts = and_parts (ltb b 8) (sized (words a)) can in
    record {
      accepted = cond-false (not (ltb b 8)) _ _ (not_from_true _ parts.0) ∙ cond-false (not (sized (words a))) _ _ (not_from_true _ parts.1);
      fresh = can;
      kept = λ c w t h. h;
      only = λ c w t h. inl h;
    }

-- A formed message without a proof is genuine.
all_good : (m : Msg) → Plain m → genuine (trusting.good tt) m ≡ true
all_good m p = and_from _ _
    (every_true _ 8 (λ b l. ⊎_elim (λ i. or_right _ _ (can_sign b (act_of m b) l (signed_allowed m b p.formed i))) (λ o. or_left _ _ (not_from_false _ o)) (cases_Bool (member (signers m) b))))
    (every_true _ 8 (λ b l. or_left _ _ (not_from_false _ (ap (λ s. member s b) p.no_proof ∙ member_none b))))

-- What is offered to each call, and what board b answers and writes for an effect.
abbrev offered : List ℕ
offered = replicate 128 0

abbrev lone_of : ℕ → Act → ℕ → List ℕ → Msg
lone_of b a p acks = lone a b p acks (tag_bytes 0)

pub answer_of : ℕ → Effect → Sent
answer_of b Effect.silent = sent 0 0
answer_of b (Effect.signs to a p acks) = sent to (length (form (lone_of b a p acks)))
answer_of b (Effect.sends to m) = sent to (length (form m))

pub written_of : ℕ → Effect → List ℕ
written_of b Effect.silent = offered
written_of b (Effect.signs to a p acks) = put_first (form (lone_of b a p acks)) offered
written_of b (Effect.sends to m) = put_first (form m) offered

-- What is signed, if anything, is an act that the format allows.
abbrev effect_fits : Effect → Bool
effect_fits Effect.silent = true
effect_fits (Effect.signs to a p acks) = act_fits a
effect_fits (Effect.sends to m) = true

effect_allowed : (e : Effect) → effect_fits e ≡ true → SignsAllowed e
effect_allowed Effect.silent h = tt
effect_allowed (Effect.signs to a p acks) h = act_allowed a h
effect_allowed (Effect.sends to m) h = tt

effect_done : (b : ℕ) (e : Effect) → b < 8 → SignsAllowed e → Done trusting b e offered tt (answer_of b e) tt (written_of b e)
unfolding answer_of written_of
effect_done b Effect.silent low ok = (refl, refl, refl)
effect_done b (Effect.signs to a p acks) low ok = record { tag = 0; signed = signs_good b a low ok; posted = record { answer = refl; bytes = refl } }
effect_done b (Effect.sends to m) low ok = (record { answer = refl; bytes = refl }, refl)

wrote : (b to : ℕ) (a : Act) (p : ℕ) (acks : List ℕ) → Wrote b (Ok (answer_of b (Effect.signs to a p acks))) offered (written_of b (Effect.signs to a p acks)) a
unfolding answer_of written_of
wrote b to a p acks = record { sent = _; accepted = refl; to = to; proof = p; acks = acks; tag = 0; posted = record { answer = refl; bytes = refl } }

-- The moves.
pub data Move : Type 0 where
  asks_out : (board change : ℕ) → Move
  hears_group : (board : ℕ) (message : Msg) → Move
  hears_report : (board : ℕ) (message : Msg) → Move
  finishes : (board : ℕ) → Move
  takes : (board : ℕ) → Move

abbrev mover : Move → ℕ
mover (Move.asks_out b c) = b
mover (Move.hears_group b m) = b
mover (Move.hears_report b m) = b
mover (Move.finishes b) = b
mover (Move.takes b) = b

abbrev row_at : Boards → ℕ → State
row_at w b = row_of w.rows b

-- The step that a move is at these boards, what it signs or sends, what stands against it, and the boards after it.
abbrev group_step : ℕ → GroupCall → RowOutcome → State → Reports → Step
group_step b c o st d =
    Step.of_group
    (record { board = b; call = c; answer = Ok (answer_of b o.1); offered = offered; written = written_of b o.1; before = st; after = o.0 })
    d (followed (latest st) o.0 d)

abbrev report_step : ℕ → Call → Outcome → State → Reports → Step
report_step b c o st d =
    Step.of_reports (record { board = b; call = c; answer = Ok (answer_of b o.1); offered = offered; written = written_of b o.1; row = st; before = d; after = o.0 })

abbrev step_of : Boards → Move → Step
step_of w (Move.asks_out b c) = group_step b (GroupCall.ask_out c) (asked_out (row_at w b) c) (row_at w b) (reports_of w b)
step_of w (Move.hears_group b m) = group_step b (GroupCall.hear m) (heard (row_at w b) m) (row_at w b) (reports_of w b)
step_of w (Move.hears_report b m) = report_step b (Call.hear m) (report_heard (row_at w b) (reports_of w b) m) (row_at w b) (reports_of w b)
step_of w (Move.finishes b) = report_step b Call.finish (ending (row_at w b) (reports_of w b)) (row_at w b) (reports_of w b)
step_of w (Move.takes b) = Step.takes b (taken (reports_of w b).out) (reports_of w b) (with_out (reports_of w b) None)

abbrev effect_of : Boards → Move → Effect
effect_of w (Move.asks_out b c) = (asked_out (row_at w b) c).1
effect_of w (Move.hears_group b m) = (heard (row_at w b) m).1
effect_of w (Move.hears_report b m) = (report_heard (row_at w b) (reports_of w b) m).1
effect_of w (Move.finishes b) = (ending (row_at w b) (reports_of w b)).1
effect_of w (Move.takes b) = Effect.silent

abbrev why_not : Boards → Move → Option Refusal
why_not w (Move.asks_out b c) = out_refusal (row_at w b) c 128 false
why_not w (Move.hears_group b m) = hear_refusal (row_at w b) m 128 true false
why_not w (Move.hears_report b m) = report_refusal (row_at w b) (reports_of w b) m 128 true false
why_not w (Move.finishes b) = finish_refusal (row_at w b) (reports_of w b) 128 false
why_not w (Move.takes b) = None

abbrev group_after : Boards → ℕ → State → Boards
group_after w b st = record { rows = set w.rows b st; reports = set w.reports b (followed (latest (row_at w b)) st (reports_of w b)) }

abbrev reports_after : Boards → ℕ → Reports → Boards
reports_after w b d = record { rows = w.rows; reports = set w.reports b d }

abbrev after : Boards → Move → Boards
after w (Move.asks_out b c) = group_after w b (asked_out (row_at w b) c).0
after w (Move.hears_group b m) = group_after w b (heard (row_at w b) m).0
after w (Move.hears_report b m) = reports_after w b (report_heard (row_at w b) (reports_of w b) m).0
after w (Move.finishes b) = reports_after w b (ending (row_at w b) (reports_of w b)).0
after w (Move.takes b) = reports_after w b (with_out (reports_of w b) None)

-- A move may be made: its board is not faulty, nothing stands against it, and what is heard and what is signed fit the format.
abbrev heard_fits : Move → Bool
heard_fits (Move.hears_group b m) = of_group m && message_fits m
heard_fits (Move.hears_report b m) = not (of_group m) && message_fits m
heard_fits m = true

abbrev at_home : ℕ → State → ℕ → Bool
at_home f st b = ltb b 8 && (not (member f b) && eqb st.board b)

abbrev may : ℕ → Boards → Move → Bool
may f w m = heard_fits m && (at_home f (row_at w (mover m)) (mover m) && (is_none (why_not w m) && effect_fits (effect_of w m)))

record Made (f : ℕ) (w : Boards) (m : Move) : Type 0 where
  fits : heard_fits m ≡ true
  outside : Outside f (mover m)
  nothing : why_not w m ≡ None
  done : Done trusting (row_at w (mover m)).board (effect_of w m) offered tt (answer_of (mover m) (effect_of w m)) tt (written_of (mover m) (effect_of w m))
  allowed : SignsAllowed (effect_of w m)

none_true : {A : Type 0} (o : Option A) → is_none o ≡ true → o ≡ None
none_true None h = refl
none_true (Some x) h = cc

may_true : (f : ℕ) (w : Boards) (m : Move) → may f w m ≡ true → Made f w m
may_true f w m h =
    let b = mover m in
    let e = effect_of w m in
    let p = and_parts (heard_fits m) _ h in
    let q = and_parts (at_home f (row_at w b) b) _ p.1 in
    let x = and_parts (ltb b 8) _ q.0 in
    let y = and_parts (not (member f b)) (eqb (row_at w b).board b) x.1 in
    let r = and_parts (is_none (why_not w m)) (effect_fits e) q.1 in
    let low : b < 8 = ltb-true b 8 x.0 in
    let ok : SignsAllowed e = effect_allowed e r.1 in
    record {
      fits = p.0;
      outside = (low, not-true (member f b) y.0);
      nothing = none_true (why_not w m) r.0;
      done = subst (λ k. Done trusting k e offered tt (answer_of b e) tt (written_of b e)) (sym (eqb-true (row_at w b).board b y.1)) (effect_done b e low ok);
      allowed = ok;
    }

move_taken : (f : ℕ) (w : Boards) (m : Move) → Made f w m → Taken trusting f (step_of w m) w (after w m)
move_taken f w (Move.asks_out b c) g = record {
  taken = record { outside = g.outside; here = refl; scheme = tt; scheme_after = tt; promised = (g.nothing, refl, g.done); put = refl };
  here = refl;
  follows = refl;
  put = refl;
}
move_taken f w (Move.hears_group b m) g =
    let k = and_parts (of_group m) (message_fits m) g.fits in
    let p = message_plain m k.1 in
    record {
      taken = record {
        outside = g.outside;
        here = refl;
        scheme = tt;
        scheme_after = tt;
        promised = (p.formed, k.0, (subst (λ t. hear_refusal (row_at w b) m 128 t false ≡ None) (sym (all_good m p)) g.nothing, refl, g.done));
        put = refl;
      };
      here = refl;
      follows = refl;
      put = refl;
    }
move_taken f w (Move.hears_report b m) g =
    let k = and_parts (not (of_group m)) (message_fits m) g.fits in
    let p = message_plain m k.1 in
    record {
      outside = g.outside;
      row = refl;
      here = refl;
      scheme = tt;
      scheme_after = tt;
      promised = (p.formed, k.0, (subst (λ t. report_refusal (row_at w b) (reports_of w b) m 128 t false ≡ None) (sym (all_good m p)) g.nothing, refl, g.done, g.allowed));
      rows = refl;
      put = refl;
    }
move_taken f w (Move.finishes b) g =
    record { outside = g.outside; row = refl; here = refl; scheme = tt; scheme_after = tt; promised = (g.nothing, refl, g.done, g.allowed); rows = refl; put = refl }
move_taken f w (Move.takes b) g = record { below = g.outside.0; here = refl; promised = (refl, refl); rows = refl; put = refl }

-- Moves in their turn, made after others; in the result the latest stands first.
abbrev pub in_turn : List Move → List Move → List Move
in_turn [] before = before
in_turn (m ∷ later) before = in_turn later (m ∷ before)

-- Moves, the latest first: the boards after them, their history, and whether each may be made after those before it.
abbrev pub boards_after : Boards → List Move → Boards
boards_after w [] = w
boards_after w (m ∷ ms) = after (boards_after w ms) m

abbrev pub history_of : Boards → List Move → List Step
history_of w [] = []
history_of w (m ∷ ms) = step_of (boards_after w ms) m ∷ history_of w ms

abbrev pub all_may : ℕ → Boards → List Move → Bool
all_may f w [] = true
all_may f w (m ∷ ms) = all_may f w ms && may f (boards_after w ms) m

pub moves_lead : (f : ℕ) (w : Boards) (ms : List Move) → all_may f w ms ≡ true → Leads trusting f w (boards_after w ms) (history_of w ms)
moves_lead f w [] h = Leads.begin
moves_lead f w (m ∷ ms) h =
    let p = and_parts (all_may f w ms) (may f (boards_after w ms) m) h in
    Leads.next (moves_lead f w ms p.0) (step_of (boards_after w ms) m) (move_taken f (boards_after w ms) m (may_true f (boards_after w ms) m p.1))

-- What moves sign, the latest first; and whether one of them signed an act for a board.
pub record Signing : Type 0 where
  pub move : Move
  pub effect : Effect

abbrev pub signings : Boards → List Move → List Signing
signings w [] = []
signings w (m ∷ ms) = record { move = m; effect = effect_of (boards_after w ms) m } ∷ signings w ms

abbrev signs : Effect → Act → Bool
signs Effect.silent a = false
signs (Effect.signs to c p acks) a = same_act a c
signs (Effect.sends to m) a = false

abbrev pub signed_in : List Signing → ℕ → Act → Bool
signed_in [] b a = false
signed_in (s ∷ log) b a = (eqb (mover s.move) b && signs s.effect a) || signed_in log b a

-- A heard message is backed: each of its boards that is not faulty signed what its tag stands for.
abbrev backed : ℕ → List Signing → Msg → Bool
backed f log m = each_of (signers m) (λ b. member f b || signed_in log b (act_of m b))

abbrev move_vouched : ℕ → List Signing → Move → Bool
move_vouched f log (Move.hears_group b m) = backed f log m && message_fits m
move_vouched f log (Move.hears_report b m) = backed f log m && message_fits m
move_vouched f log m = true

abbrev pub all_vouched : ℕ → List Signing → Bool
all_vouched f [] = true
all_vouched f (s ∷ log) = all_vouched f log && move_vouched f log s.move

record Writes (k b : ℕ) (e : Effect) (a : Act) : Type 0 where
  act : Act
  wrote : Wrote b (Ok (answer_of k e)) offered (written_of k e) act
  same : words a ≡ words act

wrote_by : (k b : ℕ) (e : Effect) (a : Act) → k ≡ b → signs e a ≡ true → Writes k b e a
wrote_by k b Effect.silent a here h = false_true h
wrote_by k b (Effect.signs to c p acks) a here h = record {
  act = c;
  wrote = subst (λ x. Wrote x (Ok (answer_of k (Effect.signs to c p acks))) offered (written_of k (Effect.signs to c p acks)) c) here (wrote k to c p acks);
  same = same_words a c h;
}
wrote_by k b (Effect.sends to m) a here h = false_true h

signs_here : (w : Boards) (m : Move) (b : ℕ) (a : Act) → mover m ≡ b → signs (effect_of w m) a ≡ true → (act : Act) × WroteIn (step_of w m) b act × (words a ≡ words act)
signs_here w (Move.asks_out k c) b a here h = let r = wrote_by k b (asked_out (row_at w k) c).1 a here h in (r.act, (here, r.wrote), r.same)
signs_here w (Move.hears_group k m) b a here h = let r = wrote_by k b (heard (row_at w k) m).1 a here h in (r.act, (here, r.wrote), r.same)
signs_here w (Move.hears_report k m) b a here h = let r = wrote_by k b (report_heard (row_at w k) (reports_of w k) m).1 a here h in (r.act, (here, r.wrote), r.same)
signs_here w (Move.finishes k) b a here h = let r = wrote_by k b (ending (row_at w k) (reports_of w k)).1 a here h in (r.act, (here, r.wrote), r.same)
signs_here w (Move.takes k) b a here h = false_true h

pub signed_true : (w : Boards) (ms : List Move) (b : ℕ) (a : Act) → signed_in (signings w ms) b a ≡ true → Signed (history_of w ms) b (words a)
signed_true w [] b a h = false_true h
signed_true w (m ∷ ms) b a h =
    ⊎_elim
    (λ here. let p = and_parts (eqb (mover m) b) (signs (effect_of (boards_after w ms) m) a) here in inl (signs_here (boards_after w ms) m b a (eqb-true (mover m) b p.0) p.1))
    (λ before. inr (signed_true w ms b a before))
    (or_cases (eqb (mover m) b && signs (effect_of (boards_after w ms) m) a) (signed_in (signings w ms) b a) h)

backed_true : (f : ℕ) (w : Boards) (ms : List Move) (m : Msg) → (backed f (signings w ms) m && message_fits m) ≡ true → Backs f (history_of w ms) m (Ok (sent 0 0))
backed_true f w ms m h =
    let p = and_parts (backed f (signings w ms) m) (message_fits m) h in (
      λ b o i. signed_true w ms b (act_of m b) (or_second (member f b) (signed_in (signings w ms) b (act_of m b)) (each_of_true (signers m) _ p.0 b i) o.1),
      λ b o i. absurd (both_ways (member 0 b) (member_none b) (subst (λ s. member s b ≡ true) (message_plain m p.1).no_proof i)),
    )

vouched_here : (f : ℕ) (w v : Boards) (ms : List Move) (m : Move) → move_vouched f (signings w ms) m ≡ true → VouchedFor f (history_of w ms) (step_of v m)
vouched_here f w v ms (Move.asks_out b c) h = tt
vouched_here f w v ms (Move.hears_group b m) h = backed_true f w ms m h
vouched_here f w v ms (Move.hears_report b m) h = backed_true f w ms m h
vouched_here f w v ms (Move.finishes b) h = tt
vouched_here f w v ms (Move.takes b) h = tt

pub moves_vouched : (f : ℕ) (w : Boards) (ms : List Move) → all_vouched f (signings w ms) ≡ true → Vouched f (history_of w ms)
moves_vouched f w [] h = tt
moves_vouched f w (m ∷ ms) h =
    let p = and_parts (all_vouched f (signings w ms)) (move_vouched f (signings w ms) m) h in
    (moves_vouched f w ms p.0, vouched_here f w (boards_after w ms) ms m p.1)
