-- The history of four steps: an ask-in, a suggest, a proposal and a change, each heard with the tags of board 0.
-- Every fact about its states is a computation.
use Rattle.std.proofs.Common.{◌≡◌, ℕ, zero, suc, ◌*◌, ◌<◌, true, false, not, ltb, List, [], ◌∷◌, length, set, replicate, Some, None, Ok, sym, refl, ap, ◌∙◌, subst, inl, ⊎_elim, arith}
use lib.Bits.{bit_and}
use Rattle.std.specs.List.{AllByRecursion}
use Rattle.std.proofs.lemmas.Bool.{and_from, and_parts, and_left, or_left, or_right, not_from_true, not_from_false, cond-false, eqb-true, lt-ltb, le-leb, cases_Bool, both_ways}
use Rattle.boards.specs.Boards.{member, only, size, tally}
use Rattle.boards.proofs.Members.{member_and, member_none, member_below, member_only}
use Rattle.boards.proofs.Sets.{size_same, size_none}
use Rattle.views.specs.Shares.{share, quorum}
use Rattle.views.specs.Groups.{toggle}
use Rattle.views.specs.Histories.{members_from, members_of, begun, grown}
use Rattle.schemes.specs.Bounds.{signable_says}
use Rattle.schemes.specs.Meaning.{signable, sized, Signed as SignedGood}
use Rattle.grammar.specs.Grammar.{Grammar}
use Rattle.grammar.proofs.Held.{Held, stand}
use Rattle.wire.specs.Fields.{graded, tagged}
use Rattle.wire.specs.Messages.{Msg, tag_bytes}
use Rattle.wire.specs.Format.{Formed, form, message, values, graded_values, set_values}
use Rattle.wire.specs.Acts.{Act, Allowed, words, signers, act_of, proof_of}
use Rattle.wire.proofs.Signs.{signed_allowed, words_long}
use Rattle.row.specs.declared.state.State.{State}
use Rattle.row.specs.States.{highest, set_of, latest_members, the_set, fresh, group, many, manager, seat}
use Rattle.boards.specs.Boards.{any}
use Rattle.row.specs.Refusals.{of_group, hear_refusal}
use Rattle.row.specs.Effects.{Effect, lone, heard, asked_in, passed_on}
use Rattle.checks.specs.Checks.{genuine}
use Rattle.row.specs.Calls.{sent, put_first, Done}
use Rattle.boards.proofs.Chosen.{every_true}
use Rattle.views_agree.specs.Agreement.{Call, Step, row_of, Taken, Leads, Signs, Signed, Bounded, Defines}
use Rattle.views_agree.specs.Grounds.{trusting, SomeChange}
use Rattle.views_agree.proofs.Ranges.{notify_allowed, ack_allowed, ready_allowed}

pub can_sign : (b : ℕ) (a : Act) → b < 8 → Allowed a → signable b (words a) ≡ true
can_sign b a h ok = let l = words_long a ok in and_from _ _ (lt-ltb b 8 h) (and_from _ _ (lt-ltb 0 (length (words a)) (omega (arith, l.0))) (le-leb (length (words a)) 64 (omega (arith, l.1))))

-- Board 0 signs an allowed act.
signs_good : (a : Act) → Allowed a → SignedGood (trusting.good tt) (trusting.good tt) false 0 (words a) 0
signs_good a ok =
    let can = can_sign 0 a (omega arith) ok in
    let long = (and_parts (ltb 0 8) (sized (words a)) can).1 in
    record { accepted = cond-false (not (sized (words a))) _ _ (not_from_true _ long); fresh = can; kept = λ b w t h. h; only = λ b w t h. inl h }

-- A formed message without a proof is genuine.
all_good : (m : Msg) → Formed m → (proof_of m).boards ≡ 0 → genuine (trusting.good tt) m ≡ true
all_good m f none = and_from _ _
    (every_true _ 8 (λ b l. ⊎_elim (λ i. or_right _ _ (can_sign b (act_of m b) l (signed_allowed m b f i))) (λ o. or_left _ _ (not_from_false _ o)) (cases_Bool (member (signers m) b))))
    (every_true _ 8 (λ b l. or_left _ _ (not_from_false _ (ap (λ p. member p b) none ∙ member_none b))))

abbrev offered : List ℕ
offered = replicate 128 0

-- The lone message of board 0 for an act.
abbrev written : Act → Msg
written a = lone a 0 0 [] (tag_bytes 0)

-- A step at board 0 that signs an act.
abbrev signing : Call → State → State → ℕ → Act → Step
signing c before after to a = record { board = 0; call = c; answer = Ok (sent to (length (form (written a)))); offered = offered; written = put_first (form (written a)) offered; before = before; after = after }

signing_signs : (c : Call) (before after : State) (to : ℕ) (a : Act) → Signs (signing c before after to a) (words a)
signing_signs c before after to a = record { sent = _; accepted = refl; to = to; act = a; proof = 0; acks = []; tag = 0; posted = record { answer = refl; bytes = refl }; signed = refl }

-- What signing an act leaves in the scheme and in the bytes.
signing_done : (e : Effect) (board to : ℕ) (a : Act) → e ≡ Effect.signs to a 0 [] → board ≡ 0 → Allowed a
    → Done trusting board e offered tt (sent to (length (form (written a)))) tt (put_first (form (written a)) offered)
signing_done e board to a is here ok =
    subst (λ z. Done trusting board z offered tt (sent to (length (form (written a)))) tt (put_first (form (written a)) offered)) (sym is)
    (subst (λ b. Done trusting b (Effect.signs to a 0 []) offered tt (sent to (length (form (written a)))) tt (put_first (form (written a)) offered)) (sym here)
    (record { tag = 0; signed = signs_good a ok; posted = record { answer = refl; bytes = refl } }))

-- A vote is a step.
vote_taken : (st : State) (m : Msg) (rows : List State) (to : ℕ) (a : Act) → Formed m → of_group m ≡ true → (proof_of m).boards ≡ 0 → hear_refusal st m 128 true false ≡ None
    → (heard st m).1 ≡ Effect.signs to a 0 [] → Allowed a → st.board ≡ 0 → st ≡ row_of rows 0 → Taken trusting 0 (signing (Call.hear m) st (heard st m).0 to a) rows (set rows 0 (heard st m).0)
vote_taken st m rows to a f group proof may does ok board here = record {
  outside = (omega arith, member_none 0);
  here = here;
  scheme = tt;
  scheme_after = tt;
  promised = (f, group, (subst (λ t. hear_refusal st m 128 t false ≡ None) (sym (all_good m f proof)) may, refl, signing_done (heard st m).1 st.board to a does board ok));
  put = refl;
}

-- The messages: to take board 1 in, at rank 1 of view 1, with the tag of board 0.
abbrev tags : List ℕ
tags = replicate 8 0

abbrev the_suggest : Msg
the_suggest = Msg.suggest 1 1 0x80 tags

abbrev the_proposal : Msg
the_proposal = Msg.proposal 1 1 1 0x80 tags

abbrev the_change : Msg
the_change = Msg.change 1 1 1 0x80 tags

zeros_fit : (n : ℕ) → AllByRecursion (λ x. x < 256) (replicate n 0)
zeros_fit zero = tt
zeros_fit (suc n) = (omega arith, zeros_fit n)

one_board : size 0x80 ≡ 1
unfolding size tally member
one_board = refl

tagged_held : Held (tagged Grammar.done) (set_values 0x80 tags) Grammar.done
tagged_held = (refl, omega arith, refl, (ap (λ n. 8 * n) (sym one_board), zeros_fit 8, refl))

graded_held : Held (graded (tagged Grammar.done)) (graded_values 1 1 (set_values 0x80 tags)) Grammar.done
graded_held = (refl, omega arith, refl, (refl, omega arith, refl, (refl, omega arith, refl, tagged_held)))

suggest_formed : Formed the_suggest
suggest_formed = stand message (values the_suggest) Grammar.done (refl, omega arith, refl, (refl, omega arith, refl, (refl, omega arith, refl, (refl, omega arith, refl, tagged_held))))

proposal_formed : Formed the_proposal
proposal_formed = stand message (values the_proposal) Grammar.done (refl, omega arith, refl, (refl, omega arith, refl, graded_held))

change_formed : Formed the_change
change_formed = stand message (values the_change) Grammar.done (refl, omega arith, refl, (refl, omega arith, refl, graded_held))

-- The row of board 0 at the start and after each step that changes it.
abbrev s0 : State
s0 = fresh 0 (begun (the_set 0x80))

abbrev s1 : State
s1 = (heard s0 the_suggest).0

abbrev s2 : State
s2 = (heard s1 the_proposal).0

abbrev s3 : State
s3 = (heard s2 the_change).0

abbrev asks : Step
asks = signing (Call.ask_in 1 (Some 1)) s0 s0 (only (manager s0)) (Act.notify 1 1)

abbrev acks : Step
acks = signing (Call.hear the_suggest) s0 s1 (only (seat (group s0) (many s0))) (Act.ack 1 1 1)

abbrev readies : Step
readies = signing (Call.hear the_proposal) s1 s2 (only (seat (group s1) 1)) (Act.ready 1 1 1)

abbrev changes : Step
changes = record {
  board = 0;
  call = Call.hear the_change;
  answer = Ok (sent (set_of (passed_on s2) 8) (length (form the_change)));
  offered = offered;
  written = put_first (form the_change) offered;
  before = s2;
  after = s3;
}

abbrev row : ℕ → State
row b = fresh b (begun (the_set 0x80))

abbrev start : List State
start = row 0 ∷ row 1 ∷ row 2 ∷ row 3 ∷ row 4 ∷ row 5 ∷ row 6 ∷ row 7 ∷ []

abbrev rows1 : List State
rows1 = set start 0 s0

abbrev rows2 : List State
rows2 = set rows1 0 s1

abbrev rows3 : List State
rows3 = set rows2 0 s2

abbrev rows4 : List State
rows4 = set rows3 0 s3

started : (b : ℕ) → b < 8 → row_of start b ≡ row b
started zero h = refl
started (suc zero) h = refl
started (suc (suc zero)) h = refl
started (suc (suc (suc zero))) h = refl
started (suc (suc (suc (suc zero)))) h = refl
started (suc (suc (suc (suc (suc zero))))) h = refl
started (suc (suc (suc (suc (suc (suc zero)))))) h = refl
started (suc (suc (suc (suc (suc (suc (suc zero))))))) h = refl
started (suc (suc (suc (suc (suc (suc (suc (suc b)))))))) h = absurd (omega arith)

asks_taken : Taken trusting 0 asks start rows1
unfolding begun latest_members members_of members_from highest member
asks_taken = record {
  outside = (omega arith, member_none 0);
  here = refl;
  scheme = tt;
  scheme_after = tt;
  promised = (refl, refl, signing_done (asked_in s0 1).1 0 (only (manager s0)) (Act.notify 1 1) refl refl (notify_allowed 1 (omega arith) (omega arith) 1 (omega arith)));
  put = refl;
}

acks_taken : Taken trusting 0 acks rows1 rows2
unfolding begun latest_members members_of members_from any member size tally share quorum
acks_taken = vote_taken s0 the_suggest rows1 _ (Act.ack 1 1 1) suggest_formed refl refl refl refl (ack_allowed 1 (omega arith) (omega arith) 1 1 (omega arith) (omega arith) (omega arith)) refl refl

readies_taken : Taken trusting 0 readies rows2 rows3
unfolding begun latest_members members_of members_from any member size tally share quorum
readies_taken = vote_taken s1 the_proposal rows2 _ (Act.ready 1 1 1) proposal_formed refl refl refl refl (ready_allowed 1 (omega arith) (omega arith) 1 1 (omega arith) (omega arith) (omega arith)) refl refl

changes_taken : Taken trusting 0 changes rows3 rows4
unfolding begun latest_members members_of members_from any member size tally share quorum
changes_taken = record {
  outside = (omega arith, member_none 0);
  here = refl;
  scheme = tt;
  scheme_after = tt;
  promised = (change_formed, refl, (subst (λ t. hear_refusal s2 the_change 128 t false ≡ None) (sym (all_good the_change change_formed refl)) refl, refl, (record { answer = refl; bytes = refl }, refl)));
  put = refl;
}

board_zero : only 0 ≡ 0x80
unfolding only
board_zero = refl

-- The only board of the set is board 0.
only_zero : (P : ℕ → Type 0) (b : ℕ) → member 0x80 b ≡ true → P 0 → P b
only_zero P b i p =
    let l = member_below 0x80 b i in
    subst P (sym (eqb-true b 0 (sym (member_only 0 b l) ∙ ap (λ s. member s b) board_zero ∙ i))) p

few_faulty : Bounded 0 rows4
few_faulty b x v o d =
    let none : size (bit_and 0 v) ≡ 0 = size_same (bit_and 0 v) 0 (λ k l. member_and 0 v k ∙ and_left (member 0 k) (member v k) (member_none k) ∙ sym (member_none k)) ∙ size_none in
    omega arith

first_view : Defines rows4 0 1 0x80
unfolding begun grown members_of members_from
first_view = (refl, omega (arith, one_board))

second_view : Defines rows4 0 2 0xC0
unfolding begun grown members_of members_from toggle only size tally member
second_view = (refl, omega arith)

no_boards : {A : Type 0} (b : ℕ) → member 0 b ≡ true → A
no_boards b i = absurd (both_ways (member 0 b) (member_none b) i)

pub some_change : SomeChange
some_change = record {
  lawful = λ s b w t h. signable_says b w h;
  start = start;
  rows = rows4;
  history = changes ∷ readies ∷ acks ∷ asks ∷ [];
  started = (omega (arith, one_board), refl, started);
  leads = Leads.next (Leads.next (Leads.next (Leads.next Leads.begin asks asks_taken) acks acks_taken) readies readies_taken) changes changes_taken;
  vouched = (
    (
      (
        (tt, tt),
        ((λ b o i. only_zero (λ d. Signed (asks ∷ []) d (words (Act.notify 1 1))) b i (inl (refl, signing_signs _ _ _ _ (Act.notify 1 1)))), (λ b o i. no_boards b i)),
      ),
      ((λ b o i. only_zero (λ d. Signed (acks ∷ asks ∷ []) d (words (Act.ack 1 1 1))) b i (inl (refl, signing_signs _ _ _ _ (Act.ack 1 1 1)))), (λ b o i. no_boards b i)),
    ),
    ((λ b o i. only_zero (λ d. Signed (readies ∷ acks ∷ asks ∷ []) d (words (Act.ready 1 1 1))) b i (inl (refl, signing_signs _ _ _ _ (Act.ready 1 1 1)))), (λ b o i. no_boards b i)),
  );
  bounded = few_faulty;
  first = first_view;
  second = second_view;
}
