-- Tests that compute, of a given history: what a board delivered and which init it accepted, that it went on from a view, the largest claim of a commit, and that views bear their faulty boards.
-- A test says by `true` that it is so; where it is false nothing is said.
use Rattle.std.proofs.Common.{◌≡◌, ℕ, ◌<◌, ◌≤◌, Bool, true, false, not, ◌&&◌, ◌||◌, eqb, ltb, leb, List, [], ◌∷◌, Some, None, Ok, Err, Option, Result, sym, refl, ap, ◌∙◌, subst, inl, inr, ⊎_elim, arith}
use lib.Bits.{bit_and}
use Rattle.std.specs.Prelude.{max}
use Rattle.std.proofs.lemmas.Bool.{and_parts, both_ways, cases_lt, eqb-true, eq-eqb, leb-true, ltb-true, not-true, or_cases}
use Rattle.boards.specs.Boards.{every, member, size}
use Rattle.boards.proofs.Chosen.{every_at}
use Rattle.boards.proofs.Sets.{size_none}
use Rattle.codes.specs.declared.Refusal.{Refusal}
use Rattle.views.specs.Shares.{share}
use Rattle.views.specs.Histories.{members_of}
use Rattle.views.proofs.Histories.{no_view_past}
use Rattle.wire.specs.Messages.{Msg}
use Rattle.row.specs.declared.state.Sent.{Sent}
use Rattle.row.specs.declared.state.State.{State}
use Rattle.delivery.specs.Reports.{Content, content, claim, or_zero, same_content, Reports, in_view}
use Rattle.views_agree.specs.Agreement.{Accepted, Bounded, row_of}
use Rattle.reports_agree.specs.Agreement.{Call, Event, Step, accepted, Delivers, Delivered, at_board, reports_before, reports_after, WentOnIn, WentOn}
use Rattle.reports_agree.specs.OneBoard.{Echoes}
use Rattle.reports_agree.specs.Grounds.{AcceptedInit}
use Rattle.reports_agree.proofs.WitnessData.{false_true, or_second, same_content_true}

-- A head, of a commit or an init, is this one.
abbrev is_head : (v t n : ℕ) → Content → ℕ → ℕ → ℕ → Content → Bool
is_head v t n d y s i c = eqb y v && (eqb s t && (eqb i n && same_content c d))

head_true : (v t n : ℕ) (d : Content) (y s i : ℕ) (c : Content) → is_head v t n d y s i c ≡ true → (y ≡ v) × (s ≡ t) × (i ≡ n) × (c ≡ d)
head_true v t n d y s i c h =
    let p = and_parts (eqb y v) _ h in
    let q = and_parts (eqb s t) _ p.1 in
    let r = and_parts (eqb i n) (same_content c d) q.1 in
    (eqb-true y v p.0, eqb-true s t q.0, eqb-true i n r.0, same_content_true c d r.1)

abbrev this_commit : ℕ → ℕ → ℕ → Content → Call → Bool
this_commit y s i c (Call.hear (Msg.commit v t n k p a x)) = is_head v t n (content k p) y s i c
this_commit y s i c call = false

this_commit_true : (call : Call) (y s i : ℕ) (c : Content) → this_commit y s i c call ≡ true → Delivers call y s i c
this_commit_true (Call.hear (Msg.commit v t n k p a x)) y s i c h = head_true v t n (content k p) y s i c h
this_commit_true call y s i c h = false_true h

abbrev this_init : ℕ → ℕ → ℕ → Content → Call → Bool
this_init y s i c (Call.hear (Msg.init v t n k p x)) = is_head v t n (content k p) y s i c
this_init y s i c call = false

this_init_true : (call : Call) (y s i : ℕ) (c : Content) → this_init y s i c call ≡ true → Echoes call y s i c
this_init_true (Call.hear (Msg.init v t n k p x)) y s i c h = head_true v t n (content k p) y s i c h
this_init_true call y s i c h = false_true h

-- A call of the delivery layer at board b is accepted, and passes a test; a history has such a call.
abbrev here : ℕ → (Call → Bool) → Event → Bool
here b P e = eqb e.board b && (accepted e.answer && P e.call)

abbrev pub some_call : ℕ → (Call → Bool) → List Step → Bool
some_call b P [] = false
some_call b P (Step.of_group e d d2 ∷ h) = some_call b P h
some_call b P (Step.of_reports e ∷ h) = here b P e || some_call b P h
some_call b P (Step.takes t r d d2 ∷ h) = some_call b P h

accepted_true : (r : Result Sent Refusal) → accepted r ≡ true → Accepted r
accepted_true (Ok a) h = tt
accepted_true (Err e) h = false_true h

here_true : (b : ℕ) (P : Call → Bool) (e : Event) → here b P e ≡ true → (e.board ≡ b) × Accepted e.answer × (P e.call ≡ true)
here_true b P e h =
    let p = and_parts (eqb e.board b) _ h in
    let q = and_parts (accepted e.answer) (P e.call) p.1 in
    (eqb-true e.board b p.0, accepted_true e.answer q.0, q.1)

abbrev pub delivers : List Step → ℕ → ℕ → ℕ → ℕ → Content → Bool
delivers h b y s i c = some_call b (this_commit y s i c) h

pub delivers_true : (h : List Step) (b y s i : ℕ) (c : Content) → delivers h b y s i c ≡ true → Delivered h b y s i c
delivers_true [] b y s i c is = false_true is
delivers_true (Step.of_group e d d2 ∷ h) b y s i c is = delivers_true h b y s i c is
delivers_true (Step.of_reports e ∷ h) b y s i c is =
    ⊎_elim (λ first. let p = here_true b (this_commit y s i c) e first in inl (p.0, p.1, this_commit_true e.call y s i c p.2)) (λ later. inr (delivers_true h b y s i c later))
    (or_cases (here b (this_commit y s i c) e) (delivers h b y s i c) is)
delivers_true (Step.takes t r d d2 ∷ h) b y s i c is = delivers_true h b y s i c is

abbrev pub accepts_init : List Step → ℕ → ℕ → ℕ → ℕ → Content → Bool
accepts_init h b y s i c = some_call b (this_init y s i c) h

pub accepts_init_true : (h : List Step) (b y s i : ℕ) (c : Content) → accepts_init h b y s i c ≡ true → AcceptedInit h b y s i c
accepts_init_true [] b y s i c is = false_true is
accepts_init_true (Step.of_group e d d2 ∷ h) b y s i c is = accepts_init_true h b y s i c is
accepts_init_true (Step.of_reports e ∷ h) b y s i c is =
    ⊎_elim (λ first. let p = here_true b (this_init y s i c) e first in inl (p.0, p.1, this_init_true e.call y s i c p.2)) (λ later. inr (accepts_init_true h b y s i c later))
    (or_cases (here b (this_init y s i c) e) (accepts_init h b y s i c) is)
accepts_init_true (Step.takes t r d d2 ∷ h) b y s i c is = accepts_init_true h b y s i c is

-- The reports of board b left view y.
abbrev over_in : Reports → Reports → ℕ → Bool
over_in d d2 y = in_view d.view y && not (in_view d2.view y)

abbrev goes_on_in : Step → ℕ → ℕ → Bool
goes_on_in e b y = eqb (at_board e) b && over_in (reports_before e) (reports_after e) y

abbrev pub goes_on : List Step → ℕ → ℕ → Bool
goes_on [] b y = false
goes_on (e ∷ h) b y = goes_on_in e b y || goes_on h b y

view_true : (o : Option ℕ) (y : ℕ) → in_view o y ≡ true → o ≡ Some y
view_true None y h = false_true h
view_true (Some z) y h = ap Some (sym (eqb-true y z h))

goes_on_in_true : (e : Step) (b y : ℕ) → goes_on_in e b y ≡ true → WentOnIn e b y
goes_on_in_true e b y h =
    let d = reports_before e in
    let d2 = reports_after e in
    let p = and_parts (eqb (at_board e) b) (over_in d d2 y) h in
    let q = and_parts (in_view d.view y) (not (in_view d2.view y)) p.1 in
    (eqb-true (at_board e) b p.0, view_true d.view y q.0, λ stays. both_ways (in_view d2.view y) (not-true (in_view d2.view y) q.1) (ap (λ o. in_view o y) stays ∙ eq-eqb y y refl))

pub goes_on_true : (h : List Step) (b y : ℕ) → goes_on h b y ≡ true → WentOn h b y
goes_on_true [] b y is = false_true is
goes_on_true (e ∷ h) b y is = ⊎_elim (λ first. inl (goes_on_in_true e b y first)) (λ later. inr (goes_on_true h b y later)) (or_cases (goes_on_in e b y) (goes_on h b y) is)

-- The largest claim of a commit.
abbrev claim_heard : Call → ℕ
claim_heard (Call.hear (Msg.commit v t n k p a x)) = or_zero (claim (content k p))
claim_heard call = 0

abbrev pub largest_claim : List Step → ℕ
largest_claim [] = 0
largest_claim (Step.of_group e d d2 ∷ h) = largest_claim h
largest_claim (Step.of_reports e ∷ h) = max (largest_claim h) (claim_heard e.call)
largest_claim (Step.takes t r d d2 ∷ h) = largest_claim h

claimed_here : (call : Call) (y s i m : ℕ) (c : Content) → Delivers call y s i c → claim c ≡ Some m → m ≤ claim_heard call
claimed_here (Call.hear (Msg.commit v t n k p a x)) y s i m c h is =
    let e : m ≡ or_zero (claim (content k p)) = sym (ap or_zero is) ∙ ap (λ d. or_zero (claim d)) h.3 in omega (arith, e)
claimed_here call y s i m c h is = absurd h

pub claimed_most : (h : List Step) (b y s i m : ℕ) (c : Content) → Delivered h b y s i c → claim c ≡ Some m → m ≤ largest_claim h
claimed_most [] b y s i m c d is = absurd d
claimed_most (Step.of_group e f g ∷ h) b y s i m c d is = claimed_most h b y s i m c d is
claimed_most (Step.of_reports e ∷ h) b y s i m c d is =
    ⊎_elim (λ first. let l = claimed_here e.call y s i m c first.2 is in omega (arith, l)) (λ later. let l = claimed_most h b y s i m c later is in omega (arith, l)) d
claimed_most (Step.takes t r f g ∷ h) b y s i m c d is = claimed_most h b y s i m c d is

-- Boards outside the faulty ones define fewer than n views, and each of these bears its faulty boards.
abbrev bears : ℕ → ℕ → Bool
bears f v = leb (size (bit_and f v)) (share (size v))

abbrev row_bears : ℕ → ℕ → State → Bool
row_bears f n st = ltb st.views.latest n && every (λ x. bears f (members_of st.views x)) n

abbrev pub all_bear : ℕ → ℕ → List State → Bool
all_bear f n rows = every (λ b. member f b || row_bears f n (row_of rows b)) 8

pub bounded_true : (f n : ℕ) (rows : List State) → all_bear f n rows ≡ true → Bounded f rows
bounded_true f n rows h b x v o d =
    let st = row_of rows b in
    let p = and_parts (ltb st.views.latest n) _ (or_second (member f b) (row_bears f n st) (every_at _ 8 b h o.0) o.1) in
    let few : st.views.latest < n = ltb-true st.views.latest n p.0 in
    ⊎_elim (λ low. subst (λ z. size (bit_and f z) ≤ share (size z)) d.0 (leb-true _ _ (every_at _ n x p.1 low)))
    (λ high. let none : size v ≡ 0 = ap size (sym d.0 ∙ no_view_past st.views x (omega arith)) ∙ size_none in absurd (omega (arith, none, d.1)))
    (cases_lt x n)
