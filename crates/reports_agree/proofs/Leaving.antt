-- Whom a next view leaves out: one board at most. And what a known cut lets through: the cut is the claim of a board that stays.
-- Here alone the argument uses that a view differs from the one before it by one board.
use Rattle.std.proofs.Common.{◌≡◌, ℕ, zero, suc, ◌+◌, ◌<◌, ◌≤◌, Bool, true, false, cond, not, ltb, Some, None, Option, sym, refl, ap, ◌∙◌, ⊎_elim, ◌⊎◌, arith}
use Rattle.std.proofs.lemmas.Bool.{cases_eq, cases_lt, and_parts, and_from, not-true, not_from_false, both_ways, eq-eqb, leb-true, lt-ltb}
use Rattle.boards.specs.Boards.{member}
use Rattle.boards.proofs.Members.{member_below}
use Rattle.views.specs.declared.history.History.{History}
use Rattle.views.specs.Histories.{members_of, change_of}
use Rattle.views.proofs.Groups.{toggle_other}
use Rattle.views.proofs.Histories.{next_view}
use Rattle.row.proofs.Chosen.{highest_passes}
use Rattle.row.specs.declared.state.State.{State}
use Rattle.delivery.specs.Reports.{Reports, claim_of, or_zero, now, sent_end}
use Rattle.delivery.specs.Endings.{stays, is_left_out, left_out, largest, cut, ends_in}
use Rattle.delivery.specs.Refusals.{cut_off, let_through}
use Rattle.reports_agree.proofs.Held.{Stay, Leave}

-- Whoever leaves is the board of the change.
leaver : (h : History) (y s : ℕ) → 1 ≤ y → y < h.latest → is_left_out h y s ≡ true → s ≡ change_of h y
leaver h y s low high e =
    let p = and_parts (member (members_of h y) s) _ (and_parts (ltb y h.latest) _ e).1 in
    ⊎_elim (λ same. same)
    (λ other.
    let still : member (members_of h (y + 1)) s ≡ true = ap (λ v. member v s) (next_view h y low high) ∙ toggle_other (members_of h y) (change_of h y) s other ∙ p.0 in
    absurd (both_ways (member (members_of h (y + 1)) s) (not-true _ p.1) still))
    (cases_eq s (change_of h y))

pub one_leaves : (h : History) (y s : ℕ) → 1 ≤ y → y < h.latest → Leave (members_of h y) (members_of h (y + 1)) s → s ≡ left_out h y
one_leaves h y s low high lv =
    let is : is_left_out h y s ≡ true = and_from (ltb y h.latest) _ (lt-ltb y h.latest high) (and_from (member (members_of h y) s) (not (member (members_of h (y + 1)) s)) lv.0 (not_from_false _ lv.1)) in
    let top = highest_passes (is_left_out h y) 8 s (member_below (members_of h y) s lv.0) is in
    leaver h y s low high is ∙ sym (leaver h y (left_out h y) low high top.1)

-- The largest is one of them.
largest_at : (f : ℕ → ℕ) (n : ℕ) → 1 ≤ largest f n → (k : ℕ) × (f k ≡ largest f n)
unfolding largest
largest_at f zero h = absurd (omega arith)
largest_at f (suc n) h =
    ⊎_elim
    (λ less. let r = largest_at f n (omega arith) in (r.0, omega (arith, r.1)))
    (λ more. (n, omega arith))
    (cases_lt (f n) (largest f n))

claimed_by : (b : Bool) (o : Option ℕ) (q : ℕ) → 1 ≤ q → cond b (or_zero o) 0 ≡ q → (b ≡ true) × (o ≡ Some q)
claimed_by true None q low e = absurd (omega arith)
claimed_by true (Some n) q low e = (refl, ap Some e)
claimed_by false o q low e = absurd (omega arith)

-- What a row that sent its end takes of a board that leaves is within the claim of a board that stays.
pub let_by : (st : State) (d : Reports) (s n : ℕ) → 1 ≤ n → 1 ≤ now d → now d < st.views.latest → (cut_off st d s ≡ false) ⊎ (let_through st d n ≡ true) → sent_end d.own ≡ true
    → Leave (members_of st.views (now d)) (members_of st.views (now d + 1)) s
    → (t q : ℕ) × Stay (members_of st.views (now d)) (members_of st.views (now d + 1)) t × (claim_of d t ≡ Some q) × (n ≤ q)
let_by st d s n some low high cuts ended lv =
    let off : cut_off st d s ≡ true = and_from (sent_end d.own) _ ended (eq-eqb s _ (one_leaves st.views (now d) s low high lv)) in
    let through : let_through st d n ≡ true = ⊎_elim (λ f. absurd (both_ways (cut_off st d s) f off)) (λ t. t) cuts in
    let le : n ≤ cut st.views (now d) d = leb-true n _ (and_parts (ends_in st.views (now d) d) _ through).1 in
    let r = largest_at (λ t. cond (stays st.views (now d) t) (or_zero (claim_of d t)) 0) 8 (omega arith) in
    let c = claimed_by (stays st.views (now d) r.0) (claim_of d r.0) (cut st.views (now d) d) (omega arith) r.1 in
    (r.0, cut st.views (now d) d, and_parts _ _ c.0, c.1, le)
