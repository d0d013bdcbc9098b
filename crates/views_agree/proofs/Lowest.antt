-- The lowest earlier rank of replies: no reply has a lower one, and where there is one some reply has it.
-- A rank of 0 is none and never counts.
use Rattle.std.proofs.Common.{◌≡◌, ℕ, zero, suc, ◌<◌, ◌≤◌, eqb, ltb, ◌⊎◌, List, [], ◌∷◌, length, get_or, sym, refl, ◌∙◌, subst, inl, inr, ⊎_elim, arith}
use Rattle.std.proofs.lemmas.Bool.{cond_both, eqb-true, eqb-false, ltb-true, ltb-false, cases_lt}
use Rattle.wire.specs.declared.message.Entry.{Entry}
use Rattle.wire.specs.Messages.{Reply}
use Rattle.wire.specs.Acts.{undercuts, lower, lowest, no_reply}
use Rattle.wire.proofs.Signs.{undercut}

-- An entry tells of no rank, or of one that is not below l's.
abbrev pub Under : Entry → Entry → Type 0
Under l e = (e.earlier ≡ 0) ⊎ ((1 ≤ l.earlier) × (l.earlier ≤ e.earlier))

under_itself : (e : Entry) → Under e e
under_itself e = ⊎_elim (λ some. inr (omega arith, omega arith)) (λ no. inl (omega arith)) (cases_lt 0 e.earlier)

lower_under : (a b : Entry) → Under (lower a b) a × Under (lower a b) b
lower_under a b =
    let x = a.earlier in
    let y = b.earlier in
    undercut (eqb y 0) (eqb x 0) (ltb y x) a b (λ z. Under z a × Under z b) (λ e. (under_itself a, inl (eqb-true y 0 e))) (λ e f. (inl (eqb-true x 0 f), under_itself b))
    (λ e f l.
    let ne = eqb-false y 0 e in
    let lt = ltb-true y x l in
    (inr (omega arith, omega arith), under_itself b))
    (λ e f l.
    let nf = eqb-false x 0 f in
    let le = ltb-false y x l in
    (under_itself a, inr (omega arith, omega arith)))

lower_one : (a b : Entry) → (lower a b ≡ a) ⊎ (lower a b ≡ b)
lower_one a b = cond_both (undercuts b a) b a (λ z. (z ≡ a) ⊎ (z ≡ b)) (λ _. inr refl) (λ _. inl refl)

through : (l k e : Entry) → Under l k → Under k e → Under l e
through l k e p q = ⊎_elim inl (λ t. ⊎_elim (λ no. absurd (omega (arith, t.0))) (λ u. inr (u.0, omega (arith, u.1, t.1))) p) q

pub lowest_under : (es : List Reply) (j : ℕ) → j < length es → Under (lowest es) (get_or es j no_reply).entry
unfolding lowest
lowest_under [] j h = absurd (omega arith)
lowest_under (e ∷ es) zero h = (lower_under e.entry (lowest es)).0
lowest_under (e ∷ es) (suc j) h = through (lower e.entry (lowest es)) (lowest es) (get_or es j no_reply).entry (lower_under e.entry (lowest es)).1 (lowest_under es j (omega arith))

pub lowest_told : (es : List Reply) → 0 < (lowest es).earlier → (j : ℕ) × (j < length es) × ((get_or es j no_reply).entry ≡ lowest es)
unfolding lowest
lowest_told [] h = absurd (omega arith)
lowest_told (e ∷ es) h =
    ⊎_elim (λ this. (0, omega arith, sym this))
    (λ rest. let r = lowest_told es (subst (λ (z : Entry). 0 < z.earlier) rest h) in (suc r.0, omega (arith, r.1), r.2 ∙ sym rest))
    (lower_one e.entry (lowest es))
