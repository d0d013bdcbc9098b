-- What every leader keeps of lasts, through other counts and where it stands.
-- Only this file opens `tells` and `proves`.
use Rattle.std.proofs.Common.{◌≡◌, ℕ, zero, suc, ◌<◌, Bool, true, false, cond, not, ◌&&◌, ◌||◌, eqb, ltb, ◌≢◌, List, length, get_or, set, sym, refl, ap, ◌∙◌, ⊎_elim, arith, get_or-set_other, get_or-set_same}
use Rattle.std.proofs.lemmas.Bool.{and_from, and_left, and_parts, both_ways, cases_Bool, cases_eq, cond_both, cond-false, not_from_false, not_from_true, or_parts}
use Rattle.boards.specs.Boards.{member}
use Rattle.boards.proofs.Sets.{with_old, with_new}
use Rattle.wire.specs.declared.message.Entry.{Entry}
use Rattle.wire.specs.Acts.{undercuts}
use Rattle.wire.specs.Messages.{none}
use Rattle.row.specs.declared.state.Count.{Count}
use Rattle.row.specs.declared.state.Leader.{Leader}
use Rattle.row.specs.declared.state.Slot.{Slot}
use Rattle.row.specs.States.{insert, no_count, counted, count_at}
use Rattle.boards.specs.Boards.{every}
use Rattle.row.specs.Rows.{tells, proves, alike, allowed, nothing, tellers}
use Rattle.row.specs.Effects.{told}
use Rattle.boards.proofs.Chosen.{every_true, every_at, every_false}
use Rattle.row.proofs.Picked.{inserted}
use Rattle.counting.specs.Counts.{Tellable}

-- What is told, by the boards that told it, their entries and the lowest.
abbrev tells_by : Count → List Entry → Entry → Bool
tells_by c es low =
    every (λ b. not (member c.set.bits b) || allowed (get_or es b none)) 8
    && (allowed low && alike (nothing low) (every (λ b. not (member c.set.bits b) || nothing (get_or es b none)) 8))

-- A count before that of the lasts changes nothing of what is told.
pub gained_tells : (l : Leader) (i : ℕ) (n : Count) → i < 11 → tells (record { stand = l.stand; counts = set l.counts i n; entries = l.entries; lowest = l.lowest; proof = l.proof }) ≡ tells l
unfolding tells
gained_tells l i n h =
    let ne : 11 ≢ i = omega arith in
    ap (λ (c : Count). tells_by c l.entries l.lowest) (get_or-set_other l.counts i 11 n no_count ne)

-- Whether a board's entry passes, where it told one.
abbrev each : (Entry → Bool) → ℕ → List Entry → ℕ → Bool
each P s es b = not (member s b) || P (get_or es b none)

out_or : (x y : Bool) → x ≡ false → (not x || y) ≡ true
out_or true y e = absurd (both_ways true e refl)
out_or false y e = refl

in_or : (x y : Bool) → y ≡ true → (not x || y) ≡ true
in_or true y e = e
in_or false y e = refl

-- One board more, with an entry that passes, leaves it so that all pass.
more_told : (P : Entry → Bool) (s b : ℕ) (es : List Entry) (e : Entry) → b < length es → P e ≡ true → every (each P s es) 8 ≡ true → every (each P (insert s b) (set es b e)) 8 ≡ true
more_told P s b es e h p all = every_true (each P (insert s b) (set es b e)) 8 (λ k l.
    ⊎_elim
    (λ same. in_or (member (insert s b) k) _ (ap (λ x. P (get_or (set es b e) x none)) same ∙ ap P (get_or-set_same es b e none h) ∙ p))
    (λ ne.
    (λ i. not (sym (with_old s b (insert s b) (inserted s b) k l ne) i) || P (get_or-set_other es b k e none ne i)) ∙ every_at (each P s es) 8 k all l)
    (cases_eq k b))

every_same : (P Q : ℕ → Bool) (n : ℕ) → ((k : ℕ) → k < n → P k ≡ Q k) → every P n ≡ every Q n
unfolding every
every_same P Q zero h = refl
every_same P Q (suc n) h = λ i. every_same P Q n (λ k l. h k (omega arith)) i && h n (omega arith) i

-- A board that was not counted and has nothing to tell changes nothing of whether none has.
none_more : (s b : ℕ) (es : List Entry) (e : Entry) → b < length es → member s b ≡ false → nothing e ≡ true → every (each nothing (insert s b) (set es b e)) 8 ≡ every (each nothing s es) 8
none_more s b es e h out z = every_same (each nothing (insert s b) (set es b e)) (each nothing s es) 8 (λ k l.
    ⊎_elim
    (λ same.
    in_or (member (insert s b) k) _ (ap (λ x. nothing (get_or (set es b e) x none)) same ∙ ap nothing (get_or-set_same es b e none h) ∙ z)
    ∙ sym (out_or (member s k) _ (ap (member s) same ∙ out)))
    (λ ne. λ i. not (sym (with_old s b (insert s b) (inserted s b) k l ne) i) || nothing (get_or-set_other es b k e none ne i))
    (cases_eq k b))

-- A board with an earlier rank to tell is one that has.
some_more : (s b : ℕ) (es : List Entry) (e : Entry) → b < 8 → b < length es → nothing e ≡ false → every (each nothing (insert s b) (set es b e)) 8 ≡ false
some_more s b es e hb h z =
    every_false (each nothing (insert s b) (set es b e)) 8 b hb
    (λ i. not (with_new s b (insert s b) hb (inserted s b) i) || (ap nothing (get_or-set_same es b e none h) ∙ z) i)

lowest_some : (e low : Entry) → nothing e ≡ false → nothing (cond (undercuts e low) e low) ≡ false
lowest_some e low z =
    cond_both (undercuts e low) e low (λ x. nothing x ≡ false) (λ _. z)
    (λ u. (or_parts (eqb low.earlier 0) (ltb e.earlier low.earlier) (sym (ap (λ t. t && (eqb low.earlier 0 || ltb e.earlier low.earlier)) (not_from_false (nothing e) z)) ∙ u)).0)

-- What every leader keeps of lasts, with one last more.
told_tells : (l : Leader) (b t : ℕ) (e : Entry) (p : Count) → length l.counts ≡ 12 → length l.entries ≡ 8 → Tellable l b e p → tells (told l b t e p) ≡ true
unfolding tells
told_tells l b t e p twelve eight h =
    let s = tellers l in
    let es = l.entries in
    let low = l.lowest in
    let low2 = cond (undercuts e low) e low in
    let there : b < length es = omega (arith, eight, h.seated) in
    let old = and_parts _ _ h.told_so in
    let rest = and_parts _ _ old.1 in
    let one : every (each allowed (insert s b) (set es b e)) 8 ≡ true = more_told allowed s b es e there h.fits old.0 in
    let two : allowed low2 ≡ true = cond_both (undercuts e low) e low (λ x. allowed x ≡ true) (λ _. h.fits) (λ _. rest.0) in
    let three : alike (nothing low2) (every (each nothing (insert s b) (set es b e)) 8) ≡ true =
    ⊎_elim
    (λ z. (λ i. alike (nothing (cond-false (undercuts e low) e low (and_left (not (nothing e)) _ (not_from_true (nothing e) z)) i)) (none_more s b es e there h.new z i)) ∙ rest.1)
    (λ z. λ i. alike (lowest_some e low z i) (some_more s b es e h.seated there z i))
    (cases_Bool (nothing e)) in
    ap (λ (c : Count). tells_by c (set es b e) low2) (get_or-set_same l.counts 11 (counted (count_at l Slot.Last) b t) no_count (omega (arith, twelve))) ∙ and_from _ _ one (and_from _ _ two three)

both_shown : (u : Bool) (e low : Entry) (p q : Count) → alike (nothing e) (eqb p.set.bits 0) ≡ true → alike (nothing low) (eqb q.set.bits 0) ≡ true
    → alike (nothing (cond u e low)) (eqb (cond u p q).set.bits 0) ≡ true
both_shown true e low p q x y = x
both_shown false e low p q x y = y

told_proves : (l : Leader) (b t : ℕ) (e : Entry) (p : Count) → Tellable l b e p → proves (told l b t e p) ≡ true
unfolding proves
told_proves l b t e p h = both_shown (undercuts e l.lowest) e l.lowest p l.proof h.shown h.proved_so

-- The same by other names of the place, the count, the entries and whether the entry undercuts the lowest.
pub told_keeps : (l : Leader) (b t : ℕ) (e : Entry) (p : Count) (i : ℕ) (n : Count) (es : List Entry) (u : Bool) → i ≡ 11 → n ≡ counted (count_at l Slot.Last) b t → es ≡ set l.entries b e → u ≡ undercuts e l.lowest
    → length l.counts ≡ 12 → length l.entries ≡ 8 → Tellable l b e p
    → let r : Leader = record { stand = l.stand; counts = set l.counts i n; entries = es; lowest = cond u e l.lowest; proof = cond u p l.proof } in
    (tells r ≡ true) × (proves r ≡ true)
told_keeps l b t e p i n es u ei en ee eu twelve eight h =
    let is : _ ≡ told l b t e p =
    λ j. record { stand = l.stand; counts = set l.counts (ei j) (en j); entries = ee j; lowest = cond (eu j) e l.lowest; proof = cond (eu j) p l.proof } in
    (ap tells is ∙ told_tells l b t e p twelve eight h, ap proves is ∙ told_proves l b t e p h)
