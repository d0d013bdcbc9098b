-- What the facts that every row keeps say one by one, and what makes them.
-- Only this file opens `keeps`, `tells` and `proves`.
use Rattle.std.proofs.Common.{◌≡◌, ℕ, ◌<◌, ◌≤◌, Bool, true, false, not, ◌||◌, eqb, ltb, leb, Some, None, sym, refl, ap, ◌∙◌, ⊎_elim, arith}
use Rattle.std.proofs.lemmas.Bool.{and_from, and_parts, both_ways, cases_Bool, eq-eqb, eqb-true, eqb-false, leb-true, le-leb, ltb-true, lt-ltb, ne_eqb, not_from_false, not-true, or_cases, or_left, or_right}
use Rattle.boards.specs.Boards.{member, size}
use Rattle.boards.proofs.Members.{member_below}
use Rattle.wire.specs.declared.message.Entry.{Entry}
use Rattle.row.specs.declared.state.Kept.{Kept}
use Rattle.row.specs.declared.state.Voter.{Voter}
use Rattle.row.specs.declared.state.Leader.{Leader}
use Rattle.row.specs.Rows.{alike, allowed, each_told, entry_told, keeps, nothing, proves, shown, tellers, tells}
use Rattle.boards.proofs.Chosen.{every_at, every_true}

-- Two tests that answer alike have one answer.
pub alike_is : (a b : Bool) → alike a b ≡ true → a ≡ b
alike_is true b e = sym e
alike_is false true e = e
alike_is false false e = refl

pub alike_from : (a b : Bool) → a ≡ b → alike a b ≡ true
alike_from true b e = sym e
alike_from false b e = not_from_false b (sym e)

-- A kept proposal has a rank, a board's change, and acks.
pub record Shown (k : Kept) (support : ℕ) : Type 0 where
  pub some : 1 ≤ k.rank
  pub most : k.rank ≤ 8
  pub board : k.change < 8
  pub acks : 0 < size support

pub keeps_shown : (v : Voter) (k : Kept) → keeps v ≡ true → v.kept ≡ Some k → Shown k v.support.set.bits
unfolding keeps
keeps_shown v k e is =
    let s = v.support.set.bits in
    let p = and_parts _ _ (sym (ap (λ o. shown o s) is) ∙ e) in
    let ranks = and_parts _ _ p.0 in
    let rest = and_parts _ _ p.1 in
    let full = eqb-false (size s) 0 (not-true _ rest.1) in
    record {
      some = leb-true 1 k.rank ranks.0;
      most = leb-true k.rank 8 ranks.1;
      board = ltb-true k.change 8 rest.0;
      acks = omega arith;
    }

pub keeps_some : (v : Voter) (k : Kept) → v.kept ≡ Some k → Shown k v.support.set.bits → keeps v ≡ true
unfolding keeps
keeps_some v k is h =
    let s = v.support.set.bits in
    ap (λ o. shown o s) is
    ∙ and_from _ _ (and_from _ _ (le-leb 1 k.rank h.some) (le-leb k.rank 8 h.most))
    (and_from _ _ (lt-ltb k.change 8 h.board) (not_from_false _ (ne_eqb (size s) 0 (λ z. omega (arith, z, h.acks)))))

pub keeps_none : (v : Voter) → v.kept ≡ None → keeps v ≡ true
unfolding keeps
keeps_none v is = ap (λ o. shown o v.support.set.bits) is

-- An allowed entry has an earlier rank up to 8 and a board's change, or neither.
pub record Allowed (e : Entry) : Type 0 where
  pub rank : e.earlier ≤ 8
  pub board : e.change < 8
  pub neither : e.earlier ≡ 0 → e.change ≡ 0

pub allowed_parts : (e : Entry) → allowed e ≡ true → Allowed e
allowed_parts e h =
    let p = and_parts (leb e.earlier 8) _ h in
    let q = and_parts (ltb e.change 8) _ p.1 in
    record {
      rank = leb-true e.earlier 8 p.0;
      board = ltb-true e.change 8 q.0;
      neither = λ z.
          ⊎_elim (λ n. absurd (both_ways _ (not-true _ n) (eq-eqb e.earlier 0 z))) (λ c. eqb-true e.change 0 c) (or_cases _ _ q.1);
    }

pub allowed_from : (e : Entry) → Allowed e → allowed e ≡ true
allowed_from e h =
    and_from _ _ (le-leb e.earlier 8 h.rank)
    (and_from _ _ (lt-ltb e.change 8 h.board)
    (⊎_elim
    (λ z. or_right _ _ (eq-eqb e.change 0 (h.neither (eqb-true e.earlier 0 z))))
    (λ n. or_left _ _ (not_from_false _ n))
    (cases_Bool (eqb e.earlier 0))))

-- What each counted board told passes; what passes for each counted board is told.
pub told_at : (P : Entry → Bool) (l : Leader) (b : ℕ) → each_told P l ≡ true → member (tellers l) b ≡ true → P (entry_told l b) ≡ true
told_at P l b e m =
    ⊎_elim (λ n. absurd (both_ways _ (not-true _ n) m)) (λ y. y) (or_cases _ _ (every_at (λ k. not (member (tellers l) k) || P (entry_told l k)) 8 b e (member_below (tellers l) b m)))

pub told_each : (P : Entry → Bool) (l : Leader) → ((b : ℕ) → member (tellers l) b ≡ true → P (entry_told l b) ≡ true) → each_told P l ≡ true
told_each P l h =
    every_true (λ k. not (member (tellers l) k) || P (entry_told l k)) 8
    (λ k below. ⊎_elim (λ m. or_right _ _ (h k m)) (λ n. or_left _ _ (not_from_false _ n)) (cases_Bool (member (tellers l) k)))

-- The three facts of what is told.
pub record Tells (l : Leader) : Type 0 where
  pub entries : each_told allowed l ≡ true
  pub lowest : allowed l.lowest ≡ true
  pub none : nothing l.lowest ≡ each_told nothing l

pub tells_parts : (l : Leader) → tells l ≡ true → Tells l
unfolding tells
tells_parts l e =
    let p = and_parts (each_told allowed l) _ e in
    let q = and_parts (allowed l.lowest) _ p.1 in
    record { entries = p.0; lowest = q.0; none = alike_is _ _ q.1 }

pub tells_from : (l : Leader) → Tells l → tells l ≡ true
unfolding tells
tells_from l h = and_from _ _ h.entries (and_from _ _ h.lowest (alike_from _ _ h.none))

-- There is no proof exactly if there is no lowest earlier rank.
pub proves_parts : (l : Leader) → proves l ≡ true → nothing l.lowest ≡ eqb l.proof.set.bits 0
unfolding proves
proves_parts l e = alike_is _ _ e

pub proves_from : (l : Leader) → nothing l.lowest ≡ eqb l.proof.set.bits 0 → proves l ≡ true
unfolding proves
proves_from l e = alike_from _ _ e
