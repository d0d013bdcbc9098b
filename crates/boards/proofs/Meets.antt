-- Sets of boards that are large enough meet outside a given set: the counting behind every quorum.
-- One law, `overlap`; the two theorems are cases of it.
use Rattle.std.proofs.Common.{◌≡◌, ℕ, zero, suc, ◌+◌, ◌<◌, ◌≤◌, Bool, true, false, not, ◌&&◌, sym, refl, ap, arith}
use lib.Bits.{bit_and}
use Rattle.std.proofs.lemmas.Bool.{and_parts, not-true, true≢false}
use Rattle.boards.specs.Boards.{member, one, tally, size, Within, Meet, QuorumsMeet, OneIsCorrect}
use Rattle.boards.proofs.Members.{member_and}
use Rattle.boards.proofs.Counts.{tally_some}

-- One board: it is in both sets no oftener than in v, in f and v, and in both outside f.
step : (a b f v : Bool) → (a ≡ true → v ≡ true) → (b ≡ true → v ≡ true) → one a + one b ≤ one v + one (f && v) + one (a && (b && not f))
step true true true true p q = omega arith
step true true false true p q = omega arith
step true b f false p q = absurd (true≢false (sym (p refl)))
step true false true true p q = omega arith
step true false false true p q = omega arith
step false true true true p q = omega arith
step false true false true p q = omega arith
step false true f false p q = absurd (true≢false (sym (q refl)))
step false false f v p q = omega arith

-- The boards below n.
counts : (A B F V W : ℕ → Bool) (n : ℕ) → ((k : ℕ) → k < n → A k ≡ true → V k ≡ true) → ((k : ℕ) → k < n → B k ≡ true → V k ≡ true) → ((k : ℕ) → W k ≡ (F k && V k)) → tally A n + tally B n ≤ tally V n + tally W n + tally (λ k. A k && (B k && not (F k))) n
unfolding tally
counts A B F V W zero p q w = omega arith
counts A B F V W (suc n) p q w =
    let ih = counts A B F V W n (λ k h. p k (omega arith)) (λ k h. q k (omega arith)) w in
    let s = step (A n) (B n) (F n) (V n) (p n (omega arith)) (q n (omega arith)) in
    omega (arith, ih, s, ap one (w n))

-- Two sets of boards of v meet outside f, if together they have more boards than v and the boards of f in v.
pub overlap : (v a b f : ℕ) → Within a v → Within b v → size v + size (bit_and f v) < size a + size b → Meet a b f
unfolding size
overlap v a b f in_a in_b large =
    let c = counts (member a) (member b) (member f) (member v) (member (bit_and f v)) 8 in_a in_b (member_and f v) in
    let r = tally_some (λ k. member a k && (member b k && not (member f k))) 8 0 (omega (arith, c, large)) in
    let e = and_parts _ _ r.2 in
    let e' = and_parts _ _ e.1 in
    (r.0, r.1, e.0, e'.0, not-true _ e'.1)

pub quorums_meet : QuorumsMeet
quorums_meet v a b f q m in_a in_b qa qb few large = overlap v a b f in_a in_b (omega arith)

pub one_is_correct : OneIsCorrect
one_is_correct v a f m in_a few large = let r = overlap v a v f in_a (λ k h e. e) (omega arith) in (r.0, r.1, r.2, r.4)
