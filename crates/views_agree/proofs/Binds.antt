-- A ready quorum binds the lower ranks: whatever a rank below it acks is for its change.
-- The board that readied and answered the query tells of the ready, so the lowest rank told lies between, and the acks of that rank are for the same change.
use Rattle.std.proofs.Common.{◌≡◌, ℕ, zero, suc, ◌+◌, ◌<◌, ◌≤◌, true, ap, subst, ⊎_elim, arith}
use Rattle.std.proofs.lemmas.Bool.{cases_order}
use Rattle.boards.specs.Boards.{member}
use Rattle.wire.specs.declared.message.Entry.{Entry}
use Rattle.views_agree.proofs.OneView.{Sound, Acts, Acks, Readies, Lasts, Laws}
use Rattle.views_agree.proofs.Shared.{shared, in_quorum}
use Rattle.views_agree.proofs.OneRank.{one_change_a_rank, ready_acks, rank_at_most}

abbrev pub ReadyBinds : (faulty m : ℕ) → Acts → Type 0
ReadyBinds faulty m a = (k j c d : ℕ) → Readies faulty m a k c → Acks faulty m a j d → j < k → d ≡ c

module _ {faulty m : ℕ} (s : Sound faulty m) (a : Acts) (l : Laws faulty m a) where
  -- Some board of the lasts at a rank below a ready quorum tells of a rank between.
  told_between : (k j c : ℕ) (e : ℕ → Entry) → Readies faulty m a k c → (y : Lasts faulty m a j e) → j < k
      → (b : ℕ) × (member y.set b ≡ true) × (j < (e b).earlier) × ((e b).earlier ≤ k)
  told_between k j c e x y below =
      let r = shared s x y in
      let t = l.last_tells r.board j k c (e r.board) r.outside r.did_second r.did_first below in
      let same = ap (λ (z : Entry). z.earlier) t.2 in
      (r.board, r.in_second, omega (arith, same, t.3), omega (arith, same, t.4))

  -- The ranks below a ready quorum, by how far they are below it.
  binds_within : (far k j c d : ℕ) → k ≤ j + far → Readies faulty m a k c → Acks faulty m a j d → j < k → d ≡ c
  binds_within zero k j c d h x y below = absurd (omega arith)
  binds_within (suc far) k j c d h x y below =
      let r = in_quorum s y in
      let top = rank_at_most s a l k c (ready_acks s a l k c x) in
      ⊎_elim
      (λ t. absurd (omega (arith, t.0, top)))
      (λ t.
      let z = t.1 in
      let u = told_between k j c z.entries x z.lasts below in
      ⊎_elim
      (λ none. absurd (omega (arith, none.0 u.0 u.1, u.2)))
      (λ some.
      let i = some.0 in
      let low : i ≤ k = ⊎_elim (λ n. absurd (omega (arith, n, u.2))) (λ n. omega (arith, n, u.3)) (some.2 u.0 u.1) in
      ⊎_elim
      (λ same. one_change_a_rank s a l k d c (subst (λ n. Acks faulty m a n d) same some.3) (ready_acks s a l k c x))
      (λ differ. binds_within far k i c d (omega (arith, some.1)) x some.3 (⊎_elim (λ n. n) (λ n. absurd (omega (arith, n, low))) differ))
      (cases_order i k))
      z.choice)
      (l.ack_cause r.board j d r.outside r.did_first)

  pub ready_binds : ReadyBinds faulty m a
  ready_binds k j c d x y below = binds_within k k j c d (omega arith) x y below
