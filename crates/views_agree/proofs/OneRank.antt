-- One change a rank: two quorums of acks of the same rank are for the same change.
-- The board that both share acked only once at that rank.
use Rattle.std.proofs.Common.{◌≡◌, ℕ, ◌≤◌, ⊎_elim, arith}
use Rattle.boards.specs.Boards.{size}
use Rattle.views_agree.proofs.OneView.{Sound, Acts, Acks, Readies, Laws}
use Rattle.views_agree.proofs.Shared.{shared, in_quorum}

abbrev pub OneChangeARank : (faulty m : ℕ) → Acts → Type 0
OneChangeARank faulty m a = (k c d : ℕ) → Acks faulty m a k c → Acks faulty m a k d → c ≡ d

module _ {faulty m : ℕ} (s : Sound faulty m) (a : Acts) (l : Laws faulty m a) where
  pub one_change_a_rank : OneChangeARank faulty m a
  one_change_a_rank k c d x y = let r = shared s x y in l.one_ack r.board k c d r.outside r.did_first r.did_second

  -- What a quorum readied a quorum acked.
  pub ready_acks : (k c : ℕ) → Readies faulty m a k c → Acks faulty m a k c
  ready_acks k c x = let r = in_quorum s x in l.ready_cause r.board k c r.outside r.did_first

  -- No rank is above the manager's.
  pub rank_at_most : (k c : ℕ) → Acks faulty m a k c → k ≤ size m
  rank_at_most k c x =
      let r = in_quorum s x in
      ⊎_elim (λ t. omega (arith, t.0)) (λ t. omega (arith, t.0)) (l.ack_cause r.board k c r.outside r.did_first)
