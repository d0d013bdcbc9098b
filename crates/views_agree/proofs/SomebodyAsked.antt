-- Somebody asked: a change that a quorum readied was asked for by a member outside the faulty ones.
-- Follow the causes: each proof raises the rank, so the way ends at notifies, or at lasts that tell of nothing and the deputies before them.
use Rattle.std.proofs.Common.{ℕ, zero, suc, ◌+◌, ◌<◌, sym, subst, ⊎_elim, arith}
use Rattle.boards.specs.Boards.{size}
use Rattle.views_agree.proofs.OneView.{Sound, Acts, Acks, Readies, Laws, Somebody}
use Rattle.views_agree.proofs.Shared.{correct_one, in_quorum}
use Rattle.views_agree.proofs.OneRank.{ready_acks, rank_at_most}

abbrev pub SomebodyAsked : (faulty m : ℕ) → Acts → Type 0
SomebodyAsked faulty m a = (k c : ℕ) → Readies faulty m a k c → Somebody faulty m a c

module _ {faulty m : ℕ} (s : Sound faulty m) (a : Acts) (l : Laws faulty m a) where
  -- The cause of acks, by how far their rank is below the highest.
  asked_within : (far k c : ℕ) → size m < k + far → Acks faulty m a k c → Somebody faulty m a c
  asked_within zero k c h x = absurd (omega (arith, rank_at_most s a l k c x))
  asked_within (suc far) k c h x =
      let r = in_quorum s x in
      ⊎_elim
      (λ t.
      let u = correct_one s (omega arith) t.1 in
      record { asker = u.board; within = u.in_second; outside = u.outside; asked = l.notify_cause u.board c u.outside u.did_first })
      (λ t.
      let z = t.1 in
      ⊎_elim
      (λ none.
      let w = in_quorum s z.lasts in
      let y = l.last_cause w.board k (z.entries w.board) w.outside w.did_first in
      let u = correct_one s (omega arith) y in
      record {
        asker = u.board;
        within = u.in_second;
        outside = u.outside;
        asked = subst (a.asked u.board) (sym none.1) (l.deputy_cause u.board k u.outside u.did_first);
      })
      (λ some. asked_within far some.0 c (omega (arith, some.1)) some.3)
      z.choice)
      (l.ack_cause r.board k c r.outside r.did_first)

  pub somebody_asked : SomebodyAsked faulty m a
  somebody_asked k c x = asked_within (size m + 1) k c (omega arith) (ready_acks s a l k c x)
