-- One change a view: two quorums of readies, of whatever ranks, are for the same change.
-- At the same rank by its acks, else the higher one binds the lower.
use Rattle.std.proofs.Common.{◌≡◌, ℕ, sym, subst, ⊎_elim}
use Rattle.std.proofs.lemmas.Bool.{cases_order}
use Rattle.views_agree.proofs.OneView.{Sound, Acts, Acks, Readies, Laws}
use Rattle.views_agree.proofs.OneRank.{one_change_a_rank, ready_acks}
use Rattle.views_agree.proofs.Binds.{ready_binds}

abbrev pub OneChange : (faulty m : ℕ) → Acts → Type 0
OneChange faulty m a = (k j c d : ℕ) → Readies faulty m a k c → Readies faulty m a j d → c ≡ d

pub one_change : {faulty m : ℕ} → Sound faulty m → (a : Acts) → Laws faulty m a → OneChange faulty m a
one_change {faulty} {m} s a l k j c d x y =
    ⊎_elim
    (λ same. one_change_a_rank s a l k c d (ready_acks s a l k c x) (subst (λ n. Acks faulty m a n d) (sym same) (ready_acks s a l j d y)))
    (⊎_elim
    (λ less. ready_binds s a l j k d c y (ready_acks s a l k c x) less)
    (λ more. sym (ready_binds s a l k j c d x (ready_acks s a l j d y) more)))
    (cases_order k j)
