-- Two quorums of a view share a board outside the faulty ones, and more boards than may be faulty have one: the only counting in the argument.
-- What the shared board did it did for both certificates.
use Rattle.std.proofs.Common.{◌≡◌, ℕ, ◌<◌, true, arith}
use Rattle.boards.specs.Boards.{member, size}
use Rattle.boards.proofs.Meets.{overlap}
use Rattle.views.specs.Shares.{share, quorum}
use Rattle.views.proofs.Rule.{quorum_above, overlap as shares_overlap}
use Rattle.views_agree.specs.Agreement.{Outside}
use Rattle.views_agree.proofs.OneView.{Sound, Certificate}

-- A board that two certificates share.
pub record Sharing (faulty : ℕ) (P Q : ℕ → Type 0) (a b : ℕ) : Type 0 where
  pub board : ℕ
  pub in_first : member a board ≡ true
  pub in_second : member b board ≡ true
  pub outside : Outside faulty board
  pub did_first : P board
  pub did_second : Q board

module _ {faulty m : ℕ} (s : Sound faulty m) where
  pub shared : {P Q : ℕ → Type 0} (x : Certificate faulty m (quorum (size m)) P) (y : Certificate faulty m (quorum (size m)) Q) → Sharing faulty P Q x.set y.set
  shared x y =
      let r = overlap m x.set y.set faulty x.within y.within (omega (arith, s.few, x.large, y.large, shares_overlap (size m) s.some)) in
      record {
        board = r.0;
        in_first = r.2;
        in_second = r.3;
        outside = (r.1, r.4);
        did_first = x.did _ r.2 (r.1, r.4);
        did_second = y.did _ r.3 (r.1, r.4);
      }

  -- A certificate of more boards than may be faulty has one that is not.
  pub correct_one : {P : ℕ → Type 0} {least : ℕ} → share (size m) < least → (x : Certificate faulty m least P) → Sharing faulty P P x.set m
  correct_one h x =
      let r = overlap m x.set m faulty x.within (λ k l t. t) (omega (arith, s.few, x.large)) in
      record {
        board = r.0;
        in_first = r.2;
        in_second = r.3;
        outside = (r.1, r.4);
        did_first = x.did _ r.2 (r.1, r.4);
        did_second = x.did _ r.2 (r.1, r.4);
      }

  pub in_quorum : {P : ℕ → Type 0} (x : Certificate faulty m (quorum (size m)) P) → Sharing faulty P P x.set m
  in_quorum x = correct_one (quorum_above (size m) s.some) x
