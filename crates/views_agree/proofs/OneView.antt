-- One view: what its boards did in it, certificates, the laws that each correct row keeps there, and what follows for all of them.
-- A view is told by its members m; no scheme, tag or byte occurs here.
use Rattle.std.proofs.Common.{◌≡◌, ℕ, ◌+◌, ◌<◌, ◌≤◌, true, ◌⊎◌}
use lib.Bits.{bit_and}
use Rattle.boards.specs.Boards.{member, size, Within}
use Rattle.views.specs.Shares.{share, quorum}
use Rattle.wire.specs.declared.message.Entry.{Entry}
use Rattle.row.specs.States.{manager_in}
use Rattle.views_agree.specs.Agreement.{Outside}

-- A view with a member, of whose members at most the share is faulty.
pub record Sound (faulty m : ℕ) : Type 0 where
  pub some : 1 ≤ size m
  pub few : size (bit_and faulty m) ≤ share (size m)

abbrev pub entry : ℕ → ℕ → Entry
entry k c = record { earlier = k; change = c }

-- What boards did in the view: the board first, then the rank, then the change or the entry.
pub record Acts : Type 1 where
  pub asked : ℕ → ℕ → Type 0
  pub notified : ℕ → ℕ → Type 0
  pub deputised : ℕ → ℕ → Type 0
  pub acked : ℕ → ℕ → ℕ → Type 0
  pub readied : ℕ → ℕ → ℕ → Type 0
  pub lasted : ℕ → ℕ → Entry → Type 0

-- A certificate: a set of members, not smaller than asked, whose boards outside the faulty ones all did the act.
pub record Certificate (faulty m least : ℕ) (Did : ℕ → Type 0) : Type 0 where
  pub set : ℕ
  pub within : Within set m
  pub large : least ≤ size set
  pub did : (b : ℕ) → member set b ≡ true → Outside faulty b → Did b

-- An entry tells of no rank below i.
abbrev pub From : ℕ → Entry → Type 0
From i e = (e.earlier ≡ 0) ⊎ (i ≤ e.earlier)

module _ (faulty m : ℕ) (a : Acts) where
  abbrev pub Notifies : ℕ → Type 0
  Notifies c = Certificate faulty m (share (size m) + 1) (λ b. a.notified b c)

  abbrev pub Deputies : ℕ → Type 0
  Deputies k = Certificate faulty m (share (size m) + 1) (λ b. a.deputised b k)

  abbrev pub Acks : ℕ → ℕ → Type 0
  Acks k c = Certificate faulty m (quorum (size m)) (λ b. a.acked b k c)

  abbrev pub Readies : ℕ → ℕ → Type 0
  Readies k c = Certificate faulty m (quorum (size m)) (λ b. a.readied b k c)

  abbrev pub Lasts : ℕ → (ℕ → Entry) → Type 0
  Lasts k e = Certificate faulty m (quorum (size m)) (λ b. a.lasted b k (e b))

  -- Why a rank below the manager's acks a change: lasts of a quorum, and either nobody kept anything and the change is the manager,
  -- or i is the lowest rank kept and the change has the acks of rank i.
  pub record Basis (k c : ℕ) : Type 0 where
    pub entries : ℕ → Entry
    pub lasts : Lasts k entries
    pub choice :
        (((b : ℕ) → member lasts.set b ≡ true → (entries b).earlier ≡ 0) × (c ≡ manager_in m))
        ⊎ ((i : ℕ) × (k < i) × ((b : ℕ) → member lasts.set b ≡ true → From i (entries b)) × Acks i c)

  -- Why a board acks.
  abbrev pub AckCause : ℕ → ℕ → Type 0
  AckCause k c = ((k ≡ size m) × Notifies c) ⊎ ((k < size m) × Basis k c)

  -- The laws of each row in this view.
  pub record Laws : Type 0 where
    pub one_ack : (b k c d : ℕ) → Outside faulty b → a.acked b k c → a.acked b k d → c ≡ d
    pub last_tells :
        (b k j c : ℕ) (e : Entry) → Outside faulty b → a.lasted b k e → a.readied b j c → k < j
        → (i d : ℕ) × (e ≡ entry i d) × (k < i) × (i ≤ j) × a.readied b i d
    pub ready_cause : (b k c : ℕ) → Outside faulty b → a.readied b k c → Acks k c
    pub ack_cause : (b k c : ℕ) → Outside faulty b → a.acked b k c → AckCause k c
    pub last_cause : (b k : ℕ) (e : Entry) → Outside faulty b → a.lasted b k e → Deputies k
    pub notify_cause : (b c : ℕ) → Outside faulty b → a.notified b c → a.asked b c
    pub deputy_cause : (b k : ℕ) → Outside faulty b → a.deputised b k → a.asked b (manager_in m)

  -- A member outside the faulty ones asked for the change.
  pub record Somebody (c : ℕ) : Type 0 where
    pub asker : ℕ
    pub within : member m asker ≡ true
    pub outside : Outside faulty asker
    pub asked : a.asked asker c
