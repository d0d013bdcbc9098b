-- All rows together: what each did, and what made it do so as the deeds of all vouch for it.
-- Time plays no part here: a cause is a certificate over everything done.
use Rattle.std.proofs.Common.{ℕ, ◌≤◌, List, [], ◌∷◌, inl, inr, ⊎_elim}
use lib.Bits.{bit_and}
use Rattle.boards.specs.Boards.{size}
use Rattle.views.specs.Shares.{share}
use Rattle.wire.specs.declared.message.Entry.{Entry}
use Rattle.views_agree.specs.Agreement.{Outside}
use Rattle.views_agree.proofs.OneView.{Acts, Certificate, Deputies, Acks, Readies, Basis, AckCause}
use Rattle.views_agree.proofs.Deeds.{Row, Vote, Deed, Did, AskedIn, NotifiedIn, DeputisedIn, ChangedIn, Has, view_in}
use Rattle.views_agree.proofs.RowLaws.{LawsOfRow}

-- The faulty boards, the members of view 1, and of each board its row and its deeds.
pub record Group : Type 0 where
  pub faulty : ℕ
  pub first : ℕ
  pub row : ℕ → Row
  pub deeds : ℕ → List Deed

-- What the boards did in view x.
abbrev pub acts_in : (ℕ → List Deed) → ℕ → Acts
acts_in deeds x = record {
  asked = λ b c. AskedIn (deeds b) x c;
  notified = λ b c. NotifiedIn (deeds b) x c;
  deputised = λ b k. DeputisedIn (deeds b) x k;
  acked = λ b k c. Did (deeds b) x (Vote.Ack k c);
  readied = λ b k c. Did (deeds b) x (Vote.Ready k c);
  lasted = λ b k e. Did (deeds b) x (Vote.Last k e);
}

-- What makes a board of a view do this, as the boards' acts in the view vouch for it.
abbrev pub Caused : ℕ → ℕ → Acts → Deed → Type 0
Caused faulty m a (Deed.Asks x c) = Unit {0}
Caused faulty m a (Deed.Deputes x c k) = Unit {0}
Caused faulty m a (Deed.Voted x (Vote.Ack k c)) = AckCause faulty m a k c
Caused faulty m a (Deed.Voted x (Vote.Ready k c)) = Acks faulty m a k c
Caused faulty m a (Deed.Voted x (Vote.Last k e)) = Deputies faulty m a k
Caused faulty m a (Deed.Changed x c) = (k : ℕ) × Readies faulty m a k c

-- The same at the row of board b: in the view as b has it.
abbrev pub CausedAt : Group → ℕ → Deed → Type 0
CausedAt g b d = Caused g.faulty ((g.row b).views (view_in d)) (acts_in g.deeds (view_in d)) d

-- Each row outside the faulty ones keeps the laws of a row, and what made it vote or change was vouched for.
pub record Lived (g : Group) : Type 0 where
  pub laws : (b : ℕ) → Outside g.faulty b → LawsOfRow g.first (g.row b) (g.deeds b)
  pub caused : (b : ℕ) (d : Deed) → Outside g.faulty b → Has (g.deeds b) d → CausedAt g b d

-- In each view that such a row has defined, at most the share is faulty.
abbrev pub Few : Group → Type 0
Few g = (b x : ℕ) → Outside g.faulty b → 1 ≤ x → x ≤ (g.row b).x → size (bit_and g.faulty ((g.row b).views x)) ≤ share (size ((g.row b).views x))

-- Whoever notified asked.
pub notified_asked : (h : List Deed) (x c : ℕ) → NotifiedIn h x c → AskedIn h x c
notified_asked [] x c d = d
notified_asked (Deed.Asks y e ∷ h) x c d = ⊎_elim inl (λ o. inr (notified_asked h x c o)) d
notified_asked (Deed.Deputes y e k ∷ h) x c d = inr (notified_asked h x c d)
notified_asked (Deed.Voted y w ∷ h) x c d = notified_asked h x c d
notified_asked (Deed.Changed y e ∷ h) x c d = notified_asked h x c d

-- A vote, and a change, is a deed of the list.
pub did_has : (h : List Deed) (x : ℕ) (v : Vote) → Did h x v → Has h (Deed.Voted x v)
did_has [] x v d = d
did_has (Deed.Asks y e ∷ h) x v d = inr (did_has h x v d)
did_has (Deed.Deputes y e k ∷ h) x v d = inr (did_has h x v d)
did_has (Deed.Voted y w ∷ h) x v d = ⊎_elim (λ e. inl (λ i. Deed.Voted (e.0 i) (e.1 i))) (λ o. inr (did_has h x v o)) d
did_has (Deed.Changed y e ∷ h) x v d = inr (did_has h x v d)

pub changed_has : (h : List Deed) (x c : ℕ) → ChangedIn h x c → Has h (Deed.Changed x c)
changed_has [] x c d = d
changed_has (Deed.Asks y e ∷ h) x c d = inr (changed_has h x c d)
changed_has (Deed.Deputes y e k ∷ h) x c d = inr (changed_has h x c d)
changed_has (Deed.Voted y w ∷ h) x c d = inr (changed_has h x c d)
changed_has (Deed.Changed y e ∷ h) x c d = ⊎_elim (λ e. inl (λ i. Deed.Changed (e.0 i) (e.1 i))) (λ o. inr (changed_has h x c o)) d

-- What a longer list still has.
pub did_cons : (d : Deed) (h : List Deed) (x : ℕ) (v : Vote) → Did h x v → Did (d ∷ h) x v
did_cons (Deed.Asks y c) h x v p = p
did_cons (Deed.Deputes y c k) h x v p = p
did_cons (Deed.Voted y w) h x v p = inr p
did_cons (Deed.Changed y c) h x v p = p

pub asked_cons : (d : Deed) (h : List Deed) (x c : ℕ) → AskedIn h x c → AskedIn (d ∷ h) x c
asked_cons (Deed.Asks y e) h x c p = inr p
asked_cons (Deed.Deputes y e k) h x c p = inr p
asked_cons (Deed.Voted y w) h x c p = p
asked_cons (Deed.Changed y e) h x c p = p

pub notified_cons : (d : Deed) (h : List Deed) (x c : ℕ) → NotifiedIn h x c → NotifiedIn (d ∷ h) x c
notified_cons (Deed.Asks y e) h x c p = inr p
notified_cons (Deed.Deputes y e k) h x c p = p
notified_cons (Deed.Voted y w) h x c p = p
notified_cons (Deed.Changed y e) h x c p = p

pub deputised_cons : (d : Deed) (h : List Deed) (x k : ℕ) → DeputisedIn h x k → DeputisedIn (d ∷ h) x k
deputised_cons (Deed.Asks y e) h x k p = p
deputised_cons (Deed.Deputes y e j) h x k p = inr p
deputised_cons (Deed.Voted y w) h x k p = p
deputised_cons (Deed.Changed y e) h x k p = p

-- Acts that only become more.
pub record Grows (a a2 : Acts) : Type 0 where
  pub notified : (b c : ℕ) → a.notified b c → a2.notified b c
  pub deputised : (b k : ℕ) → a.deputised b k → a2.deputised b k
  pub acked : (b k c : ℕ) → a.acked b k c → a2.acked b k c
  pub readied : (b k c : ℕ) → a.readied b k c → a2.readied b k c
  pub lasted : (b k : ℕ) (e : Entry) → a.lasted b k e → a2.lasted b k e

certificate_grows : {faulty m least : ℕ} {P Q : ℕ → Type 0} → ((b : ℕ) → P b → Q b) → Certificate faulty m least P → Certificate faulty m least Q
certificate_grows f x = record { set = x.set; within = x.within; large = x.large; did = λ b i r. f b (x.did b i r) }

basis_grows : (faulty m : ℕ) (a a2 : Acts) (k c : ℕ) → Grows a a2 → Basis faulty m a k c → Basis faulty m a2 k c
unfolding certificate_grows
basis_grows faulty m a a2 k c g z = record {
  entries = z.entries;
  lasts = certificate_grows (λ b. g.lasted b k (z.entries b)) z.lasts;
  choice = ⊎_elim inl (λ t. inr (t.0, t.1, t.2, certificate_grows (λ b. g.acked b t.0 c) t.3)) z.choice;
}

-- So causes stay.
pub caused_grows : (faulty m : ℕ) (a a2 : Acts) → Grows a a2 → (d : Deed) → Caused faulty m a d → Caused faulty m a2 d
caused_grows faulty m a a2 g (Deed.Asks x c) p = p
caused_grows faulty m a a2 g (Deed.Deputes x c k) p = p
caused_grows faulty m a a2 g (Deed.Voted x (Vote.Ack k c)) p =
    ⊎_elim (λ t. inl (t.0, certificate_grows (λ b. g.notified b c) t.1)) (λ t. inr (t.0, basis_grows faulty m a a2 k c g t.1)) p
caused_grows faulty m a a2 g (Deed.Voted x (Vote.Ready k c)) p = certificate_grows (λ b. g.acked b k c) p
caused_grows faulty m a a2 g (Deed.Voted x (Vote.Last k e)) p = certificate_grows (λ b. g.deputised b k) p
caused_grows faulty m a a2 g (Deed.Changed x c) p = (p.0, certificate_grows (λ b. g.readied b p.0 c) p.1)
