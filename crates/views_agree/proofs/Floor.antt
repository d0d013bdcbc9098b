-- The floor: each vote of a row has a rank from 1, and lies in an earlier view or at the floor or above it.
-- So the floor only falls inside a view, and no step is voted on twice.
use Rattle.std.proofs.Common.{◌≡◌, ℕ, ◌+◌, ◌<◌, ◌≤◌, ◌⊎◌, sym, ap, ◌∙◌, subst, inl, inr, ⊎_elim, arith}
use Rattle.views_agree.proofs.Deeds.{Vote, rank, level, More}

abbrev pub Ranked : (ℕ → Vote → Type 0) → Type 0
Ranked did = (x : ℕ) (v : Vote) → did x v → 1 ≤ rank v

abbrev pub Floor : ℕ → ℕ → (ℕ → Vote → Type 0) → Type 0
Floor now floor did = (x : ℕ) (v : Vote) → did x v → (x < now) ⊎ ((x ≡ now) × (floor ≤ level v))

-- One vote more.
pub ranked_voted : {did : ℕ → Vote → Type 0} → Ranked did → (y : ℕ) (v : Vote) → 1 ≤ rank v → Ranked (More did y v)
ranked_voted p y v ranked x w d = ⊎_elim (λ e. subst (λ u. 1 ≤ rank u) (sym e.1) ranked) (λ o. p x w o) d

module _ {now floor : ℕ} {did : ℕ → Vote → Type 0} (p : Floor now floor did) where
  -- What was voted in the row's own view lies at the floor or above.
  pub above_floor : (x : ℕ) (w : Vote) → x ≡ now → did x w → floor ≤ level w
  above_floor x w same d = ⊎_elim (λ t. absurd (omega arith)) (λ t. t.1) (p x w d)

  -- Nothing was voted in a view that the row has not reached.
  pub reached : (x : ℕ) (w : Vote) → did x w → x ≤ now
  reached x w d = ⊎_elim (λ t. omega arith) (λ t. omega (arith, t.0)) (p x w d)

  pub floor_voted : (y : ℕ) (v : Vote) → y ≡ now → level v < floor → Floor now (level v) (More did y v)
  floor_voted y v same low x w d =
      ⊎_elim (λ e. inr (e.0 ∙ same, omega (arith, ap level e.1))) (λ o. ⊎_elim inl (λ t. inr (t.0, omega (arith, t.1))) (p x w o)) d

  -- A new view, with whatever floor.
  pub floor_changed : (now2 floor2 : ℕ) → now2 ≡ now + 1 → Floor now2 floor2 did
  floor_changed now2 floor2 next x w d = inl (omega (arith, reached x w d))
