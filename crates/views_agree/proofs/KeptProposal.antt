-- The kept proposal: whoever readied in its latest view keeps a proposal of that rank or a lower one, and readied whatever it keeps.
-- A lower ready replaces a higher one, and a new view keeps nothing.
use Rattle.std.proofs.Common.{◌≡◌, ℕ, ◌+◌, ◌<◌, ◌≤◌, None, Option, sym, refl, ap, ◌∙◌, subst, inl, inr, ⊎_elim, arith}
use Rattle.row.specs.declared.state.Kept.{Kept}
use Rattle.views_agree.proofs.Deeds.{Vote, level, kept_of, kept_after, More}
use Rattle.views_agree.proofs.Floor.{Ranked, Floor, above_floor, reached}

abbrev pub Keeps : ℕ → Option Kept → (ℕ → Vote → Type 0) → Type 0
Keeps now kept did = (k c : ℕ) → did now (Vote.Ready k c) → (i d : ℕ) × (kept ≡ kept_of i d) × (i ≤ k)

abbrev pub Readied : ℕ → Option Kept → (ℕ → Vote → Type 0) → Type 0
Readied now kept did = (i d : ℕ) → kept ≡ kept_of i d → did now (Vote.Ready i d)

some≢none : (i d : ℕ) → kept_of i d ≡ None → ⊥
some≢none i d h = let z : ◌≡◌ {A = ℕ} 0 1 = cc in omega arith

module _ {now floor : ℕ} {kept : Option Kept} {did : ℕ → Vote → Type 0} where
  kept_still : Ranked did → Floor now floor did → Keeps now kept did → (v : Vote) → level v < floor
      → (k c : ℕ) → did now (Vote.Ready k c) → (i d : ℕ) × (kept_after v kept ≡ kept_of i d) × (i ≤ k)
  kept_still r f p (Vote.Ack j e) low k c d = p k c d
  kept_still r f p (Vote.Ready j e) low k c d = (j, e, refl, omega (arith, above_floor f now (Vote.Ready k c) refl d, r now (Vote.Ready k c) d))
  kept_still r f p (Vote.Last j e) low k c d = p k c d

  -- One vote more.
  pub keeps_voted : Ranked did → Floor now floor did → Keeps now kept did → (y : ℕ) (v : Vote) → level v < floor → Keeps now (kept_after v kept) (More did y v)
  keeps_voted r f p y v low k c d =
      ⊎_elim (λ e. (k, c, subst (λ u. kept_after u kept ≡ kept_of k c) e.1 refl, omega arith)) (kept_still r f p v low k c) d

pub readied_voted : (now : ℕ) (kept : Option Kept) (did : ℕ → Vote → Type 0) → Readied now kept did → (y : ℕ) (v : Vote) → y ≡ now → Readied now (kept_after v kept) (More did y v)
readied_voted now kept did p y (Vote.Ack j c) same i d e = inr (p i d e)
readied_voted now kept did p y (Vote.Ready j c) same i d e =
    let same_kept : ◌≡◌ {A = Kept} (record { rank = i; change = d }) (record { rank = j; change = c }) = cc in
    inl (sym same, ap (λ (z : Kept). Vote.Ready z.rank z.change) same_kept)
readied_voted now kept did p y (Vote.Last j c) same i d e = inr (p i d e)

-- A new view.
pub keeps_changed : {now floor : ℕ} {did : ℕ → Vote → Type 0} → Floor now floor did → (now2 : ℕ) (kept2 : Option Kept) → now2 ≡ now + 1 → Keeps now2 kept2 did
keeps_changed f now2 kept2 next k c d = absurd (omega (arith, reached f now2 (Vote.Ready k c) d))

pub readied_nothing : (now : ℕ) (kept : Option Kept) (did : ℕ → Vote → Type 0) → kept ≡ None → Readied now kept did
readied_nothing now kept did none i d e = absurd (some≢none i d (sym e ∙ none))
