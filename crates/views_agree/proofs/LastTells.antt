-- Last tells: a row that answered a query of rank k and readied a higher rank j told of a ready between them.
-- The ready came first, since after the answer the floor is too low for it, and what the row then kept has a rank above k.
use Rattle.std.proofs.Common.{◌≡◌, ℕ, ◌<◌, ◌≤◌, Option, sym, ap, ◌∙◌, subst, inr, ⊎_elim, arith}
use Rattle.wire.specs.declared.message.Entry.{Entry}
use Rattle.row.specs.declared.state.Kept.{Kept}
use Rattle.row.specs.States.{kept_entry}
use Rattle.views_agree.proofs.OneView.{entry}
use Rattle.views_agree.proofs.Deeds.{Vote, rank, level, Tells, More}
use Rattle.views_agree.proofs.Floor.{Floor, above_floor}
use Rattle.views_agree.proofs.KeptProposal.{Keeps, Readied}

abbrev pub Told : (ℕ → Vote → Type 0) → ℕ → ℕ → ℕ → Entry → Type 0
Told did x k j e = (i d : ℕ) × (e ≡ entry i d) × (k < i) × (i ≤ j) × did x (Vote.Ready i d)

abbrev pub LastTells : (ℕ → Vote → Type 0) → Type 0
LastTells did = (x k j c : ℕ) (e : Entry) → did x (Vote.Last k e) → did x (Vote.Ready j c) → k < j → Told did x k j e

module _ {now floor : ℕ} {kept : Option Kept} {did : ℕ → Vote → Type 0} (f : Floor now floor did) (keeps : Keeps now kept did) (readied : Readied now kept did) where
  -- The new vote is a last, after a ready: it tells what is kept.
  tells_now : (k j c : ℕ) (e : Entry) → level (Vote.Last k e) < floor → e ≡ kept_entry kept → did now (Vote.Ready j c) → Told did now k j e
  tells_now k j c e low told d =
      let t = keeps j c d in
      let w = readied t.0 t.1 t.2 in
      (t.0, t.1, told ∙ ap kept_entry t.2, omega (arith, low, above_floor f now (Vote.Ready t.0 t.1) (λ i. now) w), t.3, w)

  pub last_tells_voted : LastTells did → (y : ℕ) (v : Vote) → y ≡ now → level v < floor → Tells v kept → LastTells (More did y v)
  last_tells_voted p y v same low tells x k j c e dl dr less = ⊎_elim
      (λ a. ⊎_elim
      (λ b. absurd (omega (arith, ap rank a.1, ap rank b.1)))
      (λ b.
      let here : x ≡ now = a.0 ∙ same in
      let told : e ≡ kept_entry kept = subst (λ u. Tells u kept) (sym a.1) tells in
      let t = tells_now k j c e (omega (arith, ap level a.1)) told (subst (λ z. did z (Vote.Ready j c)) here b) in
      (t.0, t.1, t.2, t.3, t.4, inr (subst (λ z. did z (Vote.Ready t.0 t.1)) (sym here) t.5))) dr)
      (λ a. ⊎_elim
      (λ b. absurd (omega (arith, ap level b.1, above_floor f x (Vote.Last k e) (b.0 ∙ same) a)))
      (λ b. let t = p x k j c e a b less in (t.0, t.1, t.2, t.3, t.4, inr t.5)) dr) dl
