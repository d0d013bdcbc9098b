-- Runs of calls of sign, one call at a time: what is good comes from the start or from an accepted call.
-- The laws are inductions over a run.
use Rattle.std.proofs.Common.{◌≡◌, ℕ, Bool, true, ◌⊎◌, List, Ok, Err, Result, sym, ap, ◌∙◌, inl, inr, ⊎_elim, arith}
use Rattle.schemes.specs.Meaning.{Good, Signing}
use Rattle.schemes.specs.Registers.{good_in, spent_in}
use Rattle.schemes.specs.Runs.{Call, Run, Accepted, SignedIn, Earned, Lasting, RegisterEarned}
use Rattle.schemes.specs.declared.SignRefusal.{SignRefusal}
use Rattle.schemes.specs.declared.register.Register.{Register}
use Rattle.schemes.proofs.Rows.{apart}

module _ {S : Type 0} (good : S → Good) (spent : S → Bool) where
  -- One call: what is good after it was good before, or the call signed it.
  pub since_call : (s s2 : S) (board : ℕ) (words : List ℕ) (answer : Result ℕ SignRefusal) → Signing good spent s s2 board words answer
      → (b : ℕ) (w : List ℕ) (t : ℕ) → good s2 b w t ≡ true → (good s b w t ≡ true) ⊎ (Accepted answer × (board ≡ b) × (words ≡ w))
  since_call s s2 board words (Ok tag) h b w t g = ⊎_elim inl (λ e. inr (tt, sym e.0, sym e.1)) (h.only b w t g)
  since_call s s2 board words (Err e) h b w t g = inl (ap (λ x. good x b w t) (sym h.same) ∙ g)

  -- One call: what is good before it is good after it.
  pub past_call : (s s2 : S) (board : ℕ) (words : List ℕ) (answer : Result ℕ SignRefusal) → Signing good spent s s2 board words answer
      → (b : ℕ) (w : List ℕ) (t : ℕ) → good s b w t ≡ true → good s2 b w t ≡ true
  past_call s s2 board words (Ok tag) h b w t g = h.kept b w t g
  past_call s s2 board words (Err e) h b w t g = ap (λ x. good x b w t) h.same ∙ g

  earned_run : {start s : S} {calls : List Call} → Run good spent start s calls
      → (b : ℕ) (w : List ℕ) (t : ℕ) → good s b w t ≡ true → (good start b w t ≡ true) ⊎ SignedIn calls b w
  earned_run Run.begin b w t g = inl g
  earned_run (Run.next {s} {s2} {calls} run c step) b w t g =
      ⊎_elim (λ old. ⊎_elim inl (λ e. inr (inr e)) (earned_run run b w t old)) (λ e. inr (inl e))
      (since_call s s2 c.board c.words c.answer step b w t g)

  pub earned : Earned good spent
  earned start s calls run = earned_run run

  lasting_run : {start s : S} {calls : List Call} → Run good spent start s calls → (b : ℕ) (w : List ℕ) (t : ℕ) → good start b w t ≡ true → good s b w t ≡ true
  lasting_run Run.begin b w t g = g
  lasting_run (Run.next {s} {s2} {calls} run c step) b w t g = past_call s s2 c.board c.words c.answer step b w t (lasting_run run b w t g)

  pub lasting : Lasting good spent
  lasting start s calls run = lasting_run run

-- A register with no row used has nothing good.
pub none_good : (r : Register) → r.used ≡ 0 → (b : ℕ) (w : List ℕ) (t : ℕ) → good_in r b w t ≡ true → ⊥
none_good r e b w t g = let p = apart r.rows.now r.used b w t g in omega (arith, p.below, e)

pub register_earned : RegisterEarned
register_earned start r calls e run b w t g =
    ⊎_elim (λ old. absurd (none_good start e b w t old)) (λ s. s) (earned good_in spent_in start r calls run b w t g)
