-- Runs of calls of sign: whatever is good after one was good before it, or was signed in it.
-- In a register that began empty, whatever is good was signed.
use Rattle.std.specs.Prelude.{◌≡◌, ℕ, Bool, true, ◌⊎◌, List, [], ◌∷◌, Ok, Err, Result}
use Rattle.schemes.specs.Meaning.{Good, Signing}
use Rattle.schemes.specs.Registers.{good_in, spent_in}
use Rattle.schemes.specs.declared.SignRefusal.{SignRefusal}
use Rattle.schemes.specs.declared.register.Register.{Register}

-- A call of sign, for a board and words, and its answer.
pub record Call : Type 0 where
  pub board : ℕ
  pub words : List ℕ
  pub answer : Result ℕ SignRefusal

-- A scheme goes from its start to where some calls of sign, the latest first, leave it.
pub data Run {S : Type 0} (good : S → Good) (spent : S → Bool) (start : S) : S → List Call → Type 0 where
  begin : Run good spent start start []
  next : {s s2 : S} {calls : List Call} → Run good spent start s calls → (c : Call)
      → Signing good spent s s2 c.board c.words c.answer → Run good spent start s2 (c ∷ calls)

-- An answer that is a tag.
abbrev pub Accepted : Result ℕ SignRefusal → Type 0
Accepted (Ok tag) = Unit {0}
Accepted (Err e) = ⊥

-- One of the calls signed these words for this board.
abbrev pub SignedIn : List Call → ℕ → List ℕ → Type 0
SignedIn [] b w = ⊥
SignedIn (c ∷ calls) b w = (Accepted c.answer × (c.board ≡ b) × (c.words ≡ w)) ⊎ SignedIn calls b w

-- What is good after a run was good at its start, or one of its calls signed it.
abbrev pub Earned : {S : Type 0} → (S → Good) → (S → Bool) → Type 0
Earned {S} good spent =
    (start s : S) (calls : List Call) → Run good spent start s calls
    → (b : ℕ) (w : List ℕ) (t : ℕ) → good s b w t ≡ true → (good start b w t ≡ true) ⊎ SignedIn calls b w

-- What is good at the start of a run is good after it.
abbrev pub Lasting : {S : Type 0} → (S → Good) → (S → Bool) → Type 0
Lasting {S} good spent =
    (start s : S) (calls : List Call) → Run good spent start s calls → (b : ℕ) (w : List ℕ) (t : ℕ) → good start b w t ≡ true → good s b w t ≡ true

-- In a register that began with no row used, whatever is good was signed since.
abbrev pub RegisterEarned : Type 0
RegisterEarned =
    (start r : Register) (calls : List Call) → start.used ≡ 0 → Run good_in spent_in start r calls
    → (b : ℕ) (w : List ℕ) (t : ℕ) → good_in r b w t ≡ true → SignedIn calls b w
