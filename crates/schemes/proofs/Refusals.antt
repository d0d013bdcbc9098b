-- What an accepted or a refused call of sign says, for any scheme.
-- Layers above cite these in place of the list of reasons.
use Rattle.std.proofs.Common.{◌≡◌, ℕ, Bool, true, false, cond, not, ◌&&◌, List, Some, None, Option, sym, subst, refl, ◌∙◌, true≢false}
use Rattle.std.proofs.lemmas.Bool.{and_parts}
use Rattle.schemes.specs.Meaning.{on_board, sized, signable, sign_refusal, Refused}
use Rattle.schemes.specs.declared.SignRefusal.{SignRefusal}
use Rattle.schemes.specs.declared.SignRefusal.TheVariants.{Board, Long, Spent}

-- The reasons as a function of the three tests.
abbrev reasons : Bool → Bool → Bool → Option SignRefusal
reasons a s d = cond (not a) (Some Board) (cond (not s) (Some Long) (cond d (Some Spent) None))

none : (a s d : Bool) → reasons a s d ≡ None → ((a && s) ≡ true) × (d ≡ false)
none true true true h = absurd cc
none true true false h = (refl, refl)
none true false d h = absurd cc
none false s d h = absurd cc

-- What a refusal says of the three tests.
abbrev pub Says : SignRefusal → Bool → Bool → Bool → Type 0
Says Board a s d = a ≡ false
Says Long a s d = (a ≡ true) × (s ≡ false)
Says Spent a s d = (a ≡ true) × (s ≡ true) × (d ≡ true)

some : (a s d : Bool) (e : SignRefusal) → reasons a s d ≡ Some e → Says e a s d
some true true true e h = let k : Spent ≡ e = cc in subst (λ x. Says x true true true) k (refl, refl, refl)
some true true false e h = absurd cc
some true false d e h = let k : Long ≡ e = cc in subst (λ x. Says x true false d) k (refl, refl)
some false s d e h = let k : Board ≡ e = cc in subst (λ x. Says x false s d) k refl

-- No reason holds: the board and the words can be signed, and the scheme is not spent.
pub unrefused : (b : ℕ) (w : List ℕ) (spent : Bool) → sign_refusal b w spent ≡ None → (signable b w ≡ true) × (spent ≡ false)
unrefused b w spent h = none (on_board b) (sized w) spent h

-- A refusal says which reason holds, and that none before it does.
pub refused_for : (b : ℕ) (w : List ℕ) (spent : Bool) (e : SignRefusal) → sign_refusal b w spent ≡ Some e → Says e (on_board b) (sized w) spent
refused_for b w spent e h = some (on_board b) (sized w) spent e h

only_spent : (e : SignRefusal) (a s d : Bool) → (a && s) ≡ true → Says e a s d → (d ≡ true) × (e ≡ Spent)
only_spent Board a s d h p = absurd (true≢false (sym (and_parts a s h).0 ∙ p))
only_spent Long a s d h p = absurd (true≢false (sym (and_parts a s h).1 ∙ p.1))
only_spent Spent a s d h p = (p.2, refl)

-- What can be signed is refused only by a spent scheme.
pub refused_spent : {S : Type 0} {s s2 : S} {spent : Bool} {b : ℕ} {w : List ℕ} {e : SignRefusal} → Refused s s2 spent b w e → signable b w ≡ true → (spent ≡ true) × (e ≡ Spent)
refused_spent {S} {s} {s2} {spent} {b} {w} {e} h k = only_spent e (on_board b) (sized w) spent k (refused_for b w spent e h.reason)
