-- What stands against a call, found by its code: where no reason of a list holds, the one under a code does not.
-- So a list may get a reason more without a proof that names another one being moved.
use Rattle.std.proofs.Common.{◌≡◌, Bool, true, false, cond, eqb, List, [], ◌∷◌, None, refl}
use Rattle.std.proofs.lemmas.Bool.{cond_both}
use Rattle.codes.specs.declared.Refusal.{Refusal}
use Rattle.codes.specs.Codes.{code_of}
use Rattle.row.specs.Refusals.{first_of}

-- The reason under a code; false if the list has none.
abbrev pub under : Refusal → List (Bool × Refusal) → Bool
under e [] = false
under e (r ∷ rs) = cond (eqb (code_of r.1).number (code_of e).number) r.0 (under e rs)

pub unheld : (rs : List (Bool × Refusal)) → first_of rs ≡ None → (e : Refusal) → under e rs ≡ false
unheld [] h e = refl
unheld ((true, d) ∷ rs) h e = cc
unheld ((false, d) ∷ rs) h e = cond_both (eqb (code_of d).number (code_of e).number) false (under e rs) (λ x. x ≡ false) (λ _. refl) (λ _. unheld rs h e)
