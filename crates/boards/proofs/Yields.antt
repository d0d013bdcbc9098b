-- Which boards a walk over a set gives: those of the set, by rising number from the front and by falling number from the back.
-- The proof of a chain that begins with `boards()` of a set begins with one of these, from the clauses of `boards` and `rev`.
use Rattle.std.proofs.Common.{◌≡◌, ℕ, [], ◌∷◌, Option, reverse, ap, ◌∙◌, subst, length}
use Rattle.std.proofs.lemmas.Iterator.{YieldsList}
use Rattle.std.proofs.lemmas.Iterator.Consumers.{YieldsList-from_shown}
use Rattle.std.proofs.lemmas.List.{reverse-append}
use Rattle.std.specs.Iterator.Adapters.{rev_source, rev_steps}
use Rattle.std.specs.declared.iter.Rev.{Rev}
use Rattle.boards.specs.declared.Boards.{Boards}
use Rattle.boards.specs.declared.Set.{Set}
use Rattle.boards.specs.Boards.{boards, First, Last}

abbrev pub fronts : Boards → Option ℕ → Boards → Type 0
fronts s r t = First s.left.bits r t.left.bits

abbrev pub backs : Boards → Option ℕ → Boards → Type 0
backs s r t = Last s.left.bits r t.left.bits

pub YieldsList-from_boards : {it : Boards} {set : Set} → it.left ≡ set → YieldsList fronts (λ b. b) it (boards set.bits)
YieldsList-from_boards {it} e =
    subst (λ s. YieldsList fronts (λ b. b) it (boards s.bits)) e
    (YieldsList-from_shown fronts (λ b. b) (λ s. boards s.left.bits) (λ s t h. ap length h.0) (λ s b t h. h.1) it)

pub YieldsList-from_boards_back : {it : Rev Boards} {walk : Boards} {set : Set} → rev_source it ≡ walk → walk.left ≡ set
    → YieldsList (rev_steps backs) (λ b. b) it (reverse (boards set.bits))
YieldsList-from_boards_back {it} of e =
    subst (λ s. YieldsList (rev_steps backs) (λ b. b) it (reverse (boards s.bits))) (ap (λ w. w.left) of ∙ e)
    (YieldsList-from_shown (rev_steps backs) (λ b. b) (λ s. reverse (boards (rev_source s).left.bits)) (λ s t h. ap (λ l. length (reverse l)) h.0)
    (λ s b t h. ap reverse h.1 ∙ reverse-append (boards (rev_source t).left.bits) (b ∷ [])) it)
