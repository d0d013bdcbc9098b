-- A set without the boards of another.
-- The boards of a part that are not good ones are those whose tags are not good.
use Rattle.std.proofs.Common.{◌≡◌, ℕ, Bool, true, false, not, ◌&&◌, sym, refl, ap, ◌∙◌, ⊎_elim}
use Rattle.std.proofs.lemmas.Bool.{cases_lt}
use Rattle.boards.specs.Boards.{member, Minus}
use Rattle.boards.proofs.Members.{member_above}

but_good : (x y : Bool) → (x && not (x && y)) ≡ (x && not y)
but_good true y = refl
but_good false y = refl

outside : (x y : Bool) → x ≡ false → (x && y) ≡ false
outside x y e = ap (λ v. v && y) e

-- The boards of a set but for those that pass a test do not pass it.
pub rest_fails : (a s r b : ℕ) (y : Bool) → Minus a s r → member s b ≡ (member a b && y) → member r b ≡ (member a b && not y)
rest_fails a s r b y o e =
    ⊎_elim (λ l. o b l ∙ ap (λ v. member a b && not v) e ∙ but_good (member a b) y)
    (λ l. member_above r b l ∙ sym (outside (member a b) (not y) (member_above a b l)))
    (cases_lt b 8)
