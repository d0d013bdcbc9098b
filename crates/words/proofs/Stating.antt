-- Heads that state an act: a shape of head in the table of signed words.
-- What a table has for the kind, antt computes.
use Rattle.std.proofs.Common.{◌≡◌, ℕ, ◌%◌, ◌≤◌, length, List, ◌++◌, Option, sym, ap, subst, ◌∙◌}
use Rattle.grammar.specs.Grammar.{Item, After}
use Rattle.head.specs.declared.number.Head.{Head}
use Rattle.head.specs.Heads.{Begins}
use Rattle.head.proofs.Steps.{wide_as}
use Rattle.wire.proofs.Widths.{wide}
use Rattle.wire.specs.Acts.{Act, signed, signed_values}
use Rattle.words.specs.declared.statement.Claim.{Claim}
use Rattle.words.specs.Said.{claimed}
use Rattle.words.specs.Openings.{load, loaded, room, Stated}

pub states : {a : Act} {r : Option Head} (is : List Item) → wide is % 8 ≡ 0 → signed_values a ≡ is ++ loaded a → (After signed is (room a) → length (load a) ≤ 48) → Begins signed is (room a) r → Stated a r
states is w s l b = record { fields = is; split = s; begins = b; whole = λ h e. ap (λ n. n % 8) (wide_as (b.holds h e)) ∙ w; short = λ h e. l (b.holds h e).goes }

-- What is stated of a claim known by its kind is stated of the statement that makes it.
pub known : (v : ℕ) {x y : Claim} {r : Option Head} → x ≡ y → Stated (claimed v y) r → Stated (claimed v x) r
known v {r = r} e p = subst (λ c. Stated (claimed v c) r) (sym e) p
