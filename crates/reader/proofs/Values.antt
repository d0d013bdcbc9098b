-- Values of fields: those with one value only, and fields that are written in another way.
-- Laws used: none.
use Rattle.std.proofs.Common.{◌≡◌, ℕ, leb, subst, arith}
use Rattle.std.proofs.lemmas.Bool.{and_parts, leb-true}
use Rattle.grammar.specs.Grammar.{from_to}
use Rattle.reader.specs.declared.place.Reader.{Reader}
use Rattle.reader.specs.Places.{Read}

-- a value that can be but one
pub only_one : {w a v : ℕ} {s t : Reader} → Read w (from_to a a) s v t → Read w (from_to a a) s a t
only_one {w} {a} {v} {s} {t} r =
    let p = and_parts (leb a v) (leb v a) r.allowed in
    let e : v ≡ a = omega (arith, leb-true a v p.0, leb-true v a p.1) in
    subst (λ x. Read w (from_to a a) s x t) e r

-- a field that is written in another way
pub same_field : {w w' a a' b b' v : ℕ} {s t : Reader} → (w ≡ w') × (a ≡ a') × (b ≡ b') → Read w (from_to a b) s v t → Read w' (from_to a' b') s v t
same_field {w} {w'} {a} {a'} {b} {b'} {v} {s} {t} e r = coe 0 1 (i. Read (e.0 i) (from_to (e.1 i) (e.2 i)) s v t) r
