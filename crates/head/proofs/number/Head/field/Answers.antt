-- Widening a number leaves its bits, and those of the value come beside them.
-- The sum stays below the new width's power, which is the head's invariant.
use Rattle.std.proofs.Common.{◌≡◌, ℕ, ◌+◌, ◌*◌, ◌%◌, ◌^◌, ◌<◌, ◌≤◌, true, sym, refl, ap, ◌∙◌, subst, arith, pow_mono}
use Rattle.std.proofs.Math.Nat.{mod-eq_of_lt}
use Rattle.std.proofs.lemmas.Nat.{shl_whole, one_shl}
use Rattle.std.proofs.lemmas.Option.{same_Some}
use Rattle.grammar.specs.Bits.{bits_of}
use Rattle.head.specs.Heads.{Longer}
use Rattle.head.proofs.Joins.{beside, beside_below}
use Rattle.head.proofs.number.Head.field.Goals as goal

-- a value below the room that the code computes is the rest that the lemmas speak of
fitting : (w v : ℕ) → w ≤ 8 → v < (1 * 2 ^ w) % 2 ^ 64 → v < 2 ^ w
fitting w v s h = subst (λ n. v < n) (one_shl w 64 (omega arith)) h

-- the number as the code has it
number : (x a w v : ℕ) → a + w ≤ 32 → x < 2 ^ a → v < 2 ^ w → (x * 2 ^ w) % 2 ^ 32 + v ≡ x * 2 ^ w + v % 2 ^ w
number x a w v l h f = λ i. shl_whole x a w 32 h l i + sym (mod-eq_of_lt f) i

within : (x a w v : ℕ) → a + w ≤ 32 → x < 2 ^ a → v < 2 ^ w → (x * 2 ^ w) % 2 ^ 32 + v < 2 ^ (a + w)
within x a w v l h f = subst (λ n. n < 2 ^ (a + w)) (sym (number x a w v l h f)) (beside_below a w x v h)

pub overflow_add-result : goal.overflow_add-result
overflow_add-result c =
    let g = c.args.self in
    let w = c.args.width in
    let room : g.width + w ≤ 32 = omega arith in
    let m : 2 ^ (g.width + w) ≤ 2 ^ 32 = pow_mono room in
    record { fits = omega (arith, within g.number g.width w c.args.value room g.below (fitting w c.args.value c.if-width-gt8.false c.if-value-width.false), m) }

pub invariant_of-result : goal.invariant_of-result
invariant_of-result c =
    let g = c.args.self in
    let w = c.args.width in
    record { narrow = omega arith; below = within g.number g.width w c.args.value (omega arith) g.below (fitting w c.args.value c.if-width-gt8.false c.if-value-width.false) }

pub returns : goal.returns
returns c =
    let g = c.args.self in
    let w = c.args.width in
    let v = c.args.value in
    let fits = fitting w v c.if-width-gt8.false c.if-value-width.false in
    let n = number g.number g.width w v (omega arith) g.below fits in
    record {
      longer = λ b e. subst (Longer g w v true) (same_Some _ b e) (record { form = ap (bits_of (g.width + w)) n ∙ beside g.width w g.number v; fits = fits; good = refl });
      none = λ e. cc;
      full = λ n. absurd (n (omega arith, omega arith));
    }
