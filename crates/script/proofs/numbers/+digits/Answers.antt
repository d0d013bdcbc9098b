-- The digits of a number, one below ten or more.
-- The library's laws of decimal text.
use Rattle.std.proofs.Common.{◌≡◌, ℕ, ◌+◌, ◌/◌, ◌%◌, [], ◌∷◌, length, decimal, sym, ap, ◌∙◌, arith, length-append}
use Rattle.std.proofs.lemmas.Fmt.{decimal_digit, decimal_step}
use Rattle.script.proofs.Chains.{has_none, has_one, not_written, last}
use Rattle.script.proofs.numbers.+digits.Goals as goal

-- the last digit of a number below ten is the number
only : (n : ℕ) → n % 10 ≡ n → ◌≡◌ ((48 + n % 10) ∷ []) ((48 + n) ∷ [])
only n e = ap (λ k. (48 + k) ∷ []) e

pub returns-then-n-lt10 : goal.returns-then-n-lt10
returns-then-n-lt10 t c =
    let n = c.args.n in
    last c.write.result (has_none c.args.line.now) c.write.ensures (only n (omega arith) ∙ sym (decimal_digit n (omega arith)))

pub returns-in_err-digits : goal.returns-in_err-digits
returns-in_err-digits t c =
    let n = c.args.n in
    let step = decimal_step n (omega arith) (omega arith) in
    not_written (decimal n) c.from_residual.result (has_none c.args.line.now) c.in_err-digits.ensures
    (omega (arith, ap length step, length-append (decimal (n / 10)) ((48 + n % 10) ∷ []))) c.from_residual.ensures.0

pub returns : goal.returns
returns t c =
    last c.write-2.result (has_one c.in_ok-digits.ensures) c.write-2.ensures (sym (decimal_step c.args.n (omega arith) (omega arith)))
