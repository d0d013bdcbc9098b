-- A number's last digit comes after the digits of its tenth.
-- The tenth is smaller.
use Rattle.script.proofs.numbers.+digits.Given as goal

abbrev pub decreases-digits : goal.decreases-digits
decreases-digits l = l.n
