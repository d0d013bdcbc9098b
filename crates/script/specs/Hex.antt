-- Reading hexadecimal: two digits a byte, in either case.
-- It undoes writing.
use Rattle.std.specs.Prelude.{◌≡◌, ℕ, ◌+◌, ◌-◌, ◌*◌, ◌%◌, ◌<◌, cond, ◌&&◌, List, [], ◌∷◌, length, nat_le}
use Rattle.std.specs.List.{AllByRecursion}
use Rattle.script.specs.Texts.{hex}
use Rattle.script.specs.Words.{Whole, hex_sign}

-- The number that a digit stands for; 0 for what is no digit.
abbrev pub nibble : ℕ → ℕ
nibble b =
    cond (nat_le 48 b && nat_le b 57) (b - 48) (cond (nat_le 65 b && nat_le b 70) (b - 55) (cond (nat_le 97 b && nat_le b 102) (b - 87) 0))

-- The bytes that digits stand for, two each; a last one alone stands for none.
unfoldable pub read_hex : List ℕ → List ℕ
read_hex [] = []
read_hex (a ∷ []) = []
read_hex (a ∷ b ∷ ds) = (16 * nibble a + nibble b) ∷ read_hex ds

-- Digits that stand for whole bytes.
pub record Hexadecimal (ds : List ℕ) : Type 0 where
  pub digits : Whole hex_sign ds
  pub paired : length ds % 2 ≡ 0

-- Bytes that were written are read again.
abbrev pub Undone : Type 0
Undone = (bs : List ℕ) → AllByRecursion (λ b. b < 256) bs → Hexadecimal (hex bs) × (read_hex (hex bs) ≡ bs)
