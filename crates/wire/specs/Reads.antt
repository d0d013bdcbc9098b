-- What bytes are: the one formed message whose bytes they are, or the first fault.
-- This is what a reader of bytes answers, and there is only one answer to any bytes.
use Rattle.std.specs.Prelude.{◌≡◌, ℕ, ◌<◌, List, Ok, Err, Result}
use Rattle.std.specs.List.{AllByRecursion}
use Rattle.grammar.specs.declared.fault.Fault.{Fault}
use Rattle.grammar.specs.Bits.{bits}
use Rattle.grammar.specs.Grammar.{First}
use Rattle.wire.specs.Messages.{Msg}
use Rattle.wire.specs.Format.{message, Formed, form}

-- Numbers that are bytes.
abbrev pub ByteList : List ℕ → Type 0
ByteList bs = AllByRecursion (λ x. x < 256) bs

-- Bytes read as a message are the bytes of that formed message; bytes that are none have a first fault.
abbrev pub Reads : List ℕ → Result Msg Fault → Type 0
Reads bs (Ok m) = Formed m × (bs ≡ form m)
Reads bs (Err e) = First message (bits bs) 0 e
