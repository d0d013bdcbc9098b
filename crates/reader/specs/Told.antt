-- What reading tells, in terms of the format: `Reads` of the format speaks of plain messages, `told` brings the program's answer there.
-- OpeningRead speaks of kind and view, BodyRead of what follows them.
use Rattle.std.specs.Prelude.{◌≡◌, ℕ, List, [], ◌∷◌, Ok, Err, Result}
use Rattle.grammar.specs.declared.fault.Fault.{Fault}
use Rattle.grammar.specs.Bits.{bits}
use Rattle.grammar.specs.Grammar.{Grammar, Item, outcome, more, from_to}
use Rattle.wire.specs.declared.message.Body.{Body}
use Rattle.wire.specs.declared.message.Message.{Message}
use Rattle.wire.specs.Kinds.{kind_number}
use Rattle.wire.specs.Fields.{view}
use Rattle.wire.specs.Messages.{Msg, meaning, said_in}
use Rattle.wire.specs.Format.{message, values, body}
use Rattle.reader.specs.declared.read.Opening.{Opening}
use Rattle.reader.specs.Places.{met}

-- What the program's answer means.
abbrev pub told : Result Message Fault → Result Msg Fault
told (Ok m) = Ok (meaning m)
told (Err e) = Err e

-- Kind and view were read, whatever comes after them.
abbrev pub OpeningRead : List ℕ → Result Opening Fault → Type 0
OpeningRead bs (Ok o) =
    (k : ℕ → Grammar)
    → outcome (Grammar.field 4 (from_to 1 13) (λ n. view (k n))) (bits bs) 0 ≡ more (Item.num 4 (kind_number o.kind) ∷ Item.num 8 o.view ∷ []) (met (k (kind_number o.kind)) o.head.reader)
OpeningRead bs (Err e) = outcome message (bits bs) 0 ≡ Err e

-- What follows kind and view was read.
abbrev pub BodyRead : Opening → Result Body Fault → Type 0
BodyRead o (Ok b) = more (Item.num 4 (kind_number o.kind) ∷ Item.num 8 o.view ∷ []) (met (body (kind_number o.kind)) o.head.reader) ≡ Ok (values (said_in o.view b))
BodyRead o (Err e) = met (body (kind_number o.kind)) o.head.reader ≡ Err e
