-- A message by its kind: what was read of kind, view and body is what the whole bytes spell.
-- Laws used: the outcome of a grammar is exact, and bytes are told by their bits.
use Rattle.std.proofs.Common.{◌≡◌, ℕ, ◌<◌, List, [], ◌∷◌, get_or, Ok, Err, ap, ◌∙◌}
use Rattle.std.proofs.lemmas.List.Elements.{recursion_from_All}
use Rattle.grammar.specs.declared.fault.Fault.{Fault}
use Rattle.grammar.specs.Bits.{bits}
use Rattle.grammar.specs.Grammar.{Item, Stands, more, outcome}
use Rattle.grammar.proofs.Lawful.{exact, faults}
use Rattle.wire.specs.declared.message.Body.{Body}
use Rattle.wire.specs.Kinds.{kind_number}
use Rattle.wire.specs.Messages.{said_in}
use Rattle.wire.specs.Format.{message, values, body}
use Rattle.reader.specs.declared.read.Opening.{Opening}
use Rattle.wire.specs.Reads.{Reads}
use Rattle.wire.proofs.Packed.{packed_is}
use Rattle.reader.specs.Told.{OpeningRead, BodyRead}
use Rattle.reader.proofs.Bridge.{all_bytes}

-- by the laws of grammars, the outcome says it all
pub so : (bs : List ℕ) (e : Fault) → outcome message (bits bs) 0 ≡ Err e → Reads bs (Err e)
so bs e o = (faults message (bits bs) 0 e).0 o

pub spelt : (bs : List ℕ) (o : Opening) (b : Body) → ((i : ℕ) → get_or bs i 0 < 256) → OpeningRead bs (Ok o) → BodyRead o (Ok b) → Reads bs (Ok (said_in o.view b))
spelt bs o b f p r =
    let is = values (said_in o.view b) in
    let s : Stands message is (bits bs) = (exact message (bits bs) 0 is).0 (p body ∙ r) in
    (s.allowed, packed_is bs is (recursion_from_All _ bs (all_bytes bs f)) s.form)

pub stuck : (bs : List ℕ) (o : Opening) (e : Fault) → OpeningRead bs (Ok o) → BodyRead o (Err e) → Reads bs (Err e)
stuck bs o e p r = so bs e (p body ∙ ap (more (Item.num 4 (kind_number o.kind) ∷ Item.num 8 o.view ∷ [])) r)
