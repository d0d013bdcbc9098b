-- The two layers of a fault: bytes that are missing or left over, and a field whose value is not allowed.
-- Each has a number and a name; names are bytes of ASCII text.
use Rattle.std.specs.Prelude.{ℕ, List, codes}
use Rattle.grammar.specs.declared.fault.Layer.{Layer}
use Rattle.grammar.specs.declared.fault.Layer.TheVariants.{Bytes, Field}

-- The number of each layer.
abbrev pub layer_number : Layer → ℕ
layer_number Bytes = 0
layer_number Field = 1

-- Its name.
abbrev pub layer_name : Layer → List ℕ
layer_name Bytes = codes "bytes"
layer_name Field = codes "field"
