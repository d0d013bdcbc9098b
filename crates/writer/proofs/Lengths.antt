-- How long a layout is, part by part.
-- The sum as the code has it, and the parts in order.
use Rattle.std.proofs.Common.{◌≡◌, ◌+◌, ◌/◌, [], ◌∷◌, ◌++◌, length, arith, length-append}
use Rattle.std.proofs.lemmas.List.{append_assoc}
use Rattle.wire.specs.Messages.{tags_by}
use Rattle.layout.specs.declared.plan.Layout.{Layout}
use Rattle.layout.specs.Layouts.{head_bytes, middle_bytes, layout_bytes}
use Rattle.layout.proofs.Packed.{head_long}

-- the sum as the code has it
pub layout_sum : (l : Layout) → length (layout_bytes l) ≡ l.front.head.width / 8 + length (middle_bytes l.front.middle) + 1 + length (tags_by l.by)
layout_sum l = simp length-append (omega (arith, head_long l.front.head))

-- the parts one after another
pub layout_parts : (l : Layout) → ((head_bytes l.front.head ++ middle_bytes l.front.middle) ++ l.by.set.bits ∷ []) ++ tags_by l.by ≡ layout_bytes l
layout_parts l = simp append_assoc
