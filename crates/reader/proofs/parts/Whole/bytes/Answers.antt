-- The bytes from the place on are the part, if so many are left; else they are missing.
-- The place moves by whole bytes.
use Rattle.std.proofs.Common.{◌≤◌, ◌-◌, ◌<◌, length, refl, ap, ◌∙◌, take, arith, length-drop}
use Rattle.std.proofs.lemmas.Grind.{common_steps}
use Rattle.std.proofs.lemmas.List.{take_rest}
use Rattle.reader.specs.Places.{src}
use Rattle.reader.proofs.Bridge.{part_on, part_gone}
use Rattle.reader.proofs.parts.Whole.bytes.Goals as goal

pub returns-in_default : goal.returns-in_default
returns-in_default c =
    let s = c.args.self.reader in
    let h : length (src s) - s.byte < c.args.n = let l = c.in_default.ensures.lookup in grind (arith, common_steps) in
    part_gone c.args.n s c.args.self.at h c.missing.ensures

pub returns : goal.returns
returns c =
    let s = c.args.self.reader in
    let n = c.args.n in
    let l = c.in-Some.ensures.lookup.0 in
    let r = take_rest (src s) s.byte in
    let h : n ≤ length (src s) - s.byte = omega (arith, l.1, ap length r, length-drop s.byte (src s)) in
    part_on n (n - 0) s _ _ c.args.self.at h (omega arith) (l.2 ∙ ap (take (n - 0)) r) refl refl refl
