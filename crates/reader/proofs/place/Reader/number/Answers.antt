-- A field's bits out of the two bytes at the place; a last byte alone is enough where the field ends in it.
-- Where it ends past the last byte, bits are missing.
use Rattle.std.proofs.Common.{sym, ap, ◌∙◌, arith}
use Rattle.std.proofs.lemmas.List.{get_or_past}
use Rattle.reader.proofs.Masks.{rest, got_pair}
use Rattle.reader.proofs.place.Reader.number.Goals as goal
use Rattle.reader.proofs.place.Reader.number.Goals.{in-len1, in-len2-up}

pub returns : goal.returns
returns c =
    let s = c.args.self.now in
    let n = c.args.field.narrow.1 in
    let p = c.from_be_bytes-pair.ensures in
    elim c.if-this-lt2.branch [
      | in-len1 w ↦ got_pair s _ _ _ _ n (omega (arith, w.in-len1.len_at_least)) (ap (λ x. x.0) w.high-is) (ap (λ x. x.1) w.high-is ∙ sym (get_or_past (rest s) 1 0 (omega (arith, w.in-len1.len_below)))) p
      | in-len2-up w ↦ got_pair s _ _ _ _ n (omega (arith, w.in-len2-up.len_at_least, s.small)) (ap (λ x. x.0) w.high-is) (ap (λ x. x.1) w.high-is) p
    ]
