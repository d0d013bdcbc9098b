-- The examples: what they say of given bytes is computed, and what they say of any payload or message follows from the laws.
-- A fault of given bytes is the outcome of the grammar, which computes.
use Rattle.std.proofs.Common.{◌≡◌, ℕ, ◌*◌, List, [], ◌∷◌, ◌++◌, length, Err, sym, refl, ap, ◌∙◌, subst, arith}
use Rattle.std.proofs.lemmas.List.{append-nil}
use Rattle.boards.specs.Boards.{member, size, tally}
use Rattle.grammar.specs.declared.fault.Layer.TheVariants.{Bytes, Field}
use Rattle.grammar.specs.declared.fault.Fault.{Fault}
use Rattle.grammar.specs.Bits.{bits, bits_of, number_of, bytes_of}
use Rattle.grammar.specs.Grammar.{Item, outcome, spell, fault}
use Rattle.grammar.proofs.Held.{held}
use Rattle.grammar.proofs.Lawful.{faults}
use Rattle.wire.specs.declared.message.Sort.TheVariants.{Report}
use Rattle.wire.specs.Fields.{lone}
use Rattle.wire.specs.Messages.{Msg, listed}
use Rattle.wire.specs.Format.{message, Formed, form, packed}
use Rattle.wire.specs.Reads.{ByteList, Reads}
use Rattle.wire.specs.Acts.{Act, words, signed_values}
use Rattle.wire.specs.Examples.{Examples}
use Rattle.wire.proofs.Packed.{packed_is}
use Rattle.wire.proofs.Widths.{length_form}
use Rattle.wire.proofs.Answered.{too_long}

found : (bs : List ℕ) (e : Fault) → outcome message (bits bs) 0 ≡ Err e → Reads bs (Err e)
found bs e o = (faults message (bits bs) 0 e).0 o

echo_head : (p : List ℕ) → ByteList p → length p ≡ 3 → words (Act.echo 2 5 1 Report p) ≡ 0xC0 ∷ 0x2A ∷ 0x02 ∷ 0x03 ∷ p
unfolding bits bits_of spell
echo_head p b l =
    let head : bits (0xC0 ∷ 0x2A ∷ 0x02 ∷ 0x03 ∷ p) ≡ spell (Item.num 4 12 ∷ Item.num 8 2 ∷ Item.num 3 5 ∷ Item.num 8 1 ∷ Item.num 3 0 ∷ Item.num 6 3 ∷ Item.raw p ∷ []) =
    ap (λ r. bits (0xC0 ∷ 0x2A ∷ 0x02 ∷ 0x03 ∷ []) ++ r) (sym (append-nil (bits p))) in
    sym (packed_is (0xC0 ∷ 0x2A ∷ 0x02 ∷ 0x03 ∷ p) (signed_values (Act.echo 2 5 1 Report p)) (omega arith, (omega arith, (omega arith, (omega arith, b))))
    (head ∙ ap (λ n. spell (Item.num 4 12 ∷ Item.num 8 2 ∷ Item.num 3 5 ∷ Item.num 8 1 ∷ Item.num 3 0 ∷ Item.num 6 n ∷ Item.raw p ∷ [])) (sym l)))

suggest_long : (v c s : ℕ) (t : List ℕ) → Formed (Msg.suggest v c s t) → size s ≡ 2 → length (form (Msg.suggest v c s t)) ≡ 19
suggest_long v c s t f e =
    let tags : length t ≡ 8 * size s = (held f).3.3.3.3.3.0 in
    length_form (Msg.suggest v c s t) ∙ omega (arith, tags, e)

pub worked : Examples
unfolding outcome bits bits_of number_of bytes_of spell packed listed member lone size tally
worked = record {
  set = refl;
  notify = refl;
  ack = refl;
  last_none = refl;
  last_kept = refl;
  echo = echo_head;
  suggest = suggest_long;
  twentieth = λ v c s t x f e. let n = suggest_long v c s t f e in subst (λ q. Reads (form (Msg.suggest v c s t) ++ x ∷ []) (Err (fault Bytes q))) n (too_long (Msg.suggest v c s t) (x ∷ []) f (omega arith));
  nothing = found [] (fault Bytes 0) refl;
  no_kind = found (0x00 ∷ []) (fault Field 0) refl;
  no_view = found (0x1F ∷ []) (fault Bytes 1) refl;
  not_zero = found (0x10 ∷ 0x1A ∷ []) (fault Field 1) refl;
  no_number = found (0xB0 ∷ 0x10 ∷ []) (fault Bytes 2) refl;
  no_sort = found (0xB0 ∷ 0x10 ∷ 0x03 ∷ 0x00 ∷ []) (fault Field 2) refl;
}
