-- How wide messages and the words of acts are: always whole bytes, so that packing loses nothing.
-- One count of bits, `wide`, for all items; messages and acts differ only in which items they have.
use Rattle.std.proofs.Common.{◌≡◌, ℕ, ◌+◌, ◌*◌, ◌/◌, ◌%◌, List, [], ◌∷◌, ◌++◌, length, refl, ap, ◌∙◌, arith, length-append}
use Rattle.grammar.specs.Bits.{bits, bits_of}
use Rattle.grammar.specs.Grammar.{Item, spell}
use Rattle.grammar.proofs.Bits.{length_bits, length_bits_of}
use Rattle.wire.specs.Messages.{Msg, Reply}
use Rattle.wire.specs.Format.{values, form, replies_values}
use Rattle.wire.specs.Acts.{Act, signed_values, words}
use Rattle.wire.proofs.Packed.{packed_whole, length_packed}

-- How many bits items have.
abbrev pub wide : List Item → ℕ
wide [] = 0
wide (Item.num w v ∷ is) = w + wide is
wide (Item.raw xs ∷ is) = 8 * length xs + wide is

pub length_spell : (is : List Item) → length (spell is) ≡ wide is
unfolding spell
length_spell [] = refl
length_spell (Item.num w v ∷ is) = length-append (bits_of w v) (spell is) ∙ omega (arith, length_bits_of w v, length_spell is)
length_spell (Item.raw xs ∷ is) = length-append (bits xs) (spell is) ∙ omega (arith, length_bits xs, length_spell is)

pub wide_append : (is js : List Item) → wide (is ++ js) ≡ wide is + wide js
wide_append [] js = omega arith
wide_append (Item.num w v ∷ is) js = omega (arith, wide_append is js)
wide_append (Item.raw xs ∷ is) js = omega (arith, wide_append is js)

replies_wide : (es : List Reply) → wide (replies_values es) % 8 ≡ 0
unfolding replies_values
replies_wide [] = refl
replies_wide (e ∷ es) = omega (arith, replies_wide es)

values_wide : (m : Msg) → wide (values m) % 8 ≡ 0
values_wide (Msg.notify v c s t) = omega arith
values_wide (Msg.suggest v c s t) = omega arith
values_wide (Msg.ack v r c s t) = omega arith
values_wide (Msg.proposal v r c s t) = omega arith
values_wide (Msg.ready v r c s t) = omega arith
values_wide (Msg.change v r c s t) = omega arith
values_wide (Msg.deputy v r s t) = omega arith
values_wide (Msg.query v r s t) = omega arith
values_wide (Msg.last v r s e p a) = omega arith
values_wide (Msg.suggest_last v r s es p a) = simp wide_append (omega (arith, replies_wide es))
values_wide (Msg.init v s n k p t) = omega arith
values_wide (Msg.echo v s n k p b t) = omega arith
values_wide (Msg.commit v s n k p b t) = omega arith

signed_wide : (a : Act) → wide (signed_values a) % 8 ≡ 0
signed_wide (Act.notify v c) = refl
signed_wide (Act.ack v r c) = refl
signed_wide (Act.ready v r c) = refl
signed_wide (Act.deputy v r) = refl
signed_wide (Act.last v r e) = refl
signed_wide (Act.init v s n k p) = omega arith
signed_wide (Act.echo v s n k p) = omega arith

-- The bits of a message's bytes are the written form of its fields.
pub whole : (m : Msg) → bits (form m) ≡ spell (values m)
whole m = packed_whole (values m) (ap (λ n. n % 8) (length_spell (values m)) ∙ values_wide m)

-- The bits of an act's words are the written form of the fields signed for it.
pub whole_words : (a : Act) → bits (words a) ≡ spell (signed_values a)
whole_words a = packed_whole (signed_values a) (ap (λ n. n % 8) (length_spell (signed_values a)) ∙ signed_wide a)

pub length_form : (m : Msg) → length (form m) ≡ wide (values m) / 8
length_form m = length_packed (values m) ∙ ap (λ n. n / 8) (length_spell (values m))

pub length_words : (a : Act) → length (words a) ≡ wide (signed_values a) / 8
length_words a = length_packed (signed_values a) ∙ ap (λ n. n / 8) (length_spell (signed_values a))
