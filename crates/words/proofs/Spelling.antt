-- Words put together: their bits are those of the head's fields and then of the payload, so they are the words of the act.
-- Where a field is not allowed, the act is not allowed either.
use Rattle.std.proofs.Common.{◌≡◌, ℕ, ◌/◌, ◌%◌, ◌<◌, List, ◌++◌, take, Some, None, Option, sym, refl, ap, ◌∙◌, subst}
use Rattle.std.proofs.lemmas.List.{append-nil}
use Rattle.std.proofs.ByRecursion.{All-take, All-append}
use Rattle.grammar.specs.Bits.{bits, bits_of}
use Rattle.grammar.specs.Grammar.{Grammar, After, spell}
use Rattle.grammar.proofs.Bits.{bits_append}
use Rattle.grammar.proofs.Cuts.{spell_append}
use Rattle.grammar.proofs.Held.{onward}
use Rattle.head.specs.declared.number.Head.{Head}
use Rattle.head.specs.Heads.{BytesOf}
use Rattle.head.proofs.Joins.{first_bits}
use Rattle.head.proofs.Steps.{barred_more}
use Rattle.wire.specs.Reads.{ByteList}
use Rattle.wire.specs.Acts.{Act, Allowed, words, signed, signed_values}
use Rattle.wire.proofs.Packed.{packed_is}
use Rattle.words.specs.Openings.{Stated, load, loaded, room}

-- The bits of words are those of the head's fields and then of the payload, and the words are bytes.
pub record BitsOf (h : Head) (p t : List ℕ) : Type 0 where
  pub form : bits t ≡ bits_of h.width h.number ++ bits p
  pub fit : ByteList t
  pub load_fit : ByteList p

pub bits_of_words : (h : Head) (bs p t : List ℕ) → h.width % 8 ≡ 0 → BytesOf h bs → ByteList p → t ≡ take (h.width / 8) bs ++ p → BitsOf h p t
bits_of_words h bs p t m b f e = record {
  form = ap bits e ∙ bits_append (take (h.width / 8) bs) p ∙ ap (λ l. l ++ bits p) (first_bits h bs m b);
  fit = subst ByteList (sym e) (All-append (λ x. x < 256) (take (h.width / 8) bs) p (All-take (λ x. x < 256) (h.width / 8) bs b.fit) f);
  load_fit = f;
}

-- A payload as the table wants it, and its bits.
load_stands : (a : Act) → ByteList (load a) → After (room a) (loaded a) Grammar.done
load_stands (Act.notify v c) f = After.start
load_stands (Act.ack v r c) f = After.start
load_stands (Act.ready v r c) f = After.start
load_stands (Act.deputy v r) f = After.start
load_stands (Act.last v r e) f = After.start
load_stands (Act.init v s n k p) f = After.then_raw refl f After.start
load_stands (Act.echo v s n k p) f = After.then_raw refl f After.start

load_bits : (a : Act) → bits (load a) ≡ spell (loaded a)
unfolding bits spell
load_bits (Act.notify v c) = refl
load_bits (Act.ack v r c) = refl
load_bits (Act.ready v r c) = refl
load_bits (Act.deputy v r) = refl
load_bits (Act.last v r e) = refl
load_bits (Act.init v s n k p) = sym (append-nil (bits p))
load_bits (Act.echo v s n k p) = sym (append-nil (bits p))

-- Words with these bits are those of the act that the head states.
pub words_are : (h : Head) (p t : List ℕ) → BitsOf h p t → (a : Act) → Stated a (Some h) → load a ≡ p → Allowed a × (t ≡ words a)
words_are h p t q a s e =
    let b = s.begins.holds h refl in
    let form : bits t ≡ spell (signed_values a) = q.form ∙ (λ i. b.form i ++ (ap bits (sym e) ∙ load_bits a) i) ∙ sym (spell_append s.fields (loaded a)) ∙ ap spell (sym s.split) in
    (subst (λ y. After signed y Grammar.done) (sym s.split) (onward b.goes (load_stands a (subst ByteList (sym e) q.load_fit))), packed_is t (signed_values a) q.fit form)

-- An act without a head is not allowed.
pub no_head : (a : Act) (r : Option Head) → Stated a r → r ≡ None → Allowed a → ⊥
no_head a r s n f = barred_more (loaded a) (s.begins.none n) Grammar.done (subst (λ y. After signed y Grammar.done) s.split f)
