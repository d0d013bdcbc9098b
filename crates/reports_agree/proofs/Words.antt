-- The words of acts: those of an init or an echo stand in the bytes of its lone message, and all words begin with the kind of their act.
-- Nothing is asked of the fields.
use Rattle.std.proofs.Common.{◌≡◌, ℕ, ◌+◌, ◌-◌, ◌≤◌, Bool, List, [], ◌++◌, length, take, sym, ap, ◌∙◌, arith}
use Rattle.std.proofs.lemmas.List.{take_at, length-append}
use Rattle.boards.specs.Boards.{only}
use Rattle.grammar.specs.Bits.{bits}
use Rattle.grammar.specs.Grammar.{Item, spell}
use Rattle.grammar.proofs.Cuts.{spell_append}
use Rattle.wire.specs.Messages.{kind, tag_bytes}
use Rattle.wire.specs.Format.{values, form, set_values}
use Rattle.wire.specs.Acts.{Act, words, signed_values}
use Rattle.wire.proofs.Widths.{length_spell, whole, whole_words}
use Rattle.row.specs.Effects.{lone}
use Rattle.views_agree.proofs.Deeds.{Vote, Deed}
use Rattle.views_agree.proofs.Signing.{SignedAs}
use Rattle.views_agree.proofs.Written.{same_kind, same_packed, kind_in, kind_first}

-- The set byte and one tag, 72 bits.
abbrev bits_behind : ℕ
bits_behind = 72

front : (is js : List Item) → length (spell js) ≡ bits_behind → take (length (spell (is ++ js)) - bits_behind) (spell (is ++ js)) ≡ spell is
front is js h =
    let parts = spell_append is js in
    let long : length (spell (is ++ js)) ≡ length (spell is) + length (spell js) = ap length parts ∙ length-append (spell is) (spell js) in
    let many : length (spell is) ≡ length (spell (is ++ js)) - bits_behind = omega (arith, long, h) in
    ap (take (length (spell (is ++ js)) - bits_behind)) parts ∙ take_at (spell is) (spell js) (length (spell (is ++ js)) - bits_behind) many

abbrev told_by : List Bool → List Bool
told_by bs = take (length bs - bits_behind) bs

told_words : (a : Act) (b p : ℕ) (ak : List ℕ) (t : ℕ) → 11 ≤ kind (lone a b p ak (tag_bytes t)) → told_by (spell (values (lone a b p ak (tag_bytes t)))) ≡ spell (signed_values a)
told_words (Act.notify v c) b p ak t h = absurd (omega arith)
told_words (Act.ack v k c) b p ak t h = absurd (omega arith)
told_words (Act.ready v k c) b p ak t h = absurd (omega arith)
told_words (Act.deputy v k) b p ak t h = absurd (omega arith)
told_words (Act.last v k e) b p ak t h = absurd (omega arith)
told_words (Act.init v s n k q) b p ak t h = front (signed_values (Act.init v s n k q)) (set_values (only s) (tag_bytes t)) (length_spell (set_values (only s) (tag_bytes t)))
told_words (Act.echo v s n k q) b p ak t h = front (signed_values (Act.echo v s n k q)) (set_values (only b) (tag_bytes t)) (length_spell (set_values (only b) (tag_bytes t)))

-- The same bytes of two lone messages of kinds 11 and 12 tell the same words.
pub same_words : (a c : Act) (b p d q : ℕ) (ak al : List ℕ) (t u : ℕ)
    → form (lone a b p ak (tag_bytes t)) ≡ form (lone c d q al (tag_bytes u)) → 11 ≤ kind (lone c d q al (tag_bytes u)) → words a ≡ words c
same_words a c b p d q ak al t u e h =
    let m = lone a b p ak (tag_bytes t) in
    let n = lone c d q al (tag_bytes u) in
    let kinds : kind m ≡ kind n = same_kind m n e in
    let spelt : spell (values m) ≡ spell (values n) = sym (whole m) ∙ ap bits e ∙ whole n in
    same_packed (signed_values a) (signed_values c) (sym (told_words a b p ak t (omega (arith, kinds, h))) ∙ ap told_by spelt ∙ told_words c d q al u h)

pub lone_most : (a : Act) (b p : ℕ) (ak t : List ℕ) → (1 ≤ kind (lone a b p ak t)) × (kind (lone a b p ak t) ≤ 12)
lone_most (Act.notify v c) b p ak t = (omega arith, omega arith)
lone_most (Act.ack v k c) b p ak t = (omega arith, omega arith)
lone_most (Act.ready v k c) b p ak t = (omega arith, omega arith)
lone_most (Act.deputy v k) b p ak t = (omega arith, omega arith)
lone_most (Act.last v k e) b p ak t = (omega arith, omega arith)
lone_most (Act.init v s n k q) b p ak t = (omega arith, omega arith)
lone_most (Act.echo v s n k q) b p ak t = (omega arith, omega arith)

-- The kind at the head of the words of an act.
abbrev pub act_kind : Act → ℕ
act_kind a = kind (lone a 0 0 [] [])

kind_spelt : (a : Act) → kind_in (spell (signed_values a)) ≡ act_kind a
kind_spelt (Act.notify v c) = kind_first 1 _
kind_spelt (Act.ack v k c) = kind_first 3 _
kind_spelt (Act.ready v k c) = kind_first 5 _
kind_spelt (Act.deputy v k) = kind_first 7 _
kind_spelt (Act.last v k e) = kind_first 9 _
kind_spelt (Act.init v s n k p) = kind_first 11 _
kind_spelt (Act.echo v s n k p) = kind_first 12 _

-- The same words are of one kind.
pub same_kinds : (a c : Act) → words a ≡ words c → act_kind a ≡ act_kind c
same_kinds a c e = sym (ap kind_in (whole_words a) ∙ kind_spelt a) ∙ ap (λ x. kind_in (bits x)) e ∙ ap kind_in (whole_words c) ∙ kind_spelt c

-- What a deed of the membership layer signs is of a kind up to 9.
pub deed_kind : (d : Deed) (a : Act) → SignedAs d a → act_kind a ≤ 9
deed_kind (Deed.Asks x c) a e = omega (arith, ap act_kind e)
deed_kind (Deed.Deputes x c k) a e = omega (arith, ap act_kind e)
deed_kind (Deed.Voted x (Vote.Ack k c)) a e = omega (arith, ap act_kind e)
deed_kind (Deed.Voted x (Vote.Ready k c)) a e = omega (arith, ap act_kind e)
deed_kind (Deed.Voted x (Vote.Last k c)) a e = omega (arith, ap act_kind e)
deed_kind (Deed.Changed x c) a e = absurd e
