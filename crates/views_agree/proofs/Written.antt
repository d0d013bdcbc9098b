-- The bytes that a call wrote tell what was signed in it: the words of an act stand in the bytes of its lone message, and no certificate has the kind of one.
-- Nothing is asked of the fields: this holds of messages that are not formed too.
use Rattle.std.proofs.Common.{◌≡◌, ℕ, ◌/◌, ◌%◌, ◌^◌, ◌≤◌, Bool, cond, eqb, ◌⊎◌, List, [], ◌∷◌, ◌++◌, length, take, drop, sym, refl, ap, ◌∙◌, inl, inr, arith}
use lib.Seq.{take-append_seam}
use Rattle.std.proofs.lemmas.List.{take_at, drop_at, append-nil}
use Rattle.grammar.specs.Bits.{bits, bits_of, number_of, bytes_of}
use Rattle.grammar.specs.Grammar.{Item, spell}
use Rattle.grammar.proofs.Bits.{number_bits}
use Rattle.grammar.proofs.Cuts.{spell_append}
use Rattle.wire.specs.Messages.{Msg, kind}
use Rattle.wire.specs.Format.{values, form, packed, opening}
use Rattle.wire.specs.Acts.{Act, words, signed_values}
use Rattle.wire.proofs.Widths.{wide, length_spell, whole}
use Rattle.row.specs.declared.state.Sent.{Sent}
use Rattle.row.specs.Effects.{lone}
use Rattle.row.specs.Calls.{Posted}

front : (n : ℕ) (is js : List Item) → wide is ≡ n → take n (spell (is ++ js)) ≡ spell is
front n is js h = ap (take n) (spell_append is js) ∙ take_at (spell is) (spell js) n (length_spell is ∙ h)

back : (n : ℕ) (is js : List Item) → wide is ≡ n → drop n (spell (is ++ js)) ≡ spell js
back n is js h = ap (drop n) (spell_append is js) ∙ drop_at (spell is) (spell js) n (length_spell is ∙ h)

one_item : (k : ℕ) → number_of (spell (Item.num 4 k ∷ [])) ≡ k % 2 ^ 4
unfolding spell
one_item k = ap number_of (append-nil (bits_of 4 k)) ∙ number_bits 4 k

-- The kind that bits begin with.
abbrev pub kind_in : List Bool → ℕ
kind_in bs = number_of (take 4 bs)

pub kind_first : (k : ℕ) (is : List Item) → kind_in (spell (Item.num 4 k ∷ is)) ≡ k % 2 ^ 4
kind_first k is = ap number_of (front 4 (Item.num 4 k ∷ []) is refl) ∙ one_item k

kind_spelt : (m : Msg) → kind_in (spell (values m)) ≡ kind m
kind_spelt (Msg.notify v c s t) = kind_first 1 _
kind_spelt (Msg.suggest v c s t) = kind_first 2 _
kind_spelt (Msg.ack v k c s t) = kind_first 3 _
kind_spelt (Msg.proposal v k c s t) = kind_first 4 _
kind_spelt (Msg.ready v k c s t) = kind_first 5 _
kind_spelt (Msg.change v k c s t) = kind_first 6 _
kind_spelt (Msg.deputy v k s t) = kind_first 7 _
kind_spelt (Msg.query v k s t) = kind_first 8 _
kind_spelt (Msg.last v k s e p a) = kind_first 9 _
kind_spelt (Msg.suggest_last v k s es p a) = kind_first 10 _
kind_spelt (Msg.init v s n k p t) = kind_first 11 _
kind_spelt (Msg.echo v s n k p b t) = kind_first 12 _
kind_spelt (Msg.commit v s n k p b t) = kind_first 13 _

pub kind_told : (m : Msg) → kind_in (bits (form m)) ≡ kind m
kind_told m = ap kind_in (whole m) ∙ kind_spelt m

-- The same bytes have the same kind.
pub same_kind : (m n : Msg) → form m ≡ form n → kind m ≡ kind n
same_kind m n e = sym (kind_told m) ∙ ap (λ bs. kind_in (bits bs)) e ∙ kind_told n

-- Where the words of each kind stand in the bits of its lone message: the head, and in a last the entry behind the speaker.
abbrev told_by : ℕ → List Bool → List Bool
told_by k bs = cond (eqb k 9) (take 16 bs ++ take 8 (drop 24 bs)) (cond (eqb k 1) (take 16 bs) (cond (eqb k 7) (take 16 bs) (take 24 bs)))

-- A head and an entry, with a speaker between them.
entry_told : (is ss js ks : List Item) → wide is ≡ 16 → wide (is ++ ss) ≡ 24 → wide js ≡ 8
    → take 16 (spell (is ++ (ss ++ (js ++ ks)))) ++ take 8 (drop 24 (spell ((is ++ ss) ++ (js ++ ks)))) ≡ spell (is ++ js)
entry_told is ss js ks h1 h2 h3 =
    (λ i. front 16 is (ss ++ (js ++ ks)) h1 i ++ (ap (take 8) (back 24 (is ++ ss) (js ++ ks) h2) ∙ front 8 js ks h3) i) ∙ sym (spell_append is js)

told_words : (a : Act) (b p : ℕ) (ak t : List ℕ) → kind (lone a b p ak t) ≤ 9 → told_by (kind (lone a b p ak t)) (spell (values (lone a b p ak t))) ≡ spell (signed_values a)
told_words (Act.notify v c) b p ak t h = front 16 (signed_values (Act.notify v c)) _ refl
told_words (Act.ack v k c) b p ak t h = front 24 (signed_values (Act.ack v k c)) _ refl
told_words (Act.ready v k c) b p ak t h = front 24 (signed_values (Act.ready v k c)) _ refl
told_words (Act.deputy v k) b p ak t h = front 16 (signed_values (Act.deputy v k)) _ refl
told_words (Act.last v k e) b p ak t h =
    entry_told (opening 9 v (Item.num 4 k ∷ [])) (Item.num 8 _ ∷ []) (Item.num 4 e.earlier ∷ Item.num 1 0 ∷ Item.num 3 e.change ∷ []) _ refl refl refl
told_words (Act.init v s n k q) b p ak t h = absurd (omega arith)
told_words (Act.echo v s n k q) b p ak t h = absurd (omega arith)

pub same_packed : (is js : List Item) → spell is ≡ spell js → packed is ≡ packed js
unfolding packed
same_packed is js e = ap (λ bs. bytes_of (length bs / 8) bs) e

-- The same bytes of two lone messages of kinds 1 to 9 tell the same words.
pub same_words : (a c : Act) (b p d q : ℕ) (ak t al u : List ℕ) → form (lone a b p ak t) ≡ form (lone c d q al u) → kind (lone c d q al u) ≤ 9 → words a ≡ words c
same_words a c b p d q ak t al u e h =
    let m = lone a b p ak t in
    let n = lone c d q al u in
    let kinds : kind m ≡ kind n = same_kind m n e in
    let spelt : spell (values m) ≡ spell (values n) = sym (whole m) ∙ ap bits e ∙ whole n in
    same_packed (signed_values a) (signed_values c)
    (sym (told_words a b p ak t (omega arith)) ∙ (λ i. told_by (kinds i) (spelt i)) ∙ told_words c d q al u h)

-- A lone message is of an odd kind, or an echo.
pub lone_kinds : (a : Act) (b p : ℕ) (ak t : List ℕ) → (kind (lone a b p ak t) % 2 ≡ 1) ⊎ (kind (lone a b p ak t) ≡ 12)
lone_kinds (Act.notify v c) b p ak t = inl refl
lone_kinds (Act.ack v k c) b p ak t = inl refl
lone_kinds (Act.ready v k c) b p ak t = inl refl
lone_kinds (Act.deputy v k) b p ak t = inl refl
lone_kinds (Act.last v k e) b p ak t = inl refl
lone_kinds (Act.init v s n k q) b p ak t = inl refl
lone_kinds (Act.echo v s n k q) b p ak t = inr refl

no_bytes : kind_in (bits []) ≡ 0
unfolding bits number_of
no_bytes = refl

empty : (l : List ℕ) → length l ≡ 0 → l ≡ []
empty [] e = refl
empty (x ∷ l) e = absurd (omega arith)

-- A message has bytes.
pub form_some : (m : Msg) → 1 ≤ kind m → length (form m) ≡ 0 → ⊥
form_some m h none = omega (arith, h, sym (kind_told m) ∙ ap (λ bs. kind_in (bits bs)) (empty (form m) none) ∙ no_bytes)

-- One answer and one text of offered bytes belong to one form.
pub one_form : {to for : ℕ} {m n : Msg} {out out2 : List ℕ} {a : Sent} → Posted to m out a out2 → Posted for n out a out2 → form m ≡ form n
one_form {to} {for} {m} {n} {out} {out2} {a} p q =
    let long : length (form m) ≡ length (form n) = ap (λ (z : Sent). z.length) (sym p.answer ∙ q.answer) in
    sym (ap (take (length (form m))) p.bytes ∙ take-append_seam (form m) _) ∙ ap (λ k. take k out2) long ∙ ap (take (length (form n))) q.bytes ∙ take-append_seam (form n) _
