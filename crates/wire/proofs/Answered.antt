-- The laws of the bytes of messages: the laws of every grammar, at the format of messages.
-- `stands` takes a message's bytes to its fields, and `message_of` takes bytes that stand back to the message.
use Rattle.std.proofs.Common.{◌≡◌, ℕ, ◌+◌, ◌*◌, ◌/◌, ◌<◌, Bool, ◌⊎◌, List, [], ◌++◌, length, take, drop, Ok, Err, Result, sym, refl, ap, ◌∙◌, subst, inl, inr, ⊎_elim, arith, length-append, take-append-drop, take_at}
use Rattle.std.proofs.ByRecursion.{All-take}
use Rattle.std.proofs.lemmas.Bool.{cases_lt}
use Rattle.grammar.specs.declared.fault.Layer.TheVariants.{Bytes}
use Rattle.grammar.specs.declared.fault.Fault.{Fault}
use Rattle.grammar.specs.Bits.{bits}
use Rattle.grammar.specs.Grammar.{Grammar, Item, After, Stands, First, Left, fault, spell}
use Rattle.grammar.proofs.Bits.{length_bits, bits_append, bits_take}
use Rattle.grammar.proofs.Lawful.{one_or_other, single}
use Rattle.grammar.proofs.Cuts.{cut, over, over_or_short, field_fault}
use Rattle.wire.specs.Messages.{Msg}
use Rattle.wire.specs.Format.{message, Formed, form, values, packed}
use Rattle.wire.specs.Reads.{ByteList, Reads}
use Rattle.wire.specs.Acts.{words, signed, signed_values}
use Rattle.wire.specs.Laws.{OneAnswer, RoundTrip, CutShort, TooLong, LeftOver, FieldRefused, WordsTell, SignedAllowed}
use Rattle.wire.proofs.Packed.{packed_is, packed_fit}
use Rattle.wire.proofs.Widths.{whole, whole_words}
use Rattle.wire.proofs.Tells.{same_message, same_act}
use Rattle.wire.proofs.Spelt.{spelt}
use Rattle.wire.proofs.Signs.{signed_allowed, proved_allowed, words_long}

-- The fields of a formed message stand in its bytes.
pub stands : (m : Msg) → Formed m → Stands message (values m) (bits (form m))
stands m f = record { allowed = f; form = whole m }

-- Bytes in which fields stand are the bytes of a formed message with these fields.
pub message_of : (bs : List ℕ) (is : List Item) → ByteList bs → Stands message is (bits bs) → (m : Msg) × Formed m × (bs ≡ form m)
message_of bs is b s =
    let r = spelt is s.allowed in
    (r.0, subst (λ l. After message l Grammar.done) r.1 s.allowed, packed_is bs is b s.form ∙ ap packed r.1)

stands_in : (bs : List ℕ) (m : Msg) → Formed m → bs ≡ form m → Stands message (values m) (bits bs)
stands_in bs m f e = subst (λ l. Stands message (values m) (bits l)) (sym e) (stands m f)

no_fault : Fault
no_fault = fault Bytes 0

same_answer : (bs : List ℕ) (r s : Result Msg Fault) → Reads bs r → Reads bs s → r ≡ s
same_answer bs (Ok m) (Ok m') x y =
    ap (λ z. Ok z) (same_message m m' x.0 y.0 ((single message (bits bs) 0 (values m) (values m') no_fault no_fault).0 (stands_in bs m x.0 x.1) (stands_in bs m' y.0 y.1)))
same_answer bs (Ok m) (Err e) x y = absurd ((single message (bits bs) 0 (values m) [] e no_fault).2 (stands_in bs m x.0 x.1) y)
same_answer bs (Err e) (Ok m) x y = absurd ((single message (bits bs) 0 (values m) [] e no_fault).2 (stands_in bs m y.0 y.1) x)
same_answer bs (Err e) (Err f) x y = ap (λ z. Err z) ((single message (bits bs) 0 [] [] e f).1 x y)

some_answer : (bs : List ℕ) → ByteList bs → (r : Result Msg Fault) × Reads bs r
some_answer bs b =
    let Answer : Type 0 = (r : Result Msg Fault) × Reads bs r in
    let read : ((is : List Item) × Stands message is (bits bs)) → Answer = λ s. let r = message_of bs s.0 b s.1 in (Ok r.0, (r.1, r.2)) in
    let refused : ((e : Fault) × First message (bits bs) 0 e) → Answer = λ f. (Err f.0, f.1) in
    ⊎_elim read refused (one_or_other message (bits bs) 0)

pub one_answer : OneAnswer
one_answer bs = (some_answer bs, same_answer bs)

pub same_bytes : (m m' : Msg) → Formed m → Formed m' → form m ≡ form m' → m ≡ m'
same_bytes m m' f f' e = same_message m m' f f' ((single message (bits (form m)) 0 (values m) (values m') no_fault no_fault).0 (stands m f) (stands_in (form m) m' f' e))

pub round_trip : RoundTrip
round_trip = (λ m f. (packed_fit (values m), (f, refl)), λ bs m r. r.1, same_bytes)

pub cut_short : CutShort
cut_short m l f h =
    let place : (0 + 8 * l) / 8 ≡ l = omega arith in
    let c = cut message (values m) (bits (form m)) (8 * l) 0 (stands m f) (omega (arith, length_bits (form m))) in
    subst (λ b. First message b 0 (fault Bytes l)) (sym (bits_take l (form m))) (subst (λ p. First message (take (8 * l) (bits (form m))) 0 (fault Bytes p)) place c)

pub too_long : TooLong
too_long m xs f h =
    let place : (0 + length (bits (form m))) / 8 ≡ length (form m) = omega (arith, length_bits (form m)) in
    let c = over message (values m) (bits (form m)) (bits xs) 0 (stands m f) (omega (arith, length_bits xs)) in
    subst (λ b. First message b 0 (fault Bytes (length (form m)))) (sym (bits_append (form m) xs)) (subst (λ p. First message (bits (form m) ++ bits xs) 0 (fault Bytes p)) place c)

-- Bytes that begin with the bits of a message begin with the message.
front_of : (bs : List ℕ) (m : Msg) (rest : List Bool) → ByteList bs → bits bs ≡ bits (form m) ++ rest → bs ≡ form m ++ drop (length (form m)) bs
front_of bs m rest b e =
    let l = length (form m) in
    let wide : length (bits (form m)) ≡ 8 * l = length_bits (form m) in
    let front : bits (take l bs) ≡ spell (values m) = bits_take l bs ∙ ap (take (8 * l)) e ∙ take_at (bits (form m)) rest (8 * l) wide ∙ whole m in
    sym (take-append-drop l bs) ∙ ap (λ x. x ++ drop l bs) (packed_is (take l bs) (values m) (All-take (λ x. x < 256) l bs b) front)

pub left_over : LeftOver
left_over bs q b r =
    let o = over_or_short message (bits bs) 0 q r in
    let long = length_bits bs in
    let over_at : q < length bs → ((m : Msg) × (xs : List ℕ) × Formed m × (bs ≡ form m ++ xs) × (0 < length xs) × (q ≡ length (form m))) ⊎ (q ≡ length bs) = λ h.
    let s : Left message (bits bs) 0 q = o.0 (omega (arith, long)) in
    let k = spelt s.items s.stands.allowed in
    let m = k.0 in
    let f : Formed m = subst (λ l. After message l Grammar.done) k.1 s.stands.allowed in
    let front : s.front ≡ bits (form m) = s.stands.form ∙ ap spell k.1 ∙ sym (whole m) in
    let parts = front_of bs m s.rest b (s.form ∙ ap (λ l. l ++ s.rest) front) in
    let xs = drop (length (form m)) bs in
    let wide : length s.front ≡ 8 * length (form m) = ap length front ∙ length_bits (form m) in
    let count : length s.front + length s.rest ≡ 8 * length bs = sym (length-append s.front s.rest) ∙ sym (ap length s.form) ∙ long in
    let more : 0 < length xs = omega (arith, ap length parts, length-append (form m) xs, wide, count, s.some) in
    inl (m, xs, f, parts, more, omega (arith, s.place, wide)) in
    ⊎_elim over_at (λ h. inr (omega (arith, o.1, long))) (cases_lt q (length bs))

pub field_refused : FieldRefused
field_refused bs q = field_fault message (bits bs) 0 q

pub words_tell : WordsTell
words_tell a b h k e =
    same_act a b ((single signed (bits (words a)) 0 (signed_values a) (signed_values b) no_fault no_fault).0
    (record { allowed = h; form = whole_words a }) (record { allowed = k; form = ap bits e ∙ whole_words b }))

pub signed_are_allowed : SignedAllowed
signed_are_allowed = (signed_allowed, proved_allowed, λ a h. let l = words_long a h in (packed_fit (signed_values a), l.0, l.1))
