-- The fields of a message tell the message: two formed messages with the same fields are the same; acts likewise.
-- `told` reads a message back off its fields by their place in the list; it knows no bits.
use Rattle.std.proofs.Common.{◌≡◌, ℕ, zero, suc, ◌-◌, ◌*◌, ◌/◌, ◌<◌, List, [], ◌∷◌, ◌++◌, length, get_or, drop, sym, refl, ap, ◌∙◌, arith, length-append, drop_at}
use Rattle.grammar.specs.Grammar.{Item}
use Rattle.grammar.proofs.Held.{held}
use Rattle.wire.specs.declared.message.Sort.{Sort}
use Rattle.wire.specs.declared.message.Sort.TheVariants.{Report, End}
use Rattle.wire.specs.Messages.{Msg, Reply, sort_number}
use Rattle.wire.specs.Format.{values, Formed, replies_values, set_values}
use Rattle.wire.specs.Acts.{Act, signed_values}
use Rattle.wire.proofs.Speakers.{speaker, speaker_only, lone_below}

abbrev number_in : Item → ℕ
number_in (Item.num w v) = v
number_in (Item.raw xs) = 0

abbrev bytes_in : Item → List ℕ
bytes_in (Item.num w v) = []
bytes_in (Item.raw xs) = xs

-- The number and the bytes at a place among items.
abbrev n : List Item → ℕ → ℕ
n is i = number_in (get_or is i (Item.raw []))

abbrev x : List Item → ℕ → List ℕ
x is i = bytes_in (get_or is i (Item.raw []))

abbrev sort_of : ℕ → Sort
sort_of zero = Report
sort_of (suc k) = End

sort_back : (k : Sort) → sort_of (sort_number k) ≡ k
sort_back Report = refl
sort_back End = refl

abbrev told_reply : List Item → Reply
told_reply is = record { entry = record { earlier = n is 0; change = n is 2 }; tag = x is 3 }

unfoldable told_replies : ℕ → List Item → List Reply
told_replies zero is = []
told_replies (suc k) is = told_reply is ∷ told_replies k (drop 4 is)

abbrev told_suggest_last : List Item → Msg
told_suggest_last is =
    let k = (length is - 6) / 4 in
    Msg.suggest_last (n is 1) (n is 2) (n is 3) (told_replies k (drop 4 is)) (n (drop (4 * k) (drop 4 is)) 0) (x (drop (4 * k) (drop 4 is)) 1)

abbrev told : List Item → Msg
told is =
    let carried = sort_of (n is 4) in
    let messages =
    Msg.notify 0 0 0 []
    ∷ Msg.notify (n is 1) (n is 3) (speaker (n is 4)) (x is 5)
    ∷ Msg.suggest (n is 1) (n is 3) (n is 4) (x is 5)
    ∷ Msg.ack (n is 1) (n is 2) (n is 4) (speaker (n is 5)) (x is 6)
    ∷ Msg.proposal (n is 1) (n is 2) (n is 4) (n is 5) (x is 6)
    ∷ Msg.ready (n is 1) (n is 2) (n is 4) (speaker (n is 5)) (x is 6)
    ∷ Msg.change (n is 1) (n is 2) (n is 4) (n is 5) (x is 6)
    ∷ Msg.deputy (n is 1) (n is 2) (speaker (n is 3)) (x is 4)
    ∷ Msg.query (n is 1) (n is 2) (n is 3) (x is 4)
    ∷ Msg.last (n is 1) (n is 2) (speaker (n is 3)) (told_reply (drop 4 is)) (n is 8) (x is 9)
    ∷ told_suggest_last is
    ∷ Msg.init (n is 1) (n is 2) (n is 3) carried (x is 6) (x is 8)
    ∷ Msg.echo (n is 1) (n is 2) (n is 3) carried (x is 6) (speaker (n is 7)) (x is 8)
    ∷ Msg.commit (n is 1) (n is 2) (n is 3) carried (x is 6) (n is 7) (x is 8)
    ∷ [] in
    get_or messages (n is 0) (Msg.notify 0 0 0 [])

replies_told : (es : List Reply) (js : List Item) → told_replies (length es) (replies_values es ++ js) ≡ es
unfolding told_replies replies_values
replies_told [] js = refl
replies_told (e ∷ es) js = ap (λ l. e ∷ l) (replies_told es js)

length_replies : (es : List Reply) → length (replies_values es) ≡ 4 * length es
unfolding replies_values
length_replies [] = refl
length_replies (e ∷ es) = omega (arith, length_replies es)

suggest_last_told : (v r s : ℕ) (es : List Reply) (p : ℕ) (a : List ℕ) → told (values (Msg.suggest_last v r s es p a)) ≡ Msg.suggest_last v r s es p a
suggest_last_told v r s es p a =
    let is = values (Msg.suggest_last v r s es p a) in
    let js = set_values p a in
    let long = length-append (replies_values es) js in
    let k : (length is - 6) / 4 ≡ length es = omega (arith, long, length_replies es) in
    let rest : drop (4 * length es) (replies_values es ++ js) ≡ js = drop_at (replies_values es) js (4 * length es) (length_replies es) in
    (λ i. Msg.suggest_last v r s (told_replies (k i) (replies_values es ++ js)) (n (drop (4 * k i) (replies_values es ++ js)) 0) (x (drop (4 * k i) (replies_values es ++ js)) 1))
    ∙ (λ i. Msg.suggest_last v r s (replies_told es js i) (n (rest i) 0) (x (rest i) 1))

-- The speaker of a lone kind is one of the eight boards.
abbrev Speaks : Msg → Type 0
Speaks (Msg.notify v c s t) = s < 8
Speaks (Msg.suggest v c s t) = Unit {0}
Speaks (Msg.ack v r c s t) = s < 8
Speaks (Msg.proposal v r c s t) = Unit {0}
Speaks (Msg.ready v r c s t) = s < 8
Speaks (Msg.change v r c s t) = Unit {0}
Speaks (Msg.deputy v r s t) = s < 8
Speaks (Msg.query v r s t) = Unit {0}
Speaks (Msg.last v r s e p a) = s < 8
Speaks (Msg.suggest_last v r s es p a) = Unit {0}
Speaks (Msg.init v s m k p t) = Unit {0}
Speaks (Msg.echo v s m k p b t) = b < 8
Speaks (Msg.commit v s m k p b t) = Unit {0}

speaks : (m : Msg) → Formed m → Speaks m
speaks (Msg.notify v c s t) f = lone_below s (held f).3.3.3.3.2
speaks (Msg.suggest v c s t) f = tt
speaks (Msg.ack v r c s t) f = lone_below s (held f).3.3.3.3.3.2
speaks (Msg.proposal v r c s t) f = tt
speaks (Msg.ready v r c s t) f = lone_below s (held f).3.3.3.3.3.2
speaks (Msg.change v r c s t) f = tt
speaks (Msg.deputy v r s t) f = lone_below s (held f).3.3.3.2
speaks (Msg.query v r s t) f = tt
speaks (Msg.last v r s e p a) f = lone_below s (held f).3.3.3.2
speaks (Msg.suggest_last v r s es p a) f = tt
speaks (Msg.init v s m k p t) f = tt
speaks (Msg.echo v s m k p b t) f = lone_below b (held f).3.3.3.3.3.3.2.2
speaks (Msg.commit v s m k p b t) f = tt

told_back : (m : Msg) → Speaks m → told (values m) ≡ m
told_back (Msg.notify v c s t) h = ap (λ b. Msg.notify v c b t) (speaker_only s h)
told_back (Msg.suggest v c s t) h = refl
told_back (Msg.ack v r c s t) h = ap (λ b. Msg.ack v r c b t) (speaker_only s h)
told_back (Msg.proposal v r c s t) h = refl
told_back (Msg.ready v r c s t) h = ap (λ b. Msg.ready v r c b t) (speaker_only s h)
told_back (Msg.change v r c s t) h = refl
told_back (Msg.deputy v r s t) h = ap (λ b. Msg.deputy v r b t) (speaker_only s h)
told_back (Msg.query v r s t) h = refl
told_back (Msg.last v r s e p a) h = ap (λ b. Msg.last v r b e p a) (speaker_only s h)
told_back (Msg.suggest_last v r s es p a) h = suggest_last_told v r s es p a
told_back (Msg.init v s m k p t) h = ap (λ o. Msg.init v s m o p t) (sort_back k)
told_back (Msg.echo v s m k p b t) h = λ i. Msg.echo v s m (sort_back k i) p (speaker_only b h i) t
told_back (Msg.commit v s m k p b t) h = ap (λ o. Msg.commit v s m o p b t) (sort_back k)

-- Two formed messages with the same fields are the same.
pub same_message : (m m' : Msg) → Formed m → Formed m' → values m ≡ values m' → m ≡ m'
same_message m m' f f' e = sym (told_back m (speaks m f)) ∙ ap told e ∙ told_back m' (speaks m' f')

abbrev told_act : List Item → Act
told_act is =
    let acts =
    Act.notify 0 0
    ∷ Act.notify (n is 1) (n is 3)
    ∷ Act.notify 0 0
    ∷ Act.ack (n is 1) (n is 2) (n is 4)
    ∷ Act.notify 0 0
    ∷ Act.ready (n is 1) (n is 2) (n is 4)
    ∷ Act.notify 0 0
    ∷ Act.deputy (n is 1) (n is 2)
    ∷ Act.notify 0 0
    ∷ Act.last (n is 1) (n is 2) (record { earlier = n is 3; change = n is 5 })
    ∷ Act.notify 0 0
    ∷ Act.init (n is 1) (n is 2) (n is 3) (sort_of (n is 4)) (x is 6)
    ∷ Act.echo (n is 1) (n is 2) (n is 3) (sort_of (n is 4)) (x is 6)
    ∷ [] in
    get_or acts (n is 0) (Act.notify 0 0)

act_back : (a : Act) → told_act (signed_values a) ≡ a
act_back (Act.notify v c) = refl
act_back (Act.ack v r c) = refl
act_back (Act.ready v r c) = refl
act_back (Act.deputy v r) = refl
act_back (Act.last v r e) = refl
act_back (Act.init v s m k p) = ap (λ o. Act.init v s m o p) (sort_back k)
act_back (Act.echo v s m k p) = ap (λ o. Act.echo v s m o p) (sort_back k)

-- Two acts with the same signed fields are the same.
pub same_act : (a b : Act) → signed_values a ≡ signed_values b → a ≡ b
same_act a b e = sym (act_back a) ∙ ap told_act e ∙ act_back b
