-- Head and middle together: nothing, a payload, a tag or replies after the head.
-- Each middle spells its fields, and the message goes on after it.
use Rattle.std.proofs.Common.{◌≡◌, ℕ, ◌+◌, ◌*◌, ◌%◌, ◌≤◌, List, [], ◌∷◌, ◌++◌, length, sym, refl, ap, subst, ◌∙◌, arith, length-append, Bor, Some, None, Option, Bool, true, ◌&&◌, leb, eqb}
use Rattle.std.specs.List.{AllByRecursion}
use Rattle.std.proofs.lemmas.Bool.{and_parts, eqb-true, leb-true}
use Rattle.std.proofs.lemmas.List.{append_assoc}
use Rattle.std.proofs.ByRecursion.{All-append}
use Rattle.boards.specs.Boards.{size, member, place}
use Rattle.boards.proofs.Sets.{size_le, place_last}
use Rattle.grammar.specs.Bits.{bits_of, bits}
use Rattle.grammar.specs.Grammar.{Grammar, Item, After, from_to, spell}
use Rattle.grammar.proofs.Bits.{low, bits_append}
use Rattle.grammar.proofs.Cuts.{spell_append}
use Rattle.grammar.proofs.Held.{onward}
use Rattle.head.specs.declared.number.Head.{Head}
use Rattle.head.specs.Heads.{Begins, Holds, Joined}
use Rattle.head.specs.Shapes.{Opens}
use Rattle.head.proofs.Joins.{beside}
use Rattle.head.proofs.Steps.{step, wide_as}
use Rattle.wire.specs.declared.message.Tagged.{Tagged}
use Rattle.wire.specs.declared.message.Entries.{Entries}
use Rattle.wire.specs.declared.message.Replies.{Replies as RepliesOf}
use Rattle.wire.specs.Fields.{entries}
use Rattle.wire.specs.Messages.{Reply, tags_by, replies_of, replies_by, listed}
use Rattle.wire.specs.Format.{body, message, opening, replies_values}
use Rattle.wire.proofs.Widths.{wide}
use Rattle.layout.specs.declared.plan.Gathered.{Gathered}
use Rattle.layout.specs.declared.plan.Layout.{Layout}
use Rattle.layout.specs.declared.plan.Middle.{Middle}
use Rattle.layout.specs.declared.plan.Middle.TheVariants.{Nothing, Payload, Tag, Replies}
use Rattle.layout.specs.Measures.{Bytes, WholeTag, Even, reply_of, Gathers}
use Rattle.layout.specs.Layouts.{Bare, Fronts, Laid, middle_bytes, replies_bytes}
use Rattle.layout.specs.declared.plan.Front.{Front}
use Rattle.layout.proofs.Packed.{bytes, head_bits}
use Rattle.layout.proofs.Seals.{unlaid}
use Rattle.layout.proofs.Replies.{all_listed, listed_long, replies_listed, tag_long}

-- A head of whole bytes, and a middle that a message goes on with.
pub fronted : {h : Head} {is : List Item} {g k : Grammar} (m : Middle) (js : List Item) → Holds message h is k → (leb 8 (wide is) && eqb (wide is % 8) 0) ≡ true → bits (middle_bytes m) ≡ spell js → Bytes (middle_bytes m) → length (middle_bytes m) ≤ 72 → After k js g → Fronts (record { head = h; middle = m }) (is ++ js) g
fronted {h} {is} m js p w e f l a =
    let b = and_parts (leb 8 (wide is)) _ w in
    let whole : h.width % 8 ≡ 0 = ap (λ n. n % 8) (wide_as p) ∙ eqb-true _ _ b.1 in
    let some : 8 ≤ h.width = omega (arith, wide_as p, leb-true 8 (wide is) b.0) in
    record {
      form = bits_append _ (middle_bytes m) ∙ (λ i. (head_bits h whole ∙ p.form) i ++ e i) ∙ sym (spell_append is js);
      whole = whole;
      some = some;
      fit = f;
      short = l;
      goes = onward p.goes a;
    }

nothing : bits [] ≡ spell []
unfolding bits spell
nothing = refl

pub loaded : {h : Head} {is : List Item} {g : Grammar} (p : Bor (List ℕ)) → Holds message h is (Grammar.part (length p.now) (λ _. g)) → (leb 8 (wide is) && eqb (wide is % 8) 0) ≡ true → Bytes p.now → length p.now ≤ 72 → Fronts (record { head = h; middle = Payload p }) (is ++ Item.raw p.now ∷ []) g
loaded p o w f l = fronted (Payload p) (Item.raw p.now ∷ []) o w (bytes p.now) f l (After.then_raw refl f After.start)

pub tagged : {h : Head} {is : List Item} {g : Grammar} (q : Tagged) → Holds message h is (Grammar.part 8 (λ _. g)) → (leb 8 (wide is) && eqb (wide is % 8) 0) ≡ true → Bytes (tags_by q) → length (tags_by q) ≡ 8 → Fronts (record { head = h; middle = Tag q }) (is ++ Item.raw (tags_by q) ∷ []) g
tagged q o w f l = fronted (Tag q) (Item.raw (tags_by q) ∷ []) o w (bytes (tags_by q)) f (omega arith) (After.then_raw l f After.start)

-- the bits of an entry's byte
entry_bits : (e c : ℕ) → bits_of 8 (e % 16 * 16 + c % 8) ≡ bits_of 4 e ++ (bits_of 1 0 ++ bits_of 3 c)
entry_bits e c =
    let r : e % 16 % 16 ≡ e % 16 = omega arith in
    let d : c % 8 ≡ c % 8 % 16 = omega arith in
    let z : c % 8 ≡ 0 * 8 + c % 8 = omega arith in
    ap (λ n. bits_of 8 (e % 16 * 16 + n)) d ∙ beside 4 4 (e % 16) (c % 8) ∙ (λ i. low 4 (e % 16) e r i ++ (ap (bits_of 4) z ∙ beside 1 3 0 c) i)

pub replies_bits : (es : List Reply) → bits (replies_bytes es) ≡ spell (replies_values es)
unfolding bits spell replies_bytes replies_values
replies_bits [] = refl
replies_bits (e ∷ es) =
    let a = bits_of 4 e.entry.earlier in
    let z = bits_of 1 0 in
    let b = bits_of 3 e.entry.change in
    let rest : bits (e.tag ++ replies_bytes es) ≡ bits e.tag ++ spell (replies_values es) = bits_append e.tag (replies_bytes es) ∙ ap (λ l. bits e.tag ++ l) (replies_bits es) in
    (λ i. entry_bits e.entry.earlier e.entry.change i ++ rest i) ∙ simp append_assoc

pub replies_fit : (es : List Reply) → AllByRecursion WholeTag es → Bytes (replies_bytes es)
unfolding replies_bytes
replies_fit [] t = tt
replies_fit (e ∷ es) t = (omega arith, All-append _ e.tag (replies_bytes es) t.0.1 (replies_fit es t.1))

pub replies_long : (es : List Reply) → AllByRecursion (λ e. length e.tag ≡ 8) es → length (replies_bytes es) ≡ 9 * length es
unfolding replies_bytes
replies_long [] t = refl
replies_long (e ∷ es) t = simp length-append (omega (arith, t.0, replies_long es t.1))

-- the replies of the boards below b
pub listed_bytes : (s : ℕ) (es : Entries) → Even s es → (b : ℕ) → length (replies_bytes (listed (member s) (reply_of s es) b)) ≡ 9 * place s b
unfolding place
listed_bytes s es e b =
    let l = listed (member s) (reply_of s es) b in
    replies_long l (all_listed _ (member s) (reply_of s es) (λ k m. tag_long s es k e m) b) ∙ ap (λ n. 9 * n) (listed_long (member s) (reply_of s es) b)

pub replies_even : (s : ℕ) (es : Entries) → Even s es → length (replies_bytes (replies_of s es)) ≡ 9 * size s
replies_even s es e = ap (λ l. length (replies_bytes l)) (replies_listed s es e) ∙ listed_bytes s es e 8 ∙ ap (λ n. 9 * n) (place_last s)

pub replied : {h : Head} {is : List Item} (k : ℕ → Grammar) (x : Gathered) (q : RepliesOf) → x.replies ≡ q → Holds message h is (entries (size q.set.bits) 0 k) → (leb 8 (wide is) && eqb (wide is % 8) 0) ≡ true → Gathers q.set.bits q.entries x.top → Fronts (record { head = h; middle = Replies x }) (is ++ replies_values (replies_by q)) (k x.top)
replied k x q e o w g =
    let rs = replies_by q in
    let y = x.replies in
    fronted (Replies x) (replies_values rs) o w (ap (λ z. bits (replies_bytes (replies_by z))) e ∙ replies_bits rs) (subst (λ z. Bytes (replies_bytes (replies_by z))) (sym e) (replies_fit rs g.tags))
    (omega (arith, replies_even y.set.bits y.entries x.even, size_le y.set.bits)) (g.goes k)

-- The head that a kind opens with, by what the table has for the kind.
pub opened : {k : ℕ} {is : List Item} {from on : Grammar → Grammar} {h : Head} (g : Grammar) → Opens k is from on (Some h) → from_to 1 13 k ≡ true → body k ≡ from g → Holds message h is (on g)
opened g p o e = (p.begins (from_to 1 13) body g o e).holds _ refl

-- Nothing is laid out where a head may not stand.
pub headless : {k : ℕ} {is : List Item} {from on : Grammar → Grammar} {r : Option Layout} (g : Grammar) (js : List Item) → Opens k is from on None → r ≡ None → from_to 1 13 k ≡ true → body k ≡ from g → Laid (is ++ js) r
headless g js p n o e = unlaid js n ((p.begins (from_to 1 13) body g o e).none refl)

-- A head alone, where it is whole bytes.
pub headed : {k : ℕ} {is : List Item} {from on : Grammar → Grammar} {h : Head} {f : Front} (g : Grammar) → Opens k is from on (Some h) → Bare h f → from_to 1 13 k ≡ true → body k ≡ from g → (leb 8 (wide is) && eqb (wide is % 8) 0) ≡ true → Fronts f (is ++ []) (on g)
headed {is = is} {on = on} g p b o e w = subst (λ x. Fronts x (is ++ []) (on g)) (sym b) (fronted Nothing [] (opened g p o e) w nothing tt (omega arith) After.start)

-- A set's byte behind kind, view and rank.
pub with_set : {k v r b s : ℕ} {ok : ℕ → Bool} {n : ℕ → Grammar} {h : Head} {o : Option Head} → Holds message h (opening k v (Item.num 4 r ∷ [])) (Grammar.field 8 ok n) → b ≡ s → Joined h 8 b (from_to 0 255 b) o → ok s ≡ from_to 0 255 s → Begins message (opening k v (Item.num 4 r ∷ []) ++ Item.num 8 s ∷ []) (n s) o
with_set {h = h} {o = o} p e j g = step p (subst (λ x. Joined h 8 x (from_to 0 255 x) o) e j) g (omega arith, omega (arith, wide_as p))
