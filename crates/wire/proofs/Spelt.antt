-- Fields that the format allows are those of a message: nothing stands by the format that is no message.
-- One lemma for each part of the format says what items of that part look like; the thirteen kinds put them together.
use Rattle.std.proofs.Common.{◌≡◌, ℕ, zero, suc, ◌*◌, ◌<◌, ◌≤◌, max, Bool, true, leb, List, [], ◌∷◌, ◌++◌, length, sym, refl, ap, ◌∙◌, subst, ⊎_elim, arith}
use Rattle.std.proofs.lemmas.Bool.{and_parts, leb-true, cases_eq}
use Rattle.grammar.specs.Grammar.{Grammar, Item, After, from_to}
use Rattle.grammar.proofs.Held.{first_num, first_raw, no_more}
use Rattle.boards.specs.Boards.{only, size}
use Rattle.wire.specs.declared.message.Sort.{Sort}
use Rattle.wire.specs.declared.message.Sort.TheVariants.{Report, End}
use Rattle.wire.specs.Fields.{zeros, rank, change, graded, carried, lone_tag, own_tag, entered, entries, proof}
use Rattle.wire.specs.Messages.{Msg, Reply, sort_number}
use Rattle.wire.specs.Format.{message, body, values, opening, graded_values, content_values, set_values, reply_values, replies_values}
use Rattle.wire.proofs.Speakers.{speaker, lone_is}

pub between : (a b v : ℕ) → from_to a b v ≡ true → (a ≤ v) × (v ≤ b)
between a b v e = let p = and_parts (leb a v) (leb v b) e in (leb-true a v p.0, leb-true v b p.1)

exactly : (a v : ℕ) → from_to a a v ≡ true → v ≡ a
exactly a v e = let p = between a a v e in omega (arith, p.0, p.1)

-- A set with tags.
record Tagged (is : List Item) : Type 0 where
  set : ℕ
  tags : List ℕ
  is_set : is ≡ set_values set tags

-- A set of one board with its tag.
record Lone (is : List Item) : Type 0 where
  board : ℕ
  tag : List ℕ
  is_lone : is ≡ set_values (only board) tag

-- A rank and what follows it.
record Ranked (k : Grammar) (is : List Item) : Type 0 where
  rank : ℕ
  later : List Item
  is_rank : is ≡ Item.num 4 rank ∷ later
  after : After k later Grammar.done

-- A change behind a bit that is 0.
record Changed (k : Grammar) (is : List Item) : Type 0 where
  change : ℕ
  later : List Item
  is_change : is ≡ Item.num 1 0 ∷ Item.num 3 change ∷ later
  after : After k later Grammar.done

record Graded (k : Grammar) (is : List Item) : Type 0 where
  rank : ℕ
  change : ℕ
  later : List Item
  is_graded : is ≡ graded_values rank change later
  after : After k later Grammar.done

record Carried (k : ℕ → Grammar) (is : List Item) : Type 0 where
  sender : ℕ
  number : ℕ
  sort : Sort
  payload : List ℕ
  later : List Item
  is_carried : is ≡ content_values sender number sort payload later
  after : After (k sender) later Grammar.done

record Entered (k : ℕ → Grammar) (is : List Item) : Type 0 where
  reply : Reply
  later : List Item
  is_reply : is ≡ reply_values reply later
  after : After (k reply.entry.earlier) later Grammar.done

record Replied (k : ℕ → Grammar) (is : List Item) : Type 0 where
  replies : List Reply
  top : ℕ
  later : List Item
  is_replies : is ≡ replies_values replies ++ later
  after : After (k top) later Grammar.done

-- a set field with its tags, whatever the test and the count of tags
set_and_tags : {ok : ℕ → Bool} {n : ℕ → ℕ} {is : List Item} → After (Grammar.field 8 ok (λ s. Grammar.part (n s) (λ _. Grammar.done))) is Grammar.done
    → (s : ℕ) × (t : List ℕ) × (s < 256) × (ok s ≡ true) × (is ≡ set_values s t)
set_and_tags a =
    let f = first_num a in
    let r = first_raw f.after in
    let e = no_more r.after in
    (f.value, r.bytes, f.below, f.allowed, f.split ∙ (λ i. Item.num 8 f.value ∷ r.split i) ∙ (λ i. Item.num 8 f.value ∷ Item.raw r.bytes ∷ e i))

tagged_set : {ok : ℕ → Bool} {n : ℕ → ℕ} {is : List Item} → After (Grammar.field 8 ok (λ s. Grammar.part (n s) (λ _. Grammar.done))) is Grammar.done → Tagged is
tagged_set a = let q = set_and_tags a in record { set = q.0; tags = q.1; is_set = q.4 }

lone_set : {is : List Item} → After (lone_tag Grammar.done) is Grammar.done → Lone is
lone_set a = let q = set_and_tags a in record { board = speaker q.0; tag = q.1; is_lone = q.4 ∙ ap (λ s. set_values s q.1) (lone_is q.0 q.2 q.3) }

own_set : (b : ℕ) {is : List Item} → After (own_tag b) is Grammar.done → (t : List ℕ) × (is ≡ set_values (only b) t)
own_set b a = let q = set_and_tags a in (q.1, q.4 ∙ ap (λ s. set_values s q.1) (exactly (only b) q.0 q.3))

ranked : {k : Grammar} {is : List Item} → After (rank k) is Grammar.done → Ranked k is
ranked a = let f = first_num a in record { rank = f.value; later = f.later; is_rank = f.split; after = f.after }

changed : {k : Grammar} {is : List Item} → After (zeros 1 (change k)) is Grammar.done → Changed k is
changed a =
    let z = first_num a in
    let c = first_num z.after in
    record { change = c.value; later = c.later; is_change = z.split ∙ (λ i. Item.num 1 (exactly 0 z.value z.allowed i) ∷ c.split i); after = c.after }

graded_items : {k : Grammar} {is : List Item} → After (graded k) is Grammar.done → Graded k is
graded_items a =
    let r = first_num a in
    let z = first_num r.after in
    let c = first_num z.after in
    record {
      rank = r.value;
      change = c.value;
      later = c.later;
      is_graded = r.split ∙ (λ i. Item.num 4 r.value ∷ z.split i) ∙ (λ i. Item.num 4 r.value ∷ Item.num 5 (exactly 0 z.value z.allowed i) ∷ c.split i);
      after = c.after;
    }

sort_for : (s : ℕ) → s ≤ 1 → (k : Sort) × (s ≡ sort_number k)
sort_for zero l = (Report, refl)
sort_for (suc zero) l = (End, refl)
sort_for (suc (suc s)) l = absurd (omega arith)

content_joined : {is js ks ls ms later : List Item} {s n o l : ℕ} {p : List ℕ} (k : Sort) → is ≡ Item.num 3 s ∷ js → js ≡ Item.num 8 n ∷ ks → ks ≡ Item.num 3 o ∷ ls → o ≡ sort_number k → ls ≡ Item.num 6 l ∷ ms
    → length p ≡ l → ms ≡ Item.raw p ∷ later → is ≡ content_values s n k p later
content_joined k a b c d e f g = cc

carried_items : {k : ℕ → Grammar} {is : List Item} → After (carried k) is Grammar.done → Carried k is
carried_items a =
    let s = first_num a in
    let n = first_num s.after in
    let o = first_num n.after in
    let l = first_num o.after in
    let p = first_raw l.after in
    let sort = sort_for o.value (between 0 1 o.value o.allowed).1 in
    record {
      sender = s.value;
      number = n.value;
      sort = sort.0;
      payload = p.bytes;
      later = p.later;
      is_carried = content_joined sort.0 s.split n.split o.split sort.1 l.split p.long p.split;
      after = p.after;
    }

entered_items : {k : ℕ → Grammar} {is : List Item} → After (entered k) is Grammar.done → Entered k is
entered_items a =
    let e = first_num a in
    let z = first_num e.after in
    let c = first_num z.after in
    let t = first_raw c.after in
    record {
      reply = record { entry = record { earlier = e.value; change = c.value }; tag = t.bytes };
      later = t.later;
      is_reply = e.split ∙ (λ i. Item.num 4 e.value ∷ z.split i) ∙ (λ i. Item.num 4 e.value ∷ Item.num 1 (exactly 0 z.value z.allowed i) ∷ c.split i)
          ∙ (λ i. Item.num 4 e.value ∷ Item.num 1 0 ∷ Item.num 3 c.value ∷ t.split i);
      after = t.after;
    }

replied : (n top : ℕ) (k : ℕ → Grammar) (is : List Item) → After (entries n top k) is Grammar.done → Replied k is
unfolding entries replies_values
replied zero top k is a = record { replies = []; top = top; later = is; is_replies = refl; after = a }
replied (suc n) top k is a =
    let e = entered_items a in
    let r = replied n (max top e.reply.entry.earlier) k e.later e.after in
    record {
      replies = e.reply ∷ r.replies;
      top = r.top;
      later = r.later;
      is_replies = e.is_reply ∙ ap (reply_values e.reply) r.is_replies;
      after = r.after;
    }

-- Some message has these fields.
abbrev FieldsOf : List Item → Type 0
FieldsOf is = (m : Msg) × (is ≡ values m)

-- What follows kind and view is what follows them in some message.
abbrev Kind : ℕ → Type 0
Kind k = (v : ℕ) (is : List Item) → from_to 1 13 k ≡ true → After (body k) is Grammar.done → FieldsOf (opening k v is)

no_kind : Kind 0
no_kind v is o a = let z : ◌≡◌ {A = ℕ} 0 1 = cc in absurd (omega arith)

notify_fields : Kind 1
notify_fields v is o a =
    let c = changed a in
    let s = lone_set c.after in
    (Msg.notify v c.change s.board s.tag, ap (opening 1 v) (c.is_change ∙ ap (λ l. Item.num 1 0 ∷ Item.num 3 c.change ∷ l) s.is_lone))

suggest_fields : Kind 2
suggest_fields v is o a =
    let c = changed a in
    let s = tagged_set {n = λ s. 8 * size s} c.after in
    (Msg.suggest v c.change s.set s.tags, ap (opening 2 v) (c.is_change ∙ ap (λ l. Item.num 1 0 ∷ Item.num 3 c.change ∷ l) s.is_set))

ack_fields : Kind 3
ack_fields v is o a =
    let g = graded_items a in
    let s = lone_set g.after in
    (Msg.ack v g.rank g.change s.board s.tag, ap (opening 3 v) (g.is_graded ∙ ap (graded_values g.rank g.change) s.is_lone))

proposal_fields : Kind 4
proposal_fields v is o a =
    let g = graded_items a in
    let s = tagged_set {n = λ s. 8 * size s} g.after in
    (Msg.proposal v g.rank g.change s.set s.tags, ap (opening 4 v) (g.is_graded ∙ ap (graded_values g.rank g.change) s.is_set))

ready_fields : Kind 5
ready_fields v is o a =
    let g = graded_items a in
    let s = lone_set g.after in
    (Msg.ready v g.rank g.change s.board s.tag, ap (opening 5 v) (g.is_graded ∙ ap (graded_values g.rank g.change) s.is_lone))

change_fields : Kind 6
change_fields v is o a =
    let g = graded_items a in
    let s = tagged_set {n = λ s. 8 * size s} g.after in
    (Msg.change v g.rank g.change s.set s.tags, ap (opening 6 v) (g.is_graded ∙ ap (graded_values g.rank g.change) s.is_set))

deputy_fields : Kind 7
deputy_fields v is o a =
    let r = ranked a in
    let s = lone_set r.after in
    (Msg.deputy v r.rank s.board s.tag, ap (opening 7 v) (r.is_rank ∙ ap (λ l. Item.num 4 r.rank ∷ l) s.is_lone))

query_fields : Kind 8
query_fields v is o a =
    let r = ranked a in
    let s = tagged_set {n = λ s. 8 * size s} r.after in
    (Msg.query v r.rank s.set s.tags, ap (opening 8 v) (r.is_rank ∙ ap (λ l. Item.num 4 r.rank ∷ l) s.is_set))

last_fields : Kind 9
last_fields v is o a =
    let r = ranked a in
    let s = first_num r.after in
    let b = speaker s.value in
    let one = lone_is s.value s.below s.allowed in
    let e = entered_items s.after in
    let p = tagged_set {n = λ s. 8 * size s} e.after in (
      Msg.last v r.rank b e.reply p.set p.tags,
      ap (opening 9 v) (r.is_rank ∙ ap (λ l. Item.num 4 r.rank ∷ l)
          (s.split ∙ (λ i. Item.num 8 (one i) ∷ e.is_reply i) ∙ ap (λ l. Item.num 8 (only b) ∷ reply_values e.reply l) p.is_set)),
    )

suggest_last_fields : Kind 10
suggest_last_fields v is o a =
    let r = ranked a in
    let s = first_num r.after in
    let e = replied (size s.value) 0 (λ top. proof top Grammar.done) s.later s.after in
    let p = tagged_set {n = λ s. 8 * size s} e.after in (
      Msg.suggest_last v r.rank s.value e.replies p.set p.tags,
      ap (opening 10 v) (r.is_rank ∙ ap (λ l. Item.num 4 r.rank ∷ l)
          (s.split ∙ ap (λ l. Item.num 8 s.value ∷ l) (e.is_replies ∙ ap (λ l. replies_values e.replies ++ l) p.is_set))),
    )

init_fields : Kind 11
init_fields v is o a =
    let c = carried_items a in
    let s = own_set c.sender c.after in (
      Msg.init v c.sender c.number c.sort c.payload s.0,
      ap (opening 11 v) (c.is_carried ∙ ap (content_values c.sender c.number c.sort c.payload) s.1),
    )

echo_fields : Kind 12
echo_fields v is o a =
    let c = carried_items a in
    let s = lone_set c.after in (
      Msg.echo v c.sender c.number c.sort c.payload s.board s.tag,
      ap (opening 12 v) (c.is_carried ∙ ap (content_values c.sender c.number c.sort c.payload) s.is_lone),
    )

commit_fields : Kind 13
commit_fields v is o a =
    let c = carried_items a in
    let s = tagged_set {n = λ s. 8 * size s} c.after in (
      Msg.commit v c.sender c.number c.sort c.payload s.set s.tags,
      ap (opening 13 v) (c.is_carried ∙ ap (content_values c.sender c.number c.sort c.payload) s.is_set),
    )

-- What holds of each number below n.
abbrev Each : (ℕ → Type 0) → ℕ → Type 0
Each P zero = Unit {0}
Each P (suc n) = Each P n × P n

each : (P : ℕ → Type 0) (n : ℕ) → Each P n → (k : ℕ) → k < n → P k
each P zero h k l = absurd (omega arith)
each P (suc n) h k l = ⊎_elim (λ e. subst P (sym e) h.1) (λ ne. each P n h.0 k (omega arith)) (cases_eq k n)

kinds : Each Kind 14
kinds = (
  (
    ((((((((((((tt, no_kind), notify_fields), suggest_fields), ack_fields), proposal_fields), ready_fields), change_fields), deputy_fields), query_fields), last_fields), suggest_last_fields), init_fields),
    echo_fields,
  ),
  commit_fields,
)

pub spelt : (is : List Item) → After message is Grammar.done → (m : Msg) × (is ≡ values m)
spelt is a =
    let k = first_num a in
    let v = first_num k.after in
    let r = each Kind 14 kinds k.value (omega (arith, (between 1 13 k.value k.allowed).1)) v.value v.later k.allowed v.after in
    (r.0, k.split ∙ ap (λ l. Item.num 4 k.value ∷ l) v.split ∙ r.1)
