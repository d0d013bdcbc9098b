-- What a formed message signs is allowed: the act behind each board's tag, and the act behind its proof.
-- The words of an allowed act have 2 to 52 bytes.
use Rattle.std.proofs.Common.{◌≡◌, ℕ, zero, suc, ◌^◌, ◌<◌, ◌≤◌, max, Bool, true, false, cond, not, ◌&&◌, ◌||◌, eqb, ltb, leb, ◌⊎◌, List, [], ◌∷◌, ◌++◌, length, get_or, refl, ap, ◌∙◌, subst, inl, inr, ⊎_elim, arith}
use Rattle.std.specs.List.{AllByRecursion}
use Rattle.std.proofs.ByRecursion.{All-get_or}
use Rattle.std.proofs.lemmas.Bool.{and_parts, and_from, leb-true, le-leb, eqb-true, eqb-false, ne_eqb, cond_both, cond-false, cases_lt, both_ways}
use Rattle.grammar.specs.Grammar.{Grammar, Item, After, from_to}
use Rattle.grammar.proofs.Held.{Held, held, stand}
use Rattle.boards.specs.Boards.{member, size, place}
use Rattle.boards.proofs.Members.{member_none}
use Rattle.boards.proofs.Sets.{place_below, size_zero}
use Rattle.wire.specs.declared.message.Sort.{Sort}
use Rattle.wire.specs.declared.message.Sort.TheVariants.{Report, End}
use Rattle.wire.specs.declared.message.Entry.{Entry}
use Rattle.wire.specs.Fields.{entries, proof}
use Rattle.wire.specs.Messages.{Msg, Reply, none, sort_number}
use Rattle.wire.specs.Format.{Formed, opening, body, message, replies_values, set_values}
use Rattle.wire.specs.Acts.{Act, signed, signed_bodies, lone_kind, words, Allowed, signers, act_of, no_reply, lower, lowest, proof_of, proved_act}
use Rattle.wire.proofs.Widths.{length_words}

-- From a kind of message to the lone kind signed in it: kind and view carry over, and what follows them by `on`.
carry : (k l v : ℕ) (is js : List Item) → l < 2 ^ 4 → lone_kind l ≡ true → (Held (body k) is Grammar.done → Held (get_or signed_bodies l Grammar.done) js Grammar.done)
    → After message (opening k v is) Grammar.done → After signed (opening l v js) Grammar.done
carry k l v is js b o on f =
    let h = (held f).3 in
    stand signed (opening l v js) Grammar.done (refl, b, o, (h.0, h.1, h.2, on h.3))

-- What the format asks of an entry.
pub record EntryAllowed (e : Entry) : Type 0 where
  pub rank_fits : e.earlier < 2 ^ 4
  pub rank_allowed : from_to 0 8 e.earlier ≡ true
  pub change_fits : e.change < 2 ^ 3
  pub change_allowed : from_to 0 (cond (eqb e.earlier 0) 0 7) e.change ≡ true

widths_differ : {A : Type 0} (v w : ℕ) → v ≡ w → (v ≡ w → ⊥) → A
widths_differ v w e n = absurd (n e)

-- The highest earlier rank of replies, and of one before them.
abbrev pub highest : ℕ → List Reply → ℕ
highest top [] = top
highest top (e ∷ es) = highest (max top e.entry.earlier) es

-- As many replies as are asked for, each with an entry that is allowed and a tag of eight bytes, and then a proof for the highest earlier rank.
pub record Answered (k top : ℕ) (es : List Reply) (p : ℕ) (a : List ℕ) : Type 0 where
  pub many : length es ≡ k
  pub each : AllByRecursion (λ e. EntryAllowed e.entry) es
  pub tagged : AllByRecursion (λ e. length e.tag ≡ 8) es
  pub after : Held (proof (highest top es) Grammar.done) (set_values p a) Grammar.done

pub answered : (k top : ℕ) (es : List Reply) (p : ℕ) (a : List ℕ) → Held (entries k top (λ t. proof t Grammar.done)) (replies_values es ++ set_values p a) Grammar.done → Answered k top es p a
unfolding entries replies_values
answered zero top [] p a h = record { many = refl; each = tt; tagged = tt; after = h }
answered zero top (e ∷ es) p a h = widths_differ 4 8 h.0 (λ e. omega arith)
answered (suc k) top [] p a h = widths_differ 8 4 h.0 (λ e. omega arith)
answered (suc k) top (e ∷ es) p a h =
    let r = answered k (max top e.entry.earlier) es p a h.3.3.3.2 in
    record {
      many = ap suc r.many;
      each = (record { rank_fits = h.1; rank_allowed = h.2; change_fits = h.3.3.1; change_allowed = h.3.3.2 }, r.each);
      tagged = (h.3.3.3.0, r.tagged);
      after = r.after;
    }

-- A suggest-last has a reply for each of its boards.
pub replies_many : (v r s : ℕ) (es : List Reply) (p : ℕ) (a : List ℕ) → Formed (Msg.suggest_last v r s es p a) → length es ≡ size s
replies_many v r s es p a f = (answered (size s) 0 es p a (held f).3.3.3.3).many

signed_last : (v r : ℕ) (e : Entry) (k : ℕ) (is : List Item) → (Held (body k) is Grammar.done → (r < 2 ^ 4) × (from_to 1 8 r ≡ true) × EntryAllowed e)
    → After message (opening k v is) Grammar.done → Allowed (Act.last v r e)
signed_last v r e k is on = carry k 9 v is _ (omega arith) refl (λ h.
    let q = on h in
    (refl, q.0, q.1, (refl, q.2.rank_fits, q.2.rank_allowed, (refl, omega arith, refl, (refl, q.2.change_fits, q.2.change_allowed, refl)))))

pub signed_allowed : (m : Msg) (b : ℕ) → Formed m → member (signers m) b ≡ true → Allowed (act_of m b)
signed_allowed (Msg.notify v c s t) b f i = carry 1 1 v _ _ (omega arith) refl (λ h. (h.0, h.1, h.2, (h.3.0, h.3.1, h.3.2, refl))) f
signed_allowed (Msg.suggest v c s t) b f i = carry 2 1 v _ _ (omega arith) refl (λ h. (h.0, h.1, h.2, (h.3.0, h.3.1, h.3.2, refl))) f
signed_allowed (Msg.ack v r c s t) b f i =
    carry 3 3 v _ _ (omega arith) refl (λ h. (h.0, h.1, h.2, (h.3.0, h.3.1, h.3.2, (h.3.3.0, h.3.3.1, h.3.3.2, refl)))) f
signed_allowed (Msg.proposal v r c s t) b f i =
    carry 4 3 v _ _ (omega arith) refl (λ h. (h.0, h.1, h.2, (h.3.0, h.3.1, h.3.2, (h.3.3.0, h.3.3.1, h.3.3.2, refl)))) f
signed_allowed (Msg.ready v r c s t) b f i =
    carry 5 5 v _ _ (omega arith) refl (λ h. (h.0, h.1, h.2, (h.3.0, h.3.1, h.3.2, (h.3.3.0, h.3.3.1, h.3.3.2, refl)))) f
signed_allowed (Msg.change v r c s t) b f i =
    carry 6 5 v _ _ (omega arith) refl (λ h. (h.0, h.1, h.2, (h.3.0, h.3.1, h.3.2, (h.3.3.0, h.3.3.1, h.3.3.2, refl)))) f
signed_allowed (Msg.deputy v r s t) b f i = carry 7 7 v _ _ (omega arith) refl (λ h. (h.0, h.1, h.2, refl)) f
signed_allowed (Msg.query v r s t) b f i = carry 8 7 v _ _ (omega arith) refl (λ h. (h.0, h.1, h.2, refl)) f
signed_allowed (Msg.last v r s e p a) b f i = signed_last v r e.entry 9 _ (λ h.
    let q = h.3.3 in
    (h.1, h.2, record { rank_fits = q.1; rank_allowed = q.2; change_fits = q.3.3.1; change_allowed = q.3.3.2 })) f
signed_allowed (Msg.suggest_last v r s es p a) b f i =
    signed_last v r _ 10 _ (λ h.
    let r = answered (size s) 0 es p a h.3.3 in
    (h.1, h.2, All-get_or (λ e. EntryAllowed e.entry) es (place s b) no_reply (omega (arith, place_below s b i, r.many)) r.each)) f
signed_allowed (Msg.init v s n k p t) b f i = carry 11 11 v _ _ (omega arith) refl (λ h.
    (h.0, h.1, h.2, (h.3.0, h.3.1, h.3.2, (h.3.3.0, h.3.3.1, h.3.3.2, (h.3.3.3.0, h.3.3.3.1, h.3.3.3.2, (h.3.3.3.3.0, h.3.3.3.3.1, refl)))))) f
signed_allowed (Msg.echo v s n k p c t) b f i = carry 12 12 v _ _ (omega arith) refl (λ h.
    (h.0, h.1, h.2, (h.3.0, h.3.1, h.3.2, (h.3.3.0, h.3.3.1, h.3.3.2, (h.3.3.3.0, h.3.3.3.1, h.3.3.3.2, (h.3.3.3.3.0, h.3.3.3.3.1, refl)))))) f
signed_allowed (Msg.commit v s n k p c t) b f i = carry 13 12 v _ _ (omega arith) refl (λ h.
    (h.0, h.1, h.2, (h.3.0, h.3.1, h.3.2, (h.3.3.0, h.3.3.1, h.3.3.2, (h.3.3.3.0, h.3.3.3.1, h.3.3.3.2, (h.3.3.3.3.0, h.3.3.3.3.1, refl)))))) f

none_allowed : EntryAllowed none
none_allowed = record { rank_fits = omega arith; rank_allowed = refl; change_fits = omega arith; change_allowed = refl }

not_zero : (n : ℕ) → eqb n 0 ≡ false → 0 < n
not_zero n e = let ne = eqb-false n 0 e in omega arith

-- What holds of a choice whose test is `undercuts`, test by test: b has no rank, a has none, b's is lower.
pub undercut : {A : Type 0} (c d e : Bool) (a b : A) (P : A → Type 0) → (c ≡ true → P a) → (c ≡ false → d ≡ true → P b) → (c ≡ false → d ≡ false → e ≡ true → P b) → (c ≡ false → d ≡ false → e ≡ false → P a)
    → P (cond (not c && (d || e)) b a)
undercut true d e a b P p q r s = p refl
undercut false true e a b P p q r s = q refl refl
undercut false false true a b P p q r s = r refl refl refl
undercut false false false a b P p q r s = s refl refl refl

-- The lower of two entries is the first only if the second has no earlier rank or the first has one, and the second only if it has one.
lower_by : (P : Entry → Type 0) (a b : Entry) → ((b.earlier ≡ 0) ⊎ (0 < a.earlier) → P a) → (0 < b.earlier → P b) → P (lower a b)
lower_by P a b p q =
    let x = a.earlier in
    let y = b.earlier in
    undercut (eqb y 0) (eqb x 0) (ltb y x) a b P (λ e. p (inl (eqb-true y 0 e))) (λ e f. q (not_zero y e)) (λ e f l. q (not_zero y e)) (λ e f l. p (inr (not_zero x f)))

lowest_allowed : (es : List Reply) → AllByRecursion (λ e. EntryAllowed e.entry) es → EntryAllowed (lowest es)
unfolding lowest
lowest_allowed [] h = none_allowed
lowest_allowed (e ∷ es) h = lower_by EntryAllowed e.entry (lowest es) (λ _. h.0) (λ _. lowest_allowed es h.1)

lower_some : (a b : Entry) → (0 < a.earlier) ⊎ (0 < b.earlier) → 0 < (lower a b).earlier
lower_some a b h =
    lower_by (λ x. 0 < x.earlier) a b (λ o. ⊎_elim (λ z. ⊎_elim (λ l. l) (λ l. absurd (omega arith)) h) (λ l. l) o) (λ l. l)

lowest_some : (top : ℕ) (es : List Reply) → 0 < highest top es → (0 < top) ⊎ (0 < (lowest es).earlier)
unfolding lowest
lowest_some top [] h = inl h
lowest_some top (e ∷ es) h =
    let here : 0 < e.entry.earlier → (0 < top) ⊎ (0 < (lower e.entry (lowest es)).earlier) = λ l. inr (lower_some e.entry (lowest es) (inl l)) in
    ⊎_elim (λ l. ⊎_elim (λ t. inl t) (λ z. here (omega arith)) (cases_lt 0 top)) (λ l. inr (lower_some e.entry (lowest es) (inr l))) (lowest_some (max top e.entry.earlier) es h)

-- A proof with a board is for an earlier rank.
proof_rank : (top p b : ℕ) → from_to (cond (eqb top 0) 0 1) (cond (eqb top 0) 0 255) p ≡ true → member p b ≡ true → 0 < top
proof_rank zero p b e i =
    let z = leb-true p 0 (and_parts (leb 0 p) (leb p 0) e).1 in
    let none : p ≡ 0 = omega arith in
    absurd (both_ways (member p b) (ap (λ s. member s b) none ∙ member_none b) i)
proof_rank (suc top) p b e i = omega arith

proved_ack : (v : ℕ) (e : Entry) (k : ℕ) (is : List Item) → (Held (body k) is Grammar.done → (0 < e.earlier) × EntryAllowed e) → After message (opening k v is) Grammar.done → Allowed (Act.ack v e.earlier e.change)
proved_ack v e k is on = carry k 3 v is _ (omega arith) refl (λ h.
    let q = on h in
    let most = leb-true e.earlier 8 (and_parts (leb 0 e.earlier) (leb e.earlier 8) q.1.rank_allowed).1 in
    let ranked : from_to 1 8 e.earlier ≡ true = and_from _ _ (le-leb 1 e.earlier (omega (arith, q.0))) (le-leb e.earlier 8 most) in
    let seven : cond (eqb e.earlier 0) 0 7 ≡ 7 = cond-false _ _ _ (ne_eqb e.earlier 0 (λ z. omega (arith, z, q.0))) in
    (refl, q.1.rank_fits, ranked, (refl, omega arith, refl, (refl, q.1.change_fits, subst (λ n. from_to 0 n e.change ≡ true) seven q.1.change_allowed, refl))))

-- The empty set has no board.
pub no_boards : {A : Type 0} (b : ℕ) → member 0 b ≡ true → A
no_boards b i = absurd (both_ways (member 0 b) (member_none b) i)

pub proved_allowed : (m : Msg) (b : ℕ) → Formed m → member (proof_of m).boards b ≡ true → Allowed (proved_act m)
proved_allowed (Msg.notify v c s t) b f i = no_boards b i
proved_allowed (Msg.suggest v c s t) b f i = no_boards b i
proved_allowed (Msg.ack v r c s t) b f i = no_boards b i
proved_allowed (Msg.proposal v r c s t) b f i = no_boards b i
proved_allowed (Msg.ready v r c s t) b f i = no_boards b i
proved_allowed (Msg.change v r c s t) b f i = no_boards b i
proved_allowed (Msg.deputy v r s t) b f i = no_boards b i
proved_allowed (Msg.query v r s t) b f i = no_boards b i
proved_allowed (Msg.last v r s e p a) b f i = proved_ack v e.entry 9 _ (λ h.
    let q = h.3.3 in
    (proof_rank e.entry.earlier p b q.3.3.3.2.2 i, record { rank_fits = q.1; rank_allowed = q.2; change_fits = q.3.3.1; change_allowed = q.3.3.2 })) f
proved_allowed (Msg.suggest_last v r s es p a) b f i = proved_ack v (lowest es) 10 _ (λ h.
    let q = answered (size s) 0 es p a h.3.3 in
    let some : 0 < (lowest es).earlier = ⊎_elim (λ l. absurd (omega arith)) (λ l. l) (lowest_some 0 es (proof_rank (highest 0 es) p b q.after.2 i)) in
    (some, lowest_allowed es q.each)) f
proved_allowed (Msg.init v s n k p t) b f i = no_boards b i
proved_allowed (Msg.echo v s n k p c t) b f i = no_boards b i
proved_allowed (Msg.commit v s n k p c t) b f i = no_boards b i

-- The lowest earlier rank of a suggest-last has a change that is allowed.
pub lowest_fits : (v r s : ℕ) (es : List Reply) (p : ℕ) (a : List ℕ) → Formed (Msg.suggest_last v r s es p a) → EntryAllowed (lowest es)
lowest_fits v r s es p a f = lowest_allowed es (answered (size s) 0 es p a (held f).3.3.3.3).each

highest_from : (top : ℕ) (es : List Reply) → top ≤ highest top es
highest_from top [] = omega arith
highest_from top (e ∷ es) = omega (arith, highest_from (max top e.entry.earlier) es)

-- Where some reply has an earlier rank, the highest is not 0.
some_highest : (top : ℕ) (es : List Reply) → 0 < (lowest es).earlier → 0 < highest top es
unfolding lowest
some_highest top [] h = absurd (omega arith)
some_highest top (e ∷ es) h =
    let one = lower_by (λ x. 0 < x.earlier → (0 < e.entry.earlier) ⊎ (0 < (lowest es).earlier)) e.entry (lowest es) (λ _ l. inl l) (λ l _. inr l) h in
    ⊎_elim (λ l. omega (arith, highest_from (max top e.entry.earlier) es)) (λ l. some_highest (max top e.entry.earlier) es l) one

-- A proof for an earlier rank has a board.
proof_some : (top p : ℕ) → 0 < top → p < 256 → from_to (cond (eqb top 0) 0 1) (cond (eqb top 0) 0 255) p ≡ true → 1 ≤ size p
proof_some top p h byte e =
    let no : eqb top 0 ≡ false = ne_eqb top 0 (λ z. omega (arith, z, h)) in
    let first : ◌≡◌ {A = ℕ} (cond (eqb top 0) 0 1) 1 = cond-false (eqb top 0) 0 1 no in
    let low = leb-true (cond (eqb top 0) 0 1) p (and_parts (leb (cond (eqb top 0) 0 1) p) _ e).0 in
    ⊎_elim (λ l. l) (λ l. absurd (omega (arith, first, low, size_zero p byte (omega arith)))) (cases_lt 0 (size p))

pub proof_shown : (v r s : ℕ) (es : List Reply) (p : ℕ) (a : List ℕ) → Formed (Msg.suggest_last v r s es p a) → 0 < (lowest es).earlier → 1 ≤ size p
proof_shown v r s es p a f h =
    let q = answered (size s) 0 es p a (held f).3.3.3.3 in
    proof_some (highest 0 es) p (some_highest 0 es h) q.after.1 q.after.2

-- A payload has at most 48 bytes.
pub payload_le : (k : Sort) (n : ℕ) → from_to (cond (eqb (sort_number k) 1) 1 0) (cond (eqb (sort_number k) 1) 1 48) n ≡ true → n ≤ 48
payload_le Report n e = leb-true n 48 (and_parts (leb 0 n) (leb n 48) e).1
payload_le End n e = let l = leb-true n 1 (and_parts (leb 1 n) (leb n 1) e).1 in omega arith

-- The words of an allowed act have 2 to 52 bytes.
pub words_long : (a : Act) → Allowed a → (2 ≤ length (words a)) × (length (words a) ≤ 52)
words_long (Act.notify v c) h = let n = length_words (Act.notify v c) in (omega (arith, n), omega (arith, n))
words_long (Act.ack v r c) h = let n = length_words (Act.ack v r c) in (omega (arith, n), omega (arith, n))
words_long (Act.ready v r c) h = let n = length_words (Act.ready v r c) in (omega (arith, n), omega (arith, n))
words_long (Act.deputy v r) h = let n = length_words (Act.deputy v r) in (omega (arith, n), omega (arith, n))
words_long (Act.last v r e) h = let n = length_words (Act.last v r e) in (omega (arith, n), omega (arith, n))
words_long (Act.init v s m k p) h =
    let n = length_words (Act.init v s m k p) in
    let l = payload_le k (length p) (held h).3.3.3.3.3.2 in
    (omega (arith, n), omega (arith, n, l))
words_long (Act.echo v s m k p) h =
    let n = length_words (Act.echo v s m k p) in
    let l = payload_le k (length p) (held h).3.3.3.3.3.2 in
    (omega (arith, n), omega (arith, n, l))
