-- Replies by rising board number: they are what is heard or stored, and stand one after another.
-- Board by board they may stand, or one of them, or their number, may not.
use Rattle.std.proofs.Common.{◌≡◌, ℕ, zero, suc, ◌+◌, ◌-◌, ◌*◌, ◌/◌, ◌<◌, ◌≤◌, max, Bool, true, false, cond, eqb, leb, List, [], ◌∷◌, ◌++◌, length, get_or, drop, Some, None, Option, sym, refl, ap, ◌∙◌, subst, ⊎_elim, add-zero, add-one, arith, length-append}
use Rattle.std.specs.List.{AllByRecursion}
use Rattle.std.proofs.lemmas.List.{append_assoc, append-nil, length-take-le, length-take, length-drop}
use Rattle.std.proofs.ByRecursion.{All-push, All-take, All-drop}
use Rattle.std.proofs.lemmas.Option.{same_Some}
use Rattle.std.specs.Bool.{then_some}
use Rattle.std.specs.Option.{MatchOption}
use Rattle.std.proofs.lemmas.Bool.{both_ways, and_parts, and_from, leb-true, cond_both, cases_eq, cases_Bool, eq-eqb, eqb-true}
use Rattle.boards.specs.Boards.{member, size, place, tally, one}
use Rattle.boards.proofs.Sets.{place_first, place_last, place_below, place_next}
use Rattle.grammar.specs.Grammar.{Grammar, Item, After, from_to}
use Rattle.wire.specs.declared.message.Entry.{Entry}
use Rattle.wire.specs.declared.message.Tags.{Tags}
use Rattle.wire.specs.declared.message.Entries.{Entries}
use Rattle.wire.specs.declared.message.Entries.TheVariants.{Heard, Stored}
use Rattle.wire.specs.Fields.{entered, entries, most_change, proof}
use Rattle.wire.specs.Messages.{Reply, listed, reply_at, replies_in, replies_of}
use Rattle.wire.specs.Format.{reply_values, replies_values, set_values}
use Rattle.layout.specs.Measures.{Bytes, Even, Evened, Short, Replied, reply_of, proper, WholeTag, Going, Gathers, Ungathered}
use Rattle.grammar.proofs.Held.{onward, rest_after}
use Rattle.layout.proofs.Rests.{un_num, un_raw, un_wide}
use Rattle.layout.proofs.Stored.{tag_fits}

one_more : {X : Type 0} (b : Bool) (xs : List X) (x : X) (n : ℕ) → length xs ≡ n → length (xs ++ cond b (x ∷ []) []) ≡ n + one b
one_more true xs x n e = length-append xs (x ∷ []) ∙ omega (arith, e)
one_more false xs x n e = length-append xs [] ∙ omega (arith, e)

pub listed_long : {X : Type 0} (P : ℕ → Bool) (f : ℕ → X) (n : ℕ) → length (listed P f n) ≡ tally P n
unfolding listed tally
listed_long P f zero = refl
listed_long P f (suc n) = one_more (P n) (listed P f n) (f n) (tally P n) (listed_long P f n)

all_last : {X : Type 0} (P : X → Type 0) (xs : List X) (x : X) → AllByRecursion P (xs ++ x ∷ []) → P x
all_last P [] x a = a.0
all_last P (y ∷ xs) x a = all_last P xs x a.1

-- one board on
pub listed_in : {X : Type 0} (P : ℕ → Bool) (f : ℕ → X) (n : ℕ) → P n ≡ true → listed P f (suc n) ≡ listed P f n ++ f n ∷ []
unfolding listed
listed_in P f n e = ap (λ b. listed P f n ++ cond b (f n ∷ []) []) e

pub listed_out : {X : Type 0} (P : ℕ → Bool) (f : ℕ → X) (n : ℕ) → P n ≡ false → listed P f (suc n) ≡ listed P f n
unfolding listed
listed_out P f n e = ap (λ b. listed P f n ++ cond b (f n ∷ []) []) e ∙ append-nil (listed P f n)

-- board b among those listed
listed_at : {X : Type 0} (P : ℕ → Bool) (f : ℕ → X) (b n : ℕ) → b < n → P b ≡ true → (rest : List X) × (listed P f n ≡ listed P f b ++ f b ∷ rest)
unfolding listed
listed_at P f b zero h e = absurd (omega arith)
listed_at P f b (suc n) h e =
    ⊎_elim (λ same. ([], ap (λ m. listed P f (suc m)) (sym same) ∙ listed_in P f b e))
    (λ other. let r = listed_at P f b n (omega arith) e in
    let more = cond (P n) (f n ∷ []) [] in
    (r.0 ++ more, ap (λ l. l ++ more) r.1 ∙ append_assoc (listed P f b) (f b ∷ r.0) more)) (cases_eq b n)

-- what is heard, by place
in_place : (b : Bool) (xs : List ℕ) (t : ℕ) (l : List Reply) → replies_in t xs ≡ l → replies_in (t + one b) xs ≡ l ++ cond b (reply_at xs (9 * t) ∷ []) []
unfolding replies_in
in_place true xs t l e = ap (λ m. replies_in m xs) (add-one t) ∙ ap (λ m. m ++ reply_at xs (9 * t) ∷ []) e
in_place false xs t l e = ap (λ m. replies_in m xs) (add-zero t) ∙ e ∙ sym (append-nil l)

in_listed : (s : ℕ) (xs : List ℕ) (n : ℕ) → replies_in (place s n) xs ≡ listed (member s) (λ b. reply_at xs (9 * place s b)) n
unfolding replies_in listed place tally
in_listed s xs zero = refl
in_listed s xs (suc n) = in_place (member s n) xs (tally (member s) n) _ (in_listed s xs n)

pub replies_listed : (s : ℕ) (es : Entries) → Even s es → replies_of s es ≡ listed (member s) (reply_of s es) 8
replies_listed s (Heard xs) e =
    let n : (length xs.now + 8) / 9 ≡ place s 8 = omega (arith, e, place_last s) in
    ap (λ m. replies_in m xs.now) n ∙ in_listed s xs.now 8
replies_listed s (Stored es ts) e = refl

pub values_append : (xs ys : List Reply) → replies_values (xs ++ ys) ≡ replies_values xs ++ replies_values ys
unfolding replies_values
values_append [] ys = refl
values_append (x ∷ xs) ys = ap (reply_values x) (values_append xs ys)

-- one reply that is allowed
most_small : (e : ℕ) → most_change e ≤ 7
most_small e = cond_both (eqb e 0) 0 7 (λ n. n ≤ 7) (λ _. omega arith) (λ _. omega arith)

one_reply : (e : Reply) → proper e.entry ≡ true → WholeTag e → (k : ℕ → Grammar) → After (entered k) (reply_values e []) (k e.entry.earlier)
one_reply e p t k =
    let q = and_parts (from_to 0 8 e.entry.earlier) _ p in
    let r = leb-true e.entry.earlier 8 (and_parts (leb 0 e.entry.earlier) _ q.0).1 in
    let c = leb-true e.entry.change (most_change e.entry.earlier) (and_parts (leb 0 e.entry.change) _ q.1).1 in
    After.then_num (omega arith) q.0 (After.then_num (omega arith) refl (After.then_num (omega (arith, c, most_small e.entry.earlier)) q.1 (After.then_raw t.0 t.1 After.start)))

-- and what a reply that may stand tells
pub reply_tells : {e : Reply} {is : List Item} {k : ℕ → Grammar} {l : Grammar} → After (entered k) (reply_values e is) l → (proper e.entry ≡ true) × WholeTag e × After (k e.entry.earlier) is l
reply_tells a =
    let r = un_num a in
    let z = un_num r.2 in
    let c = un_num z.2 in
    let t = un_raw c.2 in
    (and_from _ _ r.1 c.1, (t.0, t.1), t.2)

pub begin : (s : ℕ) (es : Entries) → Going s es 0 0
unfolding listed replies_values
begin s es = record { goes = λ k. subst (λ n. After (entries (size s) 0 k) [] (entries n 0 k)) (omega (arith, place_first s)) After.start; tags = tt }

pub next : {s : ℕ} {es : Entries} {b top : ℕ} → Going s es b top → member s b ≡ true → proper (reply_of s es b).entry ≡ true → WholeTag (reply_of s es b) → Going s es (b + 1) (max top (reply_of s es b).entry.earlier)
unfolding entries replies_values
next {s} {es} {b} {top} g m p t =
    let e = reply_of s es b in
    let is = listed (member s) (reply_of s es) b in
    let left : size s - place s b ≡ suc (size s - place s (b + 1)) = omega (arith, place_below s b m, place_next s b, ap one m) in
    let more : is ++ e ∷ [] ≡ listed (member s) (reply_of s es) (b + 1) = sym (ap (listed (member s) (reply_of s es)) (add-one b) ∙ listed_in (member s) (reply_of s es) b m) in
    record {
      goes = λ k.
          subst (λ l. After (entries (size s) 0 k) (replies_values l) (entries (size s - place s (b + 1)) (max top e.entry.earlier) k)) more
          (subst (λ l. After (entries (size s) 0 k) l (entries (size s - place s (b + 1)) (max top e.entry.earlier) k)) (sym (values_append is (e ∷ [])))
          (onward (subst (λ n. After (entries (size s) 0 k) (replies_values is) (entries n top k)) left (g.goes k)) (one_reply e p t _)));
      tags = subst (AllByRecursion WholeTag) more (All-push WholeTag is e g.tags t);
    }

pub skip : {s : ℕ} {es : Entries} {b top : ℕ} → Going s es b top → member s b ≡ false → Going s es (b + 1) top
skip {s} {es} {b} {top} g m =
    let same : listed (member s) (reply_of s es) b ≡ listed (member s) (reply_of s es) (b + 1) = sym (ap (listed (member s) (reply_of s es)) (add-one b) ∙ listed_out (member s) (reply_of s es) b m) in
    let here : place s b ≡ place s (b + 1) = omega (arith, place_next s b, ap one m) in
    record {
      goes = λ k. let P : List Reply → ℕ → Type 0 = λ l n. After (entries (size s) 0 k) (replies_values l) (entries (size s - n) top k) in
          subst (λ n. P (listed (member s) (reply_of s es) (b + 1)) n) here (subst (λ l. P l (place s b)) same (g.goes k));
      tags = subst (AllByRecursion WholeTag) same g.tags;
    }

pub evens : (s : ℕ) (es : Entries) (r : Bool) → Evened s es r → r ≡ true → Even s es
evens s (Heard xs) r v e = eqb-true _ _ (sym v.0 ∙ e)
evens s (Stored es ts) r v e = refl

there : (s : ℕ) (es : Entries) (b : ℕ) → Even s es → member s b ≡ true → Short s es b → ⊥
there s (Heard xs) b e m h = omega (arith, e, h, place_below s b m)
there s (Stored es ts) b e m h = h

-- the tags of entries that are even
pub tag_long : (s : ℕ) (es : Entries) (b : ℕ) → Even s es → member s b ≡ true → length (reply_of s es b).tag ≡ 8
tag_long s (Heard xs) b e m = length-take-le 8 (drop (9 * place s b + 1) xs.now) (simp length-drop (omega (arith, e, place_below s b m)))
tag_long s (Stored es ts) b e m = refl

tag_bytes_fit : (s : ℕ) (es : Entries) (b : ℕ) (r : Bool) → Evened s es r → Bytes (reply_of s es b).tag
tag_bytes_fit s (Heard xs) b r v = All-take _ 8 _ (All-drop _ (9 * place s b + 1) xs.now v.1)
tag_bytes_fit s (Stored es ts) b r v = tag_fits (get_or ts.now b 0)

pub tag_of_even : (s : ℕ) (es : Entries) (b : ℕ) (r : Bool) → Evened s es r → r ≡ true → member s b ≡ true → WholeTag (reply_of s es b)
tag_of_even s es b r v e m = (tag_long s es b (evens s es r v e) m, tag_bytes_fit s es b r v)

-- what holds of each board's is so of all that are listed
pub all_listed : {X : Type 0} (Q : X → Type 0) (P : ℕ → Bool) (f : ℕ → X) → ((b : ℕ) → P b ≡ true → Q (f b)) → (n : ℕ) → AllByRecursion Q (listed P f n)
unfolding listed
all_listed Q P f h zero = tt
all_listed Q P f h (suc n) =
    ⊎_elim (λ e. subst (AllByRecursion Q) (sym (listed_in P f n e)) (All-push Q (listed P f n) (f n) (all_listed Q P f h n) (h n e)))
    (λ e. subst (AllByRecursion Q) (sym (listed_out P f n e)) (all_listed Q P f h n)) (cases_Bool (P n))

-- a board without a reply is not of the set
pub absent : (s : ℕ) (es : Entries) (b : ℕ) → Even s es → Replied s es b None → member s b ≡ false
absent s es b e r = ⊎_elim (λ m. absurd (there s es b e m (r m))) (λ m. m) (cases_Bool (member s b))

pub finish : {s : ℕ} {es : Entries} {top : ℕ} → Even s es → Going s es 8 top → Gathers s es top
unfolding entries
finish {s} {es} {top} h g =
    let all = sym (replies_listed s es h) in
    let none : size s - place s 8 ≡ 0 = omega (arith, place_last s) in
    record {
      goes = λ k. let P : List Reply → ℕ → Type 0 = λ l n. After (entries (size s) 0 k) (replies_values l) (entries n top k) in
          subst (λ n. P (replies_of s es) n) none (subst (λ l. P l (size s - place s 8)) all (g.goes k));
      tags = subst (AllByRecursion WholeTag) all g.tags;
    }

-- an entry that is not allowed
pub improper : {s : ℕ} {es : Entries} {b top : ℕ} → Even s es → Going s es b top → b < 8 → member s b ≡ true → proper (reply_of s es b).entry ≡ false → Ungathered s es
unfolding entries replies_values
improper {s} {es} {b} {top} h g l m e = λ p a after.
    let is = listed (member s) (reply_of s es) b in
    let r = listed_at (member s) (reply_of s es) b 8 l m in
    let js = reply_of s es b ∷ r.0 in
    let all : replies_values (replies_of s es) ++ set_values p a ≡ replies_values is ++ (replies_values js ++ set_values p a) =
    ap (λ x. replies_values x ++ set_values p a) (replies_listed s es h ∙ r.1) ∙ ap (λ x. x ++ set_values p a) (values_append is js) ∙ append_assoc (replies_values is) (replies_values js) (set_values p a) in
    let k : ℕ → Grammar = λ t. proof t Grammar.done in
    let left : size s - place s b ≡ suc (size s - place s b - 1) = omega (arith, place_below s b m) in
    let here = subst (λ n. After (entries (size s) 0 k) (replies_values is) (entries n top k)) left (g.goes k) in
    let rest = rest_after (replies_values js ++ set_values p a) here (subst (λ x. After (entries (size s) 0 k) x Grammar.done) all after) in
    absurd (both_ways _ e (reply_tells rest).0)

-- replies before a proof are as many as there are boards, each with its tag
pub counted : (n top : ℕ) (es : List Reply) (p : ℕ) (a : List ℕ) {l : Grammar} → After (entries n top (λ t. proof t Grammar.done)) (replies_values es ++ set_values p a) l → (length es ≡ n) × AllByRecursion WholeTag es × (length a ≡ 8 * size p)
unfolding entries replies_values
counted zero top [] p a x = (refl, tt, (un_raw (un_num x).2).0)
counted zero top (e ∷ es) p a x = absurd (omega (arith, un_wide x))
counted (suc n) top [] p a x = absurd (omega (arith, un_wide x))
counted (suc n) top (e ∷ es) p a x =
    let r = reply_tells x in
    let q = counted n (max top e.entry.earlier) es p a r.2 in
    (omega (arith, q.0), (r.1, q.1), q.2)

in_long : (n : ℕ) (xs : List ℕ) → length (replies_in n xs) ≡ n
unfolding replies_in
in_long zero xs = refl
in_long (suc n) xs = length-append (replies_in n xs) _ ∙ omega (arith, in_long n xs)

last_whole : (n : ℕ) (xs : List ℕ) → AllByRecursion WholeTag (replies_in n xs) → 9 * n ≤ length xs
unfolding replies_in
last_whole zero xs t = omega arith
last_whole (suc n) xs t =
    let r = all_last WholeTag (replies_in n xs) (reply_at xs (9 * n)) t in
    omega (arith, length-take 8 (drop (9 * n + 1) xs), length-drop (9 * n + 1) xs, r.0)

-- heard entries that are not nine bytes for each board
pub uneven : (s : ℕ) (es : Entries) (r : Bool) → Evened s es r → r ≡ false → Ungathered s es
uneven s (Heard xs) r v e = λ p a after.
    let ys = xs.now in
    let n = (length ys + 8) / 9 in
    let c = counted (size s) 0 (replies_in n ys) p a after in
    let many : n ≡ size s = sym (in_long n ys) ∙ c.0 in
    let long = last_whole n ys c.1 in
    absurd (both_ways _ (sym v.0 ∙ e) (eq-eqb (length ys) (9 * size s) (omega arith)))
uneven s (Stored es ts) r v e = absurd (both_ways _ e v)

-- A board's turn: its reply, and what becomes of the highest earlier rank.
abbrev pub Turn : ℕ → Entries → ℕ → ℕ → Option ℕ → Type 0
Turn s es top b v = (x : Option (Entry × Tags)) × Replied s es b x × MatchOption x (v ≡ Some top) (λ y. v ≡ then_some (proper y.0) (max top y.0.earlier))

pub turned : {s : ℕ} {es : Entries} {b top high : ℕ} (r : Bool) → Evened s es r → r ≡ true → Going s es b top → Turn s es top b (Some high) → Going s es (b + 1) high
turned {s} {es} {b} r v e g (None, p, q) = subst (Going s es (b + 1)) (same_Some _ _ (sym q)) (skip g (absent s es b (evens s es r v e) p))
turned {s} {es} {b} {top} {high} r v e g (Some y, p, q) =
    ⊎_elim (λ t. subst (Going s es (b + 1)) (ap (λ n. max top n.earlier) (sym p.1) ∙ sym (same_Some _ _ (q ∙ ap (λ z. then_some z (max top y.0.earlier)) t))) (next g p.0 (ap proper (sym p.1) ∙ t) (tag_of_even s es b r v e p.0)))
    (λ f. let n = q ∙ ap (λ z. then_some z (max top y.0.earlier)) f in cc) (cases_Bool (proper y.0))

pub stopped : {s : ℕ} {es : Entries} {b top : ℕ} → Even s es → b < 8 → Going s es b top → Turn s es top b None → Ungathered s es
stopped h l g (None, p, q) = absurd (cc)
stopped {s} {es} {b} {top} h l g (Some y, p, q) =
    ⊎_elim (λ t. let n = q ∙ ap (λ z. then_some z (max top y.0.earlier)) t in absurd (cc))
    (λ f. improper h g l p.0 (ap proper (sym p.1) ∙ f)) (cases_Bool (proper y.0))
