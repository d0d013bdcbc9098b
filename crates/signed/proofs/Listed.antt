-- What stands at the place of a board in a list by rising board number: what the list says of that board.
-- For tags in one row of bytes, eight a board, and for replies, heard or stored.
use Rattle.std.proofs.Common.{◌≡◌, ℕ, zero, suc, ◌+◌, ◌*◌, ◌/◌, ◌%◌, ◌<◌, ◌≤◌, Bool, true, false, cond, Option, Some, None, inl, inr, List, [], ◌∷◌, ◌++◌, length, get_or, take, drop, sym, refl, ap, ◌∙◌, ⊎_elim, arith, length-append, drop-drop}
use denote.Ref.{Bor}
use Rattle.std.proofs.lemmas.List.{get_or_append_left, get_or_at, get_or_past, take_at, take_all, drop_at, drop_all}
use Rattle.std.proofs.lemmas.Bool.{cases_lt, cases_eq, cases_Bool, eqb-true}
use Rattle.boards.specs.Boards.{member, one, only, place, size, tally}
use Rattle.boards.proofs.Members.{member_below, member_only}
use Rattle.boards.proofs.Counts.{tally_rises}
use Rattle.boards.proofs.Sets.{size_only, place_below}
use Rattle.wire.specs.Messages.{Reply, listed, joined, tag_bytes, tags_of, stored_tags, reply_at, replies_in, heard_replies}
use Rattle.wire.specs.declared.message.Tags.{Tags}
use Rattle.wire.specs.declared.message.Tags.TheVariants.{Heard, Stored, Fresh}
use Rattle.wire.specs.Acts.{no_reply, tag_at}
use Rattle.signed.specs.Signed.{TagIs}
use Rattle.signed.specs.Places.{Eight}

long_cond : {X : Type 0} (b : Bool) (x : X) → length (cond b (x ∷ []) []) ≡ one b
long_cond true x = refl
long_cond false x = refl

pub length_listed : {X : Type 0} (P : ℕ → Bool) (f : ℕ → X) (n : ℕ) → length (listed P f n) ≡ tally P n
unfolding listed tally
length_listed P f zero = refl
length_listed P f (suc n) = length-append (listed P f n) (cond (P n) (f n ∷ []) []) ∙ omega (arith, length_listed P f n, long_cond (P n) (f n))

-- At the place of a board that passes stands what f says of it.
pub listed_at : {X : Type 0} (P : ℕ → Bool) (f : ℕ → X) (n b : ℕ) (d : X) → b < n → P b ≡ true → get_or (listed P f n) (tally P b) d ≡ f b
unfolding listed
listed_at P f zero b d h e = absurd (omega arith)
listed_at P f (suc n) b d h e =
    ⊎_elim
    (λ same. let last : cond (P n) (f n ∷ []) [] ≡ f b ∷ [] = (λ i. cond (P (sym same i)) (f (sym same i) ∷ []) []) ∙ ap (λ t. cond t (f b ∷ []) []) e in
    ap (λ l. get_or (listed P f n ++ l) (tally P b) d) last ∙ get_or_at (listed P f n) (f b) [] d (tally P b) (length_listed P f n ∙ ap (tally P) (sym same)))
    (λ other. let l : b < n = omega arith in
    get_or_append_left (listed P f n) (cond (P n) (f n ∷ []) []) d (tally P b) (omega (arith, length_listed P f n, tally_rises P b n l e)) ∙ listed_at P f n b d l e)
    (cases_eq b n)

last_long : (t : Bool) (x : List ℕ) (xs : List (List ℕ)) (i : ℕ) → length x ≡ 8 → length xs ≤ i → i < length (xs ++ cond t (x ∷ []) []) → length (get_or (xs ++ cond t (x ∷ []) []) i []) ≡ 8
last_long true x xs i e g h = let n = length-append xs (x ∷ []) in ap length (get_or_at xs x [] [] i (omega (arith, n))) ∙ e
last_long false x xs i e g h = let n = length-append {A = List ℕ} xs [] in absurd (omega (arith, n))

-- Each tag has eight bytes.
tags_long : (f : ℕ → ℕ) (P : ℕ → Bool) (n i : ℕ) → i < length (listed P (λ k. tag_bytes (f k)) n) → length (get_or (listed P (λ k. tag_bytes (f k)) n) i []) ≡ 8
unfolding listed
tags_long f P zero i h = absurd (omega arith)
tags_long f P (suc n) i h =
    let xs = listed P (λ k. tag_bytes (f k)) n in
    ⊎_elim (λ l. ap length (get_or_append_left xs (cond (P n) (tag_bytes (f n) ∷ []) []) [] i l) ∙ tags_long f P n i l)
    (λ g. last_long (P n) (tag_bytes (f n)) xs i refl g h) (cases_lt i (length xs))

-- The bytes at a place among parts of eight.
eight_at : (xs : List (List ℕ)) → ((i : ℕ) → i < length xs → length (get_or xs i []) ≡ 8) → (i : ℕ) → i < length xs → tag_at i (joined xs) ≡ get_or xs i []
unfolding joined
eight_at [] a i h = absurd (omega arith)
eight_at (x ∷ xs) a zero h = take_at x (joined xs) 8 (a 0 (omega arith))
eight_at (x ∷ xs) a (suc i) h =
    let back : drop (8 * suc i) (x ++ joined xs) ≡ drop (8 * i) (joined xs) =
    ap (λ k. drop k (x ++ joined xs)) (omega arith) ∙ sym (drop-drop (8 * i) 8 (x ++ joined xs)) ∙ ap (drop (8 * i)) (drop_at x (joined xs) 8 (a 0 (omega arith))) in
    ap (take 8) back ∙ eight_at xs (λ k l. a (suc k) (omega arith)) i (omega arith)

-- The stored tag of a board of a set, at its place.
pub stored_at : (s : ℕ) (ts : List ℕ) (b : ℕ) → member s b ≡ true → tag_at (place s b) (stored_tags s ts) ≡ tag_bytes (get_or ts b 0)
unfolding place
stored_at s ts b e =
    let f : ℕ → List ℕ = λ k. tag_bytes (get_or ts k 0) in
    let h = member_below s b e in
    eight_at (listed (member s) f 8) (tags_long (λ k. get_or ts k 0) (member s) 8) (tally (member s) b) (omega (arith, length_listed (member s) f 8, tally_rises (member s) b 8 h e)) ∙ listed_at (member s) f 8 b [] h e

place_alone : (b : ℕ) → b < 8 → member (only b) b ≡ true → place (only b) b ≡ 0
place_alone b h e = omega (arith, place_below (only b) b e, size_only b h)

length_joined : (xs : List (List ℕ)) → ((i : ℕ) → i < length xs → length (get_or xs i []) ≡ 8) → length (joined xs) ≡ 8 * length xs
unfolding joined
length_joined [] a = refl
length_joined (x ∷ xs) a = length-append x (joined xs) ∙ omega (arith, a 0 (omega arith), length_joined xs (λ k l. a (suc k) (omega arith)))

-- A set of one board has that board alone.
only_one : (s b : ℕ) → member (only s) b ≡ true → b ≡ s
only_one s b e = eqb-true b s (sym (member_only s b (member_below (only s) b e)) ∙ e)

-- The bytes of a board that stands alone are its tag, if they are eight.
first_alone : (s b : ℕ) (t : List ℕ) → member (only s) b ≡ true → length t ≡ 8 → tag_at (place (only s) b) t ≡ t
first_alone s b t e long =
    let same = only_one s b e in
    let below = member_below (only s) b e in
    ap (λ k. tag_at k t) (ap (place (only s)) same ∙ place_alone s (omega arith) (ap (member (only s)) (sym same) ∙ e)) ∙ take_all 8 t (omega arith)

-- The tag of a board that stands alone is the whole of its bytes.
pub whole_alone : (s b : ℕ) (t : List ℕ) (r : Option ℕ) → (member (only s) b ≡ true → length t ≡ 8) → TagIs (only s) b (tag_at (place (only s) b) t) r → TagIs (only s) b t r
whole_alone s b t (Some x) long h = (h.0, h.1 ∙ first_alone s b t h.0 (long h.0))
whole_alone s b t None long h =
    ⊎_elim
    (λ e. ⊎_elim inl (λ ne. absurd (ne (ap length (first_alone s b t e (long e)) ∙ long e))) h)
    inl
    (cases_Bool (member (only s) b))

-- A tag that is not heard has eight bytes.
pub alone_long : (s b : ℕ) (t : Tags) → ((x : Bor (List ℕ)) → t ≡ Heard x → ⊥) → member (only s) b ≡ true → length (tags_of (only s) t) ≡ 8
unfolding size
alone_long s b (Heard x) n e = absurd (n x refl)
alone_long s b (Fresh x) n e = refl
alone_long s b (Stored ts) n e =
    let same = only_one s b e in
    let below = member_below (only s) b e in
    let f : ℕ → List ℕ = λ k. tag_bytes (get_or ts.now k 0) in
    length_joined (listed (member (only s)) f 8) (tags_long (λ k. get_or ts.now k 0) (member (only s)) 8)
    ∙ omega (arith, length_listed (member (only s)) f 8, size_only s (omega arith))

-- A tag of eight bytes of a board that is in the set.
pub had : (s b : ℕ) (t u : List ℕ) (r : Option ℕ) → member s b ≡ true → t ≡ u → Eight t r → TagIs s b u r
had s b t u (Some x) i e h = (i, h ∙ e)
had s b t u None i e h = inr (λ k. h (ap length e ∙ k))

length_replies_in : (n : ℕ) (xs : List ℕ) → length (replies_in n xs) ≡ n
unfolding replies_in
length_replies_in zero xs = refl
length_replies_in (suc n) xs = length-append (replies_in n xs) (reply_at xs (9 * n) ∷ []) ∙ omega (arith, length_replies_in n xs)

replies_in_at : (n i : ℕ) (xs : List ℕ) (d : Reply) → i < n → get_or (replies_in n xs) i d ≡ reply_at xs (9 * i)
unfolding replies_in
replies_in_at zero i xs d h = absurd (omega arith)
replies_in_at (suc n) i xs d h =
    let long = length_replies_in n xs in
    ⊎_elim
    (λ same. get_or_at (replies_in n xs) (reply_at xs (9 * n)) [] d i (long ∙ sym same) ∙ ap (λ k. reply_at xs (9 * k)) (sym same))
    (λ other. get_or_append_left (replies_in n xs) (reply_at xs (9 * n) ∷ []) d i (omega arith) ∙ replies_in_at n i xs d (omega arith)) (cases_eq i n)

-- The heard reply at a place; past the last there is none.
pub heard_at : (xs : List ℕ) (i : ℕ) → get_or (heard_replies xs) i no_reply ≡ reply_at xs (9 * i)
heard_at xs i =
    let n = (length xs + 8) / 9 in
    let long = length_replies_in n xs in
    ⊎_elim (replies_in_at n i xs no_reply)
    (λ past.
    let z : get_or xs (9 * i) 0 ≡ 0 = get_or_past xs (9 * i) 0 (omega arith) in
    let e : drop (9 * i + 1) xs ≡ [] = drop_all (9 * i + 1) xs (omega arith) in
    get_or_past (heard_replies xs) i no_reply (omega arith)
    ∙ (λ j. record { entry = record { earlier = sym z j / 16; change = sym z j % 8 }; tag = take 8 (sym e j) }))
    (cases_lt i n)

-- The stored reply of a board of a set, at its place.
pub stored_reply_at : (s : ℕ) (f : ℕ → Reply) (b : ℕ) → member s b ≡ true → get_or (listed (member s) f 8) (place s b) no_reply ≡ f b
unfolding place
stored_reply_at s f b e = listed_at (member s) f 8 b no_reply (member_below s b e) e
