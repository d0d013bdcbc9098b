-- The lowest of replies found from the last to the first.
-- `onto` is the lowest of replies and of an entry found behind them; the folds over heard and over stored replies give it.
use Rattle.std.proofs.Common.{◌≡◌, ℕ, zero, suc, ◌+◌, ◌-◌, ◌*◌, ◌/◌, ◌<◌, ◌≤◌, Bool, true, false, cond, List, [], ◌∷◌, ◌++◌, fold, reverse, append-nil, length, get_or, sym, refl, ap, ◌∙◌, arith}
use Rattle.std.proofs.lemmas.Iterator.{YieldsList}
use Rattle.std.proofs.lemmas.Iterator.Splits.{YieldsList-from_shown_while}
use Rattle.std.proofs.lemmas.List.{get_or_append_left, get_or-append_right, reverse-append}
use Rattle.std.specs.Iterator.Adapters.{rev_source, rev_steps}
use Rattle.std.specs.Slice.Iter.{chunks_rest, chunks_size, chunks_steps_back}
use Rattle.std.specs.declared.iter.Rev.{Rev}
use Rattle.std.specs.declared.slice.Chunks.{Chunks}
use Rattle.boards.specs.Boards.{member, passing, boards}
use Rattle.wire.specs.declared.message.Entry.{Entry}
use Rattle.wire.specs.Messages.{Reply, listed, entry_in, replies_in, reply_at, heard_replies, none}
use Rattle.wire.specs.Acts.{lower, lowest}

-- The lowest of replies and of an entry behind them.
unfoldable pub onto : Entry → List Reply → Entry
onto found [] = found
onto found (e ∷ es) = lower e.entry (onto found es)

pub lowest_onto : (es : List Reply) → onto none es ≡ lowest es
unfolding onto lowest
lowest_onto [] = refl
lowest_onto (e ∷ es) = ap (lower e.entry) (lowest_onto es)

onto_append : (found : Entry) (es fs : List Reply) → onto found (es ++ fs) ≡ onto (onto found fs) es
unfolding onto
onto_append found [] fs = refl
onto_append found (e ∷ es) fs = ap (lower e.entry) (onto_append found es fs)

pub onto_none : (found : Entry) → onto found [] ≡ found
unfolding onto
onto_none found = refl

onto_one : (found : Entry) (e : Reply) → onto found (e ∷ []) ≡ lower e.entry found
unfolding onto
onto_one found e = refl

-- The last of heard replies moves into the entry.
heard_moves : (found : Entry) (n : ℕ) (xs : List ℕ) → onto found (replies_in (suc n) xs) ≡ onto (lower (reply_at xs (9 * n)).entry found) (replies_in n xs)
unfolding replies_in
heard_moves found n xs = onto_append found (replies_in n xs) (reply_at xs (9 * n) ∷ []) ∙ ap (λ f. onto f (replies_in n xs)) (onto_one found (reply_at xs (9 * n)))

-- The entries of n heard replies, the last first.
unfoldable pub backwards : ℕ → List ℕ → List Entry
backwards zero xs = []
backwards (suc n) xs = (reply_at xs (9 * n)).entry ∷ backwards n xs

-- The entries of all replies in bytes, the last first.
abbrev pub heard_back : List ℕ → List Entry
heard_back xs = backwards ((length xs + 8) / 9) xs

fold_backwards : (found : Entry) (n : ℕ) (xs : List ℕ) → fold (λ f e. lower e f) found (backwards n xs) ≡ onto found (replies_in n xs)
unfolding backwards replies_in
fold_backwards found zero xs = sym (onto_none found)
fold_backwards found (suc n) xs = fold_backwards (lower (reply_at xs (9 * n)).entry found) n xs ∙ sym (heard_moves found n xs)

-- The lowest of heard replies, found from the last to the first.
pub lowest_back : (xs : List ℕ) → fold (λ f e. lower e f) none (heard_back xs) ≡ lowest (heard_replies xs)
lowest_back xs = fold_backwards none ((length xs + 8) / 9) xs ∙ lowest_onto (heard_replies xs)

-- Bytes behind n whole replies do not change their entries.
backwards_front : (n : ℕ) (t x : List ℕ) → 9 * n ≤ length t → backwards n (t ++ x) ≡ backwards n t
unfolding backwards
backwards_front zero t x h = refl
backwards_front (suc n) t x h =
    let e = get_or_append_left t x 0 (9 * n) (omega arith) in
    (λ i. entry_in (e i) ∷ backwards_front n t x (omega arith) i)

-- The last reply comes off the back, and leaves whole ones.
back_turn : (t x xs : List ℕ) → xs ≡ t ++ x → length t ≡ (length xs - 1) / 9 * 9 → 0 < length xs → heard_back xs ≡ entry_in (get_or x 0 0) ∷ heard_back t
unfolding backwards
back_turn t x xs e l h =
    let n = (length t + 8) / 9 in
    let whole : length t ≡ 9 * n = omega arith in
    let count : (length xs + 8) / 9 ≡ suc n = omega arith in
    let none_before : 9 * n - 9 * n ≡ 0 = omega arith in
    let here = get_or-append_right t x (9 * n) (9 * n) 0 whole (omega arith) ∙ ap (λ k. get_or x k 0) none_before in
    (λ i. backwards (count i) (e i)) ∙ (λ i. entry_in (here i) ∷ backwards_front n t x (omega arith) i)

-- Bytes cut from the back into replies of nine bytes give their entries, the last first.
pub heard_yields : (s : Rev (Chunks ℕ)) → chunks_size (rev_source s) ≡ 9
    → YieldsList (rev_steps (chunks_steps_back {A = ℕ})) (λ y. entry_in (get_or y.now 0 0)) s (heard_back (chunks_rest (rev_source s)))
unfolding backwards
heard_yields s e =
    YieldsList-from_shown_while (rev_steps (chunks_steps_back {A = ℕ})) (λ y. entry_in (get_or y.now 0 0)) (λ u. heard_back (chunks_rest (rev_source u))) (λ u. chunks_size (rev_source u) ≡ 9)
    (λ u t p h. let z : (length (chunks_rest (rev_source u)) + 8) / 9 ≡ 0 = omega (arith, h.1.0) in ap (λ n. length (backwards n (chunks_rest (rev_source u)))) z)
    (λ u x t p h. (
      h.0 ∙ p,
      back_turn (chunks_rest (rev_source t)) x.now (chunks_rest (rev_source u)) h.1.0
          (h.1.1 ∙ ap (λ n. (length (chunks_rest (rev_source u)) - 1) / n * n) p) h.1.2,
    ))
    s e

-- The last board moves into the entry if it passes, and is passed over if not.
listed_moves : (P : ℕ → Bool) (f : ℕ → Reply) (found : Entry) (n : ℕ) → onto found (listed P f (suc n)) ≡ onto (cond (P n) (lower (f n).entry found) found) (listed P f n)
unfolding listed
listed_moves P f found n = onto_append found (listed P f n) (cond (P n) (f n ∷ []) []) ∙ ap (λ e. onto e (listed P f n)) (by_test (P n))
  where
    by_test : (t : Bool) → onto found (cond t (f n ∷ []) []) ≡ cond t (lower (f n).entry found) found
    by_test true = onto_one found (f n)
    by_test false = onto_none found

-- Found over the boards of a set from the last to the first, the lowest is that of their replies.
fold_back : (P : ℕ → Bool) (f : ℕ → Reply) (found : Entry) (n : ℕ) → fold (λ e b. lower (f b).entry e) found (reverse (passing P n)) ≡ onto found (listed P f n)
unfolding passing listed
fold_back P f found zero = sym (onto_none found)
fold_back P f found (suc n) = by_test (P n) ∙ fold_back P f (cond (P n) (lower (f n).entry found) found) n ∙ sym (listed_moves P f found n)
  where
    by_test : (t : Bool) → fold (λ e b. lower (f b).entry e) found (reverse (passing P n ++ cond t (n ∷ []) [])) ≡ fold (λ e b. lower (f b).entry e) (cond t (lower (f n).entry found) found) (reverse (passing P n))
    by_test true = ap (fold (λ e b. lower (f b).entry e) found) (reverse-append (passing P n) (n ∷ []))
    by_test false = ap (λ xs. fold (λ e b. lower (f b).entry e) found (reverse xs)) (append-nil (passing P n))

pub lowest_listed : (s : ℕ) (f : ℕ → Reply) → fold (λ e b. lower (f b).entry e) none (reverse (boards s)) ≡ lowest (listed (member s) f 8)
unfolding boards
lowest_listed s f = fold_back (member s) f none 8 ∙ lowest_onto (listed (member s) f 8)
