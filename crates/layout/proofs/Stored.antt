-- Tags by rising board number: how many bytes they are, and that they are bytes.
-- Laws of what is listed and joined, for any row, then of stored tags.
use Rattle.std.proofs.Common.{◌≡◌, ℕ, zero, suc, ◌+◌, ◌*◌, ◌%◌, ◌<◌, Bool, true, false, cond, List, [], ◌∷◌, ◌++◌, length, get_or, sym, refl, ap, ◌∙◌, subst, mul-add, arith, length-append}
use Rattle.std.proofs.lemmas.List.{append_assoc, append-nil}
use Rattle.std.proofs.ByRecursion.{All-append}
use Rattle.std.proofs.lemmas.Nat.{mod_below}
use Rattle.boards.specs.Boards.{member, size, tally, one}
use Rattle.wire.specs.Messages.{listed, joined, tag_bytes, stored_tags}
use Rattle.layout.specs.Measures.{Bytes}

pub joined_append : {X : Type 0} (xs ys : List (List X)) → joined (xs ++ ys) ≡ joined xs ++ joined ys
unfolding joined
joined_append [] ys = refl
joined_append (x ∷ xs) ys = ap (λ l. x ++ l) (joined_append xs ys) ∙ sym (append_assoc x (joined xs) (joined ys))

joined_cond : {X : Type 0} (b : Bool) (x : List X) → joined (cond b (x ∷ []) []) ≡ cond b x []
unfolding joined
joined_cond true x = append-nil x
joined_cond false x = refl

-- what is listed and joined, one board on
pub joined_more : {X : Type 0} (P : ℕ → Bool) (f : ℕ → List X) (n : ℕ) → joined (listed P f (suc n)) ≡ joined (listed P f n) ++ cond (P n) (f n) []
unfolding listed
joined_more P f n = joined_append (listed P f n) (cond (P n) (f n ∷ []) []) ∙ ap (λ l. joined (listed P f n) ++ l) (joined_cond (P n) (f n))

length_cond : {X : Type 0} (b : Bool) (x : List X) (m : ℕ) → length x ≡ m → length (cond b x []) ≡ m * one b
length_cond true x m e = omega (arith, e)
length_cond false x m e = omega arith

pub joined_long : {X : Type 0} (P : ℕ → Bool) (f : ℕ → List X) (m : ℕ) → ((b : ℕ) → length (f b) ≡ m) → (n : ℕ) → length (joined (listed P f n)) ≡ m * tally P n
unfolding listed joined tally
joined_long P f m e zero = omega arith
joined_long P f m e (suc n) =
    ap length (joined_more P f n) ∙ length-append (joined (listed P f n)) (cond (P n) (f n) []) ∙ (λ i. joined_long P f m e n i + length_cond (P n) (f n) m (e n) i) ∙ sym (mul-add m (tally P n) (one (P n)))

bytes_cond : (b : Bool) (x : List ℕ) → Bytes x → Bytes (cond b x [])
bytes_cond true x a = a
bytes_cond false x a = tt

pub joined_bytes : (P : ℕ → Bool) (f : ℕ → List ℕ) → ((b : ℕ) → Bytes (f b)) → (n : ℕ) → Bytes (joined (listed P f n))
unfolding listed joined
joined_bytes P f a zero = tt
joined_bytes P f a (suc n) = subst Bytes (sym (joined_more P f n)) (All-append _ (joined (listed P f n)) (cond (P n) (f n) []) (joined_bytes P f a n) (bytes_cond (P n) (f n) (a n)))

low : (x : ℕ) → x % 256 < 256
low x = mod_below x 256 (omega arith)

pub tag_fits : (t : ℕ) → Bytes (tag_bytes t)
tag_fits t = (low _, (low _, (low _, (low _, (low _, (low _, (low _, (low _, tt))))))))

pub stored_long : (s : ℕ) (ts : List ℕ) → length (stored_tags s ts) ≡ 8 * size s
unfolding size
stored_long s ts = joined_long (member s) (λ b. tag_bytes (get_or ts b 0)) 8 (λ b. refl) 8

pub stored_fits : (s : ℕ) (ts : List ℕ) → Bytes (stored_tags s ts)
stored_fits s ts = joined_bytes (member s) (λ b. tag_bytes (get_or ts b 0)) (λ b. tag_fits (get_or ts b 0)) 8
