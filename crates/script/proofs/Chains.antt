-- One part of a line after another: the texts join, and the room needed adds up.
-- For loops: what stands on the line so far, one text more, and where memory is wanting.
use Rattle.std.proofs.Common.{◌≡◌, ℕ, ◌+◌, ◌*◌, ◌/◌, ◌%◌, ◌<◌, ◌≤◌, List, [], ◌∷◌, ◌++◌, length, get_or, take, Ok, Err, Result, IsErr, vec_items, vec_len, vec_capacity, sym, refl, true≢false, ap, ◌∙◌, subst, append_assoc, append-nil, arith, length-append}
use Rattle.std.specs.declared.alloc.AllocError.{AllocError}
use Rattle.std.proofs.lemmas.List.{take_more}
use Rattle.script.specs.Lines.{Line, Wrote, Adds}
use Rattle.script.specs.Texts.{hex_digit, hex}

-- line b is line a with a text added
pub record Has (a : Line) (text : List ℕ) (b : Line) : Type 0 where
  pub held : vec_items b ≡ vec_items a ++ text
  pub grows : vec_capacity a ≤ vec_capacity b

-- nothing added
pub has_none : (a : Line) → Has a [] a
has_none a = record { held = sym (append-nil (vec_items a)); grows = omega arith }

-- one text more
pub has_more : {a b c : Line} {xs ys all : List ℕ} → Has a xs b → Wrote b ys (Ok tt) c → xs ++ ys ≡ all → Has a all c
has_more {a} {xs = xs} {ys} h w e =
    record { held = w.said ∙ ap (λ l. l ++ ys) h.held ∙ append_assoc (vec_items a) xs ys ∙ ap (λ l. vec_items a ++ l) e; grows = omega (arith, h.grows, w.grows) }

-- all of a text
pub has_all : {a b : Line} {xs all : List ℕ} → Has a xs b → xs ≡ all → Wrote a all (Ok tt) b
has_all {a} h e = record { said = h.held ∙ ap (λ l. vec_items a ++ l) e; full = tt; grows = h.grows }

-- a text by another name
pub wrote_as : {a b : Line} {xs ys : List ℕ} {r : Result (Unit {0}) AllocError} → Wrote a xs r b → xs ≡ ys → Wrote a ys r b
wrote_as {a} {b} {r = r} w e = subst (λ t. Wrote a t r b) e w

-- a text that was written
pub has_one : {a b : Line} {xs : List ℕ} → Wrote a xs (Ok tt) b → Has a xs b
has_one w = record { held = w.said; grows = w.grows }

-- memory is wanting for one text more
wanting : {a b c : Line} {xs ys : List ℕ} {e : AllocError} (all : List ℕ) → Has a xs b → Wrote b ys (Err e) c → length xs + length ys ≤ length all → vec_capacity a < vec_len a + length all
wanting {a} {b} {xs = xs} all h w le =
    let long : vec_len b ≡ vec_len a + length xs = b.ok.0 ∙ ap length h.held ∙ length-append (vec_items a) xs ∙ ap (λ n. n + length xs) (sym a.ok.0) in
    omega (arith, long, h.grows, w.full, le)

pub not_written : {a b c : Line} {xs ys : List ℕ} {e : AllocError} (all : List ℕ) (r : Result (Unit {0}) AllocError) → Has a xs b → Wrote b ys (Err e) c → length xs + length ys ≤ length all → IsErr r → Wrote a all r c
not_written all (Ok u) h w le is = absurd (true≢false (sym is))
not_written all (Err f) h w le is = record { said = tt; full = wanting all h w le; grows = omega (arith, h.grows, w.grows) }

pub adds_not : {a b c : Line} {xs ys : List ℕ} {e : AllocError} (all : List ℕ) (r : Result Line AllocError) → Has a xs b → Wrote b ys (Err e) c → length xs + length ys ≤ length all → IsErr r → Adds a all r
adds_not all (Ok u) h w le is = absurd (true≢false (sym is))
adds_not all (Err f) h w le is = wanting all h w le

-- the last text
pub last : {a b c : Line} {xs ys all : List ℕ} (r : Result (Unit {0}) AllocError) → Has a xs b → Wrote b ys r c → xs ++ ys ≡ all → Wrote a all r c
last (Ok u) h w e = has_all (has_more h w e) refl
last {xs = xs} {ys} {all} (Err f) h w e = not_written all (Err f) h w (omega (arith, length-append xs ys, ap length e)) refl

hex_append : (xs ys : List ℕ) → hex (xs ++ ys) ≡ hex xs ++ hex ys
unfolding hex
hex_append [] ys = refl
hex_append (x ∷ xs) ys = ap (λ t. hex_digit (x / 16) ∷ hex_digit (x % 16) ∷ t) (hex_append xs ys)

pub hex_length : (xs : List ℕ) → length (hex xs) ≡ 2 * length xs
unfolding hex
hex_length [] = refl
hex_length (x ∷ xs) = omega (arith, hex_length xs)

pub hex_none : hex [] ≡ []
unfolding hex
hex_none = refl

-- one more byte in hexadecimal
pub hex_more : (xs : List ℕ) (i : ℕ) → i < length xs → hex (take i xs) ++ (hex_digit (get_or xs i 0 / 16) ∷ hex_digit (get_or xs i 0 % 16) ∷ []) ≡ hex (take (i + 1) xs)
unfolding hex
hex_more xs i h = sym (ap hex (take_more xs i 0 h) ∙ hex_append (take i xs) (get_or xs i 0 ∷ []))
