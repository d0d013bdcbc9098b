-- Sizes of sets and places of their members, in the words of a set.
-- What a layer above needs when it counts boards; nothing here opens a bit.
use Rattle.std.proofs.Common.{◌≡◌, ℕ, ◌+◌, ◌-◌, ◌<◌, ◌≤◌, Bool, true, false, not, ◌&&◌, ◌||◌, eqb, Some, None, Decides, Option, MatchOption, inl, inr, sym, refl, ap, ◌∙◌, ⊎_elim, add-one, arith}
use lib.Bits.{bit_and}
use Rattle.std.proofs.lemmas.Nat.{and_le_l}
use Rattle.std.proofs.lemmas.Bool.{cases_Bool, cases_eq, cases_lt, cases_order, both_ways, and_parts, eqb-true, eq-eqb, ne_eqb}
use Rattle.boards.specs.Boards.{member, only, one, tally, size, place, Within, With, Without, Holder}
use Rattle.boards.proofs.Members.{member_and, member_below, member_none, member_only, same_set}
use Rattle.boards.proofs.Counts.{tally_le, tally_rises, tally_some, tally_within, tally_same, tally_but}

pub size_le : (s : ℕ) → size s ≤ 8
unfolding size
size_le s = tally_le (member s) 8

pub size_same : (s t : ℕ) → ((k : ℕ) → k < 8 → member s k ≡ member t k) → size s ≡ size t
unfolding size
size_same s t h = tally_same (member s) (member t) 8 h

pub within_size : (a v : ℕ) → Within a v → size a ≤ size v
unfolding size
within_size a v h = tally_within (member a) (member v) 8 h

pub place_first : (s : ℕ) → place s 0 ≡ 0
unfolding place tally
place_first s = refl

pub place_last : (s : ℕ) → place s 8 ≡ size s
unfolding place size
place_last s = refl

pub place_le : (s b : ℕ) → place s b ≤ b
unfolding place
place_le s b = tally_le (member s) b

-- From a board to the next the place rises by what the board counts for.
pub place_next : (s b : ℕ) → place s (b + 1) ≡ place s b + one (member s b)
unfolding place tally
place_next s b = ap (tally (member s)) (add-one b)

-- A member has fewer members before it than there are.
pub place_below : (s b : ℕ) → member s b ≡ true → place s b < size s
unfolding size place
place_below s b e = tally_rises (member s) b 8 (member_below s b e) e

-- A later board has a higher place than a member.
pub place_rises : (s a b : ℕ) → member s a ≡ true → a < b → place s a < place s b
unfolding place
place_rises s a b e h = tally_rises (member s) a b h e

-- Two members at one place are one board.
pub same_place : (s a b : ℕ) → member s a ≡ true → member s b ≡ true → place s a ≡ place s b → a ≡ b
same_place s a b ea eb e =
    ⊎_elim (λ same. same) (λ other. absurd (⊎_elim (λ l. omega (arith, place_rises s a b ea l)) (λ l. omega (arith, place_rises s b a eb l)) other)) (cases_order a b)

-- There is a member at each place below the size.
pub place_some : (s p : ℕ) → p < size s → (b : ℕ) × (b < 8) × (member s b ≡ true) × (place s b ≡ p)
unfolding size place
place_some s p h = tally_some (member s) 8 p h

pub size_none : size 0 ≡ 0
size_none =
    ⊎_elim (λ z. z) (λ o. absurd (⊎_elim (λ l. omega arith) (λ l. let r = place_some 0 0 l in both_ways (member 0 r.0) (member_none r.0) r.2) o)) (cases_order (size 0) 0)

-- A set whose size is not 0 has a board.
pub some_member : (s : ℕ) → 0 < size s → (b : ℕ) × (b < 8) × (member s b ≡ true)
some_member s h = let r = place_some s 0 h in (r.0, r.1, r.2)

pub no_member : (s b : ℕ) → size s ≡ 0 → member s b ≡ false
no_member s b z = ⊎_elim (λ e. absurd (omega (arith, place_below s b e))) (λ e. e) (cases_Bool (member s b))

pub size_zero : (s : ℕ) → s < 256 → size s ≡ 0 → s ≡ 0
size_zero s h z = same_set s 0 h (omega arith) (λ k l. no_member s k z ∙ sym (member_none k))

pub with_old : (s b r : ℕ) → With s b r → (k : ℕ) → k < 8 → (k ≡ b → ⊥) → member s k ≡ member r k
with_old s b r w k h ne = sym (w k h ∙ ap (λ t. member s k || t) (ne_eqb k b ne) ∙ or_false (member s k))
  where
    or_false : (t : Bool) → (t || false) ≡ t
    or_false true = refl
    or_false false = refl

pub with_new : (s b r : ℕ) → b < 8 → With s b r → member r b ≡ true
with_new s b r h w = w b h ∙ ap (λ t. member s b || t) (eq-eqb b b refl) ∙ or_true (member s b)
  where
    or_true : (t : Bool) → (t || true) ≡ true
    or_true true = refl
    or_true false = refl

pub without_old : (s b r : ℕ) → Without s b r → (k : ℕ) → k < 8 → (k ≡ b → ⊥) → member s k ≡ member r k
without_old s b r w k h ne = sym (w k h ∙ ap (λ t. member s k && not t) (ne_eqb k b ne) ∙ and_true (member s k))
  where
    and_true : (t : Bool) → (t && true) ≡ t
    and_true true = refl
    and_true false = refl

pub without_gone : (s b r : ℕ) → b < 8 → Without s b r → member r b ≡ false
without_gone s b r h w = w b h ∙ ap (λ t. member s b && not t) (eq-eqb b b refl) ∙ and_false (member s b)
  where
    and_false : (t : Bool) → (t && false) ≡ false
    and_false true = refl
    and_false false = refl

-- Two sets that differ at most at board b have sizes that differ by what b counts for.
size_but : (s b r : ℕ) → b < 8 → ((k : ℕ) → k < 8 → (k ≡ b → ⊥) → member s k ≡ member r k) → size r + one (member s b) ≡ size s + one (member r b)
unfolding size
size_but s b r h o = tally_but (member s) (member r) b 8 h o

pub size_with : (s b r : ℕ) → b < 8 → With s b r → size r + one (member s b) ≡ size s + 1
size_with s b r h w = omega (arith, size_but s b r h (with_old s b r w), ap one (with_new s b r h w))

pub size_with_new : (s b r : ℕ) → b < 8 → With s b r → member s b ≡ false → size r ≡ size s + 1
size_with_new s b r h w e = omega (arith, size_with s b r h w, ap one e)

pub size_with_old : (s b r : ℕ) → With s b r → member s b ≡ true → size r ≡ size s
size_with_old s b r w e = omega (arith, size_with s b r (member_below s b e) w, ap one e)

pub size_without : (s b r : ℕ) → b < 8 → Without s b r → size r + one (member s b) ≡ size s
size_without s b r h w = omega (arith, size_but s b r h (without_old s b r w), ap one (without_gone s b r h w))

pub size_without_member : (s b r : ℕ) → Without s b r → member s b ≡ true → size r + 1 ≡ size s
size_without_member s b r w e = omega (arith, size_without s b r (member_below s b e) w, ap one e)

pub size_without_other : (s b r : ℕ) → b < 8 → Without s b r → member s b ≡ false → size r ≡ size s
size_without_other s b r h w e = omega (arith, size_without s b r h w, ap one e)

pub size_only : (b : ℕ) → b < 8 → size (only b) ≡ 1
size_only b h = omega (arith, size_with_new 0 b (only b) h (λ k l. member_only b k l ∙ sym (ap (λ t. t || eqb k b) (member_none k))) (member_none b), size_none)

-- The holder of a member's rank is that member.
pub holder_of : (s b : ℕ) → member s b ≡ true → (r : Option ℕ) → Holder s (place s b + 1) r → r ≡ Some b
holder_of s b e (Some a) h = ap Some (same_place s a b h.1 e (omega (arith, h.2)))
holder_of s b e None h = absurd (⊎_elim (λ z. omega arith) (λ l. omega (arith, place_below s b e)) h)

and_within : (a b : Bool) → (a ≡ true → b ≡ true) → (a && b) ≡ a
and_within true b h = h refl
and_within false b h = refl

-- A set is within another exactly if the boards of both are its own.
pub within_and : (a v : ℕ) → a < 256 → Decides (eqb (bit_and a v) a) (Within a v)
within_and a v h = (
  (λ e k l m. (and_parts (member a k) (member v k) (sym (member_and a v k) ∙ ap (λ s. member s k) (eqb-true (bit_and a v) a e) ∙ m)).1),
  (λ w. eq-eqb (bit_and a v) a (same_set _ a (omega (arith, and_le_l a v)) h (λ k l. member_and a v k ∙ and_within (member a k) (member v k) (w k l)))),
)

-- Board b is the member of rank r.
abbrev pub Ranked : ℕ → ℕ → ℕ → Type 0
Ranked s r b = (member s b ≡ true) × (place s b + 1 ≡ r)

-- The first of the eight boards with a rank is its holder; where none has it, it is 0 or above the size.
pub held : (s r : ℕ) (found : Option ℕ) → MatchOption found ((k : ℕ) → 0 ≤ k → k < 8 → Ranked s r k → ⊥) (λ b. (0 ≤ b) × (b < 8) × Ranked s r b × ((k : ℕ) → 0 ≤ k → k < b → Ranked s r k → ⊥)) → Holder s r found
held s r None none =
    ⊎_elim (λ z. inl z) (λ some.
    ⊎_elim (λ few. let b = place_some s (r - 1) few in absurd (none b.0 (omega arith) b.1 (b.2, omega (arith, b.3, some)))) (λ most. inr (omega (arith, most, some))) (cases_lt (r - 1) (size s)))
    (cases_eq r 0)
held s r (Some b) h = (h.1, h.2.0, h.2.1)
