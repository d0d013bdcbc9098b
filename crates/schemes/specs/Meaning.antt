-- What a signature scheme means: which tags are good for a board and words, and whether it is spent.
-- What signing may do to both, and why it may refuse.
use Rattle.std.specs.Prelude.{◌≡◌, ℕ, ◌<◌, ◌≤◌, Bool, true, false, cond, not, ◌&&◌, ◌⊎◌, List, [], ◌∷◌, length, Some, None, Ok, Err, Option, Result, nat_le, nat_lt}
use Rattle.schemes.specs.declared.SignRefusal.{SignRefusal}
use Rattle.schemes.specs.declared.SignRefusal.TheVariants.{Board, Long, Spent}

-- Good: the tags that stand for a board's signature under words.
abbrev pub Good : Type 0
Good = ℕ → List ℕ → ℕ → Bool

-- The boards are 0 to 7.
abbrev pub on_board : ℕ → Bool
on_board board = nat_lt board 8

-- Words that can be signed have 1 to 64 bytes.
abbrev pub sized : List ℕ → Bool
sized words = nat_lt 0 (length words) && nat_le (length words) 64

-- What can be signed at all.
abbrev pub signable : ℕ → List ℕ → Bool
signable board words = on_board board && sized words

-- Nothing else is ever good.
abbrev pub Bounded : {S : Type 0} → (S → Good) → Type 0
Bounded {S} good = (s : S) (b : ℕ) (w : List ℕ) (t : ℕ) → good s b w t ≡ true → (b < 8) × (1 ≤ length w) × (length w ≤ 64)

-- The number by which a refusal is known.
abbrev pub number : SignRefusal → ℕ
number Board = 1
number Long = 4
number Spent = 17

-- The first reason that holds, if one does.
abbrev pub first_of : List (Bool × SignRefusal) → Option SignRefusal
first_of [] = None
first_of (r ∷ rs) = cond r.0 (Some r.1) (first_of rs)

-- Why a call of sign is refused: the reasons in their order.
abbrev pub sign_refusal : ℕ → List ℕ → Bool → Option SignRefusal
sign_refusal board words spent = first_of ((not (on_board board), Board) ∷ (not (sized words), Long) ∷ (spent, Spent) ∷ [])

-- An accepted call: nothing spoke against it, its tag is good now, what was good stays good, and nothing else becomes good but for this board and these words.
pub record Signed (before after : Good) (spent : Bool) (board : ℕ) (words : List ℕ) (tag : ℕ) : Type 0 where
  pub accepted : sign_refusal board words spent ≡ None
  pub fresh : after board words tag ≡ true
  pub kept : (b : ℕ) (w : List ℕ) (t : ℕ) → before b w t ≡ true → after b w t ≡ true
  pub only : (b : ℕ) (w : List ℕ) (t : ℕ) → after b w t ≡ true → (before b w t ≡ true) ⊎ ((b ≡ board) × (w ≡ words))

-- A refused call: for the first reason that holds, and the scheme is as it was.
pub record Refused {S : Type 0} (before after : S) (spent : Bool) (board : ℕ) (words : List ℕ) (e : SignRefusal) : Type 0 where
  pub reason : sign_refusal board words spent ≡ Some e
  pub same : after ≡ before

-- What a call of sign does to a scheme that goes from s to s2.
abbrev pub Signing : {S : Type 0} → (S → Good) → (S → Bool) → S → S → ℕ → List ℕ → Result ℕ SignRefusal → Type 0
Signing good spent s s2 board words (Ok tag) = Signed (good s) (good s2) (spent s) board words tag
Signing good spent s s2 board words (Err e) = Refused s s2 (spent s) board words e

-- Whether the reasons let a call through.
abbrev pub Admits : ℕ → List ℕ → Bool → Result (Unit {0}) SignRefusal → Type 0
Admits board words spent (Ok _) = (sign_refusal board words spent ≡ None) × (signable board words ≡ true) × (board < 8) × (length words ≤ 64) × (spent ≡ false)
Admits board words spent (Err e) = sign_refusal board words spent ≡ Some e
