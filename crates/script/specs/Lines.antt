-- What adding a text to a line does.
-- Want of memory is the one thing that can go wrong, and it can only where the room set aside does not suffice.
use Rattle.std.specs.Prelude.{◌≡◌, ℕ, ◌+◌, ◌<◌, ◌≤◌, List, [], ◌++◌, length, OnOk, OnErr, Some, None, Ok, Err, vec_items, vec_len, vec_capacity, Option, Result, Vec}
use Rattle.std.specs.declared.alloc.AllocError.{AllocError}
use Rattle.std.specs.declared.alloc.Global.{Global}

-- A line: its bytes.
abbrev pub Line : Type 0
Line = Vec ℕ Global

-- Line b is line a with all of a text added, unless memory was wanting.
pub record Wrote (a : Line) (text : List ℕ) (r : Result (Unit {0}) AllocError) (b : Line) : Type 0 where
  pub said : OnOk r (vec_items b ≡ vec_items a ++ text)
  pub full : OnErr r (vec_capacity a < vec_len a + length text)
  pub grows : vec_capacity a ≤ vec_capacity b

-- The text of what may be missing: none if it is.
abbrev pub option_text : {X : Type 0} → (X → List ℕ) → Option X → List ℕ
option_text text (Some x) = text x
option_text text None = []

-- What a call that adds a text to bytes answers: the bytes with the text, or that memory was wanting, which it was only
-- if the room set aside does not suffice.
abbrev pub Adds : Vec ℕ Global → List ℕ → Result (Vec ℕ Global) AllocError → Type 0
Adds out text (Ok v) = vec_items v ≡ vec_items out ++ text
Adds out text (Err e) = vec_capacity out < vec_len out + length text
