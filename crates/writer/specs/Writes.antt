-- What writing a message leaves in the bytes offered, and what it answers.
-- A message is formed when the format allows its fields; its bytes are then its form.
use Rattle.std.specs.Prelude.{◌≡◌, ℕ, ◌+◌, ◌<◌, ◌≤◌, List, ◌++◌, length, take, drop, Ok, Err, Result}
use Rattle.wire.specs.Messages.{Msg}
use Rattle.wire.specs.Format.{Formed, form}
use Rattle.writer.specs.declared.put.Cursor.{Cursor}
use Rattle.writer.specs.declared.Unwritten.{Unwritten}
use Rattle.writer.specs.declared.Unwritten.TheVariants.{NoMessage, Out}

-- A part was put at place n, and all else is as it was; r is the place after it.
pub record Put (old : List ℕ) (n : ℕ) (part : List ℕ) (r : ℕ) (new : List ℕ) : Type 0 where
  pub place : r ≡ n + length part
  pub after : new ≡ take n old ++ (part ++ drop (n + length part) old)

-- The same at the place that a cursor keeps, in the bytes that it keeps.
pub record Puts (a : Cursor) (part : List ℕ) (b : Cursor) : Type 0 where
  pub put : Put a.out.now a.at part b.at b.out.now
  pub kept : b.out.ghost_name ≡ a.out.ghost_name

-- The n bytes of a message stand first, and the bytes past them are as they were.
pub record Wrote (m : Msg) (old : List ℕ) (n : ℕ) (new : List ℕ) : Type 0 where
  pub formed : Formed m
  pub long : n ≡ length (form m)
  pub room : n ≤ length old
  pub bytes : new ≡ form m ++ drop n old

-- A message is written, or no bytes spell the value, or too few bytes are offered; a refusal leaves them as they were.
abbrev pub Writes : Msg → List ℕ → Result ℕ Unwritten → List ℕ → Type 0
Writes m old (Ok n) new = Wrote m old n new
Writes m old (Err NoMessage) new = (Formed m → ⊥) × (new ≡ old)
Writes m old (Err Out) new = Formed m × (length old < length (form m)) × (new ≡ old)
