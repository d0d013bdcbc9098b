-- The entries that boards told in a message, board by board.
-- MEMBER and SPLIT ask whether some board told one that should not be.
use Rattle.std.specs.Prelude.{ℕ, Bool, false, cond, Some, None, Option}
use Rattle.boards.specs.Boards.{member, any}
use Rattle.wire.specs.declared.message.Entry.{Entry}
use Rattle.wire.specs.Messages.{Msg, none}
use Rattle.wire.specs.Acts.{Act, signers, act_of}

-- The entry that an act tells, which only a last does.
abbrev pub entry_of : Act → Entry
entry_of (Act.notify v c) = none
entry_of (Act.ack v r c) = none
entry_of (Act.ready v r c) = none
entry_of (Act.deputy v r) = none
entry_of (Act.last v r e) = e
entry_of (Act.init v s n k p) = none
entry_of (Act.echo v s n k p) = none

-- The entry that a signer of a message told; none of another board.
abbrev pub entry_by : Msg → ℕ → Option Entry
entry_by m b = cond (member (signers m) b) (Some (entry_of (act_of m b))) None

-- An entry that was told passes a test.
abbrev pub told : (Entry → Bool) → Option Entry → Bool
told P None = false
told P (Some e) = P e

-- Some board told an entry that passes.
abbrev pub some_told : (Entry → Bool) → Msg → Bool
some_told P m = any (λ b. told P (entry_by m b)) 8
