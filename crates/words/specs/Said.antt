-- What a statement of the program is as an act, and when words are the words of an act.
-- A statement that the format does not allow has no words.
use Rattle.std.specs.Prelude.{◌≡◌, ℕ, List, Some, None, Option}
use Rattle.wire.specs.Acts.{Act, Allowed, words}
use Rattle.words.specs.declared.statement.Statement.{Statement}
use Rattle.words.specs.declared.statement.Claim.{Claim}
use Rattle.words.specs.declared.statement.Claim.TheVariants.{Notify, Ack, Ready, Deputy, Last, Init, Echo}
use Rattle.bounded.specs.declared.Bytes.{Bytes}
use Rattle.bounded.specs.Held.{held}

-- The act of a claim in view v.
abbrev pub claimed : ℕ → Claim → Act
claimed v (Notify c) = Act.notify v c
claimed v (Ack r c) = Act.ack v r c
claimed v (Ready r c) = Act.ready v r c
claimed v (Deputy r) = Act.deputy v r
claimed v (Last r e) = Act.last v r e
claimed v (Init c) = Act.init v c.sender c.number c.sort c.payload.now
claimed v (Echo c) = Act.echo v c.sender c.number c.sort c.payload.now

-- The act that a statement states.
abbrev pub said : Statement → Act
said s = claimed s.view s.claim

-- Words are those of an allowed act; there are none exactly if the act is not allowed.
abbrev pub Spelt : Act → Option (Bytes 52) → Type 0
Spelt a (Some w) = Allowed a × (held w ≡ words a)
Spelt a None = Allowed a → ⊥
