-- What the format allows of the head of a message of kinds 11 to 13: its view, sender and number, and what stands under the number.
-- For the contracts of what a call does once nothing stands against it.
use Rattle.std.specs.Prelude.{◌≡◌, ℕ, ◌<◌, ◌≤◌, List, length, Some}
use Rattle.wire.specs.declared.message.Sort.{Sort}
use Rattle.wire.specs.declared.message.Sort.TheVariants.{Report, End}
use Rattle.wire.specs.Reads.{ByteList}
use Rattle.row.specs.declared.state.Sent.{Sent}
use Rattle.row.specs.Effects.{Effect}
use Rattle.row.specs.Calls.{Posted, sent}
use Rattle.delivery.specs.Reports.{Content, Own, Reports, now}

-- A report has at most 48 bytes, an end just one.
abbrev pub Long : Sort → ℕ → Type 0
Long Report n = n ≤ 48
Long End n = n ≡ 1

pub record Fits (c : Content) : Type 0 where
  pub long : Long c.sort (length c.payload)
  pub bytes : ByteList c.payload

pub record AllowedHead (v s n : ℕ) (c : Content) : Type 0 where
  pub view : (1 ≤ v) × (v ≤ 64)
  pub sender : s < 8
  pub number : (1 ≤ n) × (n ≤ 255)
  pub content : Fits c

-- The board's own last message, if it has one, has such a head.
abbrev pub OwnAllowed : ℕ → Reports → Type 0
OwnAllowed b d = (o : Own) → d.own ≡ Some o → AllowedHead (now d) b o.number o.content

-- What an effect that signs nothing leaves of the offered bytes.
abbrev pub Unsigned : Effect → List ℕ → Sent → List ℕ → Type 0
Unsigned Effect.silent out a out2 = (a ≡ sent 0 0) × (out2 ≡ out)
Unsigned (Effect.signs to act proof acks) out a out2 = ⊥
Unsigned (Effect.sends to m) out a out2 = Posted to m out a out2
