-- What is said of a message's tags: whose they are, what each stands for, and the tag itself as one number.
-- The plain words for these are in crate wire: `signers`, `act_of`, `tag_of`, `proof_of` and `proved_act`.
use Rattle.std.specs.Prelude.{◌≡◌, ℕ, ◌≤◌, true, false, ◌⊎◌, List, length, Some, None, Option, ◌≢◌}
use Rattle.boards.specs.declared.Set.{Set}
use Rattle.boards.specs.Boards.{member, place}
use Rattle.wire.specs.Messages.{Msg, tag_bytes}
use Rattle.wire.specs.Acts.{signers, act_of, tag_of, tag_at, proof_of, proved_act}
use Rattle.words.specs.declared.statement.Statement.{Statement}
use Rattle.signed.specs.declared.acks.Proof.{Proof}
use Rattle.words.specs.Said.{said}

-- Board b of set s has the tag with bytes t; none exactly if the board is not in the set or the bytes are not eight.
abbrev pub TagIs : ℕ → ℕ → List ℕ → Option ℕ → Type 0
TagIs s b t (Some x) = (member s b ≡ true) × (tag_bytes x ≡ t)
TagIs s b t None = (member s b ≡ false) ⊎ (length t ≢ 8)

-- The boards whose tags a message has.
abbrev pub SignedBy : Msg → Set → Type 0
SignedBy m s = s.bits ≡ signers m

-- What board b's tag stands for; nothing exactly if the board is not among the signers.
abbrev pub States : Msg → ℕ → Option Statement → Type 0
States m b (Some s) = (member (signers m) b ≡ true) × (said s ≡ act_of m b)
States m b None = member (signers m) b ≡ false

-- Board b's tag; none exactly if the board is not among the signers or its tag is not eight bytes.
abbrev pub SignerTagged : Msg → ℕ → Option ℕ → Type 0
SignerTagged m b r = TagIs (signers m) b (tag_of m b) r

-- The boards of a proof and the act that each of their tags stands for; nothing exactly if the proof has no board.
abbrev pub Proves : Msg → Option Proof → Type 0
Proves m (Some p) = (1 ≤ p.boards.bits) × (p.boards.bits ≡ (proof_of m).boards) × (said p.act ≡ proved_act m)
Proves m None = (proof_of m).boards ≡ 0

-- Board b's tag in a proof; none exactly if the board is not in the proof or its tag is not eight bytes.
abbrev pub ProofTagged : Msg → ℕ → Option ℕ → Type 0
ProofTagged m b r = TagIs (proof_of m).boards b (tag_at (place (proof_of m).boards b) (proof_of m).acks) r
