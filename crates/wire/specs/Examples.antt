-- Bytes worked out by hand: a set, the words of acts, and what some bytes are.
-- A reader checks these against docs/FRAMES.md; the function `examples_stand` carries them all.
use Rattle.std.specs.Prelude.{◌≡◌, ℕ, List, [], ◌∷◌, ◌++◌, length, Err}
use Rattle.boards.specs.Boards.{member, size}
use Rattle.grammar.specs.declared.fault.Layer.TheVariants.{Bytes, Field}
use Rattle.grammar.specs.Grammar.{fault}
use Rattle.wire.specs.declared.message.Sort.TheVariants.{Report}
use Rattle.wire.specs.declared.message.Entry.{Entry}
use Rattle.wire.specs.Messages.{Msg, listed, none}
use Rattle.wire.specs.Format.{Formed, form}
use Rattle.wire.specs.Reads.{ByteList, Reads}
use Rattle.wire.specs.Acts.{Act, words}

-- A proposal of rank 5 for change 2 is kept.
abbrev pub kept : Entry
kept = record { earlier = 5; change = 2 }

pub record Examples : Type 0 where
  -- The set of boards 0, 2, 3 and 4.
  pub set : listed (member 0xB8) (λ b. b) 8 ≡ 0 ∷ 2 ∷ 3 ∷ 4 ∷ []
  -- The words of a notify in view 1 for change 2, and of an ack of rank 5.
  pub notify : words (Act.notify 1 2) ≡ 0x10 ∷ 0x12 ∷ []
  pub ack : words (Act.ack 1 5 2) ≡ 0x30 ∷ 0x15 ∷ 0x02 ∷ []
  -- The words of a last of rank 4 in view 1: with nothing kept, and with a kept proposal.
  pub last_none : words (Act.last 1 4 none) ≡ 0x90 ∷ 0x14 ∷ 0x00 ∷ []
  pub last_kept : words (Act.last 1 4 kept) ≡ 0x90 ∷ 0x14 ∷ 0x52 ∷ []
  -- The words of an echo in view 2 of board 5's first report, which has 3 bytes.
  pub echo : (payload : List ℕ) → ByteList payload → length payload ≡ 3 → words (Act.echo 2 5 1 Report payload) ≡ 0xC0 ∷ 0x2A ∷ 0x02 ∷ 0x03 ∷ payload
  -- A suggest of two boards has 19 bytes, and a twentieth is left over.
  pub suggest : (view change set : ℕ) (tags : List ℕ) → Formed (Msg.suggest view change set tags) → size set ≡ 2 → length (form (Msg.suggest view change set tags)) ≡ 19
  pub twentieth : (view change set : ℕ) (tags : List ℕ) (x : ℕ) → Formed (Msg.suggest view change set tags) → size set ≡ 2 → Reads (form (Msg.suggest view change set tags) ++ x ∷ []) (Err (fault Bytes 19))
  -- No bytes at all.
  pub nothing : Reads [] (Err (fault Bytes 0))
  -- Kind 0 is no kind.
  pub no_kind : Reads (0x00 ∷ []) (Err (fault Field 0))
  -- One byte is too short for a view, whatever its value would be.
  pub no_view : Reads (0x1F ∷ []) (Err (fault Bytes 1))
  -- A notify whose zero bit is 1.
  pub not_zero : Reads (0x10 ∷ 0x1A ∷ []) (Err (fault Field 1))
  -- An init that ends within its number.
  pub no_number : Reads (0xB0 ∷ 0x10 ∷ []) (Err (fault Bytes 2))
  -- An init of sort 4, whose first bit lies in byte 2.
  pub no_sort : Reads (0xB0 ∷ 0x10 ∷ 0x03 ∷ 0x00 ∷ []) (Err (fault Field 2))
