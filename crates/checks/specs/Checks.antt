-- Which tags of a message are good, and when the message is genuine.
-- The scheme alone says which tags are good for a board and words; what is said here holds for any scheme.
use Rattle.std.specs.Prelude.{◌≡◌, ℕ, Bool, true, not, ◌&&◌, ◌||◌, List, length, Decides}
use Rattle.boards.specs.Boards.{every, member, place}
use Rattle.schemes.specs.Meaning.{Good}
use Rattle.wire.specs.Messages.{Msg}
use Rattle.wire.specs.Format.{Formed}
use Rattle.wire.specs.Acts.{Act, Allowed, words, signers, act_of, tag_of, tag_at, tag_number, proof_of, proved_act}
use Rattle.checks.specs.declared.Part.{Part}
use Rattle.checks.specs.declared.Part.TheVariants.{Signers, Proof}

-- The boards whose tags a part of a message has.
abbrev pub boards_in : Part → Msg → ℕ
boards_in Signers m = signers m
boards_in Proof m = (proof_of m).boards

-- What board b's tag in a part stands for.
abbrev pub act_in : Part → Msg → ℕ → Act
act_in Signers m b = act_of m b
act_in Proof m b = proved_act m

-- Board b's tag in a part.
abbrev pub tag_in : Part → Msg → ℕ → List ℕ
tag_in Signers m b = tag_of m b
tag_in Proof m b = tag_at (place (proof_of m).boards b) (proof_of m).acks

-- Board b's tag in a part is good for the words of its act.
abbrev pub good_in : Part → Good → Msg → ℕ → Bool
good_in part good m b = good b (words (act_in part m b)) (tag_number (tag_in part m b))

-- Signer b's tag is good.
abbrev pub tag_good : Good → Msg → ℕ → Bool
tag_good good m b = good_in Signers good m b

-- The tag of b, a board of the proof, is good.
abbrev pub ack_good : Good → Msg → ℕ → Bool
ack_good good m b = good_in Proof good m b

-- Every board of a part has a good tag in it.
abbrev pub part_genuine : Part → Good → Msg → Bool
part_genuine part good m = every (λ b. not (member (boards_in part m) b) || good_in part good m b) 8

-- A message is genuine when the tags of all its signers are good, and all those of its proof.
abbrev pub genuine : Good → Msg → Bool
genuine good m = part_genuine Signers good m && part_genuine Proof good m

-- A tag of any message, formed or not, is sound: its board is of the part, its act may be signed, the tag is eight bytes, and it is good.
pub record Sound (part : Part) (good : Good) (m : Msg) (b : ℕ) : Type 0 where
  pub belongs : member (boards_in part m) b ≡ true
  pub may_sign : Allowed (act_in part m b)
  pub eight : length (tag_in part m b) ≡ 8
  pub is_good : good_in part good m b ≡ true

-- Set r has just the boards whose tags in a part are sound.
abbrev pub SoundBoards : Part → Good → Msg → ℕ → Type 0
SoundBoards part good m r = (b : ℕ) → Decides (member r b) (Sound part good m b)

-- Set r has just the boards of a part whose tags are good, as it is in a formed message.
abbrev pub GoodBoards : Part → Good → Msg → ℕ → Type 0
GoodBoards part good m r = Formed m → (b : ℕ) → member r b ≡ (member (boards_in part m) b && good_in part good m b)

-- Every board of a part has a sound tag in it.
unfoldable pub PartSound : Part → Good → Msg → Type 0
PartSound part good m = (b : ℕ) → member (boards_in part m) b ≡ true → Sound part good m b

-- Every tag of a message is sound.
abbrev pub AllSound : Good → Msg → Type 0
AllSound good m = PartSound Signers good m × PartSound Proof good m

-- Answer r is whether a message is genuine, where the message is formed.
abbrev pub TellsGenuine : Good → Msg → Bool → Type 0
TellsGenuine good m r = Formed m → r ≡ genuine good m

-- A message is genuine exactly if each board of either part has a good tag there.
abbrev pub GenuineMeans : Type 0
GenuineMeans =
    (good : Good) (m : Msg) → Decides (genuine good m) ((part : Part) (b : ℕ) → member (boards_in part m) b ≡ true → good_in part good m b ≡ true)
