-- Tags as bytes and as numbers: each tag of a formed message is eight bytes, and a tag's bytes make the tag again.
-- Layers that check tags go by these from a message's bytes to the number that a scheme takes.
use Rattle.std.proofs.Common.{◌≡◌, ℕ, ◌+◌, ◌*◌, ◌/◌, ◌%◌, ◌^◌, ◌<◌, Bool, true, List, [], ◌++◌, length, drop, sym, ap, ◌∙◌, arith, length-drop, length-take-le}
use Rattle.std.proofs.ByRecursion.{All-get_or}
use Rattle.std.proofs.lemmas.List.{append-nil}
use Rattle.boards.specs.Boards.{member, only, size, place}
use Rattle.boards.proofs.Sets.{place_below, size_only}
use Rattle.grammar.specs.Bits.{bits, bits_of, number_of}
use Rattle.grammar.proofs.Bits.{low, parts, number_bits}
use Rattle.grammar.proofs.Held.{held}
use Rattle.wire.specs.Messages.{Msg, tag_bytes}
use Rattle.wire.specs.Format.{Formed}
use Rattle.wire.specs.Acts.{signers, tag_at, tag_of, tag_number, proof_of, no_reply}
use Rattle.wire.proofs.Signs.{answered, no_boards}
use Rattle.wire.proofs.Speakers.{lone_size}

-- One byte of a number before the bits below it.
byte_before : (n x : ℕ) (l : List Bool) → l ≡ bits_of n x → bits_of 8 (x / 2 ^ n % 256) ++ l ≡ bits_of (8 + n) x
byte_before n x l e =
    ap (λ r. bits_of 8 (x / 2 ^ n % 256) ++ r) e ∙ ap (λ r. r ++ bits_of n x) (low 8 (x / 2 ^ n % 256) (x / 2 ^ n) (omega arith)) ∙ sym (parts 8 n x)

last_byte : (x : ℕ) → bits_of 8 (x % 256) ++ [] ≡ bits_of 8 x
last_byte x = append-nil (bits_of 8 (x % 256)) ∙ low 8 (x % 256) x (omega arith)

tag_bits : (x : ℕ) → bits (tag_bytes x) ≡ bits_of 64 x
unfolding bits
tag_bits x = byte_before 56 x _ (byte_before 48 x _ (byte_before 40 x _ (byte_before 32 x _ (byte_before 24 x _ (byte_before 16 x _ (byte_before 8 x _ (last_byte x)))))))

pub number_of_tag : (x : ℕ) → x < 2 ^ 64 → tag_number (tag_bytes x) ≡ x
unfolding tag_number
number_of_tag x h = ap number_of (tag_bits x) ∙ number_bits 64 x ∙ omega arith

-- The tag at a board's place among as many as the set has boards.
eight_at : (s b : ℕ) (t : List ℕ) → length t ≡ 8 * size s → member s b ≡ true → length (tag_at (place s b) t) ≡ 8
eight_at s b t e i = length-take-le 8 (drop (8 * place s b) t) (simp length-drop (omega (arith, e, place_below s b i)))

-- The tag of a board that stands alone.
eight_alone : (s b : ℕ) (t : List ℕ) → size (only s) ≡ 1 → length t ≡ 8 → member (only s) b ≡ true → length (tag_at (place (only s) b) t) ≡ 8
eight_alone s b t one e = eight_at (only s) b t (omega (arith, one, e))

pub signer_eight : (m : Msg) (b : ℕ) → Formed m → member (signers m) b ≡ true → length (tag_of m b) ≡ 8
signer_eight (Msg.notify v c s t) b f i = let h = (held f).3.3.3.3 in eight_alone s b t (lone_size (only s) h.2) h.3.0 i
signer_eight (Msg.suggest v c s t) b f i = eight_at s b t (held f).3.3.3.3.3.0 i
signer_eight (Msg.ack v r c s t) b f i = let h = (held f).3.3.3.3.3 in eight_alone s b t (lone_size (only s) h.2) h.3.0 i
signer_eight (Msg.proposal v r c s t) b f i = eight_at s b t (held f).3.3.3.3.3.3.0 i
signer_eight (Msg.ready v r c s t) b f i = let h = (held f).3.3.3.3.3 in eight_alone s b t (lone_size (only s) h.2) h.3.0 i
signer_eight (Msg.change v r c s t) b f i = eight_at s b t (held f).3.3.3.3.3.3.0 i
signer_eight (Msg.deputy v r s t) b f i = let h = (held f).3.3.3 in eight_alone s b t (lone_size (only s) h.2) h.3.0 i
signer_eight (Msg.query v r s t) b f i = eight_at s b t (held f).3.3.3.3.0 i
signer_eight (Msg.last v r s e p a) b f i = (held f).3.3.3.3.3.3.3.0
signer_eight (Msg.suggest_last v r s es p a) b f i =
    let r = answered (size s) 0 es p a (held f).3.3.3.3 in
    All-get_or (λ e. length e.tag ≡ 8) es (place s b) no_reply (omega (arith, place_below s b i, r.many)) r.tagged
signer_eight (Msg.init v s n k p t) b f i = let h = (held f).3.3 in eight_alone s b t (size_only s h.1) h.3.3.3.3.2.3.0 i
signer_eight (Msg.echo v s n k p c t) b f i = let h = (held f).3.3.3.3.3.3.2 in eight_alone c b t (lone_size (only c) h.2) h.3.0 i
signer_eight (Msg.commit v s n k p c t) b f i = eight_at c b t (held f).3.3.3.3.3.3.2.3.0 i

pub prover_eight : (m : Msg) (b : ℕ) → Formed m → member (proof_of m).boards b ≡ true → length (tag_at (place (proof_of m).boards b) (proof_of m).acks) ≡ 8
prover_eight (Msg.notify v c s t) b f i = no_boards b i
prover_eight (Msg.suggest v c s t) b f i = no_boards b i
prover_eight (Msg.ack v r c s t) b f i = no_boards b i
prover_eight (Msg.proposal v r c s t) b f i = no_boards b i
prover_eight (Msg.ready v r c s t) b f i = no_boards b i
prover_eight (Msg.change v r c s t) b f i = no_boards b i
prover_eight (Msg.deputy v r s t) b f i = no_boards b i
prover_eight (Msg.query v r s t) b f i = no_boards b i
prover_eight (Msg.last v r s e p a) b f i = eight_at p b a (held f).3.3.3.3.3.3.3.2.3.0 i
prover_eight (Msg.suggest_last v r s es p a) b f i = eight_at p b a (answered (size s) 0 es p a (held f).3.3.3.3).after.3.0 i
prover_eight (Msg.init v s n k p t) b f i = no_boards b i
prover_eight (Msg.echo v s n k p c t) b f i = no_boards b i
prover_eight (Msg.commit v s n k p c t) b f i = no_boards b i
