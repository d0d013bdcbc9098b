-- What is sound in a formed message: there every act may be signed and every tag is eight bytes, so that a sound tag is a good one.
-- Every tag of a part is sound exactly if its boards are all among the sound ones.
use Rattle.std.proofs.Common.{◌≡◌, ℕ, Bool, true, false, ◌&&◌, length, Decides, sym, refl}
use Rattle.std.proofs.lemmas.Bool.{and_from, and_parts}
use Rattle.boards.specs.Boards.{member, Within}
use Rattle.boards.proofs.Members.{member_below}
use Rattle.schemes.specs.Meaning.{Good}
use Rattle.wire.specs.Messages.{Msg}
use Rattle.wire.specs.Format.{Formed}
use Rattle.wire.specs.Acts.{Allowed}
use Rattle.wire.proofs.Signs.{signed_allowed, proved_allowed}
use Rattle.wire.proofs.Eights.{signer_eight, prover_eight}
use Rattle.checks.specs.declared.Part.{Part}
use Rattle.checks.specs.declared.Part.TheVariants.{Signers, Proof}
use Rattle.checks.specs.Checks.{boards_in, act_in, tag_in, good_in, part_genuine, genuine, Sound, SoundBoards, GoodBoards, PartSound, AllSound, TellsGenuine}
use Rattle.checks.proofs.Genuine.{part_means}

may_sign_in : (part : Part) (m : Msg) (b : ℕ) → Formed m → member (boards_in part m) b ≡ true → Allowed (act_in part m b)
may_sign_in Signers m b f i = signed_allowed m b f i
may_sign_in Proof m b f i = proved_allowed m b f i

eight_in : (part : Part) (m : Msg) (b : ℕ) → Formed m → member (boards_in part m) b ≡ true → length (tag_in part m b) ≡ 8
eight_in Signers m b f i = signer_eight m b f i
eight_in Proof m b f i = prover_eight m b f i

-- A good tag of a formed message is sound.
pub sound_formed : (part : Part) (good : Good) (m : Msg) (b : ℕ) → Formed m → member (boards_in part m) b ≡ true → good_in part good m b ≡ true → Sound part good m b
sound_formed part good m b f i y = record { belongs = i; may_sign = may_sign_in part m b f i; eight = eight_in part m b f i; is_good = y }

-- Two tests that pass together are the same.
same_test : (x y : Bool) → (x ≡ true → y ≡ true) → (y ≡ true → x ≡ true) → x ≡ y
same_test true y p q = sym (p refl)
same_test false true p q = q refl
same_test false false p q = refl

pub sound_is_good : (part : Part) (good : Good) (m : Msg) (r : ℕ) → SoundBoards part good m r → GoodBoards part good m r
sound_is_good part good m r s f b =
    same_test (member r b) (member (boards_in part m) b && good_in part good m b)
    (λ e. let o = (s b).0 e in and_from _ _ o.belongs o.is_good)
    (λ e. let p = and_parts (member (boards_in part m) b) _ e in (s b).1 (sound_formed part good m b f p.0 p.1))

-- In a formed message every tag of a part is sound exactly if every one is good.
part_tells : (part : Part) (good : Good) (m : Msg) → Formed m → Decides (part_genuine part good m) (PartSound part good m)
unfolding PartSound
part_tells part good m f = (
  (λ e b i. sound_formed part good m b f i ((part_means part good m).0 e b i)),
  (λ s. (part_means part good m).1 (λ b i. (s b i).is_good)),
)

-- In a formed message every tag is sound exactly if the message is genuine.
pub formed_tells : (good : Good) (m : Msg) → Formed m → Decides (genuine good m) (AllSound good m)
formed_tells good m f = (
  (λ e. let p = and_parts (part_genuine Signers good m) (part_genuine Proof good m) e in ((part_tells Signers good m f).0 p.0, (part_tells Proof good m f).0 p.1)),
  (λ s. and_from _ _ ((part_tells Signers good m f).1 s.0) ((part_tells Proof good m f).1 s.1)),
)

pub sound_is_genuine : (good : Good) (m : Msg) (r : Bool) → Decides r (AllSound good m) → TellsGenuine good m r
sound_is_genuine good m r d f = let t = formed_tells good m f in same_test r (genuine good m) (λ e. t.1 (d.0 e)) (λ e. d.1 (t.0 e))

-- Every tag of a part is sound exactly if each of its boards is a sound one.
pub within_sound : (part : Part) (good : Good) (m : Msg) (r : ℕ) → SoundBoards part good m r
    → (Within (boards_in part m) r → PartSound part good m) × (PartSound part good m → Within (boards_in part m) r)
unfolding PartSound
within_sound part good m r s = ((λ w b i. (s b).0 (w b (member_below _ b i) i)), (λ a k h i. (s k).1 (a k i)))
