-- A suggest-last made of what a leader was told: it is formed, and has at most 128 bytes.
-- From what every leader keeps of lasts: entries that are allowed, and a proof exactly if one of them has an earlier rank.
use Rattle.std.proofs.Common.{◌≡◌, ℕ, zero, suc, ◌*◌, ◌<◌, ◌≤◌, max, Bool, true, false, cond, not, ◌&&◌, ◌||◌, eqb, List, [], ◌∷◌, ◌++◌, length, get_or, sym, refl, ap, ◌∙◌, subst, arith}
use Rattle.std.specs.List.{AllByRecursion}
use Rattle.std.proofs.lemmas.Bool.{cond_both, eqb-true, ne_eqb}
use Rattle.std.proofs.Math.Bool.{and-true}
use Rattle.boards.specs.Boards.{every, member, size}
use Rattle.boards.proofs.Sets.{size_le}
use Rattle.grammar.specs.Grammar.{Grammar, from_to}
use Rattle.grammar.proofs.Held.{Held, stand}
use Rattle.layout.specs.Measures.{WholeTag}
use Rattle.layout.proofs.Replies.{all_listed, listed_in, listed_out, listed_long}
use Rattle.layout.proofs.Stored.{stored_long, stored_fits, tag_fits}
use Rattle.sending.proofs.Certificates.{Certified}
use Rattle.sending.proofs.Lones.{within}
use Rattle.views.specs.Shares.{quorum}
use Rattle.views.proofs.Rule.{quorum_rest, share_is}
use Rattle.wire.specs.declared.message.Entry.{Entry}
use Rattle.wire.specs.Fields.{entries, proof}
use Rattle.wire.specs.Format.{message, replies_values, set_values}
use Rattle.wire.specs.Messages.{Msg, Reply, listed, none, stored_tags, tag_bytes}
use Rattle.wire.proofs.Signs.{EntryAllowed, highest}
use Rattle.wire.proofs.Widths.{length_form, wide, wide_append}
use Rattle.row.specs.declared.state.Count.{Count}
use Rattle.row.specs.declared.state.Leader.{Leader}
use Rattle.row.specs.declared.state.Slot.TheVariants.{Last}
use Rattle.row.specs.States.{count_at}
use Rattle.row.specs.Rows.{allowed, nothing, proves, tells}
use Rattle.row.proofs.Held.{allowed_parts, proves_parts, tells_parts, told_at}
use Rattle.counting.specs.Counts.{last_certificate}

-- A reply that the format allows.
abbrev Fits : Reply → Type 0
Fits e = EntryAllowed e.entry × WholeTag e

-- Replies that it allows may stand before a proof for the highest earlier rank.
before_proof : (top : ℕ) (es : List Reply) (p : ℕ) (a : List ℕ) → AllByRecursion Fits es → Held (proof (highest top es) Grammar.done) (set_values p a) Grammar.done
    → Held (entries (length es) top (λ t. proof t Grammar.done)) (replies_values es ++ set_values p a) Grammar.done
unfolding entries replies_values
before_proof top [] p a h k = k
before_proof top (e ∷ es) p a h k =
    let f = h.0.0 in
    (refl, f.rank_fits, f.rank_allowed, (refl, omega arith, refl, (refl, f.change_fits, f.change_allowed, (h.0.1.0, h.0.1.1, before_proof (max top e.entry.earlier) es p a h.1 k))))

replies_wide : (es : List Reply) → AllByRecursion Fits es → wide (replies_values es) ≡ 72 * length es
unfolding replies_values
replies_wide [] h = refl
replies_wide (e ∷ es) h = omega (arith, h.0.1.0, replies_wide es h.1)

-- The highest earlier rank, with one reply more at the end.
highest_last : (top : ℕ) (es : List Reply) (e : Reply) → highest top (es ++ e ∷ []) ≡ max (highest top es) e.entry.earlier
highest_last top [] e = refl
highest_last top (x ∷ es) e = highest_last (max top x.entry.earlier) es e

both_zero : (m n : ℕ) → (eqb m 0 && eqb n 0) ≡ eqb (max m n) 0
both_zero zero zero = refl
both_zero zero (suc n) = ne_eqb (suc n) 0 (λ e. cc) ∙ sym (ne_eqb (max 0 (suc n)) 0 (λ e. omega (arith, e)))
both_zero (suc m) n = ap (λ x. x && eqb n 0) (ne_eqb (suc m) 0 (λ e. cc)) ∙ sym (ne_eqb (max (suc m) n) 0 (λ e. omega (arith, e)))

one_on : (b : Bool) (P : ℕ → Bool) (f : ℕ → Reply) (n : ℕ) → P n ≡ b → (eqb (highest 0 (listed P f n)) 0 && (not b || nothing (f n).entry)) ≡ eqb (highest 0 (listed P f (suc n))) 0
one_on true P f n e = both_zero _ _ ∙ ap (λ x. eqb x 0) (sym (ap (highest 0) (listed_in P f n e) ∙ highest_last 0 (listed P f n) (f n)))
one_on false P f n e = and-true _ ∙ ap (λ l. eqb (highest 0 l) 0) (sym (listed_out P f n e))

-- None of those listed has an earlier rank exactly if the highest is 0.
none_highest : (P : ℕ → Bool) (f : ℕ → Reply) (n : ℕ) → every (λ b. not (P b) || nothing (f b).entry) n ≡ eqb (highest 0 (listed P f n)) 0
unfolding every listed
none_highest P f zero = refl
none_highest P f (suc n) = ap (λ x. x && (not (P n) || nothing (f n).entry)) (none_highest P f n) ∙ one_on (P n) P f n refl

-- An entry that every leader may keep is one that the format allows.
entry_allowed : (e : Entry) → allowed e ≡ true → EntryAllowed e
entry_allowed e h =
    let a = allowed_parts e h in
    record {
      rank_fits = omega (arith, a.rank);
      rank_allowed = within 0 8 e.earlier (omega arith) a.rank;
      change_fits = omega (arith, a.board);
      change_allowed = within 0 (cond (eqb e.earlier 0) 0 7) e.change (omega arith) (cond_both (eqb e.earlier 0) 0 7 (λ n. e.change ≤ n) (λ z. omega (arith, a.neither (eqb-true e.earlier 0 z))) (λ _. omega (arith, a.board)));
    }

-- A proof that is there exactly if there is an earlier rank.
shown_proof : (top p : ℕ) → eqb p 0 ≡ eqb top 0 → p < 256 → from_to (cond (eqb top 0) 0 1) (cond (eqb top 0) 0 255) p ≡ true
shown_proof top zero e h = subst (λ b. from_to (cond b 0 1) (cond b 0 255) 0 ≡ true) e refl
shown_proof top (suc p) e h = subst (λ b. from_to (cond b 0 1) (cond b 0 255) (suc p) ≡ true) (sym (ne_eqb (suc p) 0 (λ z. cc)) ∙ e) (within 1 255 (suc p) (omega arith) (omega arith))

-- A quorum of a view has at most six boards.
pub few : (n : ℕ) → n ≤ 8 → quorum n ≤ 6
few n h = omega (arith, quorum_rest n, share_is n)

-- The reply of a board that was told, and how many were told.
abbrev reply : Leader → Count → ℕ → Reply
reply l n b = record { entry = get_or l.entries b none; tag = tag_bytes (get_or n.tags b 0) }

as_many : (s : ℕ) (f : ℕ → Reply) → length (listed (member s) f 8) ≡ size s
unfolding size
as_many s f = listed_long (member s) f 8

told_so : (v k : ℕ) (l : Leader) → 1 ≤ v → v ≤ 64 → 1 ≤ k → k ≤ 8 → tells l ≡ true → proves l ≡ true → (count_at l Last).set.bits < 256 → size (count_at l Last).set.bits ≤ 6 → l.proof.set.bits < 256
    → Certified (last_certificate v k l (count_at l Last))
told_so v k l v1 v2 k1 k2 t q byte six proof_byte =
    let n = count_at l Last in
    let s = n.set.bits in
    let p = l.proof.set.bits in
    let a = stored_tags p l.proof.tags in
    let f = reply l n in
    let rs = listed (member s) f 8 in
    let told = tells_parts l t in
    let fits : AllByRecursion Fits rs = all_listed Fits (member s) f (λ b m. (entry_allowed (f b).entry (told_at allowed l b told.entries m), (refl, tag_fits _))) 8 in
    let long : length rs ≡ size s = as_many s f in
    let shown : eqb p 0 ≡ eqb (highest 0 rs) 0 = sym (proves_parts l q) ∙ told.none ∙ none_highest (member s) f 8 in
    let behind : Held (proof (highest 0 rs) Grammar.done) (set_values p a) Grammar.done =
    (refl, omega arith, shown_proof (highest 0 rs) p shown proof_byte, (stored_long p l.proof.tags, stored_fits p l.proof.tags, refl)) in
    let replies : Held (entries (size s) 0 (λ x. proof x Grammar.done)) (replies_values rs ++ set_values p a) Grammar.done =
    subst (λ m. Held (entries m 0 (λ x. proof x Grammar.done)) (replies_values rs ++ set_values p a) Grammar.done) long (before_proof 0 rs p a fits behind) in
    record {
      formed = stand message _ Grammar.done
          (refl, omega arith, refl, (refl, omega arith, within 1 64 v v1 v2, (refl, omega arith, within 1 8 k k1 k2, (refl, omega arith, within 0 255 s (omega arith) (omega arith), replies))));
      short = omega (arith, length_form (Msg.suggest_last v k s rs p a), wide_append (replies_values rs) (set_values p a), replies_wide rs fits, long, stored_long p l.proof.tags, size_le p);
    }

-- The same of the count by another name.
pub certified_suggest_last : (v k : ℕ) (l : Leader) (n : Count) → 1 ≤ v → v ≤ 64 → 1 ≤ k → k ≤ 8 → tells l ≡ true → proves l ≡ true → n ≡ count_at l Last → n.set.bits < 256 → size n.set.bits ≤ 6 → l.proof.set.bits < 256
    → Certified (last_certificate v k l n)
certified_suggest_last v k l n v1 v2 k1 k2 t q e byte six proof_byte =
    subst (λ (x : Count). Certified (last_certificate v k l x)) (sym e)
    (told_so v k l v1 v2 k1 k2 t q (subst (λ (x : Count). x.set.bits < 256) e byte) (subst (λ (x : Count). size x.set.bits ≤ 6) e six) proof_byte)
