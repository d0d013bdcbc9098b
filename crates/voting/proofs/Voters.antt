-- What every voter keeps, with a new proposal; and that a row can tell what its voter keeps.
-- Only this file opens `keeps`.
use Rattle.std.proofs.Common.{◌≡◌, ℕ, ◌<◌, ◌≤◌, Bool, true, false, cond, not, eqb, List, Some, None, Option, sym, refl, ap, ◌∙◌, subst, ⊎_elim, arith}
use Rattle.std.proofs.lemmas.Bool.{and_from, and_parts, both_ways, cases_lt, eq-eqb, le-leb, leb-true, lt-ltb, ltb-true, ne_eqb, not_from_false}
use Rattle.schemes.specs.declared.Scheme.{Ghosts}
use Rattle.boards.specs.Boards.{size}
use Rattle.boards.proofs.Sets.{size_none}
use Rattle.grammar.specs.Grammar.{from_to}
use Rattle.wire.specs.declared.message.Entry.{Entry}
use Rattle.wire.specs.Messages.{stored_tags}
use Rattle.wire.specs.Acts.{Act}
use Rattle.wire.proofs.Signs.{EntryAllowed}
use Rattle.row.specs.declared.state.Count.{Count}
use Rattle.row.specs.declared.state.Kept.{Kept}
use Rattle.row.specs.declared.state.Voter.{Voter}
use Rattle.row.specs.declared.row.Row.{Row}
use Rattle.row.specs.States.{kept_entry, latest}
use Rattle.row.specs.Effects.{told_proof}
use Rattle.row.specs.Rows.{keeps, shown}
use Rattle.sending.specs.Sends.{Able, Speakable}
use Rattle.sending.proofs.Lones.{formed_last, within}

-- A voter keeps a proposal that has a rank, a board's change and acks to show for it.
pub keeps_proposal : (v : Voter) (floor k c : ℕ) (support : Count) → 1 ≤ k → k ≤ 8 → c < 8 → 1 ≤ size support.set.bits
    → keeps (record { floor = floor; suspects = v.suspects; kept = Some (record { rank = k; change = c }); support = support }) ≡ true
unfolding keeps
keeps_proposal v floor k c support k1 k2 hc hs =
    and_from _ _ (and_from _ _ (le-leb 1 k k1) (le-leb k 8 k2)) (and_from _ _ (lt-ltb c 8 hc) (not_from_false _ (ne_eqb (size support.set.bits) 0 (λ e. omega (arith, e, hs)))))

-- An entry and a proof that a last may have.
record Told (e : Entry) (p : ℕ) : Type 0 where
  entry : EntryAllowed e
  byte : p < 256
  proof : from_to (cond (eqb e.earlier 0) 0 1) (cond (eqb e.earlier 0) 0 255) p ≡ true

some_bits : (p : ℕ) → (size p ≡ 0 → ⊥) → 1 ≤ p
some_bits p h = ⊎_elim (λ l. l) (λ l. absurd (h (let z : p ≡ 0 = omega arith in ap size z ∙ size_none))) (cases_lt 0 p)

not_true : (b : Bool) → not b ≡ true → b ≡ true → ⊥
not_true true h e = both_ways false refl h
not_true false h e = both_ways false refl e

kept_told : (o : Option Kept) (p : ℕ) → shown o p ≡ true → cond (eqb (kept_entry o).earlier 0) 0 p < 256 → Told (kept_entry o) (cond (eqb (kept_entry o).earlier 0) 0 p)
kept_told None p h byte = record {
  entry = record { rank_fits = omega arith; rank_allowed = refl; change_fits = omega arith; change_allowed = refl };
  byte = omega arith;
  proof = refl;
}
kept_told (Some k) p h byte =
    let a = and_parts _ _ h in
    let r = and_parts _ _ a.0 in
    let d = and_parts _ _ a.1 in
    let r1 = leb-true 1 k.rank r.0 in
    let r8 = leb-true k.rank 8 r.1 in
    let c8 = ltb-true k.change 8 d.0 in
    let some : 1 ≤ p = some_bits p (λ z. not_true (eqb (size p) 0) d.1 (eq-eqb (size p) 0 z)) in
    let no : false ≡ eqb k.rank 0 = sym (ne_eqb k.rank 0 (λ z. omega (arith, z, r1))) in
    let low : p < 256 = subst (λ b. cond b 0 p < 256) (sym no) byte in
    record {
      entry = record {
        rank_fits = omega arith;
        rank_allowed = within 0 8 k.rank (omega arith) r8;
        change_fits = omega arith;
        change_allowed = subst (λ b. from_to 0 (cond b 0 7) k.change ≡ true) no (within 0 7 k.change (omega arith) (omega arith));
      };
      byte = byte;
      proof = subst (λ b. from_to (cond b 0 1) (cond b 0 255) (cond b 0 p) ≡ true) no (within 1 255 p some (omega arith));
    }

-- A row that is able can tell what its voter keeps.
pub can_tell : {S : Type 0} (g : Ghosts S) (w : Row) (b v k p : ℕ) (e : Entry) (ts : List ℕ) (s : S) (out : List ℕ)
    → b ≡ w.state.board → v ≡ latest w.state → e ≡ kept_entry w.state.voter.kept → p ≡ told_proof w.state → p < 256 → 1 ≤ k → k ≤ 8 → Able g s out
    → Speakable g b (Act.last v k e) p (stored_tags p ts) s out
unfolding keeps
can_tell g w b v k p e ts s out hb hv he hp byte k1 k2 able =
    let o = w.state.voter in
    let seated : b < 8 = omega (arith, hb, w.seated) in
    let t0 = kept_told o.kept o.support.set.bits w.keeps (subst (λ x. x < 256) hp byte) in
    let t : Told e p = subst (λ x. Told x p) (sym he) (subst (Told (kept_entry o.kept)) (sym hp) t0) in
    record {
      seated = seated;
      formed = λ x. formed_last v k b e p ts x (omega (arith, hv, w.sound.counted.2)) (omega (arith, hv, w.sound.counted.3)) k1 k2 seated t.entry t.byte t.proof;
      able = able;
    }
