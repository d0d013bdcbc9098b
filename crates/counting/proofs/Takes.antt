-- What a message says that a row takes: which tally it is, and from which board.
-- One lemma a kind; what the kinds share comes before it.
use Rattle.std.proofs.Common.{◌≡◌, ℕ, ◌^◌, ◌<◌, ◌≤◌, Bool, true, false, cond, eqb, leb, Some, None, Option, IfSome, ⊎_elim, List, length, sym, refl, ap, subst, ◌∙◌, arith}
use Rattle.std.specs.Option.{unwrap_or}
use Rattle.std.proofs.lemmas.Bool.{and_parts, cases_Bool, cond-true, cond-false, eq-eqb, leb-true, ne_eqb, not_from_false}
use Rattle.std.proofs.lemmas.List.{take_all}
use Rattle.boards.specs.Boards.{member, only, place}
use Rattle.boards.proofs.Members.{member_only}
use Rattle.boards.proofs.Sets.{place_below, size_only}
use Rattle.grammar.proofs.Held.{held}
use Rattle.wire.proofs.Speakers.{lone_below}
use Rattle.wire.proofs.Spelt.{between}
use Rattle.wire.specs.Acts.{proof_of, tag_at, tag_number}
use Rattle.wire.specs.Format.{Formed}
use Rattle.wire.specs.declared.message.Body.{Body}
use Rattle.wire.specs.declared.message.Entry.{Entry}
use Rattle.wire.specs.declared.message.Spoken.{Spoken}
use Rattle.wire.specs.declared.message.Tagged.{Tagged}
use Rattle.wire.specs.Messages.{Msg, Reply, said_in}
use Rattle.grammar.specs.Grammar.{from_to}
use Rattle.row.specs.declared.state.State.{State}
use Rattle.row.specs.Refusals.{first_of, fit_reasons, seal_reasons}
use Rattle.row.specs.Rows.{alike, allowed, tellers}
use Rattle.row.proofs.Held.{allowed_from}
use Rattle.admission.proofs.Early.{passed, then}
use Rattle.admission.proofs.Tags.{tag_or_zero}
use Rattle.counting.specs.declared.counts.Tally.{Tally}
use Rattle.signed.specs.Signed.{ProofTagged}
use Rattle.sending.proofs.Numbers.{tag_at_long}
use Rattle.counting.specs.Counts.{Taken, Tallied, Telling, WholeProof}

itself : (b : ℕ) → b < 8 → member (only b) b ≡ true
itself b h = member_only b b h ∙ eq-eqb b b refl

-- A lone board's tag is the first one, and all there is.
first_alone : (b : ℕ) (t : List ℕ) → b < 8 → length t ≡ 8 → tag_at (place (only b) b) t ≡ t
first_alone b t h e =
    let first : place (only b) b ≡ 0 = omega (arith, place_below (only b) b (itself b h), size_only b h) in
    ap (λ k. tag_at k t) first ∙ take_all 8 t (omega arith)

-- A message by another name of its body.
pub tallied_as : (v : ℕ) (x y : Body) (t : Tally) (b : ℕ) → x ≡ y → (Formed (said_in v y) → Tallied (said_in v y) t b) → Formed (said_in v x) → Tallied (said_in v x) t b
tallied_as v x y t b is tally f = subst (λ (z : Body). Tallied (said_in v z) t b) (sym is) (tally (subst (λ (z : Body). Formed (said_in v z)) is f))

pub tally_notify : (v c b : ℕ) (t : List ℕ) → Formed (Msg.notify v c b t) → Tallied (Msg.notify v c b t) (Tally.Notify c) b
tally_notify v c b t f =
    let h = (held f).3.3.3 in
    let low = lone_below b h.3.2 in
    record { is = refl; range = h.1; seated = low; spoken = record { signs = itself b low; alone = first_alone b t low h.3.3.0; long = h.3.3.0 } }

pub tally_ack : (v k c b : ℕ) (t : List ℕ) → Formed (Msg.ack v k c b t) → Tallied (Msg.ack v k c b t) (Tally.Ack k c) b
tally_ack v k c b t f =
    let h = (held f).3.3 in
    let r = between 1 8 k h.2 in
    let low = lone_below b h.3.3.3.2 in
    record { is = refl; range = (r.0, r.1, h.3.3.1); seated = low; spoken = record { signs = itself b low; alone = first_alone b t low h.3.3.3.3.0; long = h.3.3.3.3.0 } }

pub tally_ready : (v k c b : ℕ) (t : List ℕ) → Formed (Msg.ready v k c b t) → Tallied (Msg.ready v k c b t) (Tally.Ready k c) b
tally_ready v k c b t f =
    let h = (held f).3.3 in
    let r = between 1 8 k h.2 in
    let low = lone_below b h.3.3.3.2 in
    record { is = refl; range = (r.0, r.1, h.3.3.1); seated = low; spoken = record { signs = itself b low; alone = first_alone b t low h.3.3.3.3.0; long = h.3.3.3.3.0 } }

pub tally_deputy : (v k b : ℕ) (t : List ℕ) → Formed (Msg.deputy v k b t) → Tallied (Msg.deputy v k b t) (Tally.Deputy k) b
tally_deputy v k b t f =
    let h = (held f).3.3 in
    let r = between 1 8 k h.2 in
    let low = lone_below b h.3.2 in
    record { is = refl; range = (r.0, r.1); seated = low; spoken = record { signs = itself b low; alone = first_alone b t low h.3.3.0; long = h.3.3.0 } }

-- A board's ack in a proof is the number of its bytes; another board has none.
pub ack_as : (m : Msg) (p b : ℕ) (o : Option ℕ) → WholeProof m p → ProofTagged m b o → IfSome o (λ x. x < 2 ^ 64)
    → unwrap_or o 0 ≡ cond (member p b) (tag_number (tag_at (place p b) (proof_of m).acks)) 0
ack_as m p b o w t fits =
    subst (λ s. unwrap_or o 0 ≡ cond (member s b) (tag_number (tag_at (place s b) (proof_of m).acks)) 0) w.shown (tag_or_zero _ b _ o (w.long b) t fits)

-- An entry that the format allows is one that every leader may keep.
fits_entry : (e : Entry) → from_to 0 8 e.earlier ≡ true → e.change < 8 → from_to 0 (cond (eqb e.earlier 0) 0 7) e.change ≡ true → allowed e ≡ true
fits_entry e ranks board c =
    let most : e.change ≤ cond (eqb e.earlier 0) 0 7 = (leb-true e.change _ (and_parts (leb 0 e.change) _ c).1) in
    allowed_from e (record {
      rank = leb-true e.earlier 8 (and_parts (leb 0 e.earlier) _ ranks).1;
      board = board;
      neither = λ z.
          let none : ◌≡◌ {A = ℕ} (cond (eqb e.earlier 0) 0 7) 0 = cond-true (eqb e.earlier 0) 0 7 (eq-eqb e.earlier 0 z) in
          omega (arith, most, none);
    })

-- A proof is there exactly if there is an earlier rank.
proof_alike : (b : Bool) (p : ℕ) → from_to (cond b 0 1) (cond b 0 255) p ≡ true → alike b (eqb p 0) ≡ true
proof_alike true p h =
    let z = leb-true p 0 (and_parts (leb 0 p) (leb p 0) h).1 in
    eq-eqb p 0 (omega arith)
proof_alike false p h =
    let z = leb-true 1 p (and_parts (leb 1 p) (leb p 255) h).0 in
    not_from_false (eqb p 0) (ne_eqb p 0 (λ e. omega (arith, e, z)))

-- The board of a last that no reason holds against was not counted.
untold : (st : State) (v k b : ℕ) (e : Reply) (p : ℕ) (ak : List ℕ) (room : ℕ) → first_of (fit_reasons st (Msg.last v k b e p ak) room) ≡ None → member (tellers st.leader) b ≡ false
untold st v k b e p ak room h =
    let m = Msg.last v k b e p ak in
    (passed st m room true false (then (fit_reasons st m room) (seal_reasons m true false) h)).new

pub telling : (st : State) (v k b : ℕ) (e : Reply) (p : ℕ) (ak : List ℕ) (room : ℕ) → Taken st (Msg.last v k b e p ak) room → Telling st (Msg.last v k b e p ak) k b e.entry p
telling st v k b e p ak room t =
    let h = (held t.formed).3.3 in
    let low = lone_below b h.3.2 in
    let q = h.3.3 in
    let rest = q.3.3.3.2 in
    record {
      range = between 1 8 k h.2;
      seated = low;
      spoken = record { signs = itself b low; alone = refl; long = q.3.3.3.0 };
      new = untold st v k b e p ak room t.unrefused;
      fits = fits_entry e.entry q.2 q.3.3.1 q.3.3.2;
      shown = proof_alike (eqb e.entry.earlier 0) p rest.2;
      whole = record { shown = refl; long = λ x i. tag_at_long (place p x) ak (omega (arith, rest.3.0, place_below p x i)) };
    }

-- The same of a message by another name of its body.
pub telling_as : (st : State) (v k : ℕ) (e : Entry) (own : Spoken) (proof : Tagged) (x : Body) (room : ℕ) → x ≡ Body.Last k e own proof → Taken st (said_in v x) room
    → Telling st (said_in v x) k own.speaker e proof.set.bits
telling_as st v k e own proof x room is t =
    subst (λ (y : Body). Telling st (said_in v y) k own.speaker e proof.set.bits) (sym is)
    (telling st v k own.speaker _ proof.set.bits _ room (subst (λ (y : Body). Taken st (said_in v y) room) is t))
