-- A row more: what the register's own account of a call means for the scheme.
-- The tag is good from now on, and nothing else changes.
use Rattle.std.proofs.Common.{◌≡◌, ℕ, ◌<◌, true, ◌&&◌, eqb, ltb, ◌⊎◌, List, length, get_or, sym, ◌∙◌, subst, inl, inr, ⊎_elim, arith}
use Rattle.std.proofs.lemmas.Slice.Eq.{bytes_eq-Decides}
use Rattle.std.proofs.lemmas.Bool.{and_parts, and_from, ltb-true, lt-ltb, leb-false, eqb-true, cases_eq}
use Rattle.bounded.specs.Held.{held}
use Rattle.schemes.specs.Meaning.{signable, Signed}
use Rattle.schemes.specs.Registers.{blank_entry, holds, register_good, register_spent, Entered}
use Rattle.schemes.specs.declared.register.Entry.{Entry}
use Rattle.schemes.proofs.Refusals.{unrefused}

-- The parts of what good means in a register.
pub record Parts (rows : List Entry) (used b : ℕ) (w : List ℕ) (t : ℕ) : Type 0 where
  pub can : signable b w ≡ true
  pub below : t < used
  pub within : t < length rows
  pub held : holds (get_or rows t blank_entry) b w ≡ true

pub apart : (rows : List Entry) (used b : ℕ) (w : List ℕ) (t : ℕ) → register_good rows used b w t ≡ true → Parts rows used b w t
apart rows used b w t h =
    let p = and_parts (signable b w) _ h in
    let q = and_parts (ltb t used && ltb t (length rows)) _ p.1 in
    let r = and_parts (ltb t used) _ q.0 in
    record { can = p.0; below = ltb-true t used r.0; within = ltb-true t (length rows) r.1; held = q.1 }

pub together : (rows : List Entry) (used b : ℕ) (w : List ℕ) (t : ℕ) → Parts rows used b w t → register_good rows used b w t ≡ true
together rows used b w t p =
    and_from (signable b w) _ p.can (and_from (ltb t used && ltb t (length rows)) _ (and_from (ltb t used) _ (lt-ltb t used p.below) (lt-ltb t (length rows) p.within)) p.held)

-- An entry holds one board and one list of words.
pub one_holding : (e : Entry) (b c : ℕ) (v w : List ℕ) → holds e b v ≡ true → holds e c w ≡ true → (c ≡ b) × (w ≡ v)
one_holding e b c v w h k =
    let p = and_parts (eqb e.board b) _ h in
    let q = and_parts (eqb e.board c) _ k in
    let vs = (bytes_eq-Decides (held e.words) v).0 p.1 in
    let ws = (bytes_eq-Decides (held e.words) w).0 q.1 in
    (sym (eqb-true _ _ q.0) ∙ eqb-true _ _ p.0, sym ws ∙ vs)

module _ {rows rows2 : List Entry} {used used2 board tag : ℕ} {words : List ℕ} (h : Entered rows used board words tag rows2 used2) where
  -- There was room for the row.
  pub room : used < length rows
  room = leb-false (length rows) used (unrefused board words (register_spent rows used) h.accepted).1

  -- What is good after the call was good before, or it is the new row.
  pub new_or_old : (b : ℕ) (w : List ℕ) (t : ℕ) → register_good rows2 used2 b w t ≡ true
      → (register_good rows used b w t ≡ true) ⊎ ((b ≡ board) × (w ≡ words) × (t ≡ tag))
  new_or_old b w t g =
      let p = apart rows2 used2 b w t g in
      let many = h.as_many in
      let count = h.counted in
      let Goal : Type 0 = (register_good rows used b w t ≡ true) ⊎ ((b ≡ board) × (w ≡ words) × (t ≡ tag)) in
      let here : t ≡ used → Goal = λ e.
      let both = one_holding (get_or rows2 used blank_entry) board b words w h.held (subst (λ (k : ℕ). holds (get_or rows2 k blank_entry) b w ≡ true) e p.held) in
      inr (both.0, both.1, e ∙ sym h.lowest) in
      let there : (t ≡ used → ⊥) → Goal = λ ne.
      inl (together rows used b w t (record {
        can = p.can;
        below = omega (arith, p.below, count);
        within = omega (arith, p.within, many);
        held = subst (λ (x : Entry). holds x b w ≡ true) (h.others t ne) p.held;
      })) in
      ⊎_elim here there (cases_eq t used)

  pub entered_signed : Signed (register_good rows used) (register_good rows2 used2) (register_spent rows used) board words tag
  entered_signed =
      let can = (unrefused board words (register_spent rows used) h.accepted).0 in
      let many = h.as_many in
      let count = h.counted in
      let lowest = h.lowest in
      record {
        accepted = h.accepted;
        fresh = together rows2 used2 board words tag (record {
          can = can;
          below = omega (arith, count, lowest);
          within = omega (arith, room, many, lowest);
          held = subst (λ (k : ℕ). holds (get_or rows2 k blank_entry) board words ≡ true) (sym lowest) h.held;
        });
        kept = λ b w t g.
            let p = apart rows used b w t g in
            let ne : t ≡ used → ⊥ = λ e. omega (arith, p.below, e) in
            together rows2 used2 b w t (record {
              can = p.can;
              below = omega (arith, p.below, count);
              within = omega (arith, p.within, many);
              held = subst (λ (x : Entry). holds x b w ≡ true) (sym (h.others t ne)) p.held;
            });
        only = λ b w t g. ⊎_elim inl (λ e. inr (e.0, e.1)) (new_or_old b w t g);
      }
