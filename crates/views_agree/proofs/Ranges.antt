-- Acts whose fields lie in their ranges are allowed, and fields of a formed message lie in theirs.
-- An act that is allowed is told by its words.
use Rattle.std.proofs.Common.{◌≡◌, ℕ, ◌^◌, ◌<◌, ◌≤◌, true, cond, eqb, leb, List, [], get_or, Some, None, Option, sym, refl, subst, arith}
use Rattle.std.proofs.lemmas.Bool.{and_from, and_parts, le-leb, leb-true, ne_eqb, cond-false}
use Rattle.grammar.specs.Grammar.{Grammar, Item, After, from_to}
use Rattle.grammar.proofs.Held.{Held, held, stand}
use Rattle.wire.specs.declared.message.Entry.{Entry}
use Rattle.wire.specs.Fields.{graded}
use Rattle.wire.specs.Messages.{Msg, Reply}
use Rattle.wire.specs.Format.{Formed, opening, graded_values}
use Rattle.wire.specs.Acts.{Act, Allowed, signed, signed_bodies, lone_kind}
use Rattle.row.specs.declared.state.Kept.{Kept}
use Rattle.row.specs.States.{kept_entry}

within : (a b v : ℕ) → a ≤ v → v ≤ b → from_to a b v ≡ true
within a b v low high = and_from (leb a v) (leb v b) (le-leb a v low) (le-leb v b high)

-- Kind and view, and what follows them.
opened : (k v : ℕ) (is : List Item) → k < 2 ^ 4 → lone_kind k ≡ true → 1 ≤ v → v ≤ 64 → Held (get_or signed_bodies k Grammar.done) is Grammar.done → After signed (opening k v is) Grammar.done
opened k v is kind lone low high rest = stand signed (opening k v is) Grammar.done (refl, kind, lone, (refl, omega arith, within 1 64 v low high, rest))

graded_held : (k c : ℕ) → 1 ≤ k → k ≤ 8 → c < 8 → Held (graded Grammar.done) (graded_values k c []) Grammar.done
graded_held k c low high board = (refl, omega arith, within 1 8 k low high, (refl, omega arith, refl, (refl, board, within 0 7 c (omega arith) (omega arith), refl)))

module _ (x : ℕ) (low : 1 ≤ x) (high : x ≤ 64) where
  pub notify_allowed : (c : ℕ) → c < 8 → Allowed (Act.notify x c)
  notify_allowed c board = opened 1 x _ (omega arith) refl low high (refl, omega arith, refl, (refl, board, within 0 7 c (omega arith) (omega arith), refl))

  pub ack_allowed : (k c : ℕ) → 1 ≤ k → k ≤ 8 → c < 8 → Allowed (Act.ack x k c)
  ack_allowed k c lk hk board = opened 3 x _ (omega arith) refl low high (graded_held k c lk hk board)

  pub ready_allowed : (k c : ℕ) → 1 ≤ k → k ≤ 8 → c < 8 → Allowed (Act.ready x k c)
  ready_allowed k c lk hk board = opened 5 x _ (omega arith) refl low high (graded_held k c lk hk board)

  pub deputy_allowed : (k : ℕ) → 1 ≤ k → k ≤ 8 → Allowed (Act.deputy x k)
  deputy_allowed k lk hk = opened 7 x _ (omega arith) refl low high (refl, omega arith, within 1 8 k lk hk, refl)

  entry_allowed : (k : ℕ) (e : Entry) → 1 ≤ k → k ≤ 8 → e.earlier ≤ 8 → e.change < 8 → from_to 0 (cond (eqb e.earlier 0) 0 7) e.change ≡ true → Allowed (Act.last x k e)
  entry_allowed k e lk hk rank board fits =
      opened 9 x _ (omega arith) refl low high
      (refl, omega arith, within 1 8 k lk hk, (refl, omega arith, within 0 8 e.earlier (omega arith) rank, (refl, omega arith, refl, (refl, board, fits, refl))))

-- A kept proposal whose fields lie in their ranges.
abbrev pub KeptFits : Option Kept → Type 0
KeptFits None = Unit {0}
KeptFits (Some p) = (1 ≤ p.rank) × (p.rank ≤ 8) × (p.change < 8)

pub last_allowed : (x : ℕ) → 1 ≤ x → x ≤ 64 → (k : ℕ) (p : Option Kept) → 1 ≤ k → k ≤ 8 → KeptFits p → Allowed (Act.last x k (kept_entry p))
last_allowed x low high k None lk hk fits = entry_allowed x low high k (kept_entry None) lk hk (omega arith) (omega arith) refl
last_allowed x low high k (Some p) lk hk fits =
    let seven : ◌≡◌ {A = ℕ} (cond (eqb p.rank 0) 0 7) 7 = cond-false (eqb p.rank 0) 0 7 (ne_eqb p.rank 0 (λ z. omega (arith, z, fits.0))) in
    entry_allowed x low high k (kept_entry (Some p)) lk hk fits.1 fits.2
    (subst (λ n. from_to 0 n p.change ≡ true) (sym seven) (within 0 7 p.change (omega arith) (omega (arith, fits.2))))

ranked : (k : ℕ) → from_to 1 8 k ≡ true → (1 ≤ k) × (k ≤ 8)
ranked k e = let p = and_parts (leb 1 k) (leb k 8) e in (leb-true 1 k p.0, leb-true k 8 p.1)

pub suggest_change : (v c a : ℕ) (t : List ℕ) → Formed (Msg.suggest v c a t) → c < 8
suggest_change v c a t f = (held f).3.3.3.1

pub proposal_ranges : (v k c a : ℕ) (t : List ℕ) → Formed (Msg.proposal v k c a t) → (1 ≤ k) × (k ≤ 8) × (c < 8)
proposal_ranges v k c a t f = let h = (held f).3.3 in let r = ranked k h.2 in (r.0, r.1, h.3.3.1)

pub change_ranges : (v k c a : ℕ) (t : List ℕ) → Formed (Msg.change v k c a t) → c < 8
change_ranges v k c a t f = (held f).3.3.3.3.1

pub query_rank : (v k a : ℕ) (t : List ℕ) → Formed (Msg.query v k a t) → (1 ≤ k) × (k ≤ 8)
query_rank v k a t f = ranked k (held f).3.3.2

pub suggest_last_rank : (v k a : ℕ) (es : List Reply) (p : ℕ) (acks : List ℕ) → Formed (Msg.suggest_last v k a es p acks) → (1 ≤ k) × (k ≤ 8)
suggest_last_rank v k a es p acks f = ranked k (held f).3.3.2
