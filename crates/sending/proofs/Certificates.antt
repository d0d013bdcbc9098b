-- Messages that gather the tags of a set as a row stores them: they are formed, and have at most 128 bytes.
-- One lemma a kind; what the kinds share is the set with its tags.
use Rattle.std.proofs.Common.{ℕ, ◌<◌, ◌≤◌, List, length, Some, None, Option, IsSome, refl, arith}
use Rattle.boards.proofs.Sets.{size_le}
use Rattle.grammar.specs.Grammar.{Grammar}
use Rattle.grammar.proofs.Held.{stand}
use Rattle.layout.proofs.Stored.{stored_long}
use Rattle.wire.specs.Messages.{Msg, stored_tags}
use Rattle.wire.specs.Format.{Formed, form, message}
use Rattle.wire.proofs.Widths.{length_form}
use Rattle.row.specs.declared.state.Sent.{Sent}
use Rattle.sending.specs.Sends.{GoesOut}
use Rattle.sending.proofs.Lones.{fields}

-- A message goes out where it is formed and has at most 128 bytes.
pub record Certified (m : Msg) : Type 0 where
  pub formed : Formed m
  pub short : length (form m) ≤ 128

pub certified_posted : (m : Msg) (to : ℕ) (out : List ℕ) (r : Option Sent) (out2 : List ℕ) → Certified m → 128 ≤ length out → GoesOut to m out r out2 → IsSome r
certified_posted m to out (Some a) out2 c l g = refl
certified_posted m to out None out2 c l g = absurd (g.0 c.formed (omega (arith, c.short, l)))

pub certified_suggest : (v c s : ℕ) (ts : List ℕ) → 1 ≤ v → v ≤ 64 → c < 8 → s < 256 → Certified (Msg.suggest v c s (stored_tags s ts))
certified_suggest v c s ts v1 v2 hc hs = record {
  formed = stand message _ Grammar.done (search fields);
  short = omega (arith, length_form (Msg.suggest v c s (stored_tags s ts)), stored_long s ts, size_le s);
}

pub certified_proposal : (v k c s : ℕ) (ts : List ℕ) → 1 ≤ v → v ≤ 64 → 1 ≤ k → k ≤ 8 → c < 8 → s < 256 → Certified (Msg.proposal v k c s (stored_tags s ts))
certified_proposal v k c s ts v1 v2 k1 k2 hc hs = record {
  formed = stand message _ Grammar.done (search fields);
  short = omega (arith, length_form (Msg.proposal v k c s (stored_tags s ts)), stored_long s ts, size_le s);
}

pub certified_change : (v k c s : ℕ) (ts : List ℕ) → 1 ≤ v → v ≤ 64 → 1 ≤ k → k ≤ 8 → c < 8 → s < 256 → Certified (Msg.change v k c s (stored_tags s ts))
certified_change v k c s ts v1 v2 k1 k2 hc hs = record {
  formed = stand message _ Grammar.done (search fields);
  short = omega (arith, length_form (Msg.change v k c s (stored_tags s ts)), stored_long s ts, size_le s);
}

pub certified_query : (v k s : ℕ) (ts : List ℕ) → 1 ≤ v → v ≤ 64 → 1 ≤ k → k ≤ 8 → s < 256 → Certified (Msg.query v k s (stored_tags s ts))
certified_query v k s ts v1 v2 k1 k2 hs = record {
  formed = stand message _ Grammar.done (search fields);
  short = omega (arith, length_form (Msg.query v k s (stored_tags s ts)), stored_long s ts, size_le s);
}
