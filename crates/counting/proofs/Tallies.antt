-- The certificate of a count can be sent.
-- What a count leaves is what the rules say of the message.
use Rattle.std.proofs.Common.{◌≡◌, ℕ, ◌<◌, ◌≤◌, List, sym, refl, ap, ◌∙◌}
use Rattle.wire.specs.Acts.{tag_number}
use Rattle.wire.specs.Messages.{Msg, view_of}
use Rattle.row.specs.declared.state.Count.{Count}
use Rattle.row.specs.declared.state.State.{State}
use Rattle.row.specs.States.{count_at, group, latest, many}
use Rattle.row.specs.Effects.{Effect, Outcome, gained, filled, heard}
use Rattle.sending.proofs.Certificates.{Certified, certified_suggest, certified_proposal, certified_change, certified_query}
use Rattle.counting.specs.declared.counts.Tally.{Tally}
use Rattle.counting.specs.Counts.{InRange, Tallied, audience, certificate, least, lone_of, own_tag, slot_of, stand_of}

pub certified : (t : Tally) (v : ℕ) (n : Count) → InRange t → 1 ≤ v → v ≤ 64 → n.set.bits < 256 → Certified (certificate t v n)
certified (Tally.Notify c) v n h v1 v2 byte = certified_suggest v c n.set.bits n.tags v1 v2 h byte
certified (Tally.Ack k c) v n h v1 v2 byte = certified_proposal v k c n.set.bits n.tags v1 v2 h.0 h.1 h.2 byte
certified (Tally.Ready k c) v n h v1 v2 byte = certified_change v k c n.set.bits n.tags v1 v2 h.0 h.1 h.2 byte
certified (Tally.Deputy k) v n h v1 v2 byte = certified_query v k n.set.bits n.tags v1 v2 h.0 h.1 byte

-- What counting a lone message leaves, by the number of its tag.
abbrev pub at : State → Tally → ℕ → ℕ → Outcome
at s t b n =
    let l = gained s.leader (slot_of t) b n in
    filled s l (slot_of t) (least t (many s)) (stand_of t) (Effect.sends (audience t (group s)) (certificate t (latest s) (count_at l (slot_of t))))

-- That is what the rules say of it.
same : (s : State) (t : Tally) (v b : ℕ) (x : List ℕ) → ◌≡◌ {A = Outcome} (at s t b (tag_number x)) (heard s (lone_of t v b x))
same s (Tally.Notify c) v b x = refl
same s (Tally.Ack k c) v b x = refl
same s (Tally.Ready k c) v b x = refl
same s (Tally.Deputy k) v b x = refl

pub as_heard : (s : State) (m : Msg) (t : Tally) (b n : ℕ) → Tallied m t b → n ≡ tag_number (own_tag m) → ◌≡◌ {A = Outcome} (at s t b n) (heard s m)
as_heard s m t b n h e = ap (at s t b) e ∙ same s t (view_of m) b (own_tag m) ∙ ap (heard s) (sym h.is)
