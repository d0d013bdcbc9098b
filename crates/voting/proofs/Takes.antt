-- What a message says that a row takes: its fields are in range.
-- One lemma a kind; what the kinds share comes first.
use Rattle.std.proofs.Common.{◌≡◌, ℕ, ◌*◌, ◌<◌, ◌≤◌, Bool, false, not, ◌||◌, List, length, arith}
use Rattle.std.proofs.lemmas.Bool.{eqb-true, not-false, or_parts}
use Rattle.boards.specs.Boards.{size, place}
use Rattle.boards.proofs.Sets.{place_below}
use Rattle.grammar.proofs.Held.{held}
use Rattle.views.specs.Shares.{quorum}
use Rattle.views.proofs.Rule.{quorum_above}
use Rattle.schemes.specs.declared.Scheme.{Ghosts}
use Rattle.wire.specs.Messages.{Msg, Reply}
use Rattle.wire.specs.Acts.{lowest}
use Rattle.wire.proofs.Signs.{lowest_fits}
use Rattle.wire.proofs.Spelt.{between}
use Rattle.row.specs.declared.state.State.{State}
use Rattle.row.specs.States.{group, many, inside}
use Rattle.sending.proofs.Numbers.{tag_at_long}
use Rattle.admission.specs.Judged.{Taken}
use Rattle.admission.proofs.Early.{passes}
use Rattle.voting.specs.Votes.{WholeTags}

-- A member's view has a member.
peopled : (s : State) (x : Bool) → (not (inside s) || x) ≡ false → 1 ≤ many s
peopled s x h = omega (arith, place_below (group s) s.board (not-false (inside s) (or_parts (not (inside s)) x h).0))

module _ {S : Type 0} (g : Ghosts S) where
  pub takes_suggest : (st : State) (s : S) (v c a : ℕ) (t : List ℕ) (room : ℕ) → Taken g st s (Msg.suggest v c a t) room → c < 8
  takes_suggest st s v c a t room h = (held h.formed).3.3.3.1

  pub takes_proposal : (st : State) (s : S) (v k c a : ℕ) (t : List ℕ) (room : ℕ) → Taken g st s (Msg.proposal v k c a t) room
      → ((1 ≤ k) × (k ≤ 8) × (c < 8)) × WholeTags (Msg.proposal v k c a t) × (1 ≤ size a)
  takes_proposal st s v k c a t room h =
      let p = passes g st s (Msg.proposal v k c a t) room h in
      let f = held h.formed in
      let r = between 1 8 k f.3.3.2 in
      let many_a : size a ≡ quorum (many st) = eqb-true (size a) (quorum (many st)) (not-false _ p.sized) in
      let one = peopled st _ p.member in
      let long : length t ≡ 8 * size a = f.3.3.3.3.3.3.0 in (
        (r.0, r.1, f.3.3.3.3.1),
        λ b i. tag_at_long (place a b) t (omega (arith, long, place_below a b i)),
        omega (arith, many_a, quorum_above (many st) one),
      )

  pub takes_query : (st : State) (s : S) (v k a : ℕ) (t : List ℕ) (room : ℕ) → Taken g st s (Msg.query v k a t) room → (1 ≤ k) × (k ≤ 8)
  takes_query st s v k a t room h = between 1 8 k (held h.formed).3.3.2

  pub takes_suggest_last : (st : State) (s : S) (v k a : ℕ) (es : List Reply) (q : ℕ) (ak : List ℕ) (room : ℕ) → Taken g st s (Msg.suggest_last v k a es q ak) room
      → (1 ≤ k) × (k ≤ 8) × ((lowest es).change < 8)
  takes_suggest_last st s v k a es q ak room h =
      let r = between 1 8 k (held h.formed).3.3.2 in (r.0, r.1, (lowest_fits v k a es q ak h.formed).change_fits)
