-- What a row does that counts a lone message: the next state, and what goes out; nothing is signed.
-- The whole of each kind is `heard` of crate row.
use Rattle.std.specs.Prelude.{◌≡◌, ℕ, ◌+◌, ◌<◌, ◌≤◌, Bool, true, false, ◌&&◌, List, [], length, None, ◌==◌}
use Rattle.wire.specs.declared.message.Entry.{Entry}
use Rattle.row.specs.declared.state.Count.{Count}
use Rattle.row.specs.declared.state.Leader.{Leader}
use Rattle.row.specs.declared.state.Slot.{Slot}
use Rattle.row.specs.Rows.{alike, allowed, nothing, tellers, tells, proves}
use Rattle.boards.specs.Boards.{member, place}
use Rattle.views.specs.Shares.{share, quorum}
use Rattle.wire.specs.Acts.{lone_kind, proof_of, signers, tag_at, tag_of}
use Rattle.row.specs.declared.state.Stand.TheVariants.{Acks, Readies, Lasts, Done}
use Rattle.row.specs.declared.state.Stand.{Stand}
use Rattle.row.specs.States.{count_tags, many}
use Rattle.counting.specs.declared.counts.Tally.{Tally}
use Rattle.wire.specs.Messages.{Msg, kind, stored_replies, view_of}
use Rattle.wire.specs.Format.{Formed}
use Rattle.row.specs.declared.state.State.{State}
use Rattle.row.specs.declared.state.Sent.{Sent}
use Rattle.row.specs.Refusals.{first_of, fit_reasons, of_group}
use Rattle.row.specs.Effects.{Effect, Outcome, called_for, filled, suggests_last}
use Rattle.row.specs.Calls.{Posted, sent}

-- What goes out of an effect that signs nothing.
abbrev pub Went : Effect → List ℕ → Sent → List ℕ → Type 0
Went Effect.silent out a out2 = (a ≡ sent 0 0) × (out2 ≡ out)
Went (Effect.signs to act proof acks) out a out2 = ⊥
Went (Effect.sends to m) out a out2 = Posted to m out a out2

-- What a counted message leaves.
abbrev pub Counted : Outcome → List ℕ → Sent → State → List ℕ → Type 0
Counted o out a st2 out2 = (st2 ≡ o.0) × Went o.1 out a out2

-- Where a lone message is counted.
abbrev pub slot_of : Tally → Slot
slot_of (Tally.Notify c) = Slot.Notify c
slot_of (Tally.Ack k c) = Slot.Ack
slot_of (Tally.Ready k c) = Slot.Ready
slot_of (Tally.Deputy k) = Slot.Deputy

-- How many of n members make a certificate: f + 1 notifies or deputy messages, a quorum of acks or readies.
abbrev pub least : Tally → ℕ → ℕ
least (Tally.Notify c) n = share n + 1
least (Tally.Ack k c) n = quorum n
least (Tally.Ready k c) n = quorum n
least (Tally.Deputy k) n = share n + 1

-- Where the leader stands then.
abbrev pub stand_of : Tally → Stand
stand_of (Tally.Notify c) = Acks c
stand_of (Tally.Ack k c) = Readies c
stand_of (Tally.Ready k c) = Done
stand_of (Tally.Deputy k) = Lasts

-- To whom the certificate goes: a change to all eight boards, any other to the members.
abbrev pub audience : Tally → ℕ → ℕ
audience (Tally.Notify c) v = v
audience (Tally.Ack k c) v = v
audience (Tally.Ready k c) v = 255
audience (Tally.Deputy k) v = v

-- The certificate of a full count in a view.
abbrev pub certificate : Tally → ℕ → Count → Msg
certificate (Tally.Notify c) v n = Msg.suggest v c n.set.bits (count_tags n)
certificate (Tally.Ack k c) v n = Msg.proposal v k c n.set.bits (count_tags n)
certificate (Tally.Ready k c) v n = Msg.change v k c n.set.bits (count_tags n)
certificate (Tally.Deputy k) v n = Msg.query v k n.set.bits (count_tags n)

-- The lone message that is counted: of a view and a speaker, with a tag.
abbrev pub lone_of : Tally → ℕ → ℕ → List ℕ → Msg
lone_of (Tally.Notify c) v b t = Msg.notify v c b t
lone_of (Tally.Ack k c) v b t = Msg.ack v k c b t
lone_of (Tally.Ready k c) v b t = Msg.ready v k c b t
lone_of (Tally.Deputy k) v b t = Msg.deputy v k b t

-- Its rank is 1 to 8, and its change a board.
abbrev pub InRange : Tally → Type 0
InRange (Tally.Notify c) = c < 8
InRange (Tally.Ack k c) = (1 ≤ k) × (k ≤ 8) × (c < 8)
InRange (Tally.Ready k c) = (1 ≤ k) × (k ≤ 8) × (c < 8)
InRange (Tally.Deputy k) = (1 ≤ k) × (k ≤ 8)

-- A board that was not counted tells an entry that the format allows, with a proof exactly if it has an earlier rank.
pub record Tellable (l : Leader) (b : ℕ) (e : Entry) (p : Count) : Type 0 where
  pub seated : b < 8
  pub new : member (tellers l) b ≡ false
  pub fits : allowed e ≡ true
  pub shown : alike (nothing e) (p.set.bits == 0) ≡ true
  pub told_so : tells l ≡ true
  pub proved_so : proves l ≡ true

-- The tag of a lone message.
abbrev pub own_tag : Msg → List ℕ
own_tag (Msg.notify v c b t) = t
own_tag (Msg.suggest v c a t) = []
own_tag (Msg.ack v k c b t) = t
own_tag (Msg.proposal v k c a t) = []
own_tag (Msg.ready v k c b t) = t
own_tag (Msg.change v k c a t) = []
own_tag (Msg.deputy v k b t) = t
own_tag (Msg.query v k a t) = []
own_tag (Msg.last v k b e p ak) = e.tag
own_tag (Msg.suggest_last v k a es p ak) = []
own_tag (Msg.init v b n k p t) = []
own_tag (Msg.echo v b n k p d t) = []
own_tag (Msg.commit v b n k p a t) = []

-- A board speaks a message: its tag stands alone in it, and is eight bytes.
pub record SpeaksIt (m : Msg) (b : ℕ) : Type 0 where
  pub signs : member (signers m) b ≡ true
  pub alone : tag_of m b ≡ own_tag m
  pub long : length (own_tag m) ≡ 8

-- A message is one to count, from a board.
pub record Tallied (m : Msg) (t : Tally) (b : ℕ) : Type 0 where
  pub is : m ≡ lone_of t (view_of m) b (own_tag m)
  pub range : InRange t
  pub seated : b < 8
  pub spoken : SpeaksIt m b

-- A proof is that of a message, and each of its boards has an ack of eight bytes.
pub record WholeProof (m : Msg) (p : ℕ) : Type 0 where
  pub shown : (proof_of m).boards ≡ p
  pub long : (b : ℕ) → member (proof_of m).boards b ≡ true → length (tag_at (place (proof_of m).boards b) (proof_of m).acks) ≡ 8

-- A message is a last to count in a state: of a rank and a board, with an entry and a proof.
pub record Telling (st : State) (m : Msg) (k b : ℕ) (e : Entry) (p : ℕ) : Type 0 where
  pub range : (1 ≤ k) × (k ≤ 8)
  pub seated : b < 8
  pub spoken : SpeaksIt m b
  pub new : member (tellers st.leader) b ≡ false
  pub fits : allowed e ≡ true
  pub shown : alike (nothing e) (p == 0) ≡ true
  pub whole : WholeProof m p

-- What a leader that counted a last leaves and sends: a suggest-last, once a quorum told.
abbrev pub tallied_lasts : State → Leader → ℕ → Outcome
tallied_lasts s l k = filled s l Slot.Last (quorum (many s)) (Acks (called_for s l.lowest)) (suggests_last s l k)

-- The message that asks for an ack of the lowest earlier rank that was told: the counted lasts, and a proof.
abbrev pub last_certificate : ℕ → ℕ → Leader → Count → Msg
last_certificate v k l n = Msg.suggest_last v k n.set.bits (stored_replies n.set.bits l.entries n.tags) l.proof.set.bits (count_tags l.proof)

-- The lone kinds of this layer.
abbrev pub is_counted : Msg → Bool
is_counted m = of_group m && lone_kind (kind m)

-- A formed message to count, of which no reason holds before the tags are looked at.
pub record Taken (st : State) (m : Msg) (room : ℕ) : Type 0 where
  pub formed : Formed m
  pub counts : is_counted m ≡ true
  pub unrefused : first_of (fit_reasons st m room) ≡ None
