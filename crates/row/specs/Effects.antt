-- What an accepted call does at a row: the next state, and what is sent to whom.
-- Votes (answers to certificates) are signed; counts of lone messages become certificates; a change makes the next view.
use Rattle.std.specs.Prelude.{ℕ, ◌+◌, ◌-◌, ◌*◌, ◌%◌, Bool, cond, not, ◌&&◌, ◌||◌, List, [], ◌∷◌, Some, ◌==◌, nat_le, slice_set}
use Rattle.boards.specs.Boards.{member, size, place, only}
use Rattle.views.specs.Histories.{grown}
use Rattle.views.specs.Shares.{share, quorum}
use Rattle.wire.specs.declared.message.Entry.{Entry}
use Rattle.wire.specs.Messages.{Msg, stored_tags, stored_replies}
use Rattle.wire.specs.Acts.{Act, undercuts, lowest, tag_of, tag_at, tag_number}
use Rattle.row.specs.declared.state.Count.{Count}
use Rattle.row.specs.declared.state.Slot.{Slot}
use Rattle.row.specs.declared.state.Stand.{Stand}
use Rattle.row.specs.declared.state.Stand.TheVariants.{Acks, Readies, Lasts, Done}
use Rattle.row.specs.declared.state.Leader.{Leader}
use Rattle.row.specs.declared.state.State.{State}
use Rattle.row.specs.States.{highest, set_of, insert, the_set, latest, group, many, manager, seat, inside, place_of, count_at, counted, count_tags, kept_entry, fresh, with_voter, with_leader, with_floor}

-- What is sent: nothing; the lone message of an act that the row signs, in a last with a proof; a message made of tags it has, or passed on.
pub data Effect : Type 0 where
  silent : Effect
  signs : (to : ℕ) (act : Act) (proof : ℕ) (acks : List ℕ) → Effect
  sends : (to : ℕ) (message : Msg) → Effect

-- The lone message of an act: its speaker, in a last its proof, and the tag.
abbrev pub lone : Act → ℕ → ℕ → List ℕ → List ℕ → Msg
lone (Act.notify v c) b p ak t = Msg.notify v c b t
lone (Act.ack v k c) b p ak t = Msg.ack v k c b t
lone (Act.ready v k c) b p ak t = Msg.ready v k c b t
lone (Act.deputy v k) b p ak t = Msg.deputy v k b t
lone (Act.last v k e) b p ak t = Msg.last v k b (record { entry = e; tag = t }) p ak
lone (Act.init v s n k q) b p ak t = Msg.init v s n k q t
lone (Act.echo v s n k q) b p ak t = Msg.echo v s n k q b t

abbrev pub Outcome : Type 0
Outcome = State × Effect

-- Ask-out: c is suspect. To the manager, if it is not suspect; else a deputy message names the highest rank not suspect, to that rank.
abbrev pub suspecting : State → ℕ → State
suspecting s c = with_voter s (record { floor = s.voter.floor; suspects = the_set (insert s.voter.suspects.bits c); kept = s.voter.kept; support = s.voter.support })

abbrev pub notifies : State → ℕ → Effect
notifies s c = Effect.signs (only (manager s)) (Act.notify (latest s) c) 0 []

-- The highest member that is not suspect.
abbrev pub trusted : State → ℕ → ℕ
trusted s suspects = highest (λ b. member (group s) b && not (member suspects b)) 8

abbrev pub deputises : State → ℕ → Effect
deputises s b = Effect.signs (only b) (Act.deputy (latest s) (place (group s) b + 1)) 0 []

abbrev pub asked_out : State → ℕ → Outcome
asked_out s c = (
  suspecting s c,
  cond (member (insert s.voter.suspects.bits c) (manager s)) (deputises s (trusted s (insert s.voter.suspects.bits c))) (notifies s c),
)

-- Ask-in: a notify to the manager.
abbrev pub asked_in : State → ℕ → Outcome
asked_in s c = (s, notifies s c)

-- The tags of a heard set by board number, 0 for boards outside it.
abbrev pub heard_tag : Msg → ℕ → ℕ → ℕ
heard_tag m a b = cond (member a b) (tag_number (tag_of m b)) 0

abbrev pub each_board : (ℕ → ℕ) → List ℕ
each_board f = f 0 ∷ f 1 ∷ f 2 ∷ f 3 ∷ f 4 ∷ f 5 ∷ f 6 ∷ f 7 ∷ []

-- The acks of a heard proof by board number.
abbrev pub proof_count : ℕ → List ℕ → Count
proof_count p ak = record { set = the_set p; tags = each_board (λ b. cond (member p b) (tag_number (tag_at (place p b) ak)) 0) }

-- A vote goes to the rank that asked for it.
abbrev pub acks : State → ℕ → ℕ → Effect
acks s k c = Effect.signs (only (seat (group s) k)) (Act.ack (latest s) k c) 0 []

abbrev pub readies : State → ℕ → ℕ → Effect
readies s k c = Effect.signs (only (seat (group s) k)) (Act.ready (latest s) k c) 0 []

-- A last tells the kept proposal, with its acks as proof, or none.
abbrev pub told_proof : State → ℕ
told_proof s = cond ((kept_entry s.voter.kept).earlier == 0) 0 s.voter.support.set.bits

abbrev pub tells : State → ℕ → Effect
tells s k =
    Effect.signs (only (seat (group s) k)) (Act.last (latest s) k (kept_entry s.voter.kept)) (told_proof s) (stored_tags (told_proof s) s.voter.support.tags)

-- The kept proposal after a proposal of rank k for c with these acks.
abbrev pub keeping : State → ℕ → ℕ → Msg → ℕ → State
keeping s k c m a = with_voter s (record { floor = 3 * k - 2; suspects = s.voter.suspects; kept = Some (record { rank = k; change = c }); support = record { set = the_set a; tags = each_board (heard_tag m a) } })

-- The change that an earlier rank calls for: its own, or the manager where there is none.
abbrev pub called_for : State → Entry → ℕ
called_for s low = cond (low.earlier == 0) (manager s) low.change

-- A leader with one message more in its slot.
abbrev pub gained : Leader → Slot → ℕ → ℕ → Leader
gained l w b t = record { stand = l.stand; counts = slice_set l.counts (place_of w) (counted (count_at l w) b t); entries = l.entries; lowest = l.lowest; proof = l.proof }

abbrev pub standing : Leader → Stand → Leader
standing l w = record { stand = w; counts = l.counts; entries = l.entries; lowest = l.lowest; proof = l.proof }

-- A leader with one last more: its entry, and its proof if its earlier rank is the lowest so far.
abbrev pub told : Leader → ℕ → ℕ → Entry → Count → Leader
told l b t e p =
    record {
      stand = l.stand;
      counts = slice_set l.counts (place_of Slot.Last) (counted (count_at l Slot.Last) b t);
      entries = slice_set l.entries b e;
      lowest = cond (undercuts e l.lowest) e l.lowest;
      proof = cond (undercuts e l.lowest) p l.proof;
    }

-- Once the count in a slot has so many boards, the leader stands so and sends a certificate; before that nothing is sent.
abbrev pub filled : State → Leader → Slot → ℕ → Stand → Effect → Outcome
filled s l w least stand e = cond (size (count_at l w).set.bits == least) (with_leader s (standing l stand), e) (with_leader s l, Effect.silent)

abbrev pub set_at : Leader → Slot → ℕ
set_at l w = (count_at l w).set.bits

abbrev pub tags_at : Leader → Slot → List ℕ
tags_at l w = count_tags (count_at l w)

abbrev pub suggests : State → Leader → ℕ → Effect
suggests s l c = Effect.sends (group s) (Msg.suggest (latest s) c (set_at l (Slot.Notify c)) (tags_at l (Slot.Notify c)))

abbrev pub proposes : State → Leader → ℕ → ℕ → Effect
proposes s l k c = Effect.sends (group s) (Msg.proposal (latest s) k c (set_at l Slot.Ack) (tags_at l Slot.Ack))

abbrev pub changes : State → Leader → ℕ → ℕ → Effect
changes s l k c = Effect.sends 255 (Msg.change (latest s) k c (set_at l Slot.Ready) (tags_at l Slot.Ready))

abbrev pub queries : State → Leader → ℕ → Effect
queries s l k = Effect.sends (group s) (Msg.query (latest s) k (set_at l Slot.Deputy) (tags_at l Slot.Deputy))

abbrev pub suggests_last : State → Leader → ℕ → Effect
suggests_last s l k =
    Effect.sends (group s)
    (Msg.suggest_last (latest s) k (set_at l Slot.Last) (stored_replies (set_at l Slot.Last) l.entries (count_at l Slot.Last).tags) l.proof.set.bits (count_tags l.proof))

-- The boards that a member passes a change on to: the f + 1 ranks after its own, counted round, itself left out, and every board outside the view that ends.
abbrev pub after : State → ℕ → ℕ
after s b = (place (group s) b + many s - place (group s) s.board) % many s

abbrev pub passed_on : State → ℕ → Bool
passed_on s b = not (member (group s) b) || (nat_le 1 (after s b) && nat_le (after s b) (share (many s) + 1))

abbrev pub passes : State → Msg → Effect
passes s m = cond (inside s) (Effect.sends (set_of (passed_on s) 8) m) Effect.silent

-- What each kind does.
abbrev pub heard : State → Msg → Outcome
heard s (Msg.notify v c b t) =
    let l = gained s.leader (Slot.Notify c) b (tag_number t) in filled s l (Slot.Notify c) (share (many s) + 1) (Acks c) (suggests s l c)
heard s (Msg.suggest v c a t) = (with_floor s (3 * many s - 1), acks s (many s) c)
heard s (Msg.ack v k c b t) =
    let l = gained s.leader Slot.Ack b (tag_number t) in filled s l Slot.Ack (quorum (many s)) (Readies c) (proposes s l k c)
heard s (Msg.proposal v k c a t) = (keeping s k c (Msg.proposal v k c a t) a, readies s k c)
heard s (Msg.ready v k c b t) =
    let l = gained s.leader Slot.Ready b (tag_number t) in filled s l Slot.Ready (quorum (many s)) Done (changes s l k c)
heard s (Msg.change v k c a t) = (fresh s.board (grown s.views c), passes s (Msg.change v k c a t))
heard s (Msg.deputy v k b t) =
    let l = gained s.leader Slot.Deputy b (tag_number t) in filled s l Slot.Deputy (share (many s) + 1) Lasts (queries s l k)
heard s (Msg.query v k a t) = (with_floor s (3 * k), tells s k)
heard s (Msg.last v k b e p ak) =
    let l = told s.leader b (tag_number e.tag) e.entry (proof_count p ak) in
    filled s l Slot.Last (quorum (many s)) (Acks (called_for s l.lowest)) (suggests_last s l k)
heard s (Msg.suggest_last v k a es p ak) = (with_floor s (3 * k - 1), acks s k (called_for s (lowest es)))
heard s (Msg.init v b n k p t) = (s, Effect.silent)
heard s (Msg.echo v b n k p d t) = (s, Effect.silent)
heard s (Msg.commit v b n k p a t) = (s, Effect.silent)
