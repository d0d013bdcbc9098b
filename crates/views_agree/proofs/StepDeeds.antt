-- What a row's state and an accepted call mean to the argument: the five facts of the state, and the deed of the call, if it does one.
-- Counting a lone message does no deed, and neither does a call that is refused.
use Rattle.std.proofs.Common.{◌≡◌, ℕ, ◌+◌, cond, eqb, List, [], ◌∷◌, Some, None, Ok, Err, Option, Result, sym, refl, subst, ⊎_elim}
use Rattle.std.proofs.lemmas.Bool.{cases_eq, eq-eqb, ne_eqb, cond-true, cond-false}
use Rattle.boards.specs.Boards.{member, place}
use Rattle.codes.specs.declared.Refusal.{Refusal}
use Rattle.views.specs.Histories.{members_of}
use Rattle.wire.specs.Messages.{Msg}
use Rattle.wire.specs.Acts.{lowest}
use Rattle.row.specs.declared.state.State.{State}
use Rattle.row.specs.declared.state.Sent.{Sent}
use Rattle.row.specs.States.{insert, latest, latest_members, group, many, manager, kept_entry}
use Rattle.row.specs.Effects.{Outcome, trusted, called_for, asked_out, asked_in, heard}
use Rattle.views_agree.specs.Agreement.{Call, Step}
use Rattle.views_agree.proofs.Deeds.{Row, Vote, Deed, Does}

-- What the argument reads of a state.
abbrev pub core : State → Row
core s = record { x = latest s; floor = s.voter.floor; kept = s.voter.kept; suspect = member s.voter.suspects.bits; views = members_of s.views }

-- The members of the latest view.
pub group_is : (s : State) → group s ≡ members_of s.views (latest s)
unfolding latest_members
group_is s = refl

-- The rank that an ask of c writes to where the manager is suspect.
abbrev pub deputy_rank : State → ℕ → ℕ
deputy_rank s c = place (group s) (trusted s (insert s.voter.suspects.bits c)) + 1

abbrev pub out_deed : State → ℕ → Deed
out_deed s c = cond (member (insert s.voter.suspects.bits c) (manager s)) (Deed.Deputes (latest s) c (deputy_rank s c)) (Deed.Asks (latest s) c)

-- The deed of a message that is heard.
abbrev pub heard_deed : State → Msg → Option Deed
heard_deed s (Msg.notify v c b t) = None
heard_deed s (Msg.suggest v c a t) = Some (Deed.Voted (latest s) (Vote.Ack (many s) c))
heard_deed s (Msg.ack v k c b t) = None
heard_deed s (Msg.proposal v k c a t) = Some (Deed.Voted (latest s) (Vote.Ready k c))
heard_deed s (Msg.ready v k c b t) = None
heard_deed s (Msg.change v k c a t) = Some (Deed.Changed (latest s) c)
heard_deed s (Msg.deputy v k b t) = None
heard_deed s (Msg.query v k a t) = Some (Deed.Voted (latest s) (Vote.Last k (kept_entry s.voter.kept)))
heard_deed s (Msg.last v k b e p ak) = None
heard_deed s (Msg.suggest_last v k a es p ak) = Some (Deed.Voted (latest s) (Vote.Ack k (called_for s (lowest es))))
heard_deed s (Msg.init v b n k p t) = None
heard_deed s (Msg.echo v b n k p d t) = None
heard_deed s (Msg.commit v b n k p a t) = None

abbrev pub deed_of : Call → State → Option Deed
deed_of (Call.ask_out c) s = Some (out_deed s c)
deed_of (Call.ask_in c y) s = Some (Deed.Asks (latest s) c)
deed_of (Call.hear m) s = heard_deed s m

-- What an accepted call does, as the rules of a row say it.
abbrev pub outcome : Call → State → Outcome
outcome (Call.ask_out c) s = asked_out s c
outcome (Call.ask_in c y) s = asked_in s c
outcome (Call.hear m) s = heard s m

-- The deed of a call with its answer.
abbrev pub deed_in : Result Sent Refusal → Call → State → Option Deed
deed_in (Ok a) c s = deed_of c s
deed_in (Err e) c s = None

abbrev pub deed_at : Step → Option Deed
deed_at e = deed_in e.answer e.call e.before

-- A row moves by a deed, or stays as it was.
abbrev pub Moves : Option Deed → Row → Row → Type 0
Moves None r r2 = r2 ≡ r
Moves (Some d) r r2 = Does d r r2

abbrev pub put : Option Deed → List Deed → List Deed
put None l = l
put (Some d) l = d ∷ l

-- The deeds of a board in a history, the latest first.
unfoldable pub deeds_of : List Step → ℕ → List Deed
deeds_of [] b = []
deeds_of (e ∷ h) b = cond (eqb b e.board) (put (deed_at e) (deeds_of h b)) (deeds_of h b)

pub deeds_none : (b : ℕ) → deeds_of [] b ≡ []
unfolding deeds_of
deeds_none b = refl

pub deeds_here : (b : ℕ) (e : Step) (h : List Step) → b ≡ e.board → deeds_of (e ∷ h) b ≡ put (deed_at e) (deeds_of h b)
unfolding deeds_of
deeds_here b e h same = cond-true _ _ _ (eq-eqb b e.board same)

pub deeds_else : (b : ℕ) (e : Step) (h : List Step) → (b ≡ e.board → ⊥) → deeds_of (e ∷ h) b ≡ deeds_of h b
unfolding deeds_of
deeds_else b e h other = cond-false _ _ _ (ne_eqb b e.board other)

put_more : (P : List Deed → Type 0) → ((d : Deed) (l : List Deed) → P l → P (d ∷ l)) → (o : Option Deed) (l : List Deed) → P l → P (put o l)
put_more P f None l p = p
put_more P f (Some d) l p = f d l p

-- Whatever one deed more keeps, one step more keeps.
pub deeds_more : (P : List Deed → Type 0) → ((d : Deed) (l : List Deed) → P l → P (d ∷ l)) → (b : ℕ) (e : Step) (h : List Step) → P (deeds_of h b) → P (deeds_of (e ∷ h) b)
deeds_more P f b e h p =
    ⊎_elim (λ same. subst P (sym (deeds_here b e h same)) (put_more P f (deed_at e) (deeds_of h b) p)) (λ other. subst P (sym (deeds_else b e h other)) p) (cases_eq b e.board)
