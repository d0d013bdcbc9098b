-- An accepted call is a deed of its row, or leaves what the argument reads of the row as it was; what a row keeps of its ranges it keeps.
-- One clause for each kind of message: votes, the change, and counts.
use Rattle.std.proofs.Common.{◌≡◌, ℕ, ◌<◌, ◌≤◌, Bool, true, false, cond, not, ◌&&◌, eqb, length, Some, None, Option, sym, refl, ap, ◌∙◌, subst, inl, inr, ⊎_elim, arith, length-set}
use lib.ListN.{length-replicate}
use Rattle.std.proofs.lemmas.Bool.{and_from, and_parts, or_cases, or_from, not_from_false, cond_both, eqb-true, ne_eqb, leb-false}
use Rattle.boards.specs.Boards.{member, size}
use Rattle.boards.specs.declared.Set.{Set}
use Rattle.boards.proofs.Members.{member_none, member_below}
use Rattle.boards.proofs.Sets.{size_le, some_member, place_below}
use Rattle.views.specs.Groups.{toggle}
use Rattle.views.specs.Histories.{begun, grown}
use Rattle.views.specs.declared.history.History.{History}
use Rattle.views.proofs.Groups.{not_emptied}
use Rattle.views.proofs.Histories.{grown_latest, grown_members, grown_stay, begun_latest, begun_first}
use Rattle.wire.specs.Messages.{Msg}
use Rattle.wire.specs.Format.{Formed}
use Rattle.wire.specs.Acts.{Act, Allowed, lowest}
use Rattle.wire.proofs.Signs.{lowest_fits}
use Rattle.row.specs.declared.state.State.{State}
use Rattle.row.specs.declared.state.Leader.{Leader}
use Rattle.row.specs.States.{insert, the_set, latest, group, many, manager, manager_in, fresh, with_leader, with_floor}
use Rattle.row.specs.Effects.{Effect, Outcome, trusted, called_for, suspecting, heard}
use Rattle.row.proofs.Chosen.{highest_passes}
use Rattle.row.proofs.Picked.{inserted}
use Rattle.views_agree.proofs.Deeds.{Vote, Deed, Suspecting, Begins}
use Rattle.views_agree.proofs.Passed.{TakenUp, AskedOut, AskedInWhen, open_change}
use Rattle.views_agree.proofs.StepDeeds.{core, group_is, deputy_rank, out_deed, heard_deed, Moves}
use Rattle.views_agree.proofs.Ranges.{KeptFits, notify_allowed, ack_allowed, ready_allowed, deputy_allowed, last_allowed, suggest_change, proposal_ranges, change_ranges, query_rank, suggest_last_rank}

-- The row of board b: its views have their room, it does not suspect itself, and what it keeps has a rank and a board's change.
pub record Sane (b : ℕ) (s : State) : Type 0 where
  pub board : s.board ≡ b
  pub room : length s.views.changes ≡ 64
  pub some : 1 ≤ latest s
  pub most : latest s ≤ 64
  pub own : member s.voter.suspects.bits b ≡ false
  pub kept : KeptFits s.voter.kept

-- What a deed signs is allowed.
abbrev pub Fits : Deed → Type 0
Fits (Deed.Asks x c) = Allowed (Act.notify x c)
Fits (Deed.Deputes x c k) = Allowed (Act.deputy x k)
Fits (Deed.Voted x (Vote.Ack k c)) = Allowed (Act.ack x k c)
Fits (Deed.Voted x (Vote.Ready k c)) = Allowed (Act.ready x k c)
Fits (Deed.Voted x (Vote.Last k e)) = Allowed (Act.last x k e)
Fits (Deed.Changed x c) = c < 8

abbrev pub FitsIf : Option Deed → Type 0
FitsIf None = Unit {0}
FitsIf (Some d) = Fits d

-- The row of board b goes from s to s2 by this deed, if any.
pub record Plays (b : ℕ) (s : State) (d : Option Deed) (s2 : State) : Type 0 where
  pub moves : Moves d (core s) (core s2)
  pub sane : Sane b s2
  pub fits : FitsIf d

grown_room : (h : History) (c : ℕ) → length (grown h c).changes ≡ length h.changes
unfolding grown
grown_room h c = length-set h.changes h.latest c

begun_room : (s : Set) → length (begun s).changes ≡ 64
unfolding begun
begun_room s = length-replicate {A = ℕ} 64 0

-- A row as a start makes it.
pub sane_begins : (b first : ℕ) → Sane b (fresh b (begun (the_set first)))
sane_begins b first =
    let one = begun_latest (the_set first) in
    record { board = refl; room = begun_room (the_set first); some = omega (arith, one); most = omega (arith, one); own = member_none b; kept = tt }

pub core_begins : (b first : ℕ) → Begins first (core (fresh b (begun (the_set first))))
core_begins b first = record { one = begun_latest (the_set first); kept = refl; clear = member_none; view = begun_first (the_set first) }

module _ (b : ℕ) (below : b < 8) (s : State) (sane : Sane b s) (peopled : 1 ≤ many s) where
  -- Another leader changes nothing here.
  led : (l : Leader) → Sane b (with_leader s l)
  led l = record { board = sane.board; room = sane.room; some = sane.some; most = sane.most; own = sane.own; kept = sane.kept }

  counts : (t : Bool) (l l2 : Leader) (e : Effect) → Plays b s None (cond {A = Outcome} t (with_leader s l2, e) (with_leader s l, Effect.silent)).0
  counts true l l2 e = record { moves = refl; sane = led l2; fits = tt }
  counts false l l2 e = record { moves = refl; sane = led l; fits = tt }

  stays : Plays b s None s
  stays = record { moves = refl; sane = sane; fits = tt }

  floored : (n : ℕ) → Sane b (with_floor s n)
  floored n = record { board = sane.board; room = sane.room; some = sane.some; most = sane.most; own = sane.own; kept = sane.kept }

  manager_board : manager s < 8
  manager_board = let m = some_member (group s) peopled in (highest_passes (member (group s)) 8 m.0 m.1 m.2).0

  -- The change makes the next view.
  grows : (c : ℕ) → c < 8 → latest s < 64 → (many s ≡ 1 → member (group s) c ≡ false) → Plays b s (Some (Deed.Changed (latest s) c)) (fresh s.board (grown s.views c))
  grows c board room left =
      let up = grown_latest s.views c in
      let here = group_is s in
      let view = grown_members s.views c sane.some (omega (arith, sane.room)) in
      let next : 1 ≤ size (toggle (group s) c) = not_emptied (group s) c board peopled left in
      record {
        moves = (
          refl,
          record {
            next = up;
            kept = refl;
            clear = member_none;
            view = view;
            peopled = subst (λ m. 1 ≤ size m) (sym (view ∙ ap (λ m. toggle m c) (sym here))) next;
            same = grown_stay s.views c;
          },
        );
        sane = record { board = sane.board; room = grown_room s.views c ∙ sane.room; some = omega (arith, up); most = omega (arith, up); own = member_none b; kept = tt };
        fits = board;
      }

  pub hear_plays : (m : Msg) → Formed m → TakenUp s m → Plays b s (heard_deed s m) (heard s m).0
  hear_plays (Msg.notify v c d t) f h = counts _ _ _ _
  hear_plays (Msg.suggest v c a t) f h = record {
    moves = (refl, record { ranked = peopled; low = leb-false _ _ h.timely; tells = tt; after = refl });
    sane = floored _;
    fits = ack_allowed (latest s) sane.some sane.most (many s) c peopled (size_le (group s)) (suggest_change v c a t f);
  }
  hear_plays (Msg.ack v k c d t) f h = counts _ _ _ _
  hear_plays (Msg.proposal v k c a t) f h =
      let r = proposal_ranges v k c a t f in
      record {
        moves = (refl, record { ranked = r.0; low = leb-false _ _ h.timely; tells = tt; after = refl });
        sane = record { board = sane.board; room = sane.room; some = sane.some; most = sane.most; own = sane.own; kept = r };
        fits = ready_allowed (latest s) sane.some sane.most k c r.0 r.1 r.2;
      }
  hear_plays (Msg.ready v k c d t) f h = counts _ _ _ _
  hear_plays (Msg.change v k c a t) f h = let o = open_change s c h.may in grows c (change_ranges v k c a t f) o.room o.not_last
  hear_plays (Msg.deputy v k d t) f h = counts _ _ _ _
  hear_plays (Msg.query v k a t) f h =
      let r = query_rank v k a t f in
      record {
        moves = (refl, record { ranked = r.0; low = leb-false _ _ h.timely; tells = refl; after = refl });
        sane = floored _;
        fits = last_allowed (latest s) sane.some sane.most k s.voter.kept r.0 r.1 sane.kept;
      }
  hear_plays (Msg.last v k d e p ak) f h = counts _ _ _ _
  hear_plays (Msg.suggest_last v k a es p ak) f h =
      let r = suggest_last_rank v k a es p ak f in
      let board : called_for s (lowest es) < 8 =
      cond_both (eqb (lowest es).earlier 0) (manager s) (lowest es).change (λ n. n < 8) (λ _. manager_board) (λ _. (lowest_fits v k a es p ak f).change_fits) in
      record {
        moves = (refl, record { ranked = r.0; low = leb-false _ _ h.timely; tells = tt; after = refl });
        sane = floored _;
        fits = ack_allowed (latest s) sane.some sane.most k (called_for s (lowest es)) r.0 r.1 board;
      }
  hear_plays (Msg.init v d n k p t) f h = stays
  hear_plays (Msg.echo v d n k p e t) f h = stays
  hear_plays (Msg.commit v d n k p a t) f h = stays

  -- An ask for c makes nobody suspect but c.
  suspects_more : (c : ℕ) → Suspecting (core s) c (core (suspecting s c))
  suspects_more c = record {
    suspects = λ a t.
        let l = member_below (insert s.voter.suspects.bits c) a t in
        ⊎_elim inl (λ e. inr (eqb-true a c e)) (or_cases (member s.voter.suspects.bits a) (eqb a c) (sym (inserted s.voter.suspects.bits c a l) ∙ t));
    after = refl;
  }

  -- The row itself is not suspect after it asked another board out.
  own_still : (c : ℕ) → (c ≡ s.board → ⊥) → member (insert s.voter.suspects.bits c) b ≡ false
  own_still c other =
      inserted s.voter.suspects.bits c b below
      ∙ or_from (member s.voter.suspects.bits b) (eqb b c) sane.own (ne_eqb b c (λ e. other (sym e ∙ sym sane.board)))

  pub out_plays : (c : ℕ) → AskedOut s c → Plays b s (Some (out_deed s c)) (suspecting s c)
  out_plays c h =
      let bits = insert s.voter.suspects.bits c in
      let own = own_still c h.other in
      let sane2 : Sane b (suspecting s c) = record { board = sane.board; room = sane.room; some = sane.some; most = sane.most; own = own; kept = sane.kept } in
      let within : member (group s) b ≡ true = ap (member (group s)) (sym sane.board) ∙ h.within in
      let trust = highest_passes (λ a. member (group s) a && not (member bits a)) 8 b below (and_from _ _ within (not_from_false _ own)) in
      let among = (and_parts (member (group s) (trusted s bits)) _ trust.1).0 in
      let rank : deputy_rank s c ≤ 8 = omega (arith, place_below (group s) (trusted s bits) among, size_le (group s)) in
      cond_both (member bits (manager s)) (Deed.Deputes (latest s) c (deputy_rank s c)) (Deed.Asks (latest s) c) (λ d. Plays b s (Some d) (suspecting s c))
      (λ out. record {
        moves = (refl, ap (λ m. member bits (manager_in m)) (sym (group_is s)) ∙ out, suspects_more c);
        sane = sane2;
        fits = deputy_allowed (latest s) sane.some sane.most (deputy_rank s c) (omega arith) rank;
      })
      (λ _. record { moves = (refl, suspects_more c); sane = sane2; fits = notify_allowed (latest s) sane.some sane.most c h.board })

  pub in_plays : (c : ℕ) → AskedInWhen s c → Plays b s (Some (Deed.Asks (latest s) c)) s
  in_plays c h = record {
    moves = (refl, record { suspects = λ a t. inl t; after = refl });
    sane = sane;
    fits = notify_allowed (latest s) sane.some sane.most c h.board;
  }
