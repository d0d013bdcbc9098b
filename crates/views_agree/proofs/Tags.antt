-- Good tags vouch: an accepted hear has only good tags, so each of its boards outside the faulty ones signed what its tag stands for.
-- A call makes no tag good but that of the words which its step signed, and leaves a row its board's.
use Rattle.std.proofs.Common.{◌≡◌, ℕ, true, false, not, ◌||◌, ◌⊎◌, ◌<◌, List, [], ◌∷◌, length, Ok, Err, Option, Result, set, sym, refl, ap, ◌∙◌, subst, inl, inr, ⊎_elim, length-set, get_or-set_other, get_or-set_same}
use Rattle.std.proofs.lemmas.Bool.{and_parts, or_cases, not-true, both_ways, cases_eq}
use Rattle.boards.specs.Boards.{member}
use Rattle.boards.proofs.Chosen.{every_at}
use Rattle.boards.proofs.Members.{member_below}
use Rattle.codes.specs.declared.Refusal.{Refusal}
use Rattle.schemes.specs.declared.Scheme.{Ghosts}
use Rattle.schemes.specs.Meaning.{Good}
use Rattle.checks.specs.Checks.{boards_in, act_in, good_in, part_genuine, genuine}
use Rattle.checks.specs.declared.Part.{Part}
use Rattle.checks.specs.declared.Part.TheVariants.{Signers, Proof}
use Rattle.wire.specs.Messages.{Msg, tag_bytes}
use Rattle.wire.specs.Format.{Formed}
use Rattle.wire.specs.Acts.{Allowed, words}
use Rattle.wire.proofs.Signs.{signed_allowed, proved_allowed}
use Rattle.wire.proofs.Answered.{words_tell}
use Rattle.row.specs.declared.state.State.{State}
use Rattle.row.specs.declared.state.Sent.{Sent}
use Rattle.row.specs.Effects.{Effect, Outcome, lone}
use Rattle.row_laws.specs.Laws.{Goes}
use Rattle.row_laws.proofs.Row.{latest_rises}
use Rattle.row.specs.Calls.{Posted, Done, Called, Hears}
use Rattle.row.specs.Refusals.{of_group}
use Rattle.views_agree.specs.Agreement.{Call, Step, row_of, Started, Promised, Leads, Signs, VouchedFor}
use Rattle.views_agree.specs.Tags.{Honest, OfGroup, TagsSigned, TagsVouch}
use Rattle.views_agree.proofs.Passed.{was_genuine}
use Rattle.views_agree.proofs.StepDeeds.{outcome}
use Rattle.views_agree.proofs.Signing.{called_as}

-- Each board of a genuine part has a good tag there.
pub part_good : (part : Part) (good : Good) (m : Msg) (b : ℕ) → part_genuine part good m ≡ true → member (boards_in part m) b ≡ true → good_in part good m b ≡ true
part_good part good m b all i =
    ⊎_elim (λ out. absurd (both_ways (member (boards_in part m) b) (not-true (member (boards_in part m) b) out) i)) (λ is. is)
    (or_cases (not (member (boards_in part m) b)) (good_in part good m b) (every_at (λ k. not (member (boards_in part m) k) || good_in part good m k) 8 b all (member_below (boards_in part m) b i)))

-- What a tag of a formed message of this layer stands for is allowed, and an act of this layer.
act_allowed : (part : Part) (m : Msg) (b : ℕ) → Formed m → member (boards_in part m) b ≡ true → Allowed (act_in part m b)
act_allowed Signers m b f i = signed_allowed m b f i
act_allowed Proof m b f i = proved_allowed m b f i

act_of_group : (part : Part) (m : Msg) (b : ℕ) → of_group m ≡ true → member (boards_in part m) b ≡ true → OfGroup (act_in part m b)
act_of_group Signers (Msg.notify v c k t) b of i = tt
act_of_group Signers (Msg.suggest v c k t) b of i = tt
act_of_group Signers (Msg.ack v r c k t) b of i = tt
act_of_group Signers (Msg.proposal v r c k t) b of i = tt
act_of_group Signers (Msg.ready v r c k t) b of i = tt
act_of_group Signers (Msg.change v r c k t) b of i = tt
act_of_group Signers (Msg.deputy v r k t) b of i = tt
act_of_group Signers (Msg.query v r k t) b of i = tt
act_of_group Signers (Msg.last v r k e p ak) b of i = tt
act_of_group Signers (Msg.suggest_last v r k es p ak) b of i = tt
act_of_group Signers (Msg.init v k n q p t) b of i = absurd (both_ways false refl of)
act_of_group Signers (Msg.echo v k n q p d t) b of i = absurd (both_ways false refl of)
act_of_group Signers (Msg.commit v k n q p d t) b of i = absurd (both_ways false refl of)
act_of_group Proof m b of i = tt

-- A call that signs makes good the tags of its own board's words; another makes none.
module _ {S : Type 0} (g : Ghosts S) where
  done_signs : (x : Effect) (board : ℕ) (out : List ℕ) (s : S) (a : Sent) (s2 : S) (out2 : List ℕ) → Done g board x out s a s2 out2
      → (e : Step) → e.answer ≡ Ok a → e.offered ≡ out → e.written ≡ out2 → board ≡ e.board
      → (b : ℕ) (w : List ℕ) (t : ℕ) → g.good s2 b w t ≡ true → (g.good s b w t ≡ true) ⊎ ((e.board ≡ b) × Signs e w)
  done_signs Effect.silent board out s a s2 out2 d e ok o o2 same b w t is = inl (subst (λ z. g.good z b w t ≡ true) d.1 is)
  done_signs (Effect.sends to m) board out s a s2 out2 d e ok o o2 same b w t is = inl (subst (λ z. g.good z b w t ≡ true) d.1 is)
  done_signs (Effect.signs to act proof acks) board out s a s2 out2 d e ok o o2 same b w t is =
      let posted : Posted to (lone act e.board proof acks (tag_bytes d.tag)) e.offered a e.written =
      subst (λ y. Posted to (lone act e.board proof acks (tag_bytes d.tag)) e.offered a y) (sym o2)
      (subst (λ y. Posted to (lone act e.board proof acks (tag_bytes d.tag)) y a out2) (sym o)
      (subst (λ y. Posted to (lone act y proof acks (tag_bytes d.tag)) out a out2) same d.posted)) in
      ⊎_elim inl (λ new. inr (sym (new.0 ∙ same), record { sent = a; accepted = ok; to = to; act = act; proof = proof; acks = acks; tag = d.tag; posted = posted; signed = new.1 }))
      (d.signed.only b w t is)

  called_signs : (r : Result Sent Refusal) (why : Option Refusal) (o : Outcome) (e : Step) (s s2 : S) → e.answer ≡ r → Called g why o e.before s e.offered r e.after s2 e.written → e.before.board ≡ e.board
      → (b : ℕ) (w : List ℕ) (t : ℕ) → g.good s2 b w t ≡ true → (g.good s b w t ≡ true) ⊎ ((e.board ≡ b) × Signs e w)
  called_signs (Ok a) why o e s s2 is p same b w t good = done_signs o.1 e.before.board e.offered s a s2 e.written p.2 e is refl refl same b w t good
  called_signs (Err x) why o e s s2 is p same b w t good = inl (subst (λ z. g.good z b w t ≡ true) p.2 good)

  vouched_for : (faulty : ℕ) (h : List Step) (c : Call) (r : Result Sent Refusal) (e : Step) (s s2 : S) → Honest faulty h (g.good s) c → e.answer ≡ r → Promised g c e s s2
      → VouchedFor faulty h c r
  vouched_for faulty h (Call.ask_out c) r e s s2 honest is p = tt
  vouched_for faulty h (Call.ask_in c y) r e s s2 honest is p = tt
  vouched_for faulty h (Call.hear m) (Err x) e s s2 honest is p = tt
  vouched_for faulty h (Call.hear m) (Ok a) e s s2 honest is p =
      let heard : Hears g e.before s m e.offered (Ok a) e.after s2 e.written = subst (λ r. Hears g e.before s m e.offered r e.after s2 e.written) is p.2 in
      let all = was_genuine e.before m (length e.offered) (genuine (g.good s) m) (g.spent s) heard.0 in
      let parts = and_parts (part_genuine Signers (g.good s) m) (part_genuine Proof (g.good s) m) all in (
        λ b o i. honest Signers b o i (part_good Signers (g.good s) m b parts.0 i),
        λ b o i. honest Proof b o i (part_good Proof (g.good s) m b parts.1 i),
      )

  honest_call : (faulty : ℕ) (h : List Step) (c : Call) (e : Step) (s s2 : S) → TagsSigned faulty h (g.good s) → Promised g c e s s2 → Honest faulty h (g.good s) c
  honest_call faulty h (Call.ask_out c) e s s2 tags p = tt
  honest_call faulty h (Call.ask_in c y) e s s2 tags p = tt
  honest_call faulty h (Call.hear m) e s s2 tags p = λ part b o i good. tags b (act_in part m b) _ o (act_allowed part m b p.0 i) (act_of_group part m b p.1 i) good

-- A call takes its row on, as any call at one row does; so the row stays its board's.
goes : {S : Type 0} (g : Ghosts S) (c : Call) (e : Step) (s s2 : S) → Promised g c e s s2 → Goes g e.before e.after
goes g (Call.ask_out c) e s s2 p = Goes.asks_out s s2 c e.offered e.written e.answer p
goes g (Call.ask_in c y) e s s2 p = Goes.asks_in s s2 c y e.offered e.written e.answer p
goes g (Call.hear m) e s s2 p = Goes.hears s s2 m e.offered e.written e.answer p.2

stays_seated : {S : Type 0} (g : Ghosts S) (e : Step) (s s2 : S) → Promised g e.call e s s2 → e.after.board ≡ e.before.board
stays_seated g e s s2 p = (latest_rises g e.before e.after (goes g e.call e s s2 p)).board

-- In a history from a start.
started_seated : {S : Type 0} (g : Ghosts S) (faulty first : ℕ) (start rows : List State) (h : List Step) → Started first start → Leads g faulty start rows h
    → (length rows ≡ 8) × ((b : ℕ) → b < 8 → (row_of rows b).board ≡ b)
started_seated g faulty first start rows [] st Leads.begin = (st.1, λ b l. ap (λ (z : State). z.board) (st.2 b l))
started_seated g faulty first start rows2 (e ∷ h) st (Leads.next {rows} run _ t) =
    let old = started_seated g faulty first start rows h st run in
    let own : e.after.board ≡ e.board = stays_seated g e t.scheme t.scheme_after t.promised ∙ ap (λ (z : State). z.board) t.here ∙ old.1 e.board t.outside.0 in
    let here : e.board < length rows = subst (λ n. e.board < n) (sym old.0) t.outside.0 in (
      ap length t.put ∙ length-set rows e.board e.after ∙ old.0,
      λ b l. ap (λ (z : List State). (row_of z b).board) t.put
          ∙ ⊎_elim (λ same. ap (λ (z : ℕ). (row_of (set rows e.board e.after) z).board) same ∙ ap (λ (z : State). z.board) (get_or-set_same rows e.board e.after _ here) ∙ own ∙ sym same)
          (λ other. ap (λ (z : State). z.board) (get_or-set_other rows e.board b e.after _ other) ∙ old.1 b l)
          (cases_eq b e.board),
    )

-- There stay eight rows.
pub eight_rows : {S : Type 0} (g : Ghosts S) (faulty first : ℕ) (start rows : List State) (h : List Step) → Started first start → Leads g faulty start rows h → length rows ≡ 8
eight_rows g faulty first start rows h st run = (started_seated g faulty first start rows h st run).0

module _ {S : Type 0} (g : Ghosts S) where
  pub tags_vouch : TagsVouch g
  tags_vouch = record {
    vouch = λ faulty h e s s2 honest p. vouched_for g faulty h e.call e.answer e s s2 honest refl p;
    honest = λ faulty h e s s2 tags p. honest_call g faulty h e.call e s s2 tags p;
    stay = λ faulty h e s s2 tags p same b a t o ok ours is.
        let q = called_as g e.call e s s2 p in
        ⊎_elim (λ old. inr (tags b a t o ok ours old)) inl (called_signs g e.answer q.why (outcome e.call e.before) e s s2 refl q.called same b (words a) t is);
    faulty_signs = λ faulty h s s2 c u w tags lies signed b a t o ok ours is.
        ⊎_elim (tags b a t o ok ours) (λ new. absurd (both_ways (member faulty b) o.1 (ap (member faulty) new.0 ∙ lies))) (signed.only b (words a) t is);
    others_sign = λ faulty h s s2 c u other tags allowed apart signed b a t o ok ours is.
        ⊎_elim (tags b a t o ok ours) (λ new. absurd (apart (subst OfGroup (words_tell a other ok allowed new.1) ours))) (signed.only b (words a) t is);
    seated = λ faulty first start rows h st run. (started_seated g faulty first start rows h st run).1;
  }
