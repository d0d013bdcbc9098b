-- What a call of the delivery layer that was not refused says: none of its reasons holds.
-- One record for each sort of call; a reason is read off by its place in the list.
use Rattle.std.proofs.Common.{◌≡◌, ℕ, ◌+◌, ◌<◌, ◌≤◌, Bool, true, false, not, ◌||◌, eqb, leb, ◌⊎◌, List, Some, None, Option, is_some, is_none, sym, refl, ap, ◌∙◌, inl, inr, ⊎_elim, arith}
use Rattle.std.proofs.lemmas.Bool.{or_parts, and_cases, and_parts, not-false, eqb-true, leb-false, ltb-false, eq-eqb, false≢true}
use Rattle.std.proofs.lemmas.Slice.Eq.{bytes_eq-Decides}
use Rattle.boards.specs.Boards.{member, only, size, Within}
use Rattle.boards.proofs.Members.{member_only}
use Rattle.views.specs.Shares.{quorum}
use Rattle.wire.specs.declared.message.Sort.{Sort}
use Rattle.wire.specs.declared.message.Sort.TheVariants.{Report, End}
use Rattle.wire.specs.Messages.{sort_number}
use Rattle.row.specs.declared.state.State.{State}
use Rattle.row.specs.States.{latest}
use Rattle.row.specs.Refusals.{strays}
use Rattle.row_laws.proofs.Calls.{none_holds}
use Rattle.views_agree.proofs.Passed.{not_straying}
use Rattle.delivery.specs.Reports.{Content, content, same_content, claim_in, is_end, Own, Reports, count_of, echo_of, claim_of, now, in_view, sent_end, undelivered, or_zero}
use Rattle.delivery.specs.Refusals.{readers, disordered, cut_off, let_through, other_than, next_number, send_reasons, finish_reasons, init_reasons, commit_reasons, send_refusal, finish_refusal, init_refusal, commit_refusal}
use Rattle.reports_agree.proofs.Held.{none_some}
use Rattle.reports_agree.proofs.Keeps.{number_of, end_of}

same_sort : (k l : Sort) → sort_number k ≡ sort_number l → k ≡ l
same_sort Report Report e = refl
same_sort Report End e = absurd (omega (arith, e))
same_sort End Report e = absurd (omega (arith, e))
same_sort End End e = refl

same_content_is : (c d : Content) → same_content c d ≡ true → c ≡ d
same_content_is c d e =
    let p = and_parts _ _ e in
    let k = same_sort c.sort d.sort (eqb-true _ _ p.0) in
    let b = (bytes_eq-Decides c.payload d.payload).0 p.1 in
    λ i. content (k i) (b i)

view_here : (o : Option ℕ) (v : ℕ) → in_view o v ≡ true → o ≡ Some v
view_here None v e = absurd (false≢true e)
view_here (Some y) v e = ap Some (sym (eqb-true v y e))

no_claim : (o : Option ℕ) → is_some o ≡ false → o ≡ None
no_claim None e = refl
no_claim (Some m) e = absurd (false≢true (sym e))

some_view : (o : Option ℕ) → is_none o ≡ false → o ≡ Some (or_zero o)
some_view None e = absurd (false≢true (sym e))
some_view (Some m) e = refl

first_echo : (o : Option Content) (c : Content) → other_than o c ≡ false → (o ≡ None) ⊎ (o ≡ Some c)
first_echo None c e = inl refl
first_echo (Some d) c e = inr (ap Some (same_content_is d c (not-false _ e)))

no_report_claim : (k : Sort) (p : List ℕ) → is_end k ≡ false → claim_in k p ≡ None
no_report_claim Report p e = refl
no_report_claim End p e = absurd (false≢true (sym e))

no_end : (o : Option Own) → sent_end o ≡ false → end_of o ≡ None
no_end None e = refl
no_end (Some o) e = no_report_claim o.content.sort o.content.payload e

claim_is_end : (k : Sort) (p : List ℕ) (m : ℕ) → claim_in k p ≡ Some m → is_end k ≡ true
claim_is_end Report p m e = none_some m e
claim_is_end End p m e = refl

pub end_sent : (o : Option Own) (m : ℕ) → end_of o ≡ Some m → sent_end o ≡ true
end_sent None m e = none_some m e
end_sent (Some o) m e = claim_is_end o.content.sort o.content.payload m e

not_awaited : (o : Option Own) (n : ℕ) → undelivered o n ≡ false → number_of o ≤ n
not_awaited None n e = omega arith
not_awaited (Some o) n e = ltb-false n o.number e

only_member : (s v : ℕ) → s < 8 → strays (only s) v ≡ false → member v s ≡ true
only_member s v low e = not_straying (only s) v e s low (member_only s s low ∙ eq-eqb s s refl)

pub record PassedInit (st : State) (d : Reports) (v s n : ℕ) (c : Content) : Type 0 where
  pub view : d.view ≡ Some v
  pub next : n ≡ count_of d s + 1
  pub unended : claim_of d s ≡ None
  pub taken : cut_off st d s ≡ false
  pub first : (echo_of d s ≡ None) ⊎ (echo_of d s ≡ Some c)
  pub sender : s < 8 → member (readers st d) s ≡ true

pub passed_init : (st : State) (d : Reports) (v s n : ℕ) (c : Content) (room : ℕ) (genuine spent : Bool) → init_refusal st d v s n c room genuine spent ≡ None → PassedInit st d v s n c
passed_init st d v s n c room genuine spent h =
    let none = none_holds (init_reasons st d v s n c room genuine spent) h in
    let foreign = or_parts (strays (only s) (readers st d)) _ (or_parts (strays (only st.board) (readers st d)) _ (none 2)).1 in
    let off = or_parts (disordered d s n) _ (none 3) in
    let ordered = or_parts (not (eqb n (count_of d s + 1))) _ off.0 in
    record {
      view = view_here d.view v (not-false _ (none 1));
      next = eqb-true n _ (not-false _ ordered.0);
      unended = no_claim (claim_of d s) ordered.1;
      taken = off.1;
      first = first_echo (echo_of d s) c (none 4);
      sender = λ low. only_member s (readers st d) low foreign.0;
    }

pub record PassedCommit (st : State) (d : Reports) (v s n a : ℕ) : Type 0 where
  pub view : d.view ≡ Some v
  pub next : n ≡ count_of d s + 1
  pub unended : claim_of d s ≡ None
  pub sender : s < 8 → member (readers st d) s ≡ true
  pub within : Within a (readers st d)
  pub large : size a ≡ quorum (size (readers st d))
  pub cut : (cut_off st d s ≡ false) ⊎ (let_through st d n ≡ true)

pub passed_commit : (st : State) (d : Reports) (v s n a room : ℕ) (genuine : Bool) → commit_refusal st d v s n a room genuine ≡ None → PassedCommit st d v s n a
passed_commit st d v s n a room genuine h =
    let none = none_holds (commit_reasons st d v s n a room genuine) h in
    let off = or_parts (disordered d s n) _ (none 4) in
    let ordered = or_parts (not (eqb n (count_of d s + 1))) _ off.0 in
    let members = or_parts (strays (only s) (readers st d)) _ (or_parts (strays (only st.board) (readers st d)) _ (none 2)).1 in
    record {
      view = view_here d.view v (not-false _ (none 1));
      next = eqb-true n _ (not-false _ ordered.0);
      unended = no_claim (claim_of d s) ordered.1;
      sender = λ low. only_member s (readers st d) low members.0;
      within = not_straying a (readers st d) members.1;
      large = eqb-true _ _ (not-false _ (none 5));
      cut = ⊎_elim inl (λ t. inr (not-false _ t)) (and_cases (cut_off st d s) _ off.1);
    }

pub record PassedSend (st : State) (d : Reports) : Type 0 where
  pub view : d.view ≡ Some (now d)
  pub above : number_of d.own < next_number st d
  pub unended : end_of d.own ≡ None

passed_busy : (st : State) (d : Reports) → is_none d.view ≡ false → (sent_end d.own || undelivered d.own (count_of d st.board)) ≡ false → PassedSend st d
passed_busy st d some busy =
    let p = or_parts (sent_end d.own) _ busy in
    record { view = some_view d.view some; above = omega (arith, not_awaited d.own _ p.1); unended = no_end d.own p.0 }

pub passed_send : (st : State) (d : Reports) (long room : ℕ) (spent : Bool) → send_refusal st d long room spent ≡ None → PassedSend st d
passed_send st d long room spent h =
    let none = none_holds (send_reasons st d long room spent) h in
    passed_busy st d (none 2) (or_parts (sent_end d.own || undelivered d.own (count_of d st.board)) _ (none 3)).0

pub passed_finish : (st : State) (d : Reports) (room : ℕ) (spent : Bool) → finish_refusal st d room spent ≡ None → PassedSend st d × (latest st ≡ now d → ⊥)
passed_finish st d room spent h =
    let none = none_holds (finish_reasons st d room spent) h in
    let p = or_parts (sent_end d.own || undelivered d.own (count_of d st.board)) _ (none 2) in
    let q = or_parts (leb (latest st) (now d)) _ p.1 in
    (passed_busy st d (none 1) p.0, λ same. omega (arith, leb-false (latest st) (now d) q.0, same))
