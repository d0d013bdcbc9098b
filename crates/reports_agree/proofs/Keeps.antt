-- A board's reports as they stand keep the laws of Held: what each part of a call does to them.
-- h are the board's views, d its reports; what it delivered, echoed and sent may be told in any words.
use Rattle.std.proofs.Common.{◌≡◌, ℕ, zero, suc, ◌+◌, ◌-◌, ◌<◌, ◌≤◌, Bool, true, false, cond, ◌⊎◌, List, length, get_or, set, Some, None, Option, sym, refl, ap, ◌∙◌, subst, ⊎_elim, arith, length-set, get_or-set_other, get_or-set_same}
use lib.ListN.{length-replicate}
use Rattle.std.proofs.lemmas.Bool.{cases_Bool, cond_both, cond-true, cond-false, and_parts, ltb-true}
use Rattle.boards.specs.Boards.{member}
use Rattle.views.specs.declared.history.History.{History}
use Rattle.views.specs.Histories.{members_of}
use Rattle.row.specs.declared.state.Count.{Count}
use Rattle.row.specs.declared.state.State.{State}
use Rattle.row.specs.Effects.{Effect}
use Rattle.delivery.proofs.Settling.{all_same}
use Rattle.delivery.specs.Reports.{Content, claim, Own, Record, Reports, opened, count_of, echo_of, claim_of, with_own, with_echo, with_out}
use Rattle.delivery.specs.Endings.{done, may_stay, lowest_from, settled_in, settled}
use Rattle.delivery.specs.Effects.{collects, own_with, own_done, delivered}
use Rattle.reports_agree.proofs.Held.{Facts, Adds, Put, Rises, none_some, some_same, EchoesHeld, echoes_more, echoes_delivered, echoes_moved, CountsHeld, counts_more, counts_moved, Stay, Leave, within_more, SendsHeld, Sends, sends_more, sends_delivered, sends_moved, sends_onward}

abbrev pub number_of : Option Own → ℕ
number_of None = 0
number_of (Some o) = o.number

abbrev pub end_of : Option Own → Option ℕ
end_of None = None
end_of (Some o) = claim o.content

pub record HeldAs (b : ℕ) (h : History) (d : Reports) (total : ℕ → ℕ → ℕ) (delivered echoed : Facts) (sent : ℕ → ℕ → Content → Type 0) : Type 0 where
  -- The last view that the reports were in, or one after it before they are in a next.
  pub at : ℕ
  pub some : 1 ≤ at
  pub reached : at ≤ h.latest
  pub here : (y : ℕ) → d.view ≡ Some y → y ≡ at
  pub inside : (y : ℕ) → d.view ≡ Some y → member (members_of h y) b ≡ true
  pub eight : (length d.counts ≡ 8) × (length d.echoed ≡ 8) × (length d.claims ≡ 8)
  pub echoes : EchoesHeld at (count_of d) (echo_of d) echoed
  pub counts : CountsHeld at (count_of d) (claim_of d) total delivered
  pub sends : SendsHeld h.latest (members_of h) at (number_of d.own) (end_of d.own) sent delivered

put_in : {A : Type 0} (xs : List A) (s : ℕ) (a e : A) → s < length xs → Put (λ i. get_or xs i e) s a (λ i. get_or (set xs s a) i e)
put_in xs s a e low = record { at = get_or-set_same xs s a e low; else = λ t ne. get_or-set_other xs s t a e ne }

pub lowest_above : (P : ℕ → Bool) (v n w : ℕ) → lowest_from P v n ≡ Some w → (v ≤ w) × (w < v + n) × (P w ≡ true)
unfolding lowest_from
lowest_above P v zero w q = none_some w q
lowest_above P v (suc n) w q =
    ⊎_elim (λ t. let is : v ≡ w = some_same v w (sym (cond-true (P v) (Some v) (lowest_from P (v + 1) n) t) ∙ q) in (omega arith, omega arith, ap P (sym is) ∙ t))
    (λ f. let r = lowest_above P (v + 1) n w (sym (cond-false (P v) (Some v) (lowest_from P (v + 1) n) f) ∙ q) in (omega (arith, r.0), omega (arith, r.1), r.2))
    (cases_Bool (P v))

module _ {b : ℕ} {h : History} {d : Reports} {total : ℕ → ℕ → ℕ} {D E : Facts} {S : ℕ → ℕ → Content → Type 0} (k : HeldAs b h d total D E S) where
  -- The same facts in other words.
  pub as_same : {total2 : ℕ → ℕ → ℕ} {D2 E2 : Facts} {S2 : ℕ → ℕ → Content → Type 0} → ((y s : ℕ) → total2 y s ≡ total y s)
      → ((y s i : ℕ) (c : Content) → D2 y s i c → D y s i c) → ((y s i : ℕ) (c : Content) → D y s i c → D2 y s i c)
      → ((y s i : ℕ) (c : Content) → E2 y s i c → E y s i c) → ((y i : ℕ) (c : Content) → S2 y i c → S y i c) → HeldAs b h d total2 D2 E2 S2
  as_same {total2} {D2} {E2} {S2} m df dk ef sf = record {
    at = k.at;
    some = k.some;
    reached = k.reached;
    here = k.here;
    inside = k.inside;
    eight = k.eight;
    echoes = record { past = λ y s i c o. k.echoes.past y s i c (ef y s i c o); one = λ y s i c e p q. k.echoes.one y s i c e (ef y s i c p) (ef y s i e q) };
    counts = record {
      here = λ s. m k.at s ∙ k.counts.here s;
      later = λ y s late. m y s ∙ k.counts.later y s late;
      past = λ y s i c o. let p = k.counts.past y s i c (df y s i c o) in (p.0, omega (arith, p.1, m y s));
      all = λ y s j low high. let p = k.counts.all y s j low (omega (arith, m y s)) in (p.0, dk y s j p.0 p.1);
      claimed = λ s n e. let p = k.counts.claimed s n e in (p.0, p.1, dk k.at s p.0 p.1 p.2, p.3);
      ended = λ s i n c o e. k.counts.ended s i n c (df k.at s i c o) e;
      last = λ y s i n c o e. k.counts.last y s i n c (df y s i c o) e ∙ sym (m y s);
      one = λ y s i c e p q. k.counts.one y s i c e (df y s i c p) (df y s i e q);
    };
    sends = record {
      past = λ y i c o. k.sends.past y i c (sf y i c o);
      one = λ y i c e p q. k.sends.one y i c e (sf y i c p) (sf y i e q);
      ended = λ i n c o e. k.sends.ended i n c (sf k.at i c o) e;
      in_time = λ y i n c o e. k.sends.in_time y i n c (sf y i c o) e;
      mine_in_time = k.sends.mine_in_time;
      held_back = λ y j n s i e c o q lv p. within_more D D2 dk (k.sends.held_back y j n s i e c (sf y j e o) q lv (df y s i c p));
    };
  }

  -- More views.
  pub as_onward : {h2 : History} → h.latest ≤ h2.latest → ((v : ℕ) → v ≤ h.latest → members_of h2 v ≡ members_of h v) → HeldAs b h2 d total D E S
  as_onward {h2} up stay = record {
    at = k.at;
    some = k.some;
    reached = omega (arith, k.reached);
    here = k.here;
    inside = λ y e. ap (λ v. member v b) (stay y (omega (arith, k.here y e, k.reached))) ∙ k.inside y e;
    eight = k.eight;
    echoes = k.echoes;
    counts = k.counts;
    sends = sends_onward k.sends up stay;
  }

  -- A record that is taken, an echo that is collected.
  pub as_taken : (r : Option Record) → HeldAs b h (with_out d r) total D E S
  as_taken r = record { at = k.at; some = k.some; reached = k.reached; here = k.here; inside = k.inside; eight = k.eight; echoes = k.echoes; counts = k.counts; sends = k.sends }

  as_own : (o : Option Own) → number_of o ≡ number_of d.own → end_of o ≡ end_of d.own → HeldAs b h (with_own d o) total D E S
  as_own o n e = record {
    at = k.at;
    some = k.some;
    reached = k.reached;
    here = k.here;
    inside = k.inside;
    eight = k.eight;
    echoes = k.echoes;
    counts = k.counts;
    sends = subst (λ x. SendsHeld h.latest (members_of h) k.at x (end_of o) S D) (sym n) (subst (λ x. SendsHeld h.latest (members_of h) k.at (number_of d.own) x S D) (sym e) k.sends);
  }

  pub as_collected : (st : State) (o : Option Own) (e t : ℕ) → d.own ≡ o → HeldAs b h (collects st d o e t).0 total D E S
  as_collected st None c t e = k
  as_collected st (Some o) c t e =
      let n = ap number_of e in
      let q = ap end_of e in
      either _ _ _ _ _ (as_own (Some (own_done o)) (sym n) (sym q)) (as_own (Some (own_with o _)) (sym n) (sym q))
    where
      either : (q : Bool) (d1 d2 : Reports) (e1 e2 : Effect) → HeldAs b h d1 total D E S → HeldAs b h d2 total D E S
          → HeldAs b h (cond {A = Reports × Effect} q (d1, e1) (d2, e2)).0 total D E S
      either true d1 d2 e1 e2 p q = p
      either false d1 d2 e1 e2 p q = q

  -- An init is echoed.
  pub as_echoed : (s n : ℕ) (c : Content) {E2 : Facts} → s < 8 → n ≡ count_of d s + 1 → (echo_of d s ≡ None) ⊎ (echo_of d s ≡ Some c) → Adds E k.at s n c E2
      → HeldAs b h (with_echo d s (Some c)) total D E2 S
  as_echoed s n c {E2} low next first add = record {
    at = k.at;
    some = k.some;
    reached = k.reached;
    here = k.here;
    inside = k.inside;
    eight = (k.eight.0, length-set d.echoed s (Some c) ∙ k.eight.1, k.eight.2);
    echoes = echoes_more k.echoes k.at s n c refl next first (put_in d.echoed s (Some c) None (omega (arith, k.eight.1))) add;
    counts = k.counts;
    sends = k.sends;
  }

  -- A commit is delivered.
  pub as_delivered : (s n : ℕ) (c : Content) {total2 : ℕ → ℕ → ℕ} {D2 : Facts} → s < 8 → n ≡ count_of d s + 1 → claim_of d s ≡ None
      → ((m : ℕ) → end_of d.own ≡ Some m → Leave (members_of h k.at) (members_of h (k.at + 1)) s
      → (t q : ℕ) × Stay (members_of h k.at) (members_of h (k.at + 1)) t × (claim_of d t ≡ Some q) × (n ≤ q))
      → Rises total k.at s total2 → Adds D k.at s n c D2 → HeldAs b h (delivered d s n c) total2 D2 E S
  as_delivered s n c {total2} {D2} low next unended let_by up add =
      let pc = put_in d.counts s n 0 (omega (arith, k.eight.0)) in record {
        at = k.at;
        some = k.some;
        reached = k.reached;
        here = k.here;
        inside = k.inside;
        eight = (length-set d.counts s n ∙ k.eight.0, length-set d.echoed s None ∙ k.eight.1, length-set d.claims s (claim c) ∙ k.eight.2);
        echoes = echoes_delivered k.echoes s n next pc (put_in d.echoed s None None (omega (arith, k.eight.1)));
        counts = counts_more k.counts k.at s n c refl next unended pc (put_in d.claims s (claim c) None (omega (arith, k.eight.2))) up add;
        sends = sends_delivered k.sends k.at s n c k.counts refl let_by add;
      }

  -- A message is sent.
  pub as_sent : (n : ℕ) (c : Content) (g : Bool) (t : Count) {S2 : ℕ → ℕ → Content → Type 0} → number_of d.own < n → end_of d.own ≡ None
      → ((m : ℕ) → claim c ≡ Some m → (k.at < h.latest) × ((s : ℕ) → Leave (members_of h k.at) (members_of h (k.at + 1)) s → count_of d s ≡ m))
      → Sends k.sends k.at n c S2 → HeldAs b h (with_own d (Some (record { number = n; content = c; collecting = g; echoes = t }))) total D E S2
  as_sent n c g t {S2} above unended ends add = record {
    at = k.at;
    some = k.some;
    reached = k.reached;
    here = k.here;
    inside = k.inside;
    eight = k.eight;
    echoes = k.echoes;
    counts = k.counts;
    sends = sends_more k.sends k.at n c k.counts refl above unended (λ m e. let q = ends m e in (k.some, q.0, q.1)) add;
  }

  -- A later view is opened, or none.
  as_opened : (at2 : ℕ) (o : Option ℕ) (r : Option Record) → k.at < at2 → at2 ≤ h.latest → ((y : ℕ) → o ≡ Some y → y ≡ at2) → ((y : ℕ) → o ≡ Some y → member (members_of h y) b ≡ true)
      → HeldAs b h (opened o r) total D E S
  as_opened at2 o r later top here inside = record {
    at = at2;
    some = omega arith;
    reached = top;
    here = here;
    inside = inside;
    eight = (length-replicate {A = ℕ} 8 0, length-replicate {A = Option Content} 8 None, length-replicate {A = Option ℕ} 8 None);
    echoes = echoes_moved k.echoes at2 _ _ later;
    counts = counts_moved k.counts later (λ s. all_same {A = ℕ} 8 s 0) (λ s. all_same {A = Option ℕ} 8 s None);
    sends = sends_moved k.sends later;
  }

  pub as_settled_in : (o : Option ℕ) → d.view ≡ o → (o ≡ None → k.at < h.latest) → HeldAs b h (settled_in h b o d) total D E S
  as_settled_in None e late =
      cond_both (member (members_of h h.latest) b) (opened (Some h.latest) d.out) d (λ z. HeldAs b h z total D E S)
      (λ in_it. as_opened h.latest (Some h.latest) d.out (late refl) (omega arith) (λ y q. some_same y h.latest (sym q))
      (λ y q. ap (λ v. member (members_of h v) b) (some_same y h.latest (sym q)) ∙ in_it))
      (λ out. k)
  as_settled_in (Some y) e late =
      cond_both (done h b y d) (opened (lowest_from (may_stay h b) (y + 1) (h.latest - y)) d.out) d (λ z. HeldAs b h z total D E S)
      (λ over.
      let more = ltb-true y h.latest (and_parts _ _ over).0 in
      go_on (lowest_from (may_stay h b) (y + 1) (h.latest - y)) (k.here y e) more (λ v q. lowest_above (may_stay h b) (y + 1) (h.latest - y) v q))
      (λ not_yet. k)
    where
      go_on : (o2 : Option ℕ) → y ≡ k.at → y < h.latest → ((v : ℕ) → o2 ≡ Some v → (y + 1 ≤ v) × (v < y + 1 + (h.latest - y)) × (may_stay h b v ≡ true)) → HeldAs b h (opened o2 d.out) total D E S
      go_on None is more range = as_opened h.latest None d.out (omega arith) (omega arith) (λ v q. none_some v q) (λ v q. none_some v q)
      go_on (Some v) is more range =
          let r = range v refl in as_opened v (Some v) d.out (omega (arith, r.0)) (omega (arith, r.1)) (λ w q. some_same w v (sym q))
          (λ w q. ap (λ x. member (members_of h x) b) (some_same w v (sym q)) ∙ (and_parts (member (members_of h v) b) _ r.2).0)

  pub as_settled : (d.view ≡ None → k.at < h.latest) → HeldAs b h (settled h b d) total D E S
  as_settled late = as_settled_in d.view refl late

-- A next view that the row made.
pub as_followed : {b : ℕ} {h h2 : History} {d : Reports} {total : ℕ → ℕ → ℕ} {D E : Facts} {S : ℕ → ℕ → Content → Type 0} (k : HeldAs b h d total D E S) → h.latest ≤ h2.latest
    → ((v : ℕ) → v ≤ h.latest → members_of h2 v ≡ members_of h v) → (d.view ≡ None → k.at < h2.latest) → HeldAs b h2 (settled h2 b d) total D E S
unfolding as_onward
as_followed {b} {h} {h2} k up stay late = as_settled (as_onward k {h2 = h2} up stay) late

-- A board's reports at a start.
pub as_started : (b : ℕ) (h : History) (o : Option ℕ) (r : Option Record) → 1 ≤ h.latest → ((y : ℕ) → o ≡ Some y → (y ≡ 1) × (member (members_of h y) b ≡ true))
    → HeldAs b h (opened o r) (λ y s. 0) (λ y s i c. ⊥) (λ y s i c. ⊥) (λ y i c. ⊥)
as_started b h o r some here = record {
  at = 1;
  some = omega arith;
  reached = some;
  here = λ y e. (here y e).0;
  inside = λ y e. (here y e).1;
  eight = (length-replicate {A = ℕ} 8 0, length-replicate {A = Option Content} 8 None, length-replicate {A = Option ℕ} 8 None);
  echoes = record { past = λ y s i c o. absurd o; one = λ y s i c e o. absurd o };
  counts = record {
    here = λ s. sym (all_same {A = ℕ} 8 s 0);
    later = λ y s late. refl;
    past = λ y s i c o. absurd o;
    all = λ y s j low high. absurd (omega arith);
    claimed = λ s m e. none_some m (sym (all_same {A = Option ℕ} 8 s None) ∙ e);
    ended = λ s i m c o. absurd o;
    last = λ y s i m c o. absurd o;
    one = λ y s i c e o. absurd o;
  };
  sends = record {
    past = λ y i c o. absurd o;
    one = λ y i c e o. absurd o;
    ended = λ i m c o. absurd o;
    in_time = λ y i m c o. absurd o;
    mine_in_time = λ m e. none_some m e;
    held_back = λ y j m s i e c o. absurd o;
  };
}
