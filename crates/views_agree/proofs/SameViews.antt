-- The same views everywhere: rows outside the faulty ones that have reached view x have the same x-th view.
-- By induction over x: they agree on the members of x, so the laws of all rows hold in that one view, which has one change.
use Rattle.std.proofs.Common.{◌≡◌, ℕ, zero, suc, ◌+◌, ◌≤◌, sym, ◌∙◌, subst, ⊎_elim, arith}
use Rattle.std.proofs.lemmas.Bool.{cases_lt}
use Rattle.row.specs.States.{manager_in}
use Rattle.views_agree.specs.Agreement.{Outside}
use Rattle.views_agree.proofs.OneView.{Sound, Acts, Deputies, Acks, Readies, AckCause, Laws, Somebody}
use Rattle.views_agree.proofs.OneChange.{one_change}
use Rattle.views_agree.proofs.SomebodyAsked.{somebody_asked}
use Rattle.views_agree.proofs.Deeds.{Vote, Deed, Did, AskedIn}
use Rattle.views_agree.proofs.Floor.{reached}
use Rattle.views_agree.proofs.OneVote.{one_ack}
use Rattle.views_agree.proofs.Group.{Group, Lived, Few, acts_in, notified_asked, did_has, changed_has}

abbrev pub SameViews : Group → Type 0
SameViews g =
    (b d x : ℕ) → Outside g.faulty b → Outside g.faulty d → 1 ≤ x → x ≤ (g.row b).x → x ≤ (g.row d).x → (g.row b).views x ≡ (g.row d).views x

-- What a quorum readied in a view, a member outside the faulty ones had asked for.
abbrev pub ChangesAsked : Group → Type 0
ChangesAsked g =
    (b x k c : ℕ) → Outside g.faulty b → 1 ≤ x → x ≤ (g.row b).x → Readies g.faulty ((g.row b).views x) (acts_in g.deeds x) k c
    → Somebody g.faulty ((g.row b).views x) (acts_in g.deeds x) c

module _ (g : Group) (l : Lived g) (few : Few g) where
  -- The laws inside a view on whose members the rows agree.
  laws_in : (x m : ℕ) → ((b : ℕ) → Outside g.faulty b → x ≤ (g.row b).x → (g.row b).views x ≡ m) → Laws g.faulty m (acts_in g.deeds x)
  laws_in x m same =
      let a : Acts = acts_in g.deeds x in
      let here : (b : ℕ) (v : Vote) → Outside g.faulty b → Did (g.deeds b) x v → (g.row b).views x ≡ m =
      λ b v o d. same b o (reached (l.laws b o).votes.above x v d) in
      record {
        one_ack = λ b k c d o p q. one_ack (l.laws b o).votes.one x k c d p q;
        last_tells = λ b k j c e o p q less. (l.laws b o).votes.tells x k j c e p q less;
        ready_cause = λ b k c o d. subst (λ z. Acks g.faulty z a k c) (here b _ o d) (l.caused b (Deed.Voted x (Vote.Ready k c)) o (did_has _ x _ d));
        ack_cause = λ b k c o d. subst (λ z. AckCause g.faulty z a k c) (here b _ o d) (l.caused b (Deed.Voted x (Vote.Ack k c)) o (did_has _ x _ d));
        last_cause = λ b k e o d. subst (λ z. Deputies g.faulty z a k) (here b _ o d) (l.caused b (Deed.Voted x (Vote.Last k e)) o (did_has _ x _ d));
        notify_cause = λ b c o d. notified_asked (g.deeds b) x c d;
        deputy_cause = λ b k o d. let t = (l.laws b o).asks.deputy x k d in subst (λ z. AskedIn (g.deeds b) x (manager_in z)) (same b o t.0) t.1;
      }

  sound : (b x : ℕ) → Outside g.faulty b → 1 ≤ x → x ≤ (g.row b).x → Sound g.faulty ((g.row b).views x)
  sound b x o h1 h2 = record { some = (l.laws b o).course.peopled x h1 h2; few = few b x o h1 h2 }

  same_from : (x b d : ℕ) → Outside g.faulty b → Outside g.faulty d → 1 ≤ x → x ≤ (g.row b).x → x ≤ (g.row d).x → (g.row b).views x ≡ (g.row d).views x
  same_from zero b d ob od h1 hb hd = absurd (omega arith)
  same_from (suc x) b d ob od h1 hb hd =
      let vb = (l.laws b ob).course in
      let vd = (l.laws d od).course in
      ⊎_elim
      (λ later.
      let mb = vb.made x later (omega arith) in
      let md = vd.made x later (omega arith) in
      let before : (g.row d).views x ≡ (g.row b).views x = same_from x d b od ob later (omega arith) (omega arith) in
      let t = l.caused b (Deed.Changed x mb.0) ob (changed_has _ x _ mb.1) in
      let u = l.caused d (Deed.Changed x md.0) od (changed_has _ x _ md.1) in
      let laws = laws_in x ((g.row b).views x) (λ e oe he. same_from x e b oe ob later he (omega arith)) in
      let moved = subst (λ z. Readies g.faulty z (acts_in g.deeds x) u.0 md.0) before u.1 in
      let one : mb.0 ≡ md.0 = one_change (sound b x ob later (omega arith)) (acts_in g.deeds x) laws t.0 u.0 _ _ t.1 moved in
      let eb = (vb.past x mb.0 mb.1).2 in
      let ed = (vd.past x md.0 md.1).2 in
      let up : x + 1 ≡ suc x = omega arith in
      let after : (g.row b).views (x + 1) ≡ (g.row d).views (x + 1) = cc in
      subst (λ z. (g.row b).views z ≡ (g.row d).views z) up after)
      (λ none. let e : suc x ≡ 1 = omega arith in subst (λ z. (g.row b).views z ≡ (g.row d).views z) (sym e) (vb.start ∙ sym vd.start))
      (cases_lt 0 x)

  pub same_views : SameViews g
  same_views b d x = same_from x b d

  pub changes_asked : ChangesAsked g
  changes_asked b x k c ob h1 h2 r =
      somebody_asked (sound b x ob h1 h2) (acts_in g.deeds x) (laws_in x ((g.row b).views x) (λ e oe he. same_from x e b oe ob h1 he h2)) k c r
