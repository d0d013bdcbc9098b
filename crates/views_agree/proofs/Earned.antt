-- A view was earned: the step that made it, and before it the ask of a member outside the faulty ones for its change.
-- The step's certificate is a ready quorum among the deeds before it, and what a ready quorum is for somebody asked for.
use Rattle.std.proofs.Common.{◌≡◌, ℕ, ◌+◌, ◌<◌, ◌≤◌, List, [], ◌∷◌, sym, refl, ap, ◌∙◌, subst, inl, inr, ⊎_elim, arith}
use Rattle.std.proofs.lemmas.Bool.{cases_eq}
use Rattle.boards.specs.Boards.{member}
use Rattle.views.specs.Groups.{toggle}
use Rattle.views.specs.Histories.{members_of}
use Rattle.schemes.specs.declared.Scheme.{Ghosts}
use Rattle.row.specs.declared.state.State.{State}
use Rattle.row.specs.States.{latest}
use Rattle.views_agree.specs.Agreement.{Step, Outside, row_of, Taken, Asked, VouchedFor, Earned}
use Rattle.views_agree.proofs.OneView.{Readies}
use Rattle.views_agree.proofs.Deeds.{Deed, AskedIn}
use Rattle.views_agree.proofs.Group.{acts_in, Few}
use Rattle.views_agree.proofs.SameViews.{changes_asked}
use Rattle.views_agree.proofs.StepDeeds.{core, deed_at, deeds_of, deeds_none, deeds_here, deeds_else}
use Rattle.views_agree.proofs.Plays.{FitsIf}
use Rattle.views_agree.proofs.Growth.{Rise, rise}
use Rattle.views_agree.proofs.Steps.{asked_now}
use Rattle.views_agree.proofs.Lives.{group_of, Alive, this, row_here, row_else, new_deed, onward}

-- The x-th view of board b.
abbrev pub view_at : List State → ℕ → ℕ → ℕ
view_at rows b x = members_of (row_of rows b).views x

-- An ask among the deeds of a board is an ask in its steps.
asked_back : (h : List Step) (b x c : ℕ) → AskedIn (deeds_of h b) x c → Asked h b x c
asked_back [] b x c a = subst (λ l. AskedIn l x c) (deeds_none b) a
asked_back (e ∷ h) b x c a =
    ⊎_elim
    (λ same.
    ⊎_elim (λ now. inl (sym same, now.0, now.1, now.2)) (λ old. inr (asked_back h b x c old))
    (asked_now e.answer e.call e.before (deeds_of h b) x c (subst (λ l. AskedIn l x c) (deeds_here b e h same) a)))
    (λ other. inr (asked_back h b x c (subst (λ l. AskedIn l x c) (deeds_else b e h other) a)))
    (cases_eq b e.board)

module _ {S : Type 0} (g : Ghosts S) (faulty first : ℕ) (rows rows2 : List State) (h : List Step) (e : Step) (a : Alive faulty first rows h) (t : Taken g faulty e rows rows2)
    (v : VouchedFor faulty h e.call e.answer) (b x : ℕ) where
  -- A view that was earned stays so.
  pub earned_still : Earned faulty h b x (view_at rows b x) (view_at rows b (x + 1)) → x < latest (row_of rows b) → Earned faulty (e ∷ h) b x (view_at rows2 b x) (view_at rows2 b (x + 1))
  earned_still z old =
      let on = onward g faulty first rows rows2 h e a t v b in
      let here = on.stay x (omega arith) in
      let next = on.stay (x + 1) (omega arith) in
      record {
        later = e ∷ z.later;
        step = z.step;
        earlier = z.earlier;
        history = ap (λ l. e ∷ l) z.history;
        board = z.board;
        from = z.from;
        to = z.to;
        change = z.change;
        of_board = z.of_board;
        by = next ∙ z.by ∙ ap (λ m. toggle m z.change) (sym here);
        asker = z.asker;
        outside = z.outside;
        within = ap (λ m. member m z.asker) here ∙ z.within;
        asked = z.asked;
      }

  -- The step that made view x + 1 of board b.
  record Made : Type 0 where
    here : e.board ≡ b
    from : latest e.before ≡ x
    to : latest e.after ≡ x + 1
    change : ℕ
    of_board : change < 8
    by : view_at rows2 b (x + 1) ≡ toggle (view_at rows b x) change
    rank : ℕ
    readies : Readies faulty (view_at rows b x) (acts_in (deeds_of h) x) rank change

  -- A row whose latest view was x and is above it now is the row of the step.
  at_step : latest (row_of rows b) ≤ x → x < latest (row_of rows2 b) → b ≡ e.board
  at_step low high =
      ⊎_elim (λ same. same) (λ other. absurd (omega (arith, low, high, ap latest (row_else g faulty first rows rows2 h e a t v b other)))) (cases_eq b e.board)

  made_by : (same : b ≡ e.board) → latest e.before ≡ x → Rise (deed_at e) (core e.before) (core e.after) → Made
  made_by same from up =
      let r = row_here g faulty first rows rows2 h e a t v b same in
      let n = new_deed g faulty first rows rows2 h e a t v b (Deed.Changed (latest e.before) up.change) same up.deed in
      record {
        here = sym same;
        from = from;
        to = up.next ∙ ap (λ y. y + 1) from;
        change = up.change;
        of_board = subst FitsIf up.deed (this g faulty first rows rows2 h e a t v).plays.fits;
        by =
            ap (λ (z : State). members_of z.views (x + 1)) r.1
            ∙ subst (λ y. members_of e.after.views (y + 1) ≡ toggle (members_of e.before.views y) up.change) from up.view
            ∙ ap (λ (z : State). toggle (members_of z.views x) up.change) (sym r.0);
        rank = n.1.0;
        readies = subst (λ y. Readies faulty (view_at rows b y) (acts_in (deeds_of h) y) n.1.0 up.change) from n.1.1;
      }

  made : latest (row_of rows b) ≤ x → x < latest (row_of rows2 b) → Made
  made low high =
      let same = at_step low high in
      let r = row_here g faulty first rows rows2 h e a t v b same in
      let was = ap latest r.0 in
      let is = ap latest r.1 in
      let up = rise (deed_at e) (core e.before) (core e.after) (this g faulty first rows rows2 h e a t v).plays.moves (omega (arith, was, is, low, high)) in
      made_by same (omega (arith, was, is, low, high, up.next)) up

  -- The view that this step makes was earned.
  pub earned_now : Outside faulty b → Few (group_of faulty first rows h) → 1 ≤ x → latest (row_of rows b) ≤ x → x < latest (row_of rows2 b)
      → Earned faulty (e ∷ h) b x (view_at rows2 b x) (view_at rows2 b (x + 1))
  earned_now o few some low high =
      let m = made low high in
      let had : x ≤ latest (row_of rows b) = omega (arith, m.from, ap latest (row_here g faulty first rows rows2 h e a t v b (sym m.here)).0) in
      let who = changes_asked (group_of faulty first rows h) a.lived few b x m.rank m.change o some had m.readies in
      let here = (onward g faulty first rows rows2 h e a t v b).stay x had in
      record {
        later = [];
        step = e;
        earlier = h;
        history = refl;
        board = m.here;
        from = m.from;
        to = m.to;
        change = m.change;
        of_board = m.of_board;
        by = m.by ∙ ap (λ z. toggle z m.change) (sym here);
        asker = who.asker;
        outside = who.outside;
        within = ap (λ z. member z who.asker) here ∙ who.within;
        asked = asked_back h who.asker x m.change who.asked;
      }
