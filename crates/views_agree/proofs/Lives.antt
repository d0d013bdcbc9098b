-- A history of steps is a group of rows that lived: each row keeps its laws, each vote and change has its cause, and what was signed was done.
-- By induction over the steps; each is one deed more at one row, or none.
use Rattle.std.proofs.Common.{◌≡◌, ℕ, ◌≤◌, ◌⊎◌, List, [], ◌∷◌, length, set, Some, None, Option, sym, refl, ap, ◌∙◌, subst, inl, inr, ⊎_elim, arith, length-set, get_or-set_other, get_or-set_same}
use Rattle.std.proofs.lemmas.Bool.{cases_eq}
use Rattle.boards.specs.Boards.{size}
use Rattle.schemes.specs.declared.Scheme.{Ghosts}
use Rattle.wire.specs.Acts.{words}
use Rattle.row.specs.declared.state.State.{State}
use Rattle.row.specs.States.{latest, group, many}
use Rattle.views_agree.specs.Agreement.{Step, Outside, row_of, Started, Taken, Leads, VouchedFor, Vouched}
use Rattle.views_agree.proofs.OneView.{Acts}
use Rattle.views_agree.proofs.Deeds.{Row, Vote, Deed, Did, NotifiedIn, DeputisedIn, Has, view_in, Does}
use Rattle.views_agree.proofs.RowLaws.{LawsOfRow, laws_kept, laws_begin}
use Rattle.views_agree.proofs.Group.{Group, Lived, acts_in, Caused, CausedAt, Grows, caused_grows, did_cons, notified_cons, deputised_cons}
use Rattle.views_agree.proofs.StepDeeds.{core, group_is, deed_at, Moves, put, deeds_of, deeds_none, deeds_here, deeds_else, deeds_more}
use Rattle.views_agree.proofs.Plays.{Sane, Fits, FitsIf, sane_begins, core_begins}
use Rattle.views_agree.proofs.Signing.{DoneAct, done_cons, signed_step, told_act}
use Rattle.views_agree.proofs.Causes.{CausedIf}
use Rattle.views_agree.proofs.Growth.{Onward, moves_onward, does_now, has_put}
use Rattle.views_agree.proofs.Steps.{KeptWord, Stepped, stepped}

-- The rows and deeds of a history, as the argument reads them.
abbrev pub group_of : ℕ → ℕ → List State → List Step → Group
group_of faulty first rows h = record { faulty = faulty; first = first; row = λ b. core (row_of rows b); deeds = deeds_of h }

pub record Alive (faulty first : ℕ) (rows : List State) (h : List Step) : Type 0 where
  pub eight : length rows ≡ 8
  pub sane : (b : ℕ) → Outside faulty b → Sane b (row_of rows b)
  pub lived : Lived (group_of faulty first rows h)
  pub past : (b : ℕ) (d : Deed) → Outside faulty b → Has (deeds_of h b) d → view_in d ≤ latest (row_of rows b)
  pub word : KeptWord faulty h

-- A row that lived has a member in its latest view.
pub peopled : {faulty first : ℕ} {rows : List State} {h : List Step} → Alive faulty first rows h → (b : ℕ) → Outside faulty b → 1 ≤ many (row_of rows b)
peopled {faulty} {first} {rows} {h} a b o =
    let r = row_of rows b in
    subst (λ m. 1 ≤ size m) (sym (group_is r)) ((a.lived.laws b o).course.peopled (latest r) (a.sane b o).some (omega arith))

laws_put : (first : ℕ) (o : Option Deed) (r r2 : Row) (l : List Deed) → LawsOfRow first r l → Moves o r r2 → LawsOfRow first r2 (put o l)
laws_put first None r r2 l p e = subst (λ z. LawsOfRow first z l) (sym e) p
laws_put first (Some d) r r2 l p s = laws_kept first d r r2 l p s

caused_some : (faulty m : ℕ) (a : Acts) (o : Option Deed) (d : Deed) → o ≡ Some d → CausedIf faulty m a o → Caused faulty m a d
caused_some faulty m a o d e p = subst (CausedIf faulty m a) e p

moves_some : (o : Option Deed) (d : Deed) (r r2 : Row) → o ≡ Some d → Moves o r r2 → Does d r r2
moves_some o d r r2 e p = subst (λ z. Moves z r r2) e p

fits_some : (o : Option Deed) (d : Deed) → o ≡ Some d → FitsIf o → Fits d
fits_some o d e p = subst FitsIf e p

acts_grow : (e : Step) (h : List Step) (x : ℕ) → Grows (acts_in (deeds_of h) x) (acts_in (deeds_of (e ∷ h)) x)
acts_grow e h x = record {
  notified = λ b c. deeds_more (λ l. NotifiedIn l x c) (λ d l. notified_cons d l x c) b e h;
  deputised = λ b k. deeds_more (λ l. DeputisedIn l x k) (λ d l. deputised_cons d l x k) b e h;
  acked = λ b k c. deeds_more (λ l. Did l x (Vote.Ack k c)) (λ d l. did_cons d l x (Vote.Ack k c)) b e h;
  readied = λ b k c. deeds_more (λ l. Did l x (Vote.Ready k c)) (λ d l. did_cons d l x (Vote.Ready k c)) b e h;
  lasted = λ b k c. deeds_more (λ l. Did l x (Vote.Last k c)) (λ d l. did_cons d l x (Vote.Last k c)) b e h;
}

module _ {S : Type 0} (g : Ghosts S) (faulty first : ℕ) (rows rows2 : List State) (h : List Step) (e : Step) (a : Alive faulty first rows h) (t : Taken g faulty e rows rows2)
    (v : VouchedFor faulty h e.call e.answer) where
  -- What this step does at its row, and why.
  pub this : Stepped faulty h e
  this =
      let sane = subst (Sane e.board) (sym t.here) (a.sane e.board t.outside) in
      let some = subst (λ s. 1 ≤ many s) (sym t.here) (peopled a e.board t.outside) in
      stepped g faulty h e t.scheme t.scheme_after t.promised v a.word t.outside.0 sane some

  pub row_here : (b : ℕ) → b ≡ e.board → (row_of rows b ≡ e.before) × (row_of rows2 b ≡ e.after)
  row_here b same = (
    ap (row_of rows) same ∙ sym t.here,
    ap (λ l. row_of l b) t.put ∙ ap (row_of (set rows e.board e.after)) same ∙ get_or-set_same rows e.board e.after _ (omega (arith, t.outside.0, a.eight)),
  )

  pub row_else : (b : ℕ) → (b ≡ e.board → ⊥) → row_of rows2 b ≡ row_of rows b
  row_else b other = ap (λ l. row_of l b) t.put ∙ get_or-set_other rows e.board b e.after _ other

  -- Whatever holds of a row after a step if it holds of the row's own move, or of a row that stayed.
  at_row : (P : State → State → List Deed → List Deed → Type 0) → ((l : List Deed) → P e.before e.after l (put (deed_at e) l)) → ((s : State) (l : List Deed) → P s s l l)
      → (b : ℕ) → P (row_of rows b) (row_of rows2 b) (deeds_of h b) (deeds_of (e ∷ h) b)
  at_row P moved stayed b =
      ⊎_elim
      (λ same.
      let r = row_here b same in
      subst (λ k. P (row_of rows b) (row_of rows2 b) (deeds_of h b) k) (sym (deeds_here b e h same))
      (subst (λ s. P s (row_of rows2 b) (deeds_of h b) (put (deed_at e) (deeds_of h b))) (sym r.0)
      (subst (λ s. P e.before s (deeds_of h b) (put (deed_at e) (deeds_of h b))) (sym r.1) (moved (deeds_of h b)))))
      (λ other.
      subst (λ k. P (row_of rows b) (row_of rows2 b) (deeds_of h b) k) (sym (deeds_else b e h other))
      (subst (λ s. P (row_of rows b) s (deeds_of h b) (deeds_of h b)) (sym (row_else b other)) (stayed (row_of rows b) (deeds_of h b))))
      (cases_eq b e.board)

  pub onward : (b : ℕ) → Onward (core (row_of rows b)) (core (row_of rows2 b))
  onward = at_row (λ s s2 l l2. Onward (core s) (core s2)) (λ l. moves_onward (deed_at e) _ _ this.plays.moves) (λ s l. record { rises = omega arith; stay = λ w i. refl })

  laws_after : (b : ℕ) → LawsOfRow first (core (row_of rows b)) (deeds_of h b) → LawsOfRow first (core (row_of rows2 b)) (deeds_of (e ∷ h) b)
  laws_after =
      at_row (λ s s2 l l2. LawsOfRow first (core s) l → LawsOfRow first (core s2) l2) (λ l p. laws_put first (deed_at e) _ _ l p this.plays.moves) (λ s l p. p)

  -- A deed after the step was there before it, or is the step's own.
  has_after : (b : ℕ) (d : Deed) → Has (deeds_of (e ∷ h) b) d → ((b ≡ e.board) × (deed_at e ≡ Some d)) ⊎ Has (deeds_of h b) d
  has_after b d p =
      ⊎_elim (λ same. ⊎_elim (λ new. inl (same, new)) inr (has_put (deed_at e) (deeds_of h b) d (subst (λ l. Has l d) (deeds_here b e h same) p)))
      (λ other. inr (subst (λ l. Has l d) (deeds_else b e h other) p)) (cases_eq b e.board)

  -- The step's own deed was of the latest view of its row, and had its cause there.
  pub new_deed : (b : ℕ) (d : Deed) → b ≡ e.board → deed_at e ≡ Some d → (view_in d ≡ latest (row_of rows b)) × CausedAt (group_of faulty first rows h) b d
  new_deed b d same is =
      let r = row_here b same in
      let now : view_in d ≡ latest e.before = does_now d _ _ (moves_some (deed_at e) d _ _ is this.plays.moves) in
      let cause : Caused faulty (group e.before) (acts_in (deeds_of h) (latest e.before)) d = caused_some faulty _ _ (deed_at e) d is this.caused in
      let moved : Caused faulty ((core e.before).views (latest e.before)) (acts_in (deeds_of h) (latest e.before)) d =
      subst (λ m. Caused faulty m (acts_in (deeds_of h) (latest e.before)) d) (group_is e.before) cause in (
        now ∙ ap latest (sym r.0),
        subst (λ s. Caused faulty ((core s).views (view_in d)) (acts_in (deeds_of h) (view_in d)) d) (sym r.0)
            (subst (λ x. Caused faulty ((core e.before).views x) (acts_in (deeds_of h) x) d) (sym now) moved),
      )

  -- A cause before the step is one after it.
  lift : (b : ℕ) (d : Deed) → view_in d ≤ latest (row_of rows b) → CausedAt (group_of faulty first rows h) b d → CausedAt (group_of faulty first rows2 (e ∷ h)) b d
  lift b d le p =
      subst (λ m. Caused faulty m (acts_in (deeds_of (e ∷ h)) (view_in d)) d) (sym ((onward b).stay (view_in d) le))
      (caused_grows faulty _ (acts_in (deeds_of h) (view_in d)) (acts_in (deeds_of (e ∷ h)) (view_in d)) (acts_grow e h (view_in d)) d p)

  word_after : KeptWord faulty (e ∷ h)
  word_after b act o ok s = ⊎_elim
      (λ now.
      let z = signed_step g e t.scheme t.scheme_after t.promised (words act) now.1 in
      let done = told_act act (deed_at e) (deeds_of h b) ok z (fits_some (deed_at e) z.deed z.is this.plays.fits) in
      subst (λ l. DoneAct l act) (sym (deeds_here b e h (sym now.0))) (subst (λ k. DoneAct (put k (deeds_of h b)) act) (sym z.is) done))
      (λ old. deeds_more (λ l. DoneAct l act) (λ d l. done_cons act d l) b e h (a.word b act o ok old))
      s

  pub alive_next : Alive faulty first rows2 (e ∷ h)
  alive_next = record {
    eight = ap length t.put ∙ length-set rows e.board e.after ∙ a.eight;
    sane = λ b o. ⊎_elim
        (λ same. subst (Sane b) (sym (row_here b same).1) (subst (λ n. Sane n e.after) (sym same) this.plays.sane))
        (λ other. subst (Sane b) (sym (row_else b other)) (a.sane b o))
        (cases_eq b e.board);
    lived = record {
      laws = λ b o. laws_after b (a.lived.laws b o);
      caused = λ b d o p. ⊎_elim
          (λ new. let n = new_deed b d new.0 new.1 in lift b d (omega (arith, n.0)) n.1)
          (λ old. lift b d (a.past b d o old) (a.lived.caused b d o old))
          (has_after b d p);
    };
    past = λ b d o p. ⊎_elim
        (λ new. omega (arith, (new_deed b d new.0 new.1).0, (onward b).rises))
        (λ old. omega (arith, a.past b d o old, (onward b).rises))
        (has_after b d p);
    word = word_after;
  }

alive_begins : (faulty first : ℕ) (rows : List State) → Started first rows → Alive faulty first rows []
alive_begins faulty first rows st = record {
  eight = st.1;
  sane = λ b o. subst (Sane b) (sym (st.2 b o.0)) (sane_begins b first);
  lived = record {
    laws = λ b o.
        subst (LawsOfRow first (core (row_of rows b))) (sym (deeds_none b))
        (subst (λ s. LawsOfRow first (core s) []) (sym (st.2 b o.0)) (laws_begin first _ (core_begins b first) st.0));
    caused = λ b d o p. absurd (subst (λ l. Has l d) (deeds_none b) p);
  };
  past = λ b d o p. absurd (subst (λ l. Has l d) (deeds_none b) p);
  word = λ b act o ok s. absurd s;
}

pub lives : {S : Type 0} (g : Ghosts S) (faulty first : ℕ) (start : List State) {rows : List State} {h : List Step}
    → Started first start → Leads g faulty start rows h → Vouched faulty h → Alive faulty first rows h
lives g faulty first start st Leads.begin v = alive_begins faulty first start st
lives g faulty first start st (Leads.next {rows} {rows2} {h} run e t) v = alive_next g faulty first rows rows2 h e (lives g faulty first start st run v.0) t v.1
