-- Digits and changes, one after another.
-- What is done so far goes on with what is left.
use Rattle.std.proofs.Common.{◌≡◌, ℕ, ◌<◌, false, eqb, List, [], ◌∷◌, ◌++◌, IfOk, MatchResult, Ok, Err, Result, sym, refl, ap, ◌∙◌, subst, inl}
use Rattle.std.proofs.lemmas.Bool.{both_ways, eq-eqb, leb-false, or_left, or_parts}
use Rattle.std.specs.declared.alloc.AllocError.{AllocError}
use Rattle.boards.specs.declared.Set.{Set}
use Rattle.boards.specs.Boards.{member, size}
use Rattle.boards.proofs.Members.{member_none}
use Rattle.boards.proofs.Sets.{no_member}
use Rattle.codes.specs.declared.Refusal.{Refusal}
use Rattle.views.specs.declared.history.History.{History}
use Rattle.views.specs.declared.view.View.{View}
use Rattle.views.specs.Groups.{NoView}
use Rattle.views.specs.Histories.{begun, grown, Open, Shut}
use Rattle.script.specs.declared.answer.Answer.{Answer}
use Rattle.script.specs.declared.answer.Answer.TheVariants.{Viewed, Refused}
use Rattle.script.specs.declared.answer.Answered.{Answered}
use Rattle.script.specs.declared.group.Group.{Group}
use Rattle.script.specs.Outcomes.{answer_line}
use Rattle.groups.specs.Groups.{board_of, named, strange, Begins, Latest, Changes, Answers}

-- the boards of digits, all of which stand for boards
pub record Gathered (ds : List ℕ) (s : ℕ) : Type 0 where
  pub none : strange ds ≡ false
  pub each : (b : ℕ) → b < 8 → member s b ≡ named ds b

pub gathered_none : Gathered [] 0
gathered_none = record { none = refl; each = λ b l. member_none b }

-- a set without boards is of no digits
no_digit : (ds : List ℕ) (s : ℕ) → Gathered ds s → size s ≡ 0 → ds ≡ []
no_digit [] s g z = refl
no_digit (d ∷ ds) s g z =
    let b = board_of d in
    let small : b < 8 = leb-false 8 b (or_parts _ _ g.none).0 in
    absurd (both_ways (member s b) (no_member s b z) (g.each b small ∙ or_left (eqb b b) _ (eq-eqb b b refl)))

pub begins : (ds : List ℕ) (s : Set) (r : Result View Refusal) → Gathered ds s.bits → MatchResult r (λ v. v.set ≡ s) (λ e. NoView s.bits e) → Begins ds r
begins ds s (Ok v) g is = (g.none, λ b l. ap (λ t. member t.bits b) is ∙ g.each b l)
begins ds s (Err e) g is = (inl (no_digit ds s.bits g is.0), is.1)

-- from here on, and so from the start
pub record Going (n : ℕ) (first : History) (all start : List ℕ) (h : History) (rest text : List ℕ) : Type 0 where
  pub on : (end : List ℕ) (a : Answer) → Changes n h rest text end a → Changes n first all start end a

pub going_none : (n : ℕ) (h : History) (all text : List ℕ) → Going n h all text h all text
going_none n h all text = record { on = λ end a c. c }

module _ {n : ℕ} {first : History} {all start : List ℕ} {h : History} {rest text : List ℕ} {g : Group} (so : Going n first all start h rest text) (latest : Latest h g) where
  -- one change more
  pub going_more : {h2 : History} {end : List ℕ} {b d : ℕ} {ds : List ℕ} → rest ≡ d ∷ ds → b ≡ board_of d → end ≡ text ++ answer_line n (Viewed g) → Open h b × (h2 ≡ grown h b) → Going n first all start h2 ds end
  going_more {h2} {end} {b} {d} {ds} is digit line may = record {
    on = λ last a c.
        let here : Changes n (grown h (board_of d)) ds (text ++ answer_line n (Viewed g)) last a =
        subst (λ t. Changes n (grown h (board_of d)) ds t last a) line (subst (λ k. Changes n k ds end last a) (may.1 ∙ ap (grown h) digit) c) in
        so.on last a (subst (λ r. Changes n h r text last a) (sym is) (Changes.more latest (subst (Open h) digit may.0) here));
  }

  -- the first that is refused
  pub going_shut : {end : List ℕ} {b d : ℕ} {ds : List ℕ} {e : Refusal} → rest ≡ d ∷ ds → b ≡ board_of d → end ≡ text ++ answer_line n (Viewed g) → Shut h b e → Changes n first all start end (Refused e)
  going_shut {end} {b} {d} {ds} {e} is digit line not =
      subst (λ t. Changes n first all start t (Refused e)) (sym line)
      (so.on _ _
      (subst (λ r. Changes n h r text (text ++ answer_line n (Viewed g)) (Refused e)) (sym is)
      (Changes.shut latest (subst (λ x. Shut h x e) digit not))))

  -- none left
  pub going_over : rest ≡ [] → Changes n first all start text (Viewed g)
  going_over is = so.on _ _ (subst (λ r. Changes n h r text text (Viewed g)) (sym is) (Changes.over latest))

-- the views of the first one's history
pub answers : {h : History} (n : ℕ) (ms cs text : List ℕ) (v : View) (r : Result Answered AllocError) → Begins ms (Ok v) → h ≡ begun v.set → IfOk r (λ a. Changes n h cs text a.text.items a.last)
    → IfOk r (λ a. Answers n ms cs text a.text.items a.last)
answers n ms cs text v (Ok a) begin is c =
    inl (v, begin, subst (λ k. Changes n k cs text a.text.items a.last) is c)
answers n ms cs text v (Err e) begin is c = tt
