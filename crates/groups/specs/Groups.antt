-- What is answered of a group and its changes: a line for each view, all under one number; the last answer is counted.
-- Which views there are is said in crate views: the history of view 1, grown by each change, up to the first that it is shut to.
use Rattle.std.specs.Prelude.{◌≡◌, ℕ, ◌-◌, ◌<◌, Bool, true, false, ◌⊎◌, List, [], ◌∷◌, ◌++◌, Ok, Err, Result, ◌==◌, nat_le}
use Rattle.std.specs.List.{list_any}
use Rattle.boards.specs.Boards.{member, size}
use Rattle.codes.specs.declared.Refusal.{Refusal}
use Rattle.codes.specs.declared.Refusal.TheVariants.{Board}
use Rattle.views.specs.declared.history.History.{History}
use Rattle.views.specs.declared.view.View.{View}
use Rattle.views.specs.Groups.{Manager}
use Rattle.views.specs.Histories.{members_of, begun, grown, Open, Shut}
use Rattle.views.specs.Shares.{share, quorum}
use Rattle.script.specs.declared.answer.Answer.{Answer}
use Rattle.script.specs.declared.answer.Answer.TheVariants.{Viewed, Refused}
use Rattle.script.specs.declared.group.Group.{Group}
use Rattle.script.specs.Outcomes.{answer_line}

-- The board of a digit; 8 and 9 are no boards.
abbrev pub board_of : ℕ → ℕ
board_of d = d - 48

-- Whether some digit stands for board b, and whether some digit stands for no board.
abbrev pub named : List ℕ → ℕ → Bool
named ds b = list_any (λ d. b == board_of d) ds

abbrev pub strange : List ℕ → Bool
strange ds = list_any (λ d. nat_le 8 (board_of d)) ds

-- The first view has the boards named, each once; BOARD where there is none, and where a digit stands for no board.
abbrev pub Begins : List ℕ → Result View Refusal → Type 0
Begins ds (Ok v) = (strange ds ≡ false) × ((b : ℕ) → b < 8 → member v.set.bits b ≡ named ds b)
Begins ds (Err e) = ((ds ≡ []) ⊎ (strange ds ≡ true)) × (e ≡ Board)

-- What the line of a history's latest view shows.
pub record Latest (h : History) (g : Group) : Type 0 where
  pub number : g.view ≡ h.latest
  pub members : g.members.bits ≡ members_of h h.latest
  pub faulty : g.f ≡ share (size (members_of h h.latest))
  pub enough : g.q ≡ quorum (size (members_of h h.latest))
  pub leads : Manager (members_of h h.latest) g.manager

-- Changes of a history, one after another: from the text before to the text with every line but the last, and that last answer.
-- Where no change is left it is the latest view; where one is refused it is the refusal, and those after it are not made.
pub data Changes (n : ℕ) : History → List ℕ → List ℕ → List ℕ → Answer → Type 0 where
  over : {h : History} {text : List ℕ} {g : Group} → Latest h g → Changes n h [] text text (Viewed g)
  shut : {h : History} {text : List ℕ} {g : Group} {d : ℕ} {ds : List ℕ} {e : Refusal} → Latest h g → Shut h (board_of d) e
      → Changes n h (d ∷ ds) text (text ++ answer_line n (Viewed g)) (Refused e)
  more : {h : History} {text end : List ℕ} {g : Group} {d : ℕ} {ds : List ℕ} {a : Answer} → Latest h g → Open h (board_of d)
      → Changes n (grown h (board_of d)) ds (text ++ answer_line n (Viewed g)) end a → Changes n h (d ∷ ds) text end a

-- What is answered of members and changes: the views from the first on, or its refusal alone.
abbrev pub Answers : ℕ → List ℕ → List ℕ → List ℕ → List ℕ → Answer → Type 0
Answers n ms cs text end a =
    ((v : View) × Begins ms (Ok v) × Changes n (begun v.set) cs text end a)
    ⊎ ((e : Refusal) × Begins ms (Err e) × (end ≡ text) × (a ≡ Refused e))
