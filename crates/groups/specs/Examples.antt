-- What is answered of some members and changes, worked out by hand.
-- A reader checks these against docs/SCRIPT.md, "views"; the function `examples_stand` carries them all.
use Rattle.std.specs.Prelude.{◌≡◌, ℕ, List, [], ◌∷◌, ◌++◌, codes}
use Rattle.codes.specs.declared.Refusal.TheVariants.{Board, Change}
use Rattle.script.specs.declared.answer.Answer.{Answer}
use Rattle.script.specs.declared.answer.Answer.TheVariants.{Viewed, Refused}
use Rattle.script.specs.Outcomes.{answer_line}
use Rattle.groups.specs.Groups.{Answers}

-- View v: the set of its members, their share, their quorum and their manager.
abbrev pub view : ℕ → ℕ → ℕ → ℕ → ℕ → Answer
view v s f q m = Viewed (record { view = v; members = record { bits = s }; f = f; q = q; manager = m })

pub record Examples : Type 0 where
  -- Board 2 leaves a group of five: there are two views, and the second is the last answer.
  pub leaves : Answers 1 (codes "01234") (codes "2") [] (answer_line 1 (view 1 0xF8 1 4 4)) (view 2 0xD8 1 3 4)
  -- Their lines.
  pub first_line : answer_line 1 (view 1 0xF8 1 4 4) ≡ codes "1 view 1 members=0,1,2,3,4 n=5 f=1 q=4 manager=4" ++ 10 ∷ []
  pub last_line : answer_line 1 (view 2 0xD8 1 3 4) ≡ codes "1 view 2 members=0,1,3,4 n=4 f=1 q=3 manager=4" ++ 10 ∷ []
  -- A digit that stands twice counts once, and without a change there is view 1 alone.
  pub twice : Answers 1 (codes "3113") [] [] [] (view 1 0x50 0 2 3)
  -- Nobody is no group, and there is no board 8.
  pub nobody : (n : ℕ) (cs text : List ℕ) → Answers n [] cs text text (Refused Board)
  pub no_member : (n : ℕ) (cs text : List ℕ) → Answers n (codes "0182") cs text text (Refused Board)
  -- There is no board 9 to change, and the only member does not leave; what follows is not made.
  pub no_change : (ds : List ℕ) → Answers 1 (codes "2") (codes "9" ++ ds) [] (answer_line 1 (view 1 0x20 0 1 2)) (Refused Board)
  pub only_member : (ds : List ℕ) → Answers 1 (codes "2") (codes "2" ++ ds) [] (answer_line 1 (view 1 0x20 0 1 2)) (Refused Change)
