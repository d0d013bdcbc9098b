-- Groups as text: the number of the view, the members, and what a group of so many has.
-- How many members there are is told by their set; which shares and which manager they have is said in crate views.
use Rattle.std.specs.Prelude.{ℕ, List, ◌++◌, codes, decimal}
use Rattle.boards.specs.Boards.{size}
use Rattle.script.specs.declared.group.Group.{Group}
use Rattle.script.specs.Texts.{field, boards_text}
use Rattle.script.specs.Shown.{number}

-- How many members, how many of them may be faulty, and how many make a quorum.
abbrev pub counts_text : Group → List ℕ
counts_text g = number "n" (size g.members.bits) ++ (number "f" g.f ++ number "q" g.q)

-- A view: its number, its members, their counts, and its manager.
abbrev pub group_text : Group → List ℕ
group_text g =
    codes "view " ++ (decimal g.view ++ (field (codes "members") (boards_text g.members.bits) ++ (counts_text g ++ number "manager" g.manager)))
