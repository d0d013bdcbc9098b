-- The table of codes: each refusal with its number and its name.
-- Names are bytes of ASCII text.
use Rattle.std.specs.Prelude.{ℕ, List, Some, None, codes, Option}
use Rattle.grammar.specs.declared.fault.Fault.{Fault}
use Rattle.codes.specs.declared.Refusal.{Refusal}
use Rattle.codes.specs.declared.Refusal.TheVariants.{Board, Row, Out, Long, Form, View, Member, Change, Turn, Late, Order, Known, Double, Size, Split, Tag, Spent}

-- A code: its number, its name, and the fault that it tells, if any.
pub record Code : Type 0 where
  pub number : ℕ
  pub name : List ℕ
  pub fault : Option Fault

abbrev code : ℕ → List ℕ → Code
code n t = record { number = n; name = t; fault = None }

-- The seventeen codes. FORM alone tells more: the fault, with its layer and place.
abbrev pub code_of : Refusal → Code
code_of Board = code 1 (codes "BOARD")
code_of Row = code 2 (codes "ROW")
code_of Out = code 3 (codes "OUT")
code_of Long = code 4 (codes "LONG")
code_of (Form f) = record { number = 5; name = codes "FORM"; fault = Some f }
code_of View = code 6 (codes "VIEW")
code_of Member = code 7 (codes "MEMBER")
code_of Change = code 8 (codes "CHANGE")
code_of Turn = code 9 (codes "TURN")
code_of Late = code 10 (codes "LATE")
code_of Order = code 11 (codes "ORDER")
code_of Known = code 12 (codes "KNOWN")
code_of Double = code 13 (codes "DOUBLE")
code_of Size = code 14 (codes "SIZE")
code_of Split = code 15 (codes "SPLIT")
code_of Tag = code 16 (codes "TAG")
code_of Spent = code 17 (codes "SPENT")

abbrev pub number_of : Refusal → ℕ
number_of r = (code_of r).number

abbrev pub name_of : Refusal → List ℕ
name_of r = (code_of r).name

abbrev pub fault_of : Refusal → Option Fault
fault_of r = (code_of r).fault
