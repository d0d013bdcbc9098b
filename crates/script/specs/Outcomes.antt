-- Answers as text: a message, with its audit if it has one, a view of a group, a refusal by its code, or what is wrong with the line, each after the line's number.
-- The last line of a script counts its calls by their answers.
use Rattle.std.specs.Prelude.{◌≡◌, ℕ, ◌+◌, ◌-◌, ◌^◌, List, [], ◌∷◌, ◌++◌, Some, None, codes, decimal, Option}
use Rattle.grammar.specs.declared.fault.Fault.{Fault}
use Rattle.codes.specs.declared.Refusal.{Refusal}
use Rattle.grammar.specs.Faults.{layer_name}
use Rattle.codes.specs.Codes.{number_of, name_of, fault_of}
use Rattle.wire.specs.Messages.{meaning}
use Rattle.script.specs.declared.answer.Reason.{Reason}
use Rattle.script.specs.declared.answer.Reason.TheVariants.{NotText, UnknownCall, TooFewWords, TooManyWords, NotHexadecimal, OddDigits, NotEightKeys, NotDigits}
use Rattle.script.specs.declared.answer.Answer.{Answer}
use Rattle.script.specs.declared.answer.Answer.TheVariants.{Heard, Kept, Viewed, Refused, Wrong}
use Rattle.script.specs.declared.tally.Tally.{Tally}
use Rattle.script.specs.Lines.{option_text}
use Rattle.script.specs.Shown.{shown}
use Rattle.script.specs.Audits.{audit_text}
use Rattle.script.specs.Groups.{group_text}

-- What is wrong with a line, in plain words.
abbrev pub reason_text : Reason → List ℕ
reason_text NotText = codes "not text"
reason_text UnknownCall = codes "unknown call"
reason_text TooFewWords = codes "too few words"
reason_text TooManyWords = codes "too many words"
reason_text NotHexadecimal = codes "not hexadecimal"
reason_text OddDigits = codes "odd number of digits"
reason_text NotEightKeys = codes "not 256 digits"
reason_text NotDigits = codes "not digits"

-- A fault: its layer and its place.
abbrev pub fault_text : Option Fault → List ℕ
fault_text (Some f) = 32 ∷ (layer_name f.layer ++ 32 ∷ decimal f.place)
fault_text None = []

-- A refusal: number and name of its code, and the fault that it tells.
abbrev pub refusal_text : Refusal → List ℕ
refusal_text r = decimal (number_of r) ++ 32 ∷ (name_of r ++ fault_text (fault_of r))

-- An answer.
abbrev pub answer_text : Answer → List ℕ
answer_text (Heard m a) = shown (meaning m) ++ option_text audit_text a
answer_text Kept = codes "ok"
answer_text (Viewed g) = group_text g
answer_text (Refused r) = codes "refused " ++ refusal_text r
answer_text (Wrong r) = codes "error " ++ reason_text r

-- The line of an answer: the number of the script's line, the answer, a newline.
abbrev pub answer_line : ℕ → Answer → List ℕ
answer_line n a = decimal n ++ 32 ∷ (answer_text a ++ 10 ∷ [])

-- The last line: how many calls, and how many had each kind of answer.
abbrev pub tally_line : Tally → List ℕ
tally_line t =
    decimal (t.ok + t.refused + t.wrong) ++ (codes " calls: " ++ (decimal t.ok ++ (codes " ok, " ++ (decimal t.refused ++ (codes " refused, " ++ (decimal t.wrong ++ (codes " error" ++ 10 ∷ [])))))))

-- Tally u is tally t with one more call that went well.
abbrev pub OneOk : Tally → Tally → Type 0
OneOk t u = (u.ok ≡ t.ok + 1) × (u.refused ≡ t.refused) × (u.wrong ≡ t.wrong)

-- Tally u is tally t with one more answer.
abbrev pub OneMore : Tally → Answer → Tally → Type 0
OneMore t (Heard m a) u = OneOk t u
OneMore t Kept u = OneOk t u
OneMore t (Viewed g) u = OneOk t u
OneMore t (Refused r) u = (u.ok ≡ t.ok) × (u.refused ≡ t.refused + 1) × (u.wrong ≡ t.wrong)
OneMore t (Wrong r) u = (u.ok ≡ t.ok) × (u.refused ≡ t.refused) × (u.wrong ≡ t.wrong + 1)

-- Counting an answer: one more, unless the numbers are at their end.
abbrev pub Counted : Tally → Answer → Option Tally → Type 0
Counted t a (Some u) = OneMore t a u
Counted t a None = t.ok + t.refused + t.wrong ≡ 2 ^ 64 - 1
