-- What a script answers: line by line, each call with its answer under its number, and in the end the count.
-- A blank line answers nothing and has no number. Keys that a line gives are kept until another gives keys. Where a call has several answers, all
-- are under its number, and the last is counted.
use Rattle.std.specs.Prelude.{◌≡◌, ℕ, ◌+◌, ◌⊎◌, List, [], ◌++◌, Some, None, Ok, Err, vec_items, Option, Result}
use Rattle.grammar.specs.declared.fault.Fault.{Fault}
use Rattle.wire.specs.Messages.{meaning}
use Rattle.wire.specs.Reads.{Reads}
use Rattle.schemes.specs.Keys.{keyed_good}
use Rattle.codes.specs.declared.Refusal.TheVariants.{Form}
use Rattle.script.specs.declared.answer.Reason.{Reason}
use Rattle.script.specs.declared.answer.Answer.{Answer}
use Rattle.script.specs.declared.answer.Answer.TheVariants.{Heard, Kept, Viewed, Refused, Wrong}
use Rattle.script.specs.declared.call.Call.{Call}
use Rattle.script.specs.declared.call.Call.TheVariants.{Read, Keys, Views}
use Rattle.script.specs.declared.tally.Tally.{Tally}
use Rattle.script.specs.Words.{before, past, body}
use Rattle.script.specs.Hex.{read_hex}
use Rattle.script.specs.Calls.{Parses}
use Rattle.script.specs.Outcomes.{answer_line, tally_line, OneMore}
use Rattle.groups.specs.Groups.{Answers as ViewsAnswers}
use Rattle.flatsat.specs.declared.play.Page.{Page}
use Rattle.flatsat.specs.Audits.{keys_of, Audits}

-- The keys of the boards, once a script gave some.
abbrev pub KeptKeys : Type 0
KeptKeys = Option (List (List ℕ))

-- How far a script has come: the text of its answers, their count, and the keys.
pub record State : Type 0 where
  pub text : List ℕ
  pub tally : Tally
  pub keys : KeptKeys

-- What a page stands for.
abbrev pub state_of : Page → State
state_of p = record { text = vec_items p.text; tally = p.tally; keys = p.keys }

-- The answer to bytes: the message, audited once there are keys, or FORM with the first fault.
abbrev pub Answers : KeptKeys → List ℕ → Answer → Type 0
Answers keys bs (Heard m None) = (keys ≡ None) × Reads bs (Ok (meaning m))
Answers keys bs (Heard m (Some a)) = (ks : List (List ℕ)) × (keys ≡ Some ks) × Reads bs (Ok (meaning m)) × Audits (keyed_good ks) (meaning m) a
Answers keys bs Kept = ⊥
Answers keys bs (Viewed g) = ⊥
Answers keys bs (Refused r) = (f : Fault) × (r ≡ Form f) × Reads bs (Err f)
Answers keys bs (Wrong e) = ⊥

-- How many calls were made.
abbrev pub made : Tally → ℕ
made t = t.ok + t.refused + t.wrong

-- The last answer to what a line was parsed as, and the state in which it is still to be told: the keys are those from then on, and the text
-- has the lines of the answers before it. A blank line has no answer.
abbrev pub Called : State → Result (Option Call) Reason → Answer → State → Type 0
Called s (Ok None) a s' = ⊥
Called s (Ok (Some (Read ds))) a s' = Answers s.keys (read_hex ds.now) a × (s' ≡ s)
Called s (Ok (Some (Keys ds))) a s' = (a ≡ Kept) × (s' ≡ record { text = s.text; tally = s.tally; keys = Some (keys_of (read_hex ds.now)) })
Called s (Ok (Some (Views ms cs))) a s' = ViewsAnswers (made s.tally + 1) ms.now cs.now s.text s'.text a × (s'.tally ≡ s.tally) × (s'.keys ≡ s.keys)
Called s (Err e) a s' = (a ≡ Wrong e) × (s' ≡ s)

-- An answer is told: it is counted, and its line is added to the text with the count as its number.
abbrev pub Told : State → Answer → State → Type 0
Told s a s' = OneMore s.tally a s'.tally × (s'.text ≡ s.text ++ answer_line (made s'.tally) a) × (s'.keys ≡ s.keys)

-- A line is played: nothing changes if it is blank; else it is parsed, called and told.
abbrev pub LinePlayed : List ℕ → State → State → Type 0
LinePlayed line s s' =
    (Parses line (Ok None) × (s' ≡ s))
    ⊎ ((r : Result (Option Call) Reason) × (a : Answer) × (before : State) × Parses line r × Called s r a before × Told before a s')

-- The lines of a script are played one after another.
pub data Plays : List ℕ → State → State → Type 0 where
  over : {s : State} → Plays [] s s
  line : (script : List ℕ) {s s' end : State} → LinePlayed (body (before 10 script)) s s' → Plays (past 10 script) s' end → Plays script s end

-- No answer yet, and no keys.
pub record Fresh (s : State) : Type 0 where
  pub no_text : s.text ≡ []
  pub no_answer : (s.tally.ok ≡ 0) × (s.tally.refused ≡ 0) × (s.tally.wrong ≡ 0)
  pub no_keys : s.keys ≡ None

-- All lines of a script are played, from nothing told before them.
abbrev pub LinesPlayed : List ℕ → State → Type 0
LinesPlayed script end = (start : State) × Fresh start × Plays script start end

-- What a whole script prints: its answers, and then the count of them.
abbrev pub Played : List ℕ → List ℕ → Type 0
Played script printed = (end : State) × LinesPlayed script end × (printed ≡ end.text ++ tally_line end.tally)
