-- One line of a script after another: what is played so far goes on with what is left.
-- Each line that is played takes a byte of the script at least, and counts one call at most.
use Rattle.std.proofs.Common.{◌≡◌, ℕ, zero, suc, ◌+◌, ◌<◌, ◌≤◌, true, false, not, eqb, List, [], ◌∷◌, length, drop, IfOk, Some, None, Ok, Err, Option, Result, sym, refl, ap, ◌∙◌, subst, inr, ⊎_elim, true≢false, arith, Vec, rules}
use Rattle.std.specs.declared.alloc.AllocError.{AllocError}
use Rattle.std.specs.declared.alloc.Global.{Global}
use Rattle.std.proofs.lemmas.List.{length-drop}
use Rattle.script.specs.declared.answer.Answer.{Answer}
use Rattle.script.specs.declared.answer.Answer.TheVariants.{Heard, Kept, Viewed, Refused, Wrong}
use Rattle.script.specs.declared.answer.Reason.{Reason}
use Rattle.script.specs.declared.call.Call.{Call}
use Rattle.script.specs.declared.tally.Tally.{Tally}
use Rattle.script.specs.declared.call.Call.TheVariants.{Read, Keys, Views}
use Rattle.script.specs.Calls.{Parses}
use Rattle.script.specs.Lines.{Adds}
use Rattle.script.specs.Outcomes.{OneMore, tally_line}
use Rattle.script.specs.Words.{lead, before, past, body}
use Rattle.flatsat.specs.declared.play.Page.{Page}
use Rattle.flatsat.specs.Plays.{State, state_of, made, Called, Told, LinePlayed, Plays, Fresh, LinesPlayed, Played}

-- from here on, and so from the start
pub record Going (script : List ℕ) (start : State) (rest : List ℕ) (s : State) : Type 0 where
  pub on : (end : State) → Plays rest s end → Plays script start end
  pub few : made s.tally + length rest ≤ made start.tally + length script

pub going_none : (script : List ℕ) (start : State) → Going script start script start
going_none script start = record { on = λ end p. p; few = omega arith }

one_call : (t : Tally) (a : Answer) (u : Tally) → OneMore t a u → made u ≤ made t + 1
one_call t (Heard m a) u h = omega (arith, h.0, h.1, h.2)
one_call t Kept u h = omega (arith, h.0, h.1, h.2)
one_call t (Viewed g) u h = omega (arith, h.0, h.1, h.2)
one_call t (Refused r) u h = omega (arith, h.0, h.1, h.2)
one_call t (Wrong e) u h = omega (arith, h.0, h.1, h.2)

-- a call counts nothing before its last answer is told
uncounted : (s s' : State) (r : Result (Option Call) Reason) (a : Answer) → Called s r a s' → s'.tally ≡ s.tally
uncounted s s' (Ok None) a h = absurd h
uncounted s s' (Ok (Some (Read ds))) a h = ap (λ x. x.tally) h.1
uncounted s s' (Ok (Some (Keys ds))) a h = ap (λ x. x.tally) h.1
uncounted s s' (Ok (Some (Views ms cs))) a h = h.1
uncounted s s' (Err e) a h = ap (λ x. x.tally) h.1

counted : (line : List ℕ) (s s' : State) → LinePlayed line s s' → made s'.tally ≤ made s.tally + 1
counted line s s' h =
    ⊎_elim (λ same. omega (arith, ap (λ x. made x.tally) same.1))
    (λ told. omega (arith, ap made (uncounted s told.2 told.0 told.1 told.4), one_call told.2.tally told.1 s'.tally told.5.0)) h

shorter : (s : List ℕ) → 0 < length s → length (past 10 s) + 1 ≤ length s
shorter s h =
    let n = lead (λ b. not (eqb b 10)) s in
    omega (arith, length-drop 1 (drop n s), length-drop n s)

pub some_bytes : (n : ℕ) → false ≡ eqb n 0 → 0 < n
some_bytes zero e = absurd (true≢false (sym e))
some_bytes (suc n) e = omega arith

-- one line more
pub going_more : {script rest line rest' : List ℕ} {start s s' : State} → Going script start rest s → false ≡ eqb (length rest) 0 → line ≡ before 10 rest → LinePlayed (body line) s s' → rest' ≡ past 10 rest → Going script start rest' s'
going_more {script} {rest} {line} {rest'} {start} {s} {s'} g some cut so is =
    let played : LinePlayed (body (before 10 rest)) s s' = subst (λ l. LinePlayed (body l) s s') cut so in
    let left = shorter rest (some_bytes (length rest) some) in
    subst (λ r. Going script start r s') (sym is)
    (record { on = λ end p. g.on end (Plays.line rest played p); few = omega (arith, g.few, counted (body (before 10 rest)) s s' played, left) })

-- a line more leaves less
pub less : (rest rest' : List ℕ) → false ≡ eqb (length rest) 0 → rest' ≡ past 10 rest → length rest' < length rest
less rest rest' some is = omega (arith, ap length is, shorter rest (some_bytes (length rest) some))

none_left : (rest : List ℕ) → true ≡ eqb (length rest) 0 → rest ≡ []
none_left [] e = refl
none_left (b ∷ bs) e = absurd (true≢false (e ∙ search rules))

-- no line left
pub all_played : {script rest : List ℕ} {start end : State} → Going script start rest end → Fresh start → true ≡ eqb (length rest) 0 → LinesPlayed script end
all_played {script} {rest} {start} {end} g fresh some =
    let over : Plays rest end end = subst (λ r. Plays r end end) (sym (none_left rest some)) Plays.over in
    (start, fresh, g.on end over)

-- a line's call is made, and its last answer told
pub call_played : {E : Type 0} (line : List ℕ) (s before : State) (c : Result (Option Call) Reason) (a : Answer) (r : Result Page E) → Parses line c → Called s c a before → IfOk r (λ p. Told before a (state_of p)) → IfOk r (λ p. LinePlayed line s (state_of p))
call_played line s before c a (Ok p) says called told = inr (c, a, before, says, called, told)
call_played line s before c a (Err e) says called told = tt

-- all lines, and then the count
pub printed : (script : List ℕ) (page : Page) (r : Result (Vec ℕ Global) AllocError) → LinesPlayed script (state_of page) → Adds page.text (tally_line page.tally) r → IfOk r (λ v. Played script v.items)
printed script page (Ok v) so h = (state_of page, so, h)
printed script page (Err e) so h = tt
