-- A call is made, and its last answer told. Keys are kept: their digits are those of 128 bytes, and these are the keys from then on.
-- The laws are in Halves and Turns.
use Rattle.std.proofs.Common.{◌≡◌, ◌+◌, ◌++◌, Some, Ok, Err, refl, ap, ◌∙◌, subst}
use Rattle.script.specs.declared.answer.Answer.TheVariants.{Kept, Wrong}
use Rattle.script.specs.declared.call.Call.TheVariants.{Read, Keys, Views}
use Rattle.script.specs.Calls.{Parses}
use Rattle.script.specs.Words.{body}
use Rattle.script.specs.Hex.{read_hex}
use Rattle.groups.specs.Groups.{Answers as ViewsAnswers}
use Rattle.flatsat.specs.Audits.{keys_of}
use Rattle.flatsat.specs.Plays.{state_of, Answers}
use Rattle.flatsat.proofs.Halves.{eight_keys}
use Rattle.flatsat.proofs.Turns.{call_played}
use Rattle.flatsat.proofs.play.Page.line.Goals as goal
use Rattle.flatsat.proofs.play.Page.line.Goals.{After-deref-in-Ok-Some-Keys}

pub returns-in_ok-bytes-in-Ok-Some-Read : goal.returns-in_ok-bytes-in-Ok-Some-Read
returns-in_ok-bytes-in-Ok-Some-Read c =
    let line = body c.args.line.now in
    let s = state_of c.args.self in
    let ds = c.in-Ok-Some-Read.digits in
    let a = c.heard-answer.result in
    let is : c.parse.result ≡ Ok (Some (Read ds)) = cc in
    let bytes : c.deref.result.now ≡ read_hex ds.now =
    c.deref.ensures.value ∙ c.in_ok-bytes-in-Ok-Some-Read.ensures ∙ ap (λ x. x ++ read_hex ds.now) c.new.ensures.items in
    call_played line s s (Ok (Some (Read ds))) a c.told.result (subst (λ r. Parses line r) is c.parse.ensures)
    (subst (λ bs. Answers c.args.self.keys bs a) bytes (subst (λ k. Answers k c.deref.result.now a) c.as_ref.ensures.value c.heard-answer.ensures), refl) c.told.ensures

pub returns-in_ok-text-in-Ok-Some-Views : goal.returns-in_ok-text-in-Ok-Some-Views
returns-in_ok-text-in-Ok-Some-Views c =
    let line = body c.args.line.now in
    let s = state_of c.args.self in
    let ms = c.in-Ok-Some-Views.members in
    let cs = c.in-Ok-Some-Views.changes in
    let end = c.in_ok-text-in-Ok-Some-Views.field-0 in
    let is : c.parse.result ≡ Ok (Some (Views ms cs)) = cc in
    call_played line s (record { text = end.text.items; tally = s.tally; keys = s.keys }) (Ok (Some (Views ms cs))) end.last c.told-in-Ok-Some-Views.result (subst (λ r. Parses line r) is c.parse.ensures)
    (subst (λ n. ViewsAnswers (n + 1) ms.now cs.now s.text end.text.items end.last) c.calls.ensures c.in_ok-text-in-Ok-Some-Views.ensures, refl, refl) c.told-in-Ok-Some-Views.ensures

pub returns-in-Err : goal.returns-in-Err
returns-in-Err c =
    let s = state_of c.args.self in
    call_played (body c.args.line.now) s s (Err c.in-Err.reason) (Wrong c.in-Err.reason) c.told-in-Err.result c.in-Err.ensures (refl, refl) c.told-in-Err.ensures

-- the line gives keys
says : (c : After-deref-in-Ok-Some-Keys) → Parses (body c.args.line.now) (Ok (Some (Keys c.in-Ok-Some-Keys.digits)))
says c =
    let is : c.parse.result ≡ Ok (Some (Keys c.in-Ok-Some-Keys.digits)) = cc in
    subst (λ r. Parses (body c.args.line.now) r) is c.parse.ensures

-- the bytes that the digits stand for
bytes_are : (c : After-deref-in-Ok-Some-Keys) → c.deref-in-Ok-Some-Keys.result.now ≡ read_hex c.in-Ok-Some-Keys.digits.now
bytes_are c =
    c.deref-in-Ok-Some-Keys.ensures.value
    ∙ c.in_ok-bytes-in-Ok-Some-Keys.ensures
    ∙ ap (λ x. x ++ read_hex c.in-Ok-Some-Keys.digits.now) c.new-in-Ok-Some-Keys.ensures.items

pub keys-requires : goal.keys-requires
keys-requires c = eight_keys c.in-Ok-Some-Keys.digits.now _ (says c).1.3.1.2.1 (bytes_are c)

pub returns-in_ok-bytes-in-Ok-Some-Keys : goal.returns-in_ok-bytes-in-Ok-Some-Keys
returns-in_ok-bytes-in-Ok-Some-Keys c =
    let before = (goal.at.returns-in_ok-bytes-in-Ok-Some-Keys c).After-deref-in-Ok-Some-Keys in
    let s = state_of c.args.self in
    let ds = c.in-Ok-Some-Keys.digits in
    call_played (body c.args.line.now) s (record { text = s.text; tally = s.tally; keys = Some c.keys.result }) (Ok (Some (Keys ds))) Kept c.told-in-Ok-Some-Keys.result (says before)
    (refl, λ i. record { text = s.text; tally = s.tally; keys = Some ((c.keys.ensures ∙ ap keys_of (bytes_are before)) i) }) c.told-in-Ok-Some-Keys.ensures
