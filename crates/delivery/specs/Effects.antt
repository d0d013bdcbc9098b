-- What an accepted call of the delivery layer does: what the board then holds of reports, and what is sent to whom.
-- In the order of docs/RULES.md, "Reports and closings": send, finish, init, echo, commit; what a new view does; take.
use Rattle.std.specs.Prelude.{ℕ, true, false, cond, List, [], ◌∷◌, Some, None, Option, ◌==◌, slice_set}
use Rattle.boards.specs.Boards.{size, only}
use Rattle.views.specs.Shares.{quorum}
use Rattle.wire.specs.declared.message.Sort.TheVariants.{Report, End}
use Rattle.wire.specs.Messages.{Msg}
use Rattle.wire.specs.Acts.{Act}
use Rattle.row.specs.declared.state.Count.{Count}
use Rattle.row.specs.declared.state.State.{State}
use Rattle.row.specs.States.{latest, counted, count_tags, no_count}
use Rattle.row.specs.Effects.{Effect}
use Rattle.delivery.specs.Reports.{Content, content, claim, Own, Record, Reports, count_of, now, with_own, with_echo}
use Rattle.delivery.specs.Endings.{left_out, settled}
use Rattle.delivery.specs.Refusals.{readers, next_number}

abbrev pub Outcome : Type 0
Outcome = Reports × Effect

-- A message under the board's next number goes to the members of the delivery view, and echoes are collected for it.
abbrev pub sending : State → Reports → Content → Outcome
sending st d c = (
  with_own d (Some (record { number = next_number st d; content = c; collecting = true; echoes = no_count })),
  Effect.signs (readers st d) (Act.init (now d) st.board (next_number st d) c.sort c.payload) 0 [],
)

-- A send; a finish, whose claim is the count for the board that the next view leaves out, 0 if there is none.
abbrev pub reporting : State → Reports → List ℕ → Outcome
reporting st d p = sending st d (content Report p)

abbrev pub finish_claim : State → Reports → ℕ
finish_claim st d = count_of d (left_out st.views (now d))

abbrev pub ending : State → Reports → Outcome
ending st d = sending st d (content End (finish_claim st d ∷ []))

-- An init is echoed to its sender; the content stays until a delivery.
abbrev pub echoing : Reports → ℕ → ℕ → Content → Outcome
echoing d s n c = (with_echo d s (Some c), Effect.signs (only s) (Act.echo (now d) s n c.sort c.payload) 0 [])

-- An echo is collected; once the echoes are a quorum, the message is committed to the members of the delivery view, and no more are collected.
abbrev pub own_with : Own → Count → Own
own_with o e = record o { echoes = e }

abbrev pub own_done : Own → Own
own_done o = record o { collecting = false; echoes = no_count }

abbrev pub with_echoes : State → Reports → Own → Count → Outcome
with_echoes st d o e =
    cond (size e.set.bits == quorum (size (readers st d))) (
      with_own d (Some (own_done o)),
      Effect.sends (readers st d) (Msg.commit (now d) st.board o.number o.content.sort o.content.payload e.set.bits (count_tags e)),
    )
    (with_own d (Some (own_with o e)), Effect.silent)

abbrev pub collects : State → Reports → Option Own → ℕ → ℕ → Outcome
collects st d None b t = (d, Effect.silent)
collects st d (Some o) b t = with_echoes st d o (counted o.echoes b t)

-- A delivery: the count rises, what was echoed under the number is forgotten, an end ends its sender with its claim, and the record is out.
abbrev pub delivered : Reports → ℕ → ℕ → Content → Reports
delivered d s n c =
    record d {
      counts = slice_set d.counts s n;
      echoed = slice_set d.echoed s None;
      claims = slice_set d.claims s (claim c);
      out = Some (record { view = now d; sender = s; number = n; content = c });
    }

-- Then the board may be done with its delivery view.
abbrev pub delivering : State → Reports → ℕ → ℕ → Content → Outcome
delivering st d s n c = (settled st.views st.board (delivered d s n c), Effect.silent)

-- What a call of the membership layer makes of the reports, x being the latest view before it: where it made the next view, the board may be done with its delivery view.
abbrev pub followed : ℕ → State → Reports → Reports
followed x st d = cond (latest st == x) d (settled st.views st.board d)

-- What a take answers; zeros where no record is out.
abbrev pub no_record : Record
no_record = record { view = 0; sender = 0; number = 0; content = content Report [] }

abbrev pub taken : Option Record → Record
taken None = no_record
taken (Some r) = r
