-- What the program's values mean, as plain data: a payload is the bytes that it holds.
-- And what a hear answers: what it sent, and whether it says that it delivered.
use Rattle.std.specs.Prelude.{◌≡◌, map, Ok, Err, Some, None, Option, Result, option_map}
use Rattle.bounded.specs.Held.{held}
use Rattle.codes.specs.declared.Refusal.{Refusal}
use Rattle.wire.specs.Messages.{Msg}
use Rattle.row.specs.declared.state.Sent.{Sent}
use Rattle.delivery.specs.Reports as plainly
use Rattle.delivery.specs.Calls.{is_commit}
use Rattle.delivery.specs.declared.content.Content.{Content}
use Rattle.delivery.specs.declared.reports.Heard.{Heard}
use Rattle.delivery.specs.declared.reports.Own.{Own}
use Rattle.delivery.specs.declared.reports.Record.{Record}
use Rattle.delivery.specs.declared.reports.Reports.{Reports}

abbrev pub plain_content : Content → plainly.Content
plain_content c = plainly.content c.sort (held c.payload)

abbrev pub plain_own : Own → plainly.Own
plain_own o = record { number = o.number; content = plain_content o.content; collecting = o.collecting; echoes = o.echoes }

abbrev pub plain_record : Record → plainly.Record
plain_record r = record { view = r.view; sender = r.sender; number = r.number; content = plain_content r.content }

abbrev pub plain : Reports → plainly.Reports
plain d =
    record {
      view = d.view;
      counts = d.counts;
      echoed = map (λ c. option_map plain_content c) d.echoed;
      claims = d.claims;
      own = option_map plain_own d.own;
      out = option_map plain_record d.out;
    }

-- What a hear answers of what it sent.
abbrev pub sent_in : Result Heard Refusal → Result Sent Refusal
sent_in (Ok h) = Ok h.sent
sent_in (Err e) = Err e

-- An accepted hear says that it delivered exactly if the message is a commit.
abbrev pub SaysDelivered : Msg → Option (Result Heard Refusal) → Type 0
SaysDelivered m (Some (Ok h)) = h.delivered ≡ is_commit m
SaysDelivered m (Some (Err e)) = Unit {0}
SaysDelivered m None = Unit {0}
