-- What a board holds of reports: its delivery view, and in it for each sender a count, what was echoed under the next number, and the claim of a delivered end;
-- its own last message with the echoes collected for it; and the record that is out.
use Rattle.std.specs.Prelude.{ℕ, Bool, true, false, cond, ◌&&◌, List, replicate, Some, None, Option, ◌==◌, bytes_eq, nat_le, nat_lt, slice_index_or, slice_set}
use Rattle.boards.specs.Boards.{member}
use Rattle.wire.specs.declared.message.Sort.{Sort}
use Rattle.wire.specs.declared.message.Sort.TheVariants.{Report, End}
use Rattle.wire.specs.Messages.{sort_number}
use Rattle.row.specs.declared.state.Count.{Count}

-- What stands under a number: a report, or an end, whose one byte is its claim.
pub record Content : Type 0 where
  pub sort : Sort
  pub payload : List ℕ

abbrev pub content : Sort → List ℕ → Content
content k p = record { sort = k; payload = p }

abbrev pub same_content : Content → Content → Bool
same_content c d = sort_number c.sort == sort_number d.sort && bytes_eq c.payload d.payload

-- The claim of an end.
abbrev pub claim_in : Sort → List ℕ → Option ℕ
claim_in Report p = None
claim_in End p = Some (slice_index_or p 0 0)

abbrev pub claim : Content → Option ℕ
claim c = claim_in c.sort c.payload

-- The board's last message, whether echoes are collected for it, and those that are.
pub record Own : Type 0 where
  pub number : ℕ
  pub content : Content
  pub collecting : Bool
  pub echoes : Count

-- A message that was delivered.
pub record Record : Type 0 where
  pub view : ℕ
  pub sender : ℕ
  pub number : ℕ
  pub content : Content

pub record Reports : Type 0 where
  pub view : Option ℕ
  pub counts : List ℕ
  pub echoed : List (Option Content)
  pub claims : List (Option ℕ)
  pub own : Option Own
  pub out : Option Record

-- In a new delivery view nothing is counted, echoed, ended or sent; a record that is out stays.
abbrev pub opened : Option ℕ → Option Record → Reports
opened y out = record { view = y; counts = replicate 8 0; echoed = replicate 8 None; claims = replicate 8 None; own = None; out = out }

-- At a start the members of view 1 deliver in it, other boards in none.
abbrev pub started : ℕ → ℕ → Reports
started first b = opened (cond (member first b) (Some 1) None) None

abbrev pub count_of : Reports → ℕ → ℕ
count_of d s = slice_index_or d.counts s 0

abbrev pub echo_of : Reports → ℕ → Option Content
echo_of d s = slice_index_or d.echoed s None

abbrev pub claim_of : Reports → ℕ → Option ℕ
claim_of d s = slice_index_or d.claims s None

-- The delivery view; 0, which is no view, where there is none.
abbrev pub or_zero : Option ℕ → ℕ
or_zero None = 0
or_zero (Some y) = y

abbrev pub now : Reports → ℕ
now d = or_zero d.view

abbrev pub in_view : Option ℕ → ℕ → Bool
in_view None v = false
in_view (Some y) v = v == y

-- A delivery view is one of the 64.
abbrev pub is_view : Option ℕ → Bool
is_view None = true
is_view (Some y) = nat_le 1 y && nat_le y 64

-- The board's last message is an end; it is not delivered here yet; echoes are collected for just this message.
abbrev pub is_end : Sort → Bool
is_end Report = false
is_end End = true

abbrev pub sent_end : Option Own → Bool
sent_end None = false
sent_end (Some o) = is_end o.content.sort

abbrev pub undelivered : Option Own → ℕ → Bool
undelivered None count = false
undelivered (Some o) count = nat_lt count o.number

abbrev pub awaits_echoes : Option Own → ℕ → Content → Bool
awaits_echoes None n c = false
awaits_echoes (Some o) n c = o.collecting && (o.number == n && same_content o.content c)

-- The same but for one part.
abbrev pub with_own : Reports → Option Own → Reports
with_own d o = record d { own = o }

abbrev pub with_echo : Reports → ℕ → Option Content → Reports
with_echo d s c = record d { echoed = slice_set d.echoed s c }

abbrev pub with_out : Reports → Option Record → Reports
with_out d r = record d { out = r }
