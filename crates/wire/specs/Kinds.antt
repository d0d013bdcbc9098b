-- The kinds of messages: their numbers on the backplane, and their names.
-- A reader holds both lists against docs/FRAMES.md, "Kinds".
use Rattle.std.specs.Prelude.{◌≡◌, ℕ, ◌<◌, ◌≤◌, List, codes, Result, MatchResult}
use Rattle.wire.specs.declared.kind.Kind.{Kind}
use Rattle.wire.specs.declared.kind.Kind.TheVariants.{Notify, Suggest, Ack, Proposal, Ready, Change, Deputy, Query, Last, SuggestLast, Init, Echo, Commit}
use Rattle.wire.specs.declared.kind.Unknown.{Unknown}

-- The number of each kind.
abbrev pub kind_number : Kind → ℕ
kind_number Notify = 1
kind_number Suggest = 2
kind_number Ack = 3
kind_number Proposal = 4
kind_number Ready = 5
kind_number Change = 6
kind_number Deputy = 7
kind_number Query = 8
kind_number Last = 9
kind_number SuggestLast = 10
kind_number Init = 11
kind_number Echo = 12
kind_number Commit = 13

-- Its name.
abbrev pub kind_name : Kind → List ℕ
kind_name Notify = codes "notify"
kind_name Suggest = codes "suggest"
kind_name Ack = codes "ack"
kind_name Proposal = codes "proposal"
kind_name Ready = codes "ready"
kind_name Change = codes "change"
kind_name Deputy = codes "deputy"
kind_name Query = codes "query"
kind_name Last = codes "last"
kind_name SuggestLast = codes "suggest-last"
kind_name Init = codes "init"
kind_name Echo = codes "echo"
kind_name Commit = codes "commit"

-- The kind with a number; no kind exactly if it is not 1 to 13.
abbrev pub KindNumbered : ℕ → Result Kind Unknown → Type 0
KindNumbered n r = MatchResult r (λ k. kind_number k ≡ n) (λ e. (e.0 ≡ n) × (1 ≤ n → 13 < n))
