-- The board of a rank is the one that holds it; past the ranks there is none.
-- From the laws of `seat`.
use Rattle.std.proofs.Common.{◌≡◌, ℕ, Option, Some, None, MatchOption, sym, ap, ◌∙◌, arith, rules}
use Rattle.boards.specs.declared.Set.{Set}
use Rattle.boards.specs.Boards.{only, Holder}
use Rattle.boards.proofs.Members.{only_above}
use Rattle.row.specs.States.{seat, the_set}
use Rattle.row.proofs.Picked.{seat_is, seat_none}
use Rattle.seats.proofs.seat.Goals as goal

seat_only : (v k : ℕ) (o : Option ℕ) (r : Set) (Q : ℕ → Type 0) → Holder v k o → ((b : ℕ) → Q b → r.bits ≡ only b) → MatchOption o (r ≡ the_set 0) Q → r.bits ≡ only (seat v k)
seat_only v k None r Q h one e = ap (λ (x : Set). x.bits) e ∙ sym (ap only (seat_none v k h) ∙ only_above 8 (omega arith))
seat_only v k (Some b) r Q h one e = one b e ∙ ap only (sym (seat_is v k b h))

pub returns : goal.returns
returns c =
    seat_only c.view.result.set.bits c.args.rank c.at.result c.map_or.result _ c.at.ensures (λ b q. search rules) c.map_or.ensures
    ∙ ap (λ w. only (seat w c.args.rank)) c.view.ensures
