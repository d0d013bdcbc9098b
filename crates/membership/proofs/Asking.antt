-- A board always trusts some member: itself.
-- It never suspects itself, and an ask suspects another.
use Rattle.std.proofs.Common.{◌≡◌, ℕ, Bool, true, false, not, ◌&&◌, eqb, sym, ap, ◌∙◌}
use Rattle.std.proofs.lemmas.Bool.{and_from, and_parts, ne_eqb, not_from_false, or_from}
use Rattle.boards.specs.Boards.{member}
use Rattle.row.specs.declared.row.Row.{Row}
use Rattle.row.specs.States.{insert, group, inside}
use Rattle.row.specs.Effects.{trusted}
use Rattle.row.proofs.Chosen.{highest_passes}
use Rattle.row.proofs.Picked.{inserted}

-- A row that suspects another board does not suspect its own.
pub still_trusts : (w : Row) (c r : ℕ) → r ≡ insert w.state.voter.suspects.bits c → (c ≡ w.state.board → ⊥) → member r w.state.board ≡ false
still_trusts w c r e ne =
    let b = w.state.board in
    let s = w.state.voter.suspects.bits in
    ap (λ x. member x b) e ∙ inserted s c b w.seated ∙ or_from (member s b) (eqb b c) w.trusts (ne_eqb b c (λ z. ne (sym z)))

-- So it trusts a member.
pub trusted_member : (w : Row) (suspects t : ℕ) → inside w.state ≡ true → member suspects w.state.board ≡ false → t ≡ trusted w.state suspects → member (group w.state) t ≡ true
trusted_member w suspects t inn out e =
    let passes : ℕ → Bool = λ b. member (group w.state) b && not (member suspects b) in
    ap (member (group w.state)) e ∙ (and_parts _ _ (highest_passes passes 8 w.state.board w.seated (and_from _ _ inn (not_from_false _ out))).1).0
