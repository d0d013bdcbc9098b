-- The speaker's set and entry in the head, then its tag, then the proof.
-- The tag is eight bytes, since the set is of one board.
use Rattle.std.proofs.Common.{◌≡◌, ℕ, ◌<◌, true, List, [], ◌∷◌, ◌++◌, ◌*◌, Option, length, sym, refl, ◌∙◌, arith}
use Rattle.std.proofs.lemmas.Bool.{both_ways, eq-eqb, eqb-true}
use Rattle.boards.specs.Boards.{size}
use Rattle.grammar.specs.Grammar.{Grammar, Item, from_to}
use Rattle.grammar.proofs.Held.{held, rest_after}
use Rattle.head.specs.declared.number.Head.{Head}
use Rattle.head.specs.Heads.{Begins, Holds, Joined}
use Rattle.head.specs.Shapes.{Entered, entry_byte, entry_values}
use Rattle.head.proofs.Steps.{wide_as}
use Rattle.wire.specs.declared.message.Entry.{Entry}
use Rattle.wire.specs.Fields.{lone, proof}
use Rattle.wire.specs.Messages.{tags_by}
use Rattle.wire.specs.Format.{message, opening, set_values}
use Rattle.layout.proofs.Fronts.{tagged, with_set}
use Rattle.layout.proofs.Seals.{any_set, unlaid}
use Rattle.layout.proofs.Allowed.{lone_one}
use Rattle.layout.proofs.lay.last.Goals as goal

-- what comes after the entry: its tag, and a proof
abbrev after : ℕ → Grammar
after e = Grammar.part 8 (λ _. proof e Grammar.done)

-- the fields before its tag
abbrev front : ℕ → ℕ → ℕ → List Item
front v r s = opening 9 v (Item.num 4 r ∷ Item.num 8 s ∷ [])

closes : {v r b s : ℕ} {k : ℕ → Grammar} {h : Head} {o : Option Head} → Holds message h (opening 9 v (Item.num 4 r ∷ [])) (Grammar.field 8 lone k) → b ≡ s → Joined h 8 b (from_to 0 255 b) o → lone s ≡ true → s < 256 → Begins message (front v r s) (k s) o
closes p e j l b = with_set p e j (l ∙ sym (any_set b))

enters : {v r s : ℕ} {h : Head} {e : Entry} {o : Option Head} → Holds message h (front v r s) (entry_byte after) → Entered h e o → Begins message (front v r s ++ entry_values e) (after e.earlier) o
enters p n = n.begins _ _ after (omega arith, omega (arith, wide_as p)) p

pub returns-in_err-of : goal.returns-in_err-of
returns-in_err-of c = λ v r p o. unlaid _ c.from_residual.ensures ((closes p c.from.ensures c.in_err-of.ensures o (omega arith)).none refl)

pub returns-in_err-head : goal.returns-in_err-head
returns-in_err-head c = λ v r p o.
    let set = (closes p c.from.ensures c.in_ok-of.ensures o (omega arith)).holds _ refl in
    unlaid (Item.raw (tags_by c.args.own) ∷ set_values c.args.proof.set.bits (tags_by c.args.proof)) c.from_residual-in_err-head.ensures ((enters set c.in_err-head.ensures).none refl)

pub returns-then-not-fits : goal.returns-then-not-fits
returns-then-not-fits c = λ v r p o a.
    let set = (closes p c.from.ensures c.in_ok-of.ensures o (omega arith)).holds _ refl in
    let entry = (enters set c.in_ok-head.ensures).holds _ refl in
    let long = (held (rest_after (Item.raw (tags_by c.args.own) ∷ set_values c.args.proof.set.bits (tags_by c.args.proof)) entry.goes a)).0 in
    both_ways _ (sym c.fits.ensures.told ∙ c.if-not-fits.true) (eq-eqb _ _ (omega (arith, long, lone_one c.args.own.set.bits o)))

pub returns : goal.returns
returns c = λ v r p o.
    let set = (closes p c.from.ensures c.in_ok-of.ensures o (omega arith)).holds _ refl in
    let entry = (enters set c.in_ok-head.ensures).holds _ refl in
    let long : length (tags_by c.args.own) ≡ 8 * size c.args.own.set.bits = eqb-true _ _ (sym c.fits.ensures.told ∙ c.if-not-fits.false) in
    c.proven.ensures _ (tagged c.args.own entry refl c.fits.ensures.fit (omega (arith, long, lone_one c.args.own.set.bits o)))
