-- The set of one board and then its tag.
-- No other set may stand there.
use Rattle.std.proofs.Common.{rules, ◌≡◌, ℕ, List, [], ◌∷◌, ◌++◌, Ok, Err, Result, refl, ap, ◌∙◌}
use Rattle.boards.specs.Boards.{only}
use Rattle.grammar.specs.declared.fault.Fault.{Fault}
use Rattle.grammar.specs.Grammar.{Grammar, Item, more, from_to}
use Rattle.wire.specs.declared.message.Tags.{Tags}
use Rattle.wire.specs.Messages.{tags_of}
use Rattle.reader.specs.declared.place.Reader.{Reader}
use Rattle.reader.specs.Places.{Read}
use Rattle.reader.specs.Parts.{items_of, TagsRead, OwnRead}
use Rattle.reader.proofs.Values.{only_one}
use Rattle.reader.proofs.parts.Whole.own.Goals as goal

-- items before those of what was read
more_items : {X : Type 0} (is : List Item) (f : X → List Item) (r : Result X Fault) → more is (items_of f r) ≡ items_of (λ x. is ++ f x) r
more_items is f (Ok x) = refl
more_items is f (Err e) = refl

own_tags : (b : ℕ) {v : ℕ} {s t : Reader} (r : Result Tags Fault) → Read 8 (from_to (only b) (only b)) s v t → TagsRead 1 t r → OwnRead b s r
own_tags b r p h =
    let is = Item.num 8 (only b) ∷ [] in
    (only_one p).on (λ _. Grammar.part 8 (λ _. Grammar.done)) ∙ ap (more is) (h (only b)) ∙ more_items is (λ x. Item.raw (tags_of (only b) x) ∷ []) r

pub returns : goal.returns
returns c = search (rules, own_tags)
