-- Entries behind their set are the replies of the set.
-- There are as many as the set has boards.
use Rattle.std.proofs.Common.{rules, ◌≡◌, ℕ, [], ◌∷◌, sym, ap, ◌∙◌}
use Rattle.boards.specs.Boards.{size}
use Rattle.grammar.specs.Grammar.{Item, more, from_to}
use Rattle.grammar.proofs.Steps.{more_more}
use Rattle.wire.specs.declared.message.Entries.{Entries}
use Rattle.wire.specs.Fields.{entries}
use Rattle.wire.specs.Messages.{replies_of}
use Rattle.wire.specs.Format.{replies_values}
use Rattle.reader.specs.declared.place.Reader.{Reader}
use Rattle.reader.specs.Places.{met, Read}
use Rattle.reader.specs.Parts.{All, PassedBy, replied}
use Rattle.reader.proofs.parts.Whole.replies.Goals as goal

behind_set : {b top : ℕ} {s t u : Reader} (n : ℕ) (es : Entries) → n ≡ size b → Read 8 (from_to 0 255) s b t → All n es top t u → PassedBy replied top (Item.num 8 b ∷ replies_values (replies_of b es)) s u
behind_set {b} {top} {s} {t} {u} n es e p a =
    let is = Item.num 8 b ∷ [] in
    record {
      on = λ k.
          p.on (λ m. entries (size m) 0 k) ∙ ap (more is) ((λ i. met (entries (sym e i) 0 k) t) ∙ a.on b k)
          ∙ more_more is (replies_values (replies_of b es)) (met (k top) u);
    }

pub returns : goal.returns
returns c = search (rules, behind_set)
