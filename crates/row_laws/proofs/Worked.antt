-- The examples, worked out: what they say of a row is computed at each of the five boards.
-- That their messages are formed is computed field by field.
use Rattle.std.proofs.Common.{◌≡◌, ℕ, zero, suc, ◌<◌, true, List, [], ◌∷◌, replicate, Some, refl, arith}
use Rattle.std.specs.List.{AllByRecursion}
use Rattle.std.proofs.lemmas.Bool.{false≢true}
use Rattle.boards.specs.Boards.{boards, passing, any, member, size, place, tally}
use Rattle.boards.proofs.Members.{member_below}
use Rattle.views.specs.Shares.{share, quorum}
use Rattle.views.specs.Histories.{begun, members_of, members_from}
use Rattle.codes.specs.declared.Refusal.TheVariants.{Late}
use Rattle.grammar.specs.Grammar.{Grammar, Item, After, from_to}
use Rattle.wire.specs.Fields.{tagged, entered, entries}
use Rattle.wire.specs.Messages.{none}
use Rattle.wire.specs.Format.{Formed, set_values, reply_values, replies_values}
use Rattle.wire.specs.Acts.{Act, lowest}
use Rattle.wire.specs.Examples.{kept}
use Rattle.row.specs.States.{latest_members, highest}
use Rattle.row_laws.specs.Examples.{five, four, two, tags, told, the_suggest, proposal_of, the_query, one_kept, none_kept, refused, Leaves, Answers, new, suggested, proposed, queried, Examples}

-- What holds of boards 0 to 4 holds of every member of the view.
each : (P : ℕ → Type 0) → P 0 → P 1 → P 2 → P 3 → P 4 → (b : ℕ) → member five b ≡ true → P b
unfolding member
each P p q r s t zero h = p
each P p q r s t (suc zero) h = q
each P p q r s t (suc (suc zero)) h = r
each P p q r s t (suc (suc (suc zero))) h = s
each P p q r s t (suc (suc (suc (suc zero)))) h = t
each P p q r s t (suc (suc (suc (suc (suc zero))))) h = absurd (false≢true h)
each P p q r s t (suc (suc (suc (suc (suc (suc zero)))))) h = absurd (false≢true h)
each P p q r s t (suc (suc (suc (suc (suc (suc (suc zero))))))) h = absurd (false≢true h)
each P p q r s t (suc (suc (suc (suc (suc (suc (suc (suc b)))))))) h = absurd (omega (arith, member_below five (suc (suc (suc (suc (suc (suc (suc (suc b)))))))) h))

zeros_fit : (n : ℕ) → AllByRecursion (λ x. x < 256) (replicate n 0)
zeros_fit zero = tt
zeros_fit (suc n) = (omega arith, zeros_fit n)

-- The sets of the messages with their tags.
two_tagged : After (tagged Grammar.done) (set_values two (tags 2)) Grammar.done
unfolding size tally member
two_tagged = After.then_num (omega arith) refl (After.then_raw refl (zeros_fit 16) After.start)

four_tagged : After (tagged Grammar.done) (set_values four (tags 4)) Grammar.done
unfolding size tally member
four_tagged = After.then_num (omega arith) refl (After.then_raw refl (zeros_fit 32) After.start)

suggest_formed : Formed the_suggest
suggest_formed = After.then_num (omega arith) refl (After.then_num (omega arith) refl (After.then_num (omega arith) refl (After.then_num (omega arith) refl two_tagged)))

proposal_formed : (rank : ℕ) → rank < 16 → from_to 1 8 rank ≡ true → Formed (proposal_of rank)
proposal_formed rank h ok =
    After.then_num (omega arith) refl (After.then_num (omega arith) refl (After.then_num h ok (After.then_num (omega arith) refl (After.then_num (omega arith) refl four_tagged))))

query_formed : Formed the_query
query_formed = After.then_num (omega arith) refl (After.then_num (omega arith) refl (After.then_num (omega arith) refl two_tagged))

-- Replies of a suggest-last: of a board that kept no proposal, and of one that kept rank 5's.
says_none : {k : ℕ → Grammar} {is : List Item} → After (k 0) is Grammar.done → After (entered k) (reply_values (told none) is) Grammar.done
says_none r = After.then_num (omega arith) refl (After.then_num (omega arith) refl (After.then_num (omega arith) refl (After.then_raw refl (zeros_fit 8) r)))

says_kept : {k : ℕ → Grammar} {is : List Item} → After (k 5) is Grammar.done → After (entered k) (reply_values (told kept) is) Grammar.done
says_kept r = After.then_num (omega arith) refl (After.then_num (omega arith) refl (After.then_num (omega arith) refl (After.then_raw refl (zeros_fit 8) r)))

one_kept_formed : Formed one_kept
unfolding size tally member entries replies_values
one_kept_formed =
    After.then_num (omega arith) refl (After.then_num (omega arith) refl (After.then_num (omega arith) refl (After.then_num (omega arith) refl
    (says_none (says_kept (says_none (says_none (After.then_num (omega arith) refl (After.then_raw refl (zeros_fit 32) After.start)))))))))

none_kept_formed : Formed none_kept
unfolding size tally member entries replies_values
none_kept_formed =
    After.then_num (omega arith) refl (After.then_num (omega arith) refl (After.then_num (omega arith) refl (After.then_num (omega arith) refl
    (says_none (says_none (says_none (says_none (After.then_num (omega arith) refl (After.then_raw refl tt After.start)))))))))

formed : AllByRecursion Formed (the_suggest ∷ proposal_of 5 ∷ the_query ∷ proposal_of 4 ∷ one_kept ∷ none_kept ∷ [])
formed = (suggest_formed, (proposal_formed 5 (omega arith) refl, (query_formed, (proposal_formed 4 (omega arith) refl, (one_kept_formed, (none_kept_formed, tt))))))

pub worked : (board : ℕ) → member five board ≡ true → Examples board
unfolding any boards passing begun latest_members members_of members_from member size place tally share quorum highest lowest
worked board h = record {
  members = refl;
  formed = formed;
  start = refl;
  suggest = each (λ b. Leaves (new b) the_suggest 14) (refl, refl) (refl, refl) (refl, refl) (refl, refl) (refl, refl) board h;
  proposal = each (λ b. Leaves (suggested b) (proposal_of 5) 13) (refl, refl) (refl, refl) (refl, refl) (refl, refl) (refl, refl) board h;
  query = each (λ b. Leaves (proposed b) the_query 12) (refl, refl) (refl, refl) (refl, refl) (refl, refl) (refl, refl) board h;
  late = each (λ b. refused (queried b) (proposal_of 5) ≡ Some Late) refl refl refl refl refl board h;
  lower = each (λ b. Leaves (queried b) (proposal_of 4) 10) (refl, refl) (refl, refl) (refl, refl) (refl, refl) (refl, refl) board h;
  kept_is_acked = each (λ b. Answers (new b) one_kept 3 (Act.ack 1 4 2)) (refl, refl) (refl, refl) (refl, refl) (refl, refl) (refl, refl) board h;
  manager_is_acked = each (λ b. Answers (new b) none_kept 3 (Act.ack 1 4 4)) (refl, refl) (refl, refl) (refl, refl) (refl, refl) (refl, refl) board h;
}
