-- The fields and parts that messages are made of, each with its width in bits and the values it may have.
-- Each takes what comes after it; where that depends on a value read, it takes a function of the value.
use Rattle.std.specs.Prelude.{ℕ, zero, suc, ◌*◌, max, Bool, cond, ◌==◌}
use Rattle.boards.specs.Boards.{size, only}
use Rattle.grammar.specs.Grammar.{Grammar, from_to}

-- A view's number, 1 to 64.
abbrev pub view : Grammar → Grammar
view k = Grammar.field 8 (from_to 1 64) (λ _. k)

-- Bits that are 0.
abbrev pub zeros : ℕ → Grammar → Grammar
zeros w k = Grammar.field w (from_to 0 0) (λ _. k)

-- A rank, 1 to 8.
abbrev pub rank : Grammar → Grammar
rank k = Grammar.field 4 (from_to 1 8) (λ _. k)

-- The board that joins or leaves.
abbrev pub change : Grammar → Grammar
change k = Grammar.field 3 (from_to 0 7) (λ _. k)

-- Rank and change, in kinds 3 to 6.
abbrev pub graded : Grammar → Grammar
graded k = rank (zeros 5 (change k))

-- How many bytes a payload of a sort has, at least and at most: an end has one byte.
abbrev pub shortest : ℕ → ℕ
shortest sort = cond (sort == 1) 1 0

abbrev pub longest : ℕ → ℕ
longest sort = cond (sort == 1) 1 48

-- The greatest change that an entry may have: none without an earlier rank.
abbrev pub most_change : ℕ → ℕ
most_change earlier = cond (earlier == 0) 0 7

-- Sender, number, sort, length and payload, in kinds 11 to 13. What follows may depend on the sender.
abbrev pub carried : (ℕ → Grammar) → Grammar
carried k =
    Grammar.field 3 (from_to 0 7) (λ sender. Grammar.field 8 (from_to 1 255) (λ _. Grammar.field 3 (from_to 0 1) (λ sort.
    Grammar.field 6 (from_to (shortest sort) (longest sort)) (λ n. Grammar.part n (λ _. k sender)))))

-- A set of just one board.
unfoldable pub lone : ℕ → Bool
lone s = size s == 1

-- Just the speaker, and its tag.
abbrev pub lone_tag : Grammar → Grammar
lone_tag k = Grammar.field 8 lone (λ _. Grammar.part 8 (λ _. k))

-- Just this board, and its tag.
abbrev pub own_tag : ℕ → Grammar
own_tag b = Grammar.field 8 (from_to (only b) (only b)) (λ _. Grammar.part 8 (λ _. Grammar.done))

-- A set, and the tags of its boards.
abbrev pub tagged : Grammar → Grammar
tagged k = Grammar.field 8 (from_to 0 255) (λ s. Grammar.part (8 * size s) (λ _. k))

-- An entry byte and the tag it precedes: without an earlier rank there is no change. What follows may depend on the earlier rank.
abbrev pub entered : (ℕ → Grammar) → Grammar
entered k = Grammar.field 4 (from_to 0 8) (λ e. zeros 1 (Grammar.field 3 (from_to 0 (most_change e)) (λ _. Grammar.part 8 (λ _. k e))))

-- As many entries; what follows may depend on the highest earlier rank.
unfoldable pub entries : ℕ → ℕ → (ℕ → Grammar) → Grammar
entries zero top k = k top
entries (suc n) top k = entered (λ e. entries n (max top e) k)

-- A proof with its tags: it has no boards exactly if there is no earlier rank.
abbrev pub proof : ℕ → Grammar → Grammar
proof top k = Grammar.field 8 (from_to (cond (top == 0) 0 1) (cond (top == 0) 0 255)) (λ s. Grammar.part (8 * size s) (λ _. k))
