-- How many of some boards' tags are good for words.
-- A board that stands twice counts twice.
use Rattle.std.specs.Prelude.{ℕ, List, count_by}
use Rattle.schemes.specs.Meaning.{Good}
use Rattle.schemes.specs.declared.counts.Tagged.{Tagged}

-- The number of good ones among the tags.
abbrev pub good_count : Good → List ℕ → List Tagged → ℕ
good_count good words tags = count_by (λ (t : Tagged). good t.board words t.tag) tags
