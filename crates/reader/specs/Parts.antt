-- What the parts of messages are: the part was passed, with these items, or it has this first fault.
-- The names of the parts are those of the format.
use Rattle.std.specs.Prelude.{◌≡◌, ℕ, ◌+◌, ◌*◌, List, [], ◌∷◌, Ok, Err, Result}
use Rattle.boards.specs.Boards.{only, size}
use Rattle.grammar.specs.declared.fault.Fault.{Fault}
use Rattle.grammar.specs.Grammar.{Grammar, Item, more, from_to}
use Rattle.wire.specs.declared.message.Content.{Content}
use Rattle.wire.specs.declared.message.Entries.{Entries}
use Rattle.wire.specs.declared.message.Replies.{Replies}
use Rattle.wire.specs.declared.message.Spoken.{Spoken}
use Rattle.wire.specs.declared.message.Tagged.{Tagged}
use Rattle.wire.specs.declared.message.Tags.{Tags}
use Rattle.wire.specs.Fields.{zeros, rank, change, graded, carried, lone_tag, own_tag, proof, entered, entries}
use Rattle.wire.specs.Messages.{Reply, reply_at, tag_by, tags_of, tags_by, replies_of, replies_by}
use Rattle.wire.specs.Format.{graded_values, content_values, set_values, reply_values, replies_values}
use Rattle.reader.specs.declared.place.Reader.{Reader}
use Rattle.reader.specs.declared.place.At.{At}
use Rattle.reader.specs.declared.heads.Graded.{Graded}
use Rattle.reader.specs.declared.parts.Answer.{Answer}
use Rattle.reader.specs.Places.{met, src}

-- A part of the format was passed, with these items, whatever comes after it.
pub record Passed (F : Grammar → Grammar) (is : List Item) (s t : Reader) : Type 0 where
  pub on : (k : Grammar) → met (F k) s ≡ more is (met k t)

-- The same where what comes after it may depend on a number of it.
pub record PassedBy (F : (ℕ → Grammar) → Grammar) (x : ℕ) (is : List Item) (s t : Reader) : Type 0 where
  pub on : (k : ℕ → Grammar) → met (F k) s ≡ more is (met (k x) t)

-- What was read, with items f, up to where the rest begins.
abbrev pub PartOf : {X : Type 0} → (Grammar → Grammar) → (X → List Item) → Reader → Result (X × At 0) Fault → Type 0
PartOf F f s (Ok x) = Passed F (f x.0) s x.1.reader
PartOf F f s (Err e) = (k : Grammar) → met (F k) s ≡ Err e

-- The same where what comes after it may depend on a number n of it.
abbrev pub PartBy : {X : Type 0} → ((ℕ → Grammar) → Grammar) → (X → ℕ) → (X → List Item) → Reader → Result (X × At 0) Fault → Type 0
PartBy F n f s (Ok x) = PassedBy F (n x.0) (f x.0) s x.1.reader
PartBy F n f s (Err e) = (k : ℕ → Grammar) → met (F k) s ≡ Err e

-- The rest of a head in kinds 1 and 2: a 0 bit and the change.
abbrev pub ChangeRead : Reader → Result (ℕ × At 0) Fault → Type 0
ChangeRead s r = PartOf (λ k. zeros 1 (change k)) (λ c. Item.num 1 0 ∷ Item.num 3 c ∷ []) s r

-- In kinds 3 to 6: rank and change.
abbrev pub GradedRead : Reader → Result (Graded × At 0) Fault → Type 0
GradedRead s r = PartOf graded (λ x. graded_values x.rank x.change []) s r

-- In kinds 7 to 10: the rank.
abbrev pub RankRead : Reader → Result (ℕ × At 0) Fault → Type 0
RankRead s r = PartOf rank (λ n. Item.num 4 n ∷ []) s r

-- In kinds 11 to 13: what they carry.
abbrev pub CarriedRead : Reader → Result (Content × At 0) Fault → Type 0
CarriedRead s r = PartBy carried (λ x. x.sender) (λ x. content_values x.sender x.number x.sort x.payload.now []) s r

-- A reply as read.
abbrev pub reply : Answer → Reply
reply x = record { entry = x.entry; tag = x.tag.now }

-- The items of a reply.
abbrev pub items : Reply → List Item
items e = reply_values e []

-- An entry and its tag were passed; where they stand.
pub record Entered (x : Answer) (s t : Reader) : Type 0 where
  pub on : (k : ℕ → Grammar) → met (entered k) s ≡ more (items (reply x)) (met (k x.entry.earlier) t)
  pub found : reply x ≡ reply_at (src s) s.byte
  pub same : src t ≡ src s
  pub moved : t.byte ≡ s.byte + 9

-- An entry and its tag.
abbrev pub AnswerRead : Reader → Result (Answer × At 0) Fault → Type 0
AnswerRead s (Ok x) = Entered x.0 s x.1.reader
AnswerRead s (Err f) = (k : ℕ → Grammar) → met (entered k) s ≡ Err f

-- Entries of n boards were passed, with this highest earlier rank.
pub record All (n : ℕ) (es : Entries) (top : ℕ) (s t : Reader) : Type 0 where
  pub on : (b : ℕ) (k : ℕ → Grammar) → met (entries n 0 k) s ≡ more (replies_values (replies_of b es)) (met (k top) t)

-- Entries of n boards, with their tags.
abbrev pub EntriesRead : ℕ → Reader → Result ((Entries × ℕ) × At 0) Fault → Type 0
EntriesRead n s (Ok x) = All n x.0.0 x.0.1 s x.1.reader
EntriesRead n s (Err f) = (k : ℕ → Grammar) → met (entries n 0 k) s ≡ Err f

-- The format of any set and the entries of its boards.
abbrev pub replied : (ℕ → Grammar) → Grammar
replied k = Grammar.field 8 (from_to 0 255) (λ s. entries (size s) 0 k)

-- Any set and the entries of its boards.
abbrev pub RepliesRead : Reader → Result ((Replies × ℕ) × At 0) Fault → Type 0
RepliesRead s r = PartBy replied (λ x. x.1) (λ x. Item.num 8 x.0.set.bits ∷ replies_values (replies_by x.0)) s r

-- The items of what was read up to the end of a message, or the fault.
abbrev pub items_of : {X : Type 0} → (X → List Item) → Result X Fault → Result (List Item) Fault
items_of f (Ok x) = Ok (f x)
items_of f (Err e) = Err e

-- The last tags of a message, n of them, whichever boards they are of.
abbrev pub TagsRead : ℕ → Reader → Result Tags Fault → Type 0
TagsRead n s r = (b : ℕ) → met (Grammar.part (8 * n) (λ _. Grammar.done)) s ≡ items_of (λ t. Item.raw (tags_of b t) ∷ []) r

-- The items of a set and its tags.
abbrev pub tagged_values : Tagged → List Item
tagged_values q = set_values q.set.bits (tags_by q)

-- The end of a message: a speaker and its tag.
abbrev pub SpokenRead : Reader → Result Spoken Fault → Type 0
SpokenRead s r = met (lone_tag Grammar.done) s ≡ items_of (λ x. set_values (only x.speaker) (tag_by x)) r

-- The end of a message: board b and its tag.
abbrev pub OwnRead : ℕ → Reader → Result Tags Fault → Type 0
OwnRead b s r = met (own_tag b) s ≡ items_of (λ t. set_values (only b) (tags_of (only b) t)) r

-- The end of a message: a set whose byte is from a to b, and its tags.
abbrev pub TaggedRead : ℕ → ℕ → Reader → Result Tagged Fault → Type 0
TaggedRead a b s r = met (Grammar.field 8 (from_to a b) (λ n. Grammar.part (8 * size n) (λ _. Grammar.done))) s ≡ items_of tagged_values r

-- The end of a message: a proof beside this highest earlier rank.
abbrev pub ProofRead : ℕ → Reader → Result Tagged Fault → Type 0
ProofRead e s r = met (proof e Grammar.done) s ≡ items_of tagged_values r
