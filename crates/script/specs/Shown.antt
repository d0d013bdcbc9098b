-- Messages as text: the name of the kind, then the fields of the kind in their order.
-- A message's meaning decides its text; where its bytes lie does not.
use Rattle.std.specs.Prelude.{ℕ, List, ◌++◌, codes, decimal}
use Prim.Native.String.{String}
use Rattle.wire.specs.declared.kind.Kind.{Kind}
use Rattle.wire.specs.declared.kind.Kind.TheVariants.{Notify, Suggest, Ack, Proposal, Ready, Change, Deputy, Query, Last, SuggestLast, Init, Echo, Commit}
use Rattle.wire.specs.declared.message.Entry.{Entry}
use Rattle.wire.specs.declared.message.Sort.{Sort}
use Rattle.wire.specs.Kinds.{kind_name}
use Rattle.wire.specs.Messages.{Msg, Reply, sort_name}
use Rattle.script.specs.Texts.{field, boards_text, tags_text, entry_text, entries_text, replied_text, payload_text}

-- A field that is a number.
abbrev pub number : String → ℕ → List ℕ
number name n = field (codes name) (decimal n)

-- The kind's name and the view.
abbrev pub opening : Kind → ℕ → List ℕ
opening kind v = kind_name kind ++ number "view" v

-- A board's own tag, and a lone kind's speaker with it.
abbrev pub own_tag : List ℕ → List ℕ
own_tag t = field (codes "tag") (tags_text t)

abbrev pub spoken : ℕ → List ℕ → List ℕ
spoken s t = number "from" s ++ own_tag t

-- A set and the tags of its boards.
abbrev pub gathered : ℕ → List ℕ → List ℕ
gathered s t = field (codes "set") (boards_text s) ++ field (codes "tags") (tags_text t)

-- A proof: the boards that acknowledged, and their tags.
abbrev pub proof_text : ℕ → List ℕ → List ℕ
proof_text p a = field (codes "proof") (boards_text p) ++ field (codes "prooftags") (tags_text a)

abbrev pub reply_of : Entry → List ℕ → Reply
reply_of e t = record { entry = e; tag = t }

-- A speaker with its entry and its tag.
abbrev pub reply_text : ℕ → Reply → List ℕ
reply_text s e = number "from" s ++ (field (codes "entry") (entry_text e.entry) ++ own_tag e.tag)

-- A set with the entries of its boards and their tags.
abbrev pub replies_text : ℕ → List Reply → List ℕ
replies_text s es =
    field (codes "set") (boards_text s) ++ (field (codes "entries") (entries_text es) ++ field (codes "tags") (replied_text es))

-- What a sender's message carries.
abbrev pub content_text : ℕ → ℕ → Sort → List ℕ → List ℕ
content_text s n k p = number "sender" s ++ (number "number" n ++ (field (codes "sort") (sort_name k) ++ payload_text p))

-- Rank, and rank and change.
abbrev pub ranked : Kind → ℕ → ℕ → List ℕ
ranked kind v r = opening kind v ++ number "rank" r

abbrev pub graded : Kind → ℕ → ℕ → ℕ → List ℕ
graded kind v r c = ranked kind v r ++ number "change" c

-- The thirteen kinds.
abbrev pub shown : Msg → List ℕ
shown (Msg.notify v c s t) = opening Notify v ++ (number "change" c ++ spoken s t)
shown (Msg.suggest v c s t) = opening Suggest v ++ (number "change" c ++ gathered s t)
shown (Msg.ack v r c s t) = graded Ack v r c ++ spoken s t
shown (Msg.proposal v r c s t) = graded Proposal v r c ++ gathered s t
shown (Msg.ready v r c s t) = graded Ready v r c ++ spoken s t
shown (Msg.change v r c s t) = graded Change v r c ++ gathered s t
shown (Msg.deputy v r s t) = ranked Deputy v r ++ spoken s t
shown (Msg.query v r s t) = ranked Query v r ++ gathered s t
shown (Msg.last v r s e p a) = ranked Last v r ++ (reply_text s e ++ proof_text p a)
shown (Msg.suggest_last v r s es p a) = ranked SuggestLast v r ++ (replies_text s es ++ proof_text p a)
shown (Msg.init v s n k p t) = opening Init v ++ (content_text s n k p ++ own_tag t)
shown (Msg.echo v s n k p b t) = opening Echo v ++ (content_text s n k p ++ spoken b t)
shown (Msg.commit v s n k p b t) = opening Commit v ++ (content_text s n k p ++ gathered b t)
