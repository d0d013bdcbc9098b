-- The laws of the bytes of messages, and of the words that boards sign.
-- Each is the contract of a function in src/laws.rt, so that none of them can stay unproved.
use Rattle.std.specs.Prelude.{◌≡◌, ℕ, ◌<◌, ◌≤◌, true, ◌⊎◌, List, ◌++◌, length, take, Ok, Err, Result}
use Rattle.boards.specs.Boards.{member}
use Rattle.grammar.specs.declared.fault.Layer.TheVariants.{Bytes, Field}
use Rattle.grammar.specs.declared.fault.Fault.{Fault}
use Rattle.grammar.specs.Bits.{bits}
use Rattle.grammar.specs.Grammar.{NotAllowed, fault}
use Rattle.wire.specs.Messages.{Msg}
use Rattle.wire.specs.Format.{message, Formed, form}
use Rattle.wire.specs.Reads.{ByteList, Reads}
use Rattle.wire.specs.Acts.{Act, Allowed, words, signers, act_of, proof_of, proved_act}

-- There is an answer to any bytes, and only one.
abbrev pub OneAnswer : Type 0
OneAnswer = (bs : List ℕ) → (ByteList bs → (r : Result Msg Fault) × Reads bs r) × ((r s : Result Msg Fault) → Reads bs r → Reads bs s → r ≡ s)

-- What is written is read back, what is read was written so, and two formed messages with the same bytes are the same.
abbrev pub RoundTrip : Type 0
RoundTrip =
    ((m : Msg) → Formed m → ByteList (form m) × Reads (form m) (Ok m)) × ((bs : List ℕ) (m : Msg) → Reads bs (Ok m) → bs ≡ form m)
    × ((m m' : Msg) → Formed m → Formed m' → form m ≡ form m' → m ≡ m')

-- The first l bytes of a longer message lack bytes from l on.
abbrev pub CutShort : Type 0
CutShort = (m : Msg) (l : ℕ) → Formed m → l < length (form m) → Reads (take l (form m)) (Err (fault Bytes l))

-- Bytes behind a message are left over from its length on.
abbrev pub TooLong : Type 0
TooLong = (m : Msg) (xs : List ℕ) → Formed m → 0 < length xs → Reads (form m ++ xs) (Err (fault Bytes (length (form m))))

-- Bytes are left over only behind a message; any other fault of the bytes is that they end too soon.
abbrev pub LeftOver : Type 0
LeftOver =
    (bs : List ℕ) (q : ℕ) → ByteList bs → Reads bs (Err (fault Bytes q))
    → ((m : Msg) × (xs : List ℕ) × Formed m × (bs ≡ form m ++ xs) × (0 < length xs) × (q ≡ length (form m))) ⊎ (q ≡ length bs)

-- A fault of a field: fields stand whole and allowed before one whose bits are all there, whose value is not allowed, and whose first bit lies in byte q.
abbrev pub FieldRefused : Type 0
FieldRefused = (bs : List ℕ) (q : ℕ) → (Reads bs (Err (fault Field q)) → NotAllowed message (bits bs) 0 q) × (NotAllowed message (bits bs) 0 q → Reads bs (Err (fault Field q)))

-- Equal words are of the same act.
abbrev pub WordsTell : Type 0
WordsTell = (a b : Act) → Allowed a → Allowed b → words a ≡ words b → a ≡ b

-- Each tag of a formed message, and each of its proof, stands for an allowed act; the words of such an act are 2 to 52 bytes.
abbrev pub SignedAllowed : Type 0
SignedAllowed =
    ((m : Msg) (b : ℕ) → Formed m → member (signers m) b ≡ true → Allowed (act_of m b))
    × ((m : Msg) (b : ℕ) → Formed m → member (proof_of m).boards b ≡ true → Allowed (proved_act m))
    × ((a : Act) → Allowed a → ByteList (words a) × (2 ≤ length (words a)) × (length (words a) ≤ 52))
