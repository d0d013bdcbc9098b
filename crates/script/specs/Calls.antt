-- The calls of a script: which words are which call, and what is wrong with the others.
-- All is said of what a line says, its comment cut off.
use Rattle.std.specs.Prelude.{◌≡◌, ℕ, ◌%◌, ◌<◌, ◌⊎◌, List, [], ◌∷◌, length, Some, None, Ok, Err, codes, Option, Result, ◌≢◌}
use Rattle.std.specs.Borrow.{Bor}
use Rattle.script.specs.declared.answer.Reason.{Reason}
use Rattle.script.specs.declared.answer.Reason.TheVariants.{NotText, UnknownCall, TooFewWords, TooManyWords, NotHexadecimal, OddDigits, NotEightKeys, NotDigits}
use Rattle.script.specs.declared.call.Call.{Call}
use Rattle.script.specs.declared.call.Call.TheVariants.{Read, Keys, Views}
use Rattle.script.specs.declared.call.Verb.{Verb}
use Rattle.script.specs.declared.call.Verb.TheVariants.{Read as ReadVerb, Keys as KeysVerb, Views as ViewsVerb}
use Rattle.script.specs.Words.{Whole, plain, digit_sign, hex_sign, words}

-- The names of calls, and how many words each wants.
abbrev pub name_of : Verb → List ℕ
name_of ReadVerb = codes "read"
name_of KeysVerb = codes "keys"
name_of ViewsVerb = codes "views"

abbrev pub wanted : Verb → ℕ
wanted ReadVerb = 1
wanted KeysVerb = 1
wanted ViewsVerb = 2

-- A word names a call.
abbrev pub Named : List ℕ → Option Verb → Type 0
Named w (Some v) = w ≡ name_of v
Named w None = (v : Verb) → w ≢ name_of v

-- There are not n words.
abbrev pub Miscounted : ℕ → List (List ℕ) → Reason → Type 0
Miscounted n ws NotText = ⊥
Miscounted n ws UnknownCall = ⊥
Miscounted n ws TooFewWords = length ws < n
Miscounted n ws TooManyWords = n < length ws
Miscounted n ws NotHexadecimal = ⊥
Miscounted n ws OddDigits = ⊥
Miscounted n ws NotEightKeys = ⊥
Miscounted n ws NotDigits = ⊥

-- There is just one word, or there are just two.
abbrev pub OneWord : List ℕ → Result (Bor (List ℕ)) Reason → Type 0
OneWord text (Ok w) = words text ≡ w.now ∷ []
OneWord text (Err e) = Miscounted 1 (words text) e

abbrev pub TwoWords : List ℕ → Result (Bor (List ℕ) × Bor (List ℕ)) Reason → Type 0
TwoWords text (Ok r) = words text ≡ r.0.now ∷ r.1.now ∷ []
TwoWords text (Err e) = Miscounted 2 (words text) e

-- The digits that a word gives: its own, two for each byte; none for the dash.
abbrev pub ArgumentRead : List ℕ → Result (Bor (List ℕ)) Reason → Type 0
ArgumentRead w (Ok ds) = ((w ≡ codes "-") × (ds.now ≡ [])) ⊎ ((ds.now ≡ w) × Whole hex_sign w × (length w % 2 ≡ 0))
ArgumentRead w (Err NotText) = ⊥
ArgumentRead w (Err UnknownCall) = ⊥
ArgumentRead w (Err TooFewWords) = ⊥
ArgumentRead w (Err TooManyWords) = ⊥
ArgumentRead w (Err NotHexadecimal) = (w ≢ codes "-") × (Whole hex_sign w → ⊥)
ArgumentRead w (Err OddDigits) = Whole hex_sign w × (length w % 2 ≡ 1)
ArgumentRead w (Err NotEightKeys) = ⊥
ArgumentRead w (Err NotDigits) = ⊥

-- The digits of eight keys: 256 of them, two for each of a key's 16 bytes.
abbrev pub ArgumentKeys : List ℕ → Result (Bor (List ℕ)) Reason → Type 0
ArgumentKeys w (Ok ds) = ArgumentRead w (Ok ds) × (length ds.now ≡ 256)
ArgumentKeys w (Err e) = ArgumentRead w (Err e) ⊎ ((e ≡ NotEightKeys) × ((ds : Bor (List ℕ)) × ArgumentRead w (Ok ds) × (length ds.now ≢ 256)))

-- The digits of boards: a word's own, one for each board; none for the dash.
abbrev pub ArgumentBoards : List ℕ → Result (Bor (List ℕ)) Reason → Type 0
ArgumentBoards w (Ok ds) = ((w ≡ codes "-") × (ds.now ≡ [])) ⊎ ((ds.now ≡ w) × Whole digit_sign w)
ArgumentBoards w (Err e) = (e ≡ NotDigits) × (w ≢ codes "-") × (Whole digit_sign w → ⊥)

-- What is wrong with the words of a call, where there are as many as it wants: one of them cannot be read.
abbrev pub Unread : Verb → List (List ℕ) → Reason → Type 0
Unread ReadVerb ws e = (w : List ℕ) × (ws ≡ w ∷ []) × ArgumentRead w (Err e)
Unread KeysVerb ws e = (w : List ℕ) × (ws ≡ w ∷ []) × ArgumentKeys w (Err e)
Unread ViewsVerb ws e = (a b : List ℕ) × (ws ≡ a ∷ b ∷ []) × (ArgumentBoards a (Err e) ⊎ ArgumentBoards b (Err e))

-- What a call makes of the words after its name: it is made of as many as it wants, each read; else the first thing that is wrong.
abbrev pub Arguments : Verb → List (List ℕ) → Result Call Reason → Type 0
Arguments v ws (Ok (Read ds)) = (v ≡ ReadVerb) × ((w : List ℕ) × (ws ≡ w ∷ []) × ArgumentRead w (Ok ds))
Arguments v ws (Ok (Keys ds)) = (v ≡ KeysVerb) × ((w : List ℕ) × (ws ≡ w ∷ []) × ArgumentKeys w (Ok ds))
Arguments v ws (Ok (Views ms cs)) = (v ≡ ViewsVerb) × ((a b : List ℕ) × (ws ≡ a ∷ b ∷ []) × ArgumentBoards a (Ok ms) × ArgumentBoards b (Ok cs))
Arguments v ws (Err e) = Miscounted (wanted v) ws e ⊎ Unread v ws e

-- A line is a call's name, and this is made of the words after it.
abbrev pub ReadsWords : List ℕ → Result Call Reason → Type 0
ReadsWords text r = (v : Verb) × (ws : List (List ℕ)) × (words text ≡ name_of v ∷ ws) × Arguments v ws r

-- A line's call: nothing without words, a call's name with the words that it wants; else the first thing that is wrong.
abbrev pub Parses : List ℕ → Result (Option Call) Reason → Type 0
Parses text (Ok None) = Whole plain text × (words text ≡ [])
Parses text (Ok (Some c)) = Whole plain text × ReadsWords text (Ok c)
Parses text (Err NotText) = Whole plain text → ⊥
Parses text (Err UnknownCall) = Whole plain text × ((w : List ℕ) × (ws : List (List ℕ)) × (words text ≡ w ∷ ws) × Named w None)
Parses text (Err TooFewWords) = Whole plain text × ReadsWords text (Err TooFewWords)
Parses text (Err TooManyWords) = Whole plain text × ReadsWords text (Err TooManyWords)
Parses text (Err NotHexadecimal) = Whole plain text × ReadsWords text (Err NotHexadecimal)
Parses text (Err OddDigits) = Whole plain text × ReadsWords text (Err OddDigits)
Parses text (Err NotEightKeys) = Whole plain text × ReadsWords text (Err NotEightKeys)
Parses text (Err NotDigits) = Whole plain text × ReadsWords text (Err NotDigits)
