-- The keyed scheme: each board has a key of 16 bytes, and one good tag for words.
-- It is never spent.
use Rattle.std.specs.Prelude.{◌≡◌, ℕ, Bool, false, ◌&&◌, List, [], None, Ok, Err, Result, ◌==◌, slice_index_or}
use Rattle.siphash.specs.SipHash.{siphash_2_4}
use Rattle.schemes.specs.Meaning.{Good, signable, sign_refusal, Refused}
use Rattle.schemes.specs.declared.SignRefusal.{SignRefusal}
use Rattle.schemes.specs.declared.keyed.Keyed.{Keyed}

-- Good: the SipHash-2-4 of what can be signed, under the board's key.
abbrev pub keyed_good : List (List ℕ) → Good
keyed_good keys b w t = signable b w && t == siphash_2_4 (slice_index_or keys b []) w

-- What a keyed scheme means: its keys.
abbrev pub good_under : Keyed → Good
good_under k = keyed_good k.keys.now

-- A keyed scheme is never spent.
abbrev pub never_spent : Keyed → Bool
never_spent k = false

-- What a call of sign does to a keyed scheme: it answers the one good tag, and nothing changes.
abbrev pub Keying : Keyed → Keyed → ℕ → List ℕ → Result ℕ SignRefusal → Type 0
Keying k k2 board words (Ok tag) = (sign_refusal board words false ≡ None) × (tag ≡ siphash_2_4 (slice_index_or k.keys.now board []) words) × (k2 ≡ k)
Keying k k2 board words (Err e) = Refused k k2 false board words e
