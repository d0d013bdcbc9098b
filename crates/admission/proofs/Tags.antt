-- A tag that a row keeps of a message, as a number.
-- Of a signer or of a board of a proof: the law is of any tag that is asked of a message.
use Rattle.std.proofs.Common.{◌≡◌, ℕ, ◌^◌, ◌<◌, true, false, cond, Some, None, Option, IfSome, ⊎_elim, List, length, sym, ◌∙◌}
use Rattle.std.proofs.lemmas.Bool.{cases_Bool, cond-true, cond-false}
use Rattle.std.specs.Option.{unwrap_or}
use Rattle.boards.specs.Boards.{member}
use Rattle.wire.specs.Acts.{tag_number}
use Rattle.signed.specs.Signed.{TagIs}
use Rattle.sending.proofs.Numbers.{number_is}

-- Where each board of a set has a tag of eight bytes, a board's tag is the number of its bytes, and another board has none.
pub tag_or_zero : (s b : ℕ) (t : List ℕ) (o : Option ℕ) → (member s b ≡ true → length t ≡ 8) → TagIs s b t o → IfSome o (λ x. x < 2 ^ 64) → unwrap_or o 0 ≡ cond (member s b) (tag_number t) 0
tag_or_zero s b t (Some x) long h fits = sym (cond-true (member s b) (tag_number t) 0 h.0 ∙ number_is x t fits h.1)
tag_or_zero s b t None long h fits =
    let out : member s b ≡ false = ⊎_elim (λ no. no) (λ short. ⊎_elim (λ i. absurd (short (long i))) (λ no. no) (cases_Bool (member s b))) h in
    sym (cond-false (member s b) (tag_number t) 0 out)
