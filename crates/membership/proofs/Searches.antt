-- What a walk over the boards of a set gives first from the back: the highest of them.
-- By the list of the boards of the set, whose last item that is.
use Rattle.std.proofs.Common.{◌≡◌, ℕ, zero, suc, ◌<◌, Bool, true, false, cond, List, [], ◌∷◌, ◌++◌, Some, None, Option, sym, refl, ap, ◌∙◌, append-nil, arith}
use Rattle.std.specs.Option.{unwrap_or, IsSome}
use Rattle.boards.specs.Boards.{member, passing, boards, Last}
use Rattle.row.specs.States.{highest}
use Rattle.row.proofs.Chosen.{highest_passes}

-- The last item of a list; 8 if it has none.
end : List ℕ → ℕ
end [] = 8
end (x ∷ []) = x
end (x ∷ y ∷ xs) = end (y ∷ xs)

end_at : (xs : List ℕ) (b : ℕ) → end (xs ++ b ∷ []) ≡ b
unfolding end
end_at [] b = refl
end_at (x ∷ []) b = refl
end_at (x ∷ y ∷ xs) b = end_at (y ∷ xs) b

end_passing : (P : ℕ → Bool) (n : ℕ) → end (passing P n) ≡ highest P n
unfolding passing highest end
end_passing P zero = refl
end_passing P (suc n) = by_test (end_passing P n) (P n)
  where
    by_test : end (passing P n) ≡ highest P n → (t : Bool) → end (passing P n ++ cond t (n ∷ []) []) ≡ cond t n (highest P n)
    by_test e true = end_at (passing P n) n
    by_test e false = ap end (append-nil (passing P n)) ∙ e

pub last_highest : (s t : ℕ) (r : Option ℕ) → Last s r t → unwrap_or r 8 ≡ highest (member s) 8
unfolding boards end
last_highest s t None h = sym (ap end h.0) ∙ end_passing (member s) 8
last_highest s t (Some b) h = sym (end_at (boards t) b) ∙ sym (ap end h.1) ∙ end_passing (member s) 8

-- Where some board passes, one is found.
pub some_found : (P : ℕ → Bool) (b : ℕ) (r : Option ℕ) → b < 8 → P b ≡ true → unwrap_or r 8 ≡ highest P 8 → IsSome r
some_found P b None h e f = absurd (omega (arith, f, (highest_passes P 8 b h e).0))
some_found P b (Some x) h e f = refl
