-- How a delivery view ends: who is in it and in the next one, whom the next one leaves out, the cut, and when a board goes on to which view.
-- h are the views of the board's row, b is the board.
use Rattle.std.specs.Prelude.{◌≡◌, ℕ, zero, suc, ◌+◌, ◌-◌, ◌<◌, max, Bool, true, false, cond, not, ◌&&◌, ◌||◌, Some, None, Option, is_some, ◌==◌, nat_lt}
use Rattle.boards.specs.Boards.{member, every, any}
use Rattle.views.specs.declared.history.History.{History}
use Rattle.views.specs.Histories.{members_of}
use Rattle.row.specs.States.{highest}
use Rattle.delivery.specs.Reports.{Reports, opened, count_of, claim_of, or_zero}

-- A board of view y and of the next one; a board of view y that the next one leaves out; the highest such board, 8 if there is none.
abbrev pub stays : History → ℕ → ℕ → Bool
stays h y s = member (members_of h y) s && member (members_of h (y + 1)) s

abbrev pub is_left_out : History → ℕ → ℕ → Bool
is_left_out h y s = nat_lt y h.latest && (member (members_of h y) s && not (member (members_of h (y + 1)) s))

abbrev pub left_out : History → ℕ → ℕ
left_out h y = highest (is_left_out h y) 8

-- The largest that f says of the boards below n.
unfoldable pub largest : (ℕ → ℕ) → ℕ → ℕ
largest f zero = 0
largest f (suc n) = max (largest f n) (f n)

-- The ends of all boards that stay are delivered; then the cut is the largest of their claims.
abbrev pub ends_in : History → ℕ → Reports → Bool
ends_in h y d = every (λ s. not (stays h y s) || is_some (claim_of d s)) 8

abbrev pub cut : History → ℕ → Reports → ℕ
cut h y d = largest (λ s. cond (stays h y s) (or_zero (claim_of d s)) 0) 8

-- View y is closed: all ends are in, and of the board that is left out, if one is, as many messages are delivered as the cut says.
abbrev pub closed : History → ℕ → Reports → Bool
closed h y d = ends_in h y d && (not (any (is_left_out h y) 8) || count_of d (left_out h y) == cut h y d)

-- A board is done with view y when the next one is there without it, or y is closed.
abbrev pub done : History → ℕ → ℕ → Reports → Bool
done h b y d = nat_lt y h.latest && (not (member (members_of h (y + 1)) b) || closed h y d)

-- The lowest of the n numbers from v on that passes a test.
unfoldable pub lowest_from : (ℕ → Bool) → ℕ → ℕ → Option ℕ
lowest_from P v zero = None
lowest_from P v (suc n) = cond (P v) (Some v) (lowest_from P (v + 1) n)

-- The lowest view after y that has the board, if one has.
abbrev pub next_with : History → ℕ → ℕ → Option ℕ
next_with h b y = lowest_from (λ v. member (members_of h v) b) (y + 1) (h.latest - y)

-- How a board goes on, step by step. It closes its view, and goes on to the next one. It leaves a view that the next one follows without it, for the lowest later view that has it,
-- for none if there is none. And without a view it enters the latest one, where that has it.
pub data GoesOn (h : History) (b : ℕ) (d : Reports) : Reports → Type 0 where
  closes : (y : ℕ) → d.view ≡ Some y → y < h.latest → member (members_of h (y + 1)) b ≡ true → closed h y d ≡ true → GoesOn h b d (opened (Some (y + 1)) d.out)
  leaves : (y : ℕ) → d.view ≡ Some y → y < h.latest → member (members_of h (y + 1)) b ≡ false → GoesOn h b d (opened (next_with h b y) d.out)
  enters : d.view ≡ None → member (members_of h h.latest) b ≡ true → GoesOn h b d (opened (Some h.latest) d.out)

-- A view in which a board may stay: it has the board, and the next one, if there is one, has it too.
abbrev pub may_stay : History → ℕ → ℕ → Bool
may_stay h b v = member (members_of h v) b && (v == h.latest || member (members_of h (v + 1)) b)

-- Where those steps end, told at once: a board that is done with its view goes on to the lowest later view in which it may stay, to none if there is none.
-- That this is where they end is a law (Laws.antt).
abbrev pub settled_in : History → ℕ → Option ℕ → Reports → Reports
settled_in h b None d = cond (member (members_of h h.latest) b) (opened (Some h.latest) d.out) d
settled_in h b (Some y) d = cond (done h b y d) (opened (lowest_from (may_stay h b) (y + 1) (h.latest - y)) d.out) d

abbrev pub settled : History → ℕ → Reports → Reports
settled h b d = settled_in h b d.view d
