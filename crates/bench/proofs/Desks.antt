-- Desks, pages and numbers one by one: what is put down where, a call at a desk as a step, a test of each.
-- Lemmas of lists and of sets, and the two steps of a list of moves.
use Rattle.std.proofs.Common.{◌≡◌, ℕ, zero, suc, ◌+◌, ◌<◌, ◌≤◌, Bool, true, false, not, ◌&&◌, leb, List, [], ◌∷◌, length, map, drop, get_or, set, Some, None, Ok, Err, Option, Result, true≢false, sym, refl, ap, ◌∙◌, subst, arith, add-zero}
use lib.Bits.{bit_and}
use Rattle.std.proofs.lemmas.List.{map-set, set-get_or, get_or-map, drop_more}
use Rattle.std.proofs.Math.ListN.{drop_of_length-le}
use Rattle.std.proofs.Math.Bool.{and_assoc, and-true}
use Rattle.std.proofs.lemmas.Bool.{and_parts, le-leb}
use Rattle.std.specs.Option.{is_some}
use Rattle.std.specs.Result.{result_ok}
use Rattle.std.specs.List.{list_all, range_with_len}
use Rattle.boards.specs.Boards.{every, member, size, Minus}
use Rattle.boards.proofs.Chosen.{every_next}
use Rattle.boards.proofs.Members.{member_and}
use Rattle.boards.proofs.Sets.{size_same, within_size}
use Rattle.views.specs.Shares.{share}
use Rattle.grammar.specs.declared.fault.Fault.{Fault}
use Rattle.wire.specs.declared.message.Message.{Message}
use Rattle.wire.specs.Messages.{meaning}
use Rattle.wire.specs.Format.{Formed, form}
use Rattle.wire.specs.Reads.{Reads}
use Rattle.reader.specs.Told.{told as answer}
use Rattle.schemes.specs.declared.register.Register.{Register}
use Rattle.views_agree.specs.Agreement.{Step, Outside, row_of, Promised}
use Rattle.row.specs.declared.row.Row.{Row}
use Rattle.bench.specs.declared.desk.Page.{Page}
use Rattle.bench.specs.declared.desk.Desk.{Desk}
use Rattle.bench.specs.declared.desk.Bench.{Bench}
use Rattle.bench.specs.declared.story.Move.{Move}
use Rattle.bench.specs.Story.{over_register, blank, page_of, turned}
use Rattle.bench.specs.Moves.{states, pages, Put, Called, Moved, Played}
use Rattle.bench.specs.Ends.{few_faulty}

-- The numbers from a on, n of them.
every_from : (P : ℕ → Bool) (a n : ℕ) → (every P a && list_all P (range_with_len a n)) ≡ every P (a + n)
every_from P a zero = and-true (every P a) ∙ ap (every P) (sym (add-zero a))
every_from P a (suc n) =
    sym (and_assoc (every P a) (P a) _) ∙ ap (λ t. t && list_all P (range_with_len (a + 1) n)) (sym (every_next P a)) ∙ every_from P (a + 1) n ∙ ap (every P) (omega arith)

pub all_below : (P : ℕ → Bool) (n : ℕ) → list_all P (range_with_len 0 n) ≡ every P n
unfolding every
all_below P n = let none : 0 + n ≡ n = omega arith in every_from P 0 n ∙ ap (every P) none

-- The desk of a board passes what all pass.
pub desk_at : (P : Desk → Bool) (ds : List Desk) (k : ℕ) → k < length (states ds) → list_all P ds ≡ true → (d : Desk) × (row_of (states ds) k ≡ d.row.state) × (P d ≡ true)
desk_at P [] k h all = absurd (omega arith)
desk_at P (d ∷ ds) zero h all = (d, refl, (and_parts (P d) (list_all P ds) all).0)
desk_at P (d ∷ ds) (suc k) h all = desk_at P ds k (omega arith) (and_parts (P d) (list_all P ds) all).1

-- A row that is put where it was changes nothing.
pub same_row : (ds : List Desk) (k : ℕ) (d : Desk) → d ≡ get_or ds k d → set (states ds) k d.row.state ≡ states ds
same_row ds k d is =
    let row = λ (z : Desk). z.row.state in
    sym (map-set row ds k d) ∙ ap (map row) (ap (set ds k) is ∙ set-get_or ds k d)

-- A call at the row of a desk, with what it left put down there, is a step.
pub made : (b : Bench) (e : Step) (register : Register) (page page2 : Page) (b2 : Bench) → Outside b.faulty.bits e.board → e.before ≡ row_of (states b.desks) e.board
    → e.offered ≡ page.bytes → page ≡ page_of (pages b.desks) e.board → Promised over_register e.call e b.register register
    → page2 ≡ turned e.written e.answer page → Put (record { faulty = b.faulty; desks = b.desks; register = register }) e.board e.after page2 b2 → Called b e b2
made b e register page page2 b2 outside before offered is promised turns put = record {
  outside = outside;
  before = before;
  offered = offered ∙ ap (λ (p : Page). p.bytes) is;
  promised = subst (Promised over_register e.call e b.register) (sym put.register) promised;
  states = put.states;
  pages = put.pages ∙ ap (set (pages b.desks) e.board) (turns ∙ ap (turned e.written e.answer) is);
  faulty = put.faulty;
}

-- A row and a page that are put down at a desk.
pub put_down : (b : Bench) (j k : ℕ) (row : Row) (page : Page) → j ≡ k
    → Put b k row.state page (record { faulty = b.faulty; desks = set b.desks j (record { row = row; page = page }); register = b.register })
put_down b j k row page same = record {
  states = map-set (λ (z : Desk). z.row.state) b.desks j (record { row = row; page = page }) ∙ ap (λ (i : ℕ). set (states b.desks) i row.state) same;
  pages = map-set (λ (z : Desk). z.page) b.desks j (record { row = row; page = page }) ∙ ap (λ (i : ℕ). set (pages b.desks) i page) same;
  register = refl;
  faulty = refl;
}

-- The page of a desk that was looked up.
pub desk_page : (ds : List Desk) (k j : ℕ) (d : Desk) → k ≡ j → k < length ds → d ≡ get_or ds k d → d.page ≡ page_of (pages ds) j
desk_page ds k j d same l is = ap (λ (z : Desk). z.page) is ∙ sym (get_or-map (λ (z : Desk). z.page) ds k d blank l) ∙ ap (page_of (pages ds)) same

-- What a frame is read as.
pub read_frame : (bs bs2 : List ℕ) (r : Result Message Fault) (m : Message) → bs ≡ bs2 → Reads bs (answer r) → Some m ≡ result_ok r → Formed (meaning m) × (bs2 ≡ form (meaning m))
read_frame bs bs2 (Ok x) m same h is = subst (λ (z : Message). Formed (meaning z) × (bs2 ≡ form (meaning z))) (sym (ap from is)) (h.0, sym same ∙ h.1)
  where
    from : Option Message → Message
    from None = m
    from (Some z) = z
read_frame bs bs2 (Err e) m same h is = absurd (true≢false (ap is_some is))

-- One move more of those that are left, and none.
pub more_left : (ms : List Move) (k : ℕ) (d : Move) (b b2 end : Bench) → k < length ms → Moved b (get_or ms k d) b2 → Played (drop (k + 1) ms) b2 end → Played (drop k ms) b end
more_left ms k d b b2 end l m rest = subst (λ z. Played z b end) (sym (drop_more ms k d l)) (Played.on m rest)

pub none_left : (ms : List Move) (k : ℕ) (b : Bench) → length ms ≤ k → Played (drop k ms) b b
none_left ms k b l = subst (λ z. Played z b b) (sym (drop_of_length-le ms l)) Played.over

-- The faulty members of a view are no more than its members.
shared_le : (f v : ℕ) → size (bit_and f v) ≤ size v
shared_le f v = within_size (bit_and f v) v (λ k l i. (and_parts (member f k) (member v k) (sym (member_and f v k) ∙ i)).1)

-- A view without boards has few faulty ones.
pub few_in_none : (f v : ℕ) → size v ≡ 0 → few_faulty f v ≡ true
unfolding few_faulty
few_in_none f v none = le-leb _ _ (omega (arith, none, shared_le f v))

-- The members that are left when those who are not faulty are taken away are the faulty ones.
pub few_by_minus : (f v r s n t : ℕ) → Minus v f r → Minus v r s → n ≡ size s → t ≡ share (size v) → leb n t ≡ few_faulty f v
unfolding few_faulty
few_by_minus f v r s n t rest left many at = (λ i. leb ((many ∙ size_same s (bit_and f v) (λ k l. left k l ∙ ap (λ z. member v k && not z) (rest k l) ∙ both (member v k) (member f k) ∙ sym (member_and f v k))) i) (at i))
  where
    both : (x y : Bool) → (x && not (x && not y)) ≡ (y && x)
    both true true = refl
    both true false = refl
    both false true = refl
    both false false = refl
