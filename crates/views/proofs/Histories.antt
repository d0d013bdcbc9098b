-- The laws of histories: which views there are, what growing keeps, and what each view is made of.
-- Only this file opens the definitions; the layers above cite these laws.
use Rattle.std.proofs.Common.{◌≡◌, ℕ, zero, suc, ◌+◌, ◌<◌, ◌≤◌, ◌≢◌, List, length, get_or, sym, refl, ap, ◌∙◌, subst, ⊎_elim, add-one, arith, length-set, get_or-set_other, get_or-set_same}
use lib.ListN.{length-replicate}
use Rattle.std.proofs.lemmas.Bool.{and_from, and_left, and_right, cases_eq, cases_lt, cond-true, cond-false, le-leb, lt-leb}
use Rattle.boards.specs.declared.Set.{Set}
use Rattle.boards.specs.Boards.{size}
use Rattle.views.specs.declared.history.History.{History}
use Rattle.views.specs.Groups.{toggle}
use Rattle.views.specs.Histories.{members_from, members_of, change_of, begun, grown, Sound, Open}
use Rattle.views.proofs.Groups.{toggle_byte}

from_next : (first : ℕ) (cs : List ℕ) (v : ℕ) → 1 ≤ v → members_from first cs (v + 1) ≡ toggle (members_from first cs v) (get_or cs v 0)
unfolding members_from
from_next first cs zero h = absurd (omega arith)
from_next first cs (suc v) h = ap (members_from first cs) (add-one (suc v))

from_same : (first : ℕ) (cs ds : List ℕ) (v : ℕ) → ((k : ℕ) → 1 ≤ k → k < v → get_or cs k 0 ≡ get_or ds k 0) → members_from first cs v ≡ members_from first ds v
unfolding members_from
from_same first cs ds zero h = refl
from_same first cs ds (suc zero) h = refl
from_same first cs ds (suc (suc v)) h =
    let before = from_same first cs ds (suc v) (λ k l m. h k l (omega arith)) in
    let change = h (suc v) (omega arith) (omega arith) in
    λ i. toggle (before i) (change i)

from_byte : (first : ℕ) (cs : List ℕ) (v : ℕ) → first < 256 → members_from first cs v < 256
unfolding members_from
from_byte first cs zero h = omega arith
from_byte first cs (suc zero) h = h
from_byte first cs (suc (suc v)) h = toggle_byte (members_from first cs (suc v)) (get_or cs (suc v) 0) (from_byte first cs (suc v) h)

inside : (h : History) (v : ℕ) → 1 ≤ v → v ≤ h.latest → members_of h v ≡ members_from h.first.bits h.changes v
unfolding members_of
inside h v some few = cond-true _ _ _ (and_from _ _ (le-leb 1 v some) (le-leb v h.latest few))

-- There is no view 0.
pub no_view_zero : (h : History) (v : ℕ) → v < 1 → members_of h v ≡ 0
unfolding members_of
no_view_zero h v l = cond-false _ _ _ (and_left _ _ (lt-leb 1 v l))

-- There is no view past the latest.
pub no_view_past : (h : History) (v : ℕ) → h.latest < v → members_of h v ≡ 0
unfolding members_of
no_view_past h v l = cond-false _ _ _ (and_right _ _ (lt-leb v h.latest l))

pub first_view : (h : History) → 1 ≤ h.latest → members_of h 1 ≡ h.first.bits
unfolding members_from
first_view h some = inside h 1 (omega arith) some

-- A view is the one before it but for the change between them.
pub next_view : (h : History) (v : ℕ) → 1 ≤ v → v < h.latest → members_of h (v + 1) ≡ toggle (members_of h v) (change_of h v)
next_view h v some few =
    inside h (v + 1) (omega arith) (omega arith) ∙ from_next h.first.bits h.changes v some ∙ ap (λ s. toggle s (change_of h v)) (sym (inside h v some (omega arith)))

-- A set of members is a byte.
pub members_byte : (h : History) (v : ℕ) → h.first.bits < 256 → members_of h v < 256
members_byte h v byte =
    ⊎_elim (λ l. omega (arith, no_view_zero h v l))
    (λ some. ⊎_elim (λ l. omega (arith, no_view_past h v l)) (λ few. omega (arith, inside h v some few, from_byte h.first.bits h.changes v byte)) (cases_lt h.latest v))
    (cases_lt v 1)

-- Two histories that began alike and changed alike up to view v have the same members there.
pub same_views : (h g : History) (v : ℕ) → h.first.bits ≡ g.first.bits → ((k : ℕ) → 1 ≤ k → k < v → change_of h k ≡ change_of g k) → v ≤ h.latest → v ≤ g.latest → members_of h v ≡ members_of g v
same_views h g v began changed few few2 =
    ⊎_elim (λ l. no_view_zero h v l ∙ sym (no_view_zero g v l))
    (λ some.
    inside h v some few ∙ ap (λ s. members_from s h.changes v) began ∙ from_same g.first.bits h.changes g.changes v changed ∙ sym (inside g v some few2))
    (cases_lt v 1)

pub begun_latest : (s : Set) → (begun s).latest ≡ 1
unfolding begun
begun_latest s = refl

pub begun_first : (s : Set) → members_of (begun s) 1 ≡ s.bits
unfolding begun
begun_first s = first_view (begun s) (omega arith)

pub begun_sound : (s : Set) → s.bits < 256 → 1 ≤ size s.bits → Sound (begun s)
unfolding begun
begun_sound s byte some = record {
  counted = (byte, length-replicate {A = ℕ} 64 0, omega arith, omega arith);
  boards = λ v l m. absurd (omega arith);
  peopled = λ v l m.
      let one : v ≡ 1 = omega arith in
      subst (λ n. 1 ≤ size n) (sym (ap (members_of (begun s)) one ∙ begun_first s)) some;
}

pub grown_latest : (h : History) (c : ℕ) → (grown h c).latest ≡ h.latest + 1
unfolding grown
grown_latest h c = refl

-- Growing keeps every change so far.
pub grown_kept : (h : History) (c v : ℕ) → v < h.latest → change_of (grown h c) v ≡ change_of h v
unfolding grown
grown_kept h c v l = let ne : v ≢ h.latest = omega arith in get_or-set_other h.changes h.latest v c 0 ne

-- Growing puts down its own.
pub grown_change : (h : History) (c : ℕ) → h.latest < length h.changes → change_of (grown h c) h.latest ≡ c
unfolding grown
grown_change h c l = get_or-set_same h.changes h.latest c 0 l

grown_first : (h : History) (c : ℕ) → (grown h c).first.bits ≡ h.first.bits
unfolding grown
grown_first h c = refl

grown_places : (h : History) (c : ℕ) → length (grown h c).changes ≡ length h.changes
unfolding grown
grown_places h c = length-set h.changes h.latest c

-- Growing keeps every view so far.
pub grown_stay : (h : History) (c v : ℕ) → v ≤ h.latest → members_of (grown h c) v ≡ members_of h v
grown_stay h c v l =
    same_views (grown h c) h v (grown_first h c) (λ k some few. grown_kept h c k (omega arith)) (omega (arith, grown_latest h c)) l

-- The view that is new has the members of the latest but for the change.
pub grown_members : (h : History) (c : ℕ) → 1 ≤ h.latest → h.latest < length h.changes → members_of (grown h c) (h.latest + 1) ≡ toggle (members_of h h.latest) c
grown_members h c some room =
    next_view (grown h c) h.latest some (omega (arith, grown_latest h c)) ∙ (λ i. toggle (grown_stay h c h.latest (omega arith) i) (grown_change h c room i))

pub grown_sound : (h : History) (c : ℕ) → Sound h → Open h c → Sound (grown h c)
grown_sound h c s o =
    let k = s.counted in
    let room : h.latest < length h.changes = omega (arith, k.1, o.room) in
    let up = grown_latest h c in
    record {
      counted = (omega (arith, grown_first h c, k.0), omega (arith, grown_places h c, k.1), omega arith, omega (arith, o.room));
      boards = λ v l m.
          ⊎_elim (λ e. omega (arith, ap (change_of (grown h c)) e, grown_change h c room, o.board)) (λ ne. omega (arith, grown_kept h c v (omega arith), s.boards v l (omega arith))) (cases_eq v h.latest);
      peopled = λ v l m.
          ⊎_elim (λ e. subst (λ n. 1 ≤ size n) (sym (ap (members_of (grown h c)) e ∙ grown_members h c k.2 room)) o.some)
          (λ ne. subst (λ n. 1 ≤ size n) (sym (grown_stay h c v (omega arith))) (s.peopled v l (omega arith))) (cases_eq v (h.latest + 1));
    }

-- A change of a board that leaves a member is open while there is a view left.
pub opens : (h : History) (c group next : ℕ) → Sound h → c < 8 → h.latest ≢ 64 → group ≡ members_of h h.latest → next ≡ toggle group c → 1 ≤ size next → Open h c
opens h c group next s b ne now then some = record {
  board = b;
  room = omega (arith, s.counted.3);
  some = subst (λ n. 1 ≤ size n) (then ∙ ap (λ g. toggle g c) now) some;
}
