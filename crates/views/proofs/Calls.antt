-- What calls that define views keep, one of them and any number.
-- The layers above cite these for a call's contract, `Defines`.
use Rattle.std.proofs.Common.{◌≡◌, ℕ, ◌+◌, ◌<◌, ◌≤◌, true, length, is_ok, Ok, Err, Result, sym, refl, ap, ◌∙◌, subst, ⊎_elim, arith}
use Rattle.codes.specs.declared.Refusal.{Refusal}
use Rattle.views.specs.declared.history.History.{History}
use Rattle.views.specs.Histories.{members_of, begun, grown, Sound, Open, Shut, Defines}
use Rattle.views.specs.Laws.{Leads, Reached, ViewsStay, LatestRisesByOne, ViewsHaveMembers, OneBoardChanges, NextByChange}
use Rattle.views.proofs.Histories.{next_view, begun_sound, grown_latest, grown_stay, grown_members, grown_sound}

-- No change is both open and shut.
pub open_or_shut : (h : History) (c : ℕ) (e : Refusal) → Open h c → Shut h c e → ⊥
open_or_shut h c e o s = ⊎_elim (λ b. omega (arith, o.board)) (λ x. ⊎_elim (λ full. omega (arith, o.room)) (λ none. omega (arith, o.some)) x.1) s

-- An open change is never refused.
pub defines : (h after : History) (c : ℕ) (r : Result (Unit {0}) Refusal) → Defines h c r after → Open h c → (is_ok r ≡ true) × (after ≡ grown h c)
defines h after c (Ok u) d o = (refl, d.1)
defines h after c (Err e) d o = absurd (open_or_shut h c e o d.0)

-- A call leaves a sound history sound.
pub defines_sound : (h after : History) (c : ℕ) (r : Result (Unit {0}) Refusal) → Defines h c r after → Sound h → Sound after
defines_sound h after c (Ok u) d s = subst Sound (sym d.1) (grown_sound h c s d.0)
defines_sound h after c (Err e) d s = subst Sound (sym d.1) s

pub rises_by_one : LatestRisesByOne
rises_by_one h after c (Ok u) d = ap (λ g. g.latest) d.1 ∙ grown_latest h c
rises_by_one h after c (Err e) d = ap (λ g. g.latest) d.1

-- The latest view never falls.
pub rises : (h after : History) (c : ℕ) (r : Result (Unit {0}) Refusal) → Defines h c r after → h.latest ≤ after.latest
rises h after c (Ok u) d = omega (arith, rises_by_one h after c (Ok u) d)
rises h after c (Err e) d = omega (arith, rises_by_one h after c (Err e) d)

-- A call keeps every view so far.
pub defines_stay : (h after : History) (c : ℕ) (r : Result (Unit {0}) Refusal) → Defines h c r after → (v : ℕ) → v ≤ h.latest → members_of after v ≡ members_of h v
defines_stay h after c (Ok u) d v l = ap (λ g. members_of g v) d.1 ∙ grown_stay h c v l
defines_stay h after c (Err e) d v l = ap (λ g. members_of g v) d.1

pub leads_rises : (h later : History) → Leads h later → h.latest ≤ later.latest
leads_rises h _ Leads.here = omega arith
leads_rises h _ (Leads.on {g} {after} before c r d) = omega (arith, leads_rises h g before, rises g after c r d)

pub views_stay : ViewsStay
views_stay h _ Leads.here v l = refl
views_stay h _ (Leads.on {g} {after} before c r d) v l =
    defines_stay g after c r d v (omega (arith, leads_rises h g before)) ∙ views_stay h g before v l

pub leads_sound : (h later : History) → Leads h later → Sound h → Sound later
leads_sound h _ Leads.here s = s
leads_sound h _ (Leads.on {g} {after} before c r d) s = defines_sound g after c r d (leads_sound h g before s)

-- Every history that is reached is sound.
pub reached_sound : (h : History) → Reached h → Sound h
reached_sound h r = leads_sound (begun r.first) h r.led (begun_sound r.first r.byte r.some)

pub views_have_members : ViewsHaveMembers
views_have_members h r = (reached_sound h r).peopled

pub one_board_changes : OneBoardChanges
one_board_changes h r v some few = ((reached_sound h r).boards v some few, next_view h v some few)

pub next_by_change : NextByChange
next_by_change h after c r d =
    let k = (reached_sound h r).counted in
    let room : h.latest < length h.changes = omega (arith, k.1, d.0.room) in
    ap (λ g. members_of g (h.latest + 1)) d.1 ∙ grown_members h c k.2 room
