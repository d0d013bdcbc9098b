-- What a message says that nothing stands against: the head that it carries, and that it is for the delivery view.
-- By any name of its body.
use Rattle.std.proofs.Common.{◌≡◌, ℕ, ◌^◌, ◌<◌, ◌≤◌, Bool, true, false, not, eqb, List, length, Some, None, Option, sym, refl, ap, ◌∙◌, subst, ⊎_elim, arith}
use Rattle.std.specs.Option.{IsSome}
use Rattle.std.proofs.lemmas.Bool.{and_parts, both_ways, eq-eqb, eqb-true, ltb-false, not-false}
use Rattle.std.proofs.lemmas.List.{take_all}
use Rattle.std.proofs.lemmas.Slice.Eq.{bytes_eq-Decides}
use Rattle.boards.specs.Boards.{member, only, place}
use Rattle.boards.proofs.Members.{member_only}
use Rattle.boards.proofs.Sets.{place_below, size_only}
use Rattle.codes.specs.declared.Refusal.TheVariants.{Out, View, Turn, Spent}
use Rattle.signed.specs.Signed.{SignerTagged}
use Rattle.sending.proofs.Numbers.{number_is}
use Rattle.wire.specs.declared.message.Body.{Body}
use Rattle.wire.specs.declared.message.Content.{Content as Carried}
use Rattle.wire.specs.declared.message.Sort.{Sort}
use Rattle.wire.specs.declared.message.Sort.TheVariants.{Report, End}
use Rattle.wire.specs.declared.message.Spoken.{Spoken}
use Rattle.wire.specs.declared.message.Tagged.{Tagged}
use Rattle.wire.specs.declared.message.Tags.{Tags}
use Rattle.wire.specs.Acts.{tag_at, tag_number}
use Rattle.wire.specs.Format.{Formed}
use Rattle.wire.specs.Messages.{said_in, sort_number, tag_by}
use Rattle.row.specs.declared.state.State.{State}
use Rattle.delivery.specs.Reports.{Content, content, Own, Reports, awaits_echoes, in_view, now, or_zero}
use Rattle.delivery.specs.Refusals.{echo_reasons, init_reasons}
use Rattle.delivery.specs.Calls.{report_refusal}
use Rattle.delivery.specs.Ranges.{AllowedHead, OwnAllowed}
use Rattle.delivery.proofs.Heads.{commit_in, echo_in, echo_speaker, init_in}
use Rattle.delivery.proofs.Reasons.{unheld}

-- A message that VIEW does not refuse is for the delivery view.
for_now : (y : Option ℕ) (v : ℕ) → not (in_view y v) ≡ false → v ≡ or_zero y
for_now None v h = absurd (both_ways _ h refl)
for_now (Some y) v h = eqb-true v y (not-false _ h)

itself : (b : ℕ) → b < 8 → member (only b) b ≡ true
itself b h = member_only b b h ∙ eq-eqb b b refl

-- A lone board's tag is the first one, and all there is.
first_alone : (b : ℕ) (t : List ℕ) → b < 8 → length t ≡ 8 → tag_at (place (only b) b) t ≡ t
first_alone b t h e =
    let first : place (only b) b ≡ 0 = omega (arith, place_below (only b) b (itself b h), size_only b h) in
    ap (λ k. tag_at k t) first ∙ take_all 8 t (omega arith)

-- The tag of an echo's speaker is there, and is the number of its bytes.
pub speaker_tagged : (v : ℕ) (x : Body) (c : Carried) (own : Spoken) (r : Option ℕ) → x ≡ Body.Echo c own → Formed (said_in v x) → SignerTagged (said_in v x) own.speaker r → IsSome r
speaker_tagged v x c own (Some n) e f t = refl
speaker_tagged v x c own None e f t =
    let g = subst (λ y. Formed (said_in v y)) e f in
    let s = subst (λ y. SignerTagged (said_in v y) own.speaker None) e t in
    let p = echo_speaker v c.sender c.number c.sort c.payload.now own.speaker (tag_by own) g in
    ⊎_elim (λ out. absurd (both_ways _ out (itself own.speaker p.0))) (λ short. absurd (short (ap length (first_alone own.speaker (tag_by own) p.0 p.1) ∙ p.1))) s

pub speaker_number : (v : ℕ) (x : Body) (c : Carried) (own : Spoken) (n : ℕ) → x ≡ Body.Echo c own → n < 2 ^ 64 → Formed (said_in v x) → SignerTagged (said_in v x) own.speaker (Some n) → n ≡ tag_number (tag_by own)
speaker_number v x c own n e fits f t =
    let g = subst (λ y. Formed (said_in v y)) e f in
    let s = subst (λ y. SignerTagged (said_in v y) own.speaker (Some n)) e t in
    let p = echo_speaker v c.sender c.number c.sort c.payload.now own.speaker (tag_by own) g in
    sym (number_is n (tag_by own) fits (s.1 ∙ first_alone own.speaker (tag_by own) p.0 p.1))

pub same_sort : (k l : Sort) → eqb (sort_number k) (sort_number l) ≡ true → k ≡ l
same_sort Report Report h = refl
same_sort Report End h = absurd (both_ways _ refl h)
same_sort End Report h = absurd (both_ways _ refl h)
same_sort End End h = refl

module _ (st : State) (d : Reports) (v : ℕ) (x : Body) (room : ℕ) (ok spent : Bool) (f : Formed (said_in v x)) (h : report_refusal st d (said_in v x) room ok spent ≡ None) where
  -- An init: there is room, the scheme is not spent, and its head is in range.
  pub takes_init : (c : Carried) (t : Tags) → x ≡ Body.Init c t → (128 ≤ room) × (spent ≡ false) × AllowedHead (now d) c.sender c.number (content c.sort c.payload.now)
  takes_init c t e =
      let g = subst (λ y. Formed (said_in v y)) e f in
      let none = unheld (init_reasons st d v c.sender c.number (content c.sort c.payload.now) room ok spent) (subst (λ y. report_refusal st d (said_in v y) room ok spent ≡ None) e h) in
      (ltb-false room 128 (none Out), none Spent, subst (λ y. AllowedHead y c.sender c.number (content c.sort c.payload.now)) (for_now d.view v (none View)) (init_in _ _ _ _ _ _ g))

  -- An echo: its speaker is a board, and the board's own last message is what it carries.
  collects : (o : Option Own) (c : Carried) → d.own ≡ o → awaits_echoes o c.number (content c.sort c.payload.now) ≡ true → AllowedHead (now d) c.sender c.number (content c.sort c.payload.now)
      → c.sender ≡ st.board → OwnAllowed st.board d
  collects None c e m r s o is = absurd (both_ways _ refl m)
  collects (Some p) c e m r s o is =
      let same : p ≡ o = let z : Some p ≡ Some o = sym e ∙ is in cc in
      let q = and_parts p.collecting _ m in
      let w = and_parts (eqb p.number c.number) _ q.1 in
      let u = and_parts (eqb (sort_number p.content.sort) (sort_number c.sort)) _ w.1 in
      let number : c.number ≡ p.number = sym (eqb-true p.number c.number w.0) in
      let kind : c.sort ≡ p.content.sort = sym (same_sort p.content.sort c.sort u.0) in
      let bytes : c.payload.now ≡ p.content.payload = sym ((bytes_eq-Decides p.content.payload c.payload.now).0 u.1) in
      subst (λ (z : Own). AllowedHead (now d) st.board z.number z.content) same
      (subst (λ b. AllowedHead (now d) b p.number p.content) s (subst (λ n. AllowedHead (now d) c.sender n p.content) number
      (subst (λ (k : Content). AllowedHead (now d) c.sender c.number k) (λ i. content (kind i) (bytes i)) r)))

  pub takes_echo : (c : Carried) (own : Spoken) → x ≡ Body.Echo c own → (128 ≤ room) × (own.speaker < 8) × OwnAllowed st.board d
  takes_echo c own e =
      let g = subst (λ y. Formed (said_in v y)) e f in
      let none = unheld (echo_reasons st d v c.sender c.number (content c.sort c.payload.now) own.speaker room ok) (subst (λ y. report_refusal st d (said_in v y) room ok spent ≡ None) e h) in
      let r = subst (λ y. AllowedHead y c.sender c.number (content c.sort c.payload.now)) (for_now d.view v (none View)) (echo_in _ _ _ _ _ _ _ g) in
      let mine = and_parts (eqb c.sender st.board) _ (not-false _ (none Turn)) in
      (ltb-false room 128 (none Out), (echo_speaker _ _ _ _ _ _ _ g).0, collects d.own c refl mine.1 r (eqb-true c.sender st.board mine.0))

  -- A commit: its head is in range.
  pub takes_commit : (c : Carried) (by : Tagged) → x ≡ Body.Commit c by → AllowedHead v c.sender c.number (content c.sort c.payload.now)
  takes_commit c by e = commit_in _ _ _ _ _ _ _ (subst (λ y. Formed (said_in v y)) e f)
