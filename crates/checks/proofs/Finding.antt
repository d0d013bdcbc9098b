-- The sound boards of a part found one board at a time: each is found, or is one that is still to be asked.
-- A tag is decided by what is had of it: its statement's words, its number, and what the scheme says of both.
use Rattle.std.proofs.Common.{◌≡◌, ℕ, zero, suc, ◌^◌, ◌<◌, Bool, true, false, cond, ◌||◌, eqb, List, [], ◌∷◌, length, Bor, Decides, Some, None, Option, MatchOption, sym, refl, ap, ◌∙◌, subst, ⊎_elim, arith}
use Rattle.std.proofs.Math.Bool.{or-false}
use Rattle.std.proofs.lemmas.Bool.{both_ways, cases_eq, eq-eqb, ne_eqb, or_left, or_right, true≢false}
use Rattle.std.proofs.lemmas.List.Folds.{list_any-append}
use Rattle.std.specs.Fn.{Called, CalledAt}
use Rattle.std.specs.Option.{option_zip}
use Rattle.std.specs.Iterator.{Drains, Yields}
use Rattle.std.specs.Iterator.Adapters.{filter_steps}
use Rattle.std.specs.List.{FoldsTo, list_any}
use Rattle.std.specs.declared.iter.Filter.{Filter}
use denote.Param.Members.{Mut}
use Rattle.boards.specs.Boards.{member, passing, boards, With}
use Rattle.boards.specs.declared.Boards.{Boards}
use Rattle.boards.specs.declared.Set.{Set}
use Rattle.boards.proofs.Members.{member_below, member_none}
use Rattle.boards.proofs.Sets.{with_new, with_old}
use Rattle.boards.proofs.Yields.{fronts}
use Rattle.schemes.specs.Meaning.{Good}
use Rattle.wire.specs.Messages.{Msg, tag_bytes}
use Rattle.wire.specs.Acts.{Act, Allowed, words, tag_number}
use Rattle.wire.proofs.Eights.{number_of_tag}
use Rattle.checks.specs.declared.Part.{Part}
use Rattle.checks.specs.Checks.{boards_in, act_in, tag_in, good_in, Sound, SoundBoards}
use Rattle.checks.specs.Parts.{StandsFor, StatedIn}
use Rattle.signed.specs.Signed.{TagIs}
use Rattle.words.specs.declared.statement.Statement.{Statement}
use Rattle.words.specs.Said.{said}

-- What is had of a board's tag decides whether it is sound.
decided : (part : Part) (good : Good) (m : Msg) (b : ℕ) (a : Act) (x : ℕ) (r : Bool) → member (boards_in part m) b ≡ true → a ≡ act_in part m b
    → tag_bytes x ≡ tag_in part m b → x < 2 ^ 64 → Decides r (StandsFor good b a x) → Decides r (Sound part good m b)
decided part good m b a x r i e et small d =
    let same : good b (words a) x ≡ good_in part good m b = (λ j. good b (words (e j)) (sym (number_of_tag x small) j)) ∙ ap (λ t. good b (words (act_in part m b)) (tag_number t)) et in (
      (λ y. let s = d.0 y in record { belongs = i; may_sign = subst Allowed e s.0; eight = ap length (sym et); is_good = sym same ∙ s.1 }),
      (λ s. d.1 (subst Allowed (sym e) s.may_sign, same ∙ s.is_good)),
    )

-- The same of a statement and a tag that may be missing: a board that has not both is not sound.
pub decided_by : (P : Statement × ℕ → Type 0) (part : Part) (good : Good) (m : Msg) (b : ℕ) (o : Option Statement) (t : Option ℕ) (z : Option (Statement × ℕ)) (r : Bool)
    → StatedIn part m b o → TagIs (boards_in part m) b (tag_in part m b) t → z ≡ option_zip o t → ((s : Statement) (x : ℕ) → P (s, x) → (x < 2 ^ 64) × Decides r (StandsFor good b (said s) x))
    → MatchOption z (r ≡ false) P → Decides r (Sound part good m b)
decided_by P part good m b (Some s) (Some x) z r h k e asks d =
    let n = asks s x (subst (λ o. MatchOption o (r ≡ false) P) e d) in decided part good m b (said s) x r h.0 h.1 k.1 n.0 n.1
decided_by P part good m b (Some s) None z r h k e asks d =
    let no : r ≡ false = subst (λ o. MatchOption o (r ≡ false) P) e d in
    (λ y. absurd (both_ways r no y), λ y. absurd (⊎_elim (λ f. both_ways _ f y.belongs) (λ short. short y.eight) k))
decided_by P part good m b None t z r h k e asks d =
    let no : r ≡ false = subst (λ o. MatchOption o (r ≡ false) P) e d in
    (λ y. absurd (both_ways r no y), λ y. absurd (both_ways _ h y.belongs))

-- Whether board b is one of a list.
abbrev among : ℕ → List ℕ → Bool
among b bs = list_any (λ k. eqb b k) bs

-- The boards of set r are sound, and a sound board is one of them or is still to be asked.
abbrev pub Found : Part → Good → Msg → ℕ → List ℕ → Type 0
Found part good m r left = (b : ℕ) → (member r b ≡ true → Sound part good m b) × (Sound part good m b → (member r b || among b left) ≡ true)

passing_among : (P : ℕ → Bool) (n b : ℕ) → b < n → P b ≡ true → among b (passing P n) ≡ true
unfolding passing
passing_among P zero b h e = absurd (omega arith)
passing_among P (suc n) b h e =
    list_any-append _ (passing P n) (cond (P n) (n ∷ []) [])
    ∙ ⊎_elim
    (λ same. or_right (among b (passing P n)) _ (ap (λ t. among b (cond t (n ∷ []) [])) (ap P (sym same) ∙ e) ∙ or_left _ _ (eq-eqb b n same)))
    (λ ne. or_left _ _ (passing_among P n b (omega arith) e)) (cases_eq b n)

pub found_none : (part : Part) (good : Good) (m : Msg) → Found part good m 0 (boards (boards_in part m))
unfolding boards
found_none part good m b = (
  (λ e. absurd (both_ways _ (member_none b) e)),
  (λ s. or_right (member 0 b) _ (passing_among (member (boards_in part m)) 8 b (member_below _ b s.belongs) s.belongs)),
)

module _ (part : Part) (good : Good) (m : Msg) where
  -- A sound board is taken up.
  found_more : (r r2 x : ℕ) (left : List ℕ) → x < 8 → Found part good m r (x ∷ left) → Sound part good m x → With r x r2 → Found part good m r2 left
  found_more r r2 x left h f s w b =
      ⊎_elim
      (λ same. ((λ _. subst (Sound part good m) (sym same) s), (λ _. or_left _ _ (ap (member r2) same ∙ with_new r x r2 h w))))
      (λ ne. (
        (λ y. (f b).0 (with_old r x r2 w b (member_below r2 b y) ne ∙ y)),
        (λ q. (λ i. sym (with_old r x r2 w b (member_below _ b q.belongs) ne) i || (sym (ne_eqb b x ne) i || among b left)) ∙ (f b).1 q),
      ))
      (cases_eq b x)

  -- A board that is not sound is passed over.
  found_same : (r x : ℕ) (left : List ℕ) → Found part good m r (x ∷ left) → (Sound part good m x → ⊥) → Found part good m r left
  found_same r x left f bad b =
      ((f b).0, (λ q. (λ i. member r b || (sym (ne_eqb b x (λ same. bad (subst (Sound part good m) same q))) i || among b left)) ∙ (f b).1 q))

  -- Where none is left to ask, all are found.
  found_all : (r : ℕ) → Found part good m r [] → SoundBoards part good m r
  found_all r f b = ((f b).0, (λ q. sym (or-false (member r b)) ∙ (f b).1 q))

  -- The boards of a walk that a filter asks whether they are sound, and that a fold takes up.
  module _ {F G : Type 0} {test : Mut F (Bor ℕ × Unit {0}) Bool} {put : Mut G (Set × (ℕ × Unit {0})) Set} {f : F} {h : G}
      (asks : (x : ℕ) (b : Bool) (q : F) → CalledAt test f x b q → (q ≡ f) × Decides b (Sound part good m x))
      (puts : (a : Set) (x : ℕ) (b : Set) (q : G) → Called put h (a, (x, tt)) b q → (q ≡ h) × With a.bits x b.bits) where
    passed : (r : ℕ) (w u : Boards) (xs : List ℕ) (p q : F) → p ≡ f → Found part good m r (boards w.left.bits) → Yields fronts w xs u
        → FoldsTo (λ p x q. CalledAt test p x false q) p xs q → (q ≡ f) × Found part good m r (boards u.left.bits)
    passed r w u [] p q e o y c = (sym c ∙ e, subst (λ z. Found part good m r (boards z.left.bits)) y o)
    passed r w u (x ∷ xs) p q e o (j, s, y) (k, c, cs) =
        let n = asks x false k (subst (λ z. CalledAt test z x false k) e c) in
        passed r j u xs k q n.0 (found_same r x (boards j.left.bits) (subst (Found part good m r) s.1 o) (λ t. true≢false (sym (n.1.1 t)))) y cs

    pub gathered : (w : Filter Boards F) (xs : List ℕ) (k : G) (a r : Set) (q : G) → w.p ≡ f → k ≡ h → Found part good m a.bits (boards w.iter.left.bits)
        → Drains (filter_steps fronts test) w xs → FoldsTo {P = G × Set} (λ a x b. Called put a.0 (a.1, (x, tt)) b.1 b.0) (k, a) xs (q, r) → SoundBoards part good m r.bits
    gathered w [] k a r q e i o (u, (v, y, (zs, l, (t, yt, st), cs, z))) d =
        let n = passed a.bits v.iter t zs v.p l (ap (λ g. g.p) (sym y) ∙ e) (subst (λ g. Found part good m a.bits (boards g.iter.left.bits)) y o) yt cs in
        subst (λ g. SoundBoards part good m g.bits) (ap (λ g. g.1) d) (found_all a.bits (subst (Found part good m a.bits) st.0 n.1))
    gathered w (x ∷ xs) k a r q e i o (u, (v, (j, (zs, l, (t, yt, st), cs, c), y), z)) ((k2, a2), b, d) =
        let n = passed a.bits w.iter t zs w.p l e o yt cs in
        let s = asks x true j.p (subst (λ g. CalledAt test g x true j.p) n.0 c) in
        let p = puts a x a2 k2 (subst (λ g. Called put g (a, (x, tt)) a2 k2) i b) in
        gathered j xs k2 a2 r q s.0 p.0 (found_more a.bits a2.bits x (boards j.iter.left.bits) st.0 (subst (Found part good m a.bits) st.1 n.1) (s.1.0 refl) p.1) (u, (v, y, z)) d
