-- Tags and replies put board by board.
-- Those of the boards that a walk has left, and what its next board takes off them.
use Rattle.std.proofs.Common.{◌≡◌, ℕ, zero, suc, Bool, true, false, cond, map, List, [], ◌∷◌, ◌++◌, get_or, Some, None, Option, sym, refl, ap, ◌∙◌, subst}
use Rattle.std.proofs.lemmas.List.{map-append}
use Rattle.std.proofs.lemmas.Bool.{true≢false}
use Rattle.std.specs.Fn.{Called}
use Rattle.std.specs.Iterator.Adapters.{filter_map_steps}
use Rattle.std.specs.List.{AllByRecursion}
use Rattle.std.specs.Option.{is_some}
use Rattle.std.specs.declared.iter.FilterMap.{FilterMap}
use denote.Param.Members.{Mut}
use Rattle.boards.specs.Boards.{member, passing, boards}
use Rattle.boards.specs.declared.Boards.{Boards}
use Rattle.boards.proofs.Lists.{all_boards}
use Rattle.boards.proofs.Yields.{fronts}
use Rattle.wire.proofs.Walks.{map_boards}
use Rattle.wire.specs.declared.message.Entry.{Entry}
use Rattle.wire.specs.declared.message.Tags.{Tags}
use Rattle.wire.specs.declared.message.Replies.{Replies}
use Rattle.wire.specs.Messages.{listed, joined, entry_byte, tag_bytes, tags_of, stored_tags, replies_by}
use Rattle.layout.specs.Measures.{Replied, reply_of}
use Rattle.layout.specs.Layouts.{replies_bytes}
use Rattle.layout.specs.declared.plan.Gathered.{Gathered}
use Rattle.layout.proofs.Replies.{absent, replies_listed}

-- The bytes of the stored tags of boards.
abbrev pub tags_at : List ℕ → List ℕ → List ℕ
tags_at ts bs = joined (map (λ b. tag_bytes (get_or ts b 0)) bs)

pub tags_none : (ts : List ℕ) {bs : List ℕ} → bs ≡ [] → tags_at ts bs ≡ []
unfolding joined
tags_none ts e = ap (tags_at ts) e

pub tags_first : (ts : List ℕ) {bs left : List ℕ} {i b : ℕ} → bs ≡ b ∷ left → i ≡ b → tags_at ts bs ≡ tag_bytes (get_or ts i 0) ++ tags_at ts left
unfolding joined
tags_first ts {left = left} e n = ap (tags_at ts) e ∙ ap (λ k. tag_bytes (get_or ts k 0) ++ tags_at ts left) (sym n)

pub tags_boards : (s : ℕ) (ts : List ℕ) → tags_at ts (boards s) ≡ stored_tags s ts
tags_boards s ts = ap joined (map_boards s _)

-- The bytes of boards' replies.
abbrev pub answers_at : Replies → List ℕ → List ℕ
answers_at q bs = replies_bytes (map (reply_of q.set.bits q.entries) bs)

answers_none : (q : Replies) {bs : List ℕ} → bs ≡ [] → answers_at q bs ≡ []
unfolding replies_bytes
answers_none q e = ap (answers_at q) e

answers_first : (q : Replies) {bs left : List ℕ} {b : ℕ} (y : Entry × Tags) → bs ≡ b ∷ left → Replied q.set.bits q.entries b (Some y)
    → answers_at q bs ≡ (entry_byte y.0 ∷ tags_of q.set.bits y.1) ++ answers_at q left
unfolding replies_bytes
answers_first q {left = left} y e r = ap (answers_at q) e ∙ (λ i. entry_byte (sym r.1 i) ∷ (sym r.2 i ++ answers_at q left))

pub answers_boards : (x : Gathered) → answers_at x.replies (boards x.replies.set.bits) ≡ replies_bytes (replies_by x.replies)
answers_boards x =
    let q = x.replies in
    ap replies_bytes (map_boards q.set.bits (reply_of q.set.bits q.entries) ∙ sym (replies_listed q.set.bits q.entries x.even))

-- Boards of set s.
abbrev pub Of : ℕ → List ℕ → Type 0
Of s bs = AllByRecursion (λ b. member s b ≡ true) bs

-- A filter that asks for the reply of each board left in a walk over the set passes over none.
module _ {F : Type 0} (x : Gathered) {g : Mut F (ℕ × Unit {0}) (Option (Entry × Tags))} {f : F}
    (asks : (b : ℕ) (r : Option (Entry × Tags)) (q : F) → Called g f (b, tt) r q → (q ≡ f) × Replied x.replies.set.bits x.replies.entries b r) where
  abbrev left : FilterMap Boards F → List ℕ
  left w = boards w.iter.left.bits

  passed : (w : Boards) (b : ℕ) (t : Boards) (p q : F) → p ≡ f → Of x.replies.set.bits (boards w.left.bits) → fronts w (Some b) t → Called g p (b, tt) None q → ⊥
  passed w b t p q a o h c =
      let m = (subst (Of x.replies.set.bits) h.1 o).0 in
      let none = (asks b None q (subst (λ z. Called g z (b, tt) None q) a c)).1 in
      true≢false (sym m ∙ absent x.replies.set.bits x.replies.entries b x.even none)

  pub next_reply : (w t : FilterMap Boards F) (y : Entry × Tags) → w.f ≡ f → Of x.replies.set.bits (left w) → filter_map_steps fronts g w (Some y) t
      → (answers_at x.replies (left w) ≡ (entry_byte y.0 ∷ tags_of x.replies.set.bits y.1) ++ answers_at x.replies (left t)) × Of x.replies.set.bits (left t) × (t.f ≡ f)
  next_reply w t y a o ([], None, h, d, i, m) = absurd (true≢false (ap is_some m.0))
  next_reply w t y a o ([], Some b, h, d, i, m) =
      let here : left w ≡ b ∷ left t = ap (λ z. boards z.left.bits) d.1 ∙ d.2.1 in
      let c = asks b (Some y) t.f (subst (λ z. Called g z (b, tt) (Some y) t.f) (sym i ∙ a) m.0) in
      (answers_first x.replies y here c.1, (subst (Of x.replies.set.bits) here o).1, c.0)
  next_reply w t y a o (b ∷ bs, r, h, d, i, m) = absurd (passed w.iter b d.1.0 w.f i.0 a o d.1.1 i.1)

  pub no_reply : (w t : FilterMap Boards F) → w.f ≡ f → Of x.replies.set.bits (left w) → filter_map_steps fronts g w None t → answers_at x.replies (left w) ≡ []
  no_reply w t a o ([], None, h, d, i, m) = answers_none x.replies (ap (λ z. boards z.left.bits) d.1 ∙ d.2.0)
  no_reply w t a o ([], Some b, h, d, i, m) = absurd (true≢false (sym m.1))
  no_reply w t a o (b ∷ bs, r, h, d, i, m) = absurd (passed w.iter b d.1.0 w.f i.0 a o d.1.1 i.1)
