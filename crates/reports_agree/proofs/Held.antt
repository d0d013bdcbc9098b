-- What one board's reports keep, over all that the board did: echoes, deliveries and messages sent, told by view, sender, number and content.
-- Nothing is said here of calls, tags or other boards; x and views are the board's latest view and its views.
use Rattle.std.proofs.Common.{◌≡◌, ℕ, ◌+◌, ◌<◌, ◌≤◌, true, false, ◌⊎◌, Some, None, Option, sym, ap, ◌∙◌, subst, inl, inr, ⊎_elim, arith}
use Rattle.std.proofs.lemmas.Bool.{cases_eq, cases_lt}
use Rattle.boards.specs.Boards.{member}
use Rattle.delivery.specs.Reports.{Content, claim}

abbrev pub Facts : Type 1
Facts = ℕ → ℕ → ℕ → Content → Type 0

-- One fact more; another value at one place; one delivery more.
pub record Adds (old : Facts) (y s i : ℕ) (c : Content) (new : Facts) : Type 0 where
  pub from : (z t j : ℕ) (q : Content) → new z t j q → ((z ≡ y) × (t ≡ s) × (j ≡ i) × (q ≡ c)) ⊎ old z t j q
  pub keep : (z t j : ℕ) (q : Content) → old z t j q → new z t j q
  pub here : new y s i c

pub record Put {A : Type 0} (old : ℕ → A) (s : ℕ) (a : A) (new : ℕ → A) : Type 0 where
  pub at : new s ≡ a
  pub else : (t : ℕ) → (t ≡ s → ⊥) → new t ≡ old t

pub record Rises (old : ℕ → ℕ → ℕ) (y s : ℕ) (new : ℕ → ℕ → ℕ) : Type 0 where
  pub at : new y s ≡ old y s + 1
  pub else : (z t : ℕ) → ((z ≡ y) × (t ≡ s) → ⊥) → new z t ≡ old z t

pub moved3 : (P : Facts) (c : Content) {z t j y s i : ℕ} → z ≡ y → t ≡ s → j ≡ i → P y s i c → P z t j c
moved3 P c {z} {t} {j} {y} {s} {i} hz ht hj p = subst (λ v. P v t j c) (sym hz) (subst (λ v. P y v j c) (sym ht) (subst (λ v. P y s v c) (sym hj) p))

pub none_some : {A B : Type 0} (e : A) → None ≡ Some e → B
none_some e h = absurd (let z : ◌≡◌ {A = ℕ} 0 1 = cc in omega arith)

pub some_same : {A : Type 0} (a b : A) → Some a ≡ Some b → a ≡ b
some_same a b h = cc

-- What is echoed under the next number stays until a delivery; so under one number one content is echoed.
pub record EchoesHeld (now : ℕ) (count : ℕ → ℕ) (echo : ℕ → Option Content) (echoed : Facts) : Type 0 where
  pub past : (y s i : ℕ) (c : Content) → echoed y s i c → (y < now) ⊎ ((y ≡ now) × ((i ≤ count s) ⊎ ((i ≡ count s + 1) × (echo s ≡ Some c))))
  pub one : (y s i : ℕ) (c d : Content) → echoed y s i c → echoed y s i d → c ≡ d

module _ {now : ℕ} {count : ℕ → ℕ} {echo : ℕ → Option Content} {echoed : Facts} (k : EchoesHeld now count echo echoed) where
  module _ (y s i : ℕ) (c : Content) (same : y ≡ now) (next : i ≡ count s + 1) (first : (echo s ≡ None) ⊎ (echo s ≡ Some c)) where
    -- An echo under the next number is of the content that stays.
    echo_stays : (z t j : ℕ) (q : Content) → z ≡ y → t ≡ s → j ≡ i → echoed z t j q → q ≡ c
    echo_stays z t j q hz ht hj o =
        let at : count t ≡ count s = ap count ht in
        ⊎_elim (λ u. absurd (omega arith))
        (λ u. ⊎_elim (λ le. absurd (omega arith))
        (λ e. let here : echo s ≡ Some q = ap echo (sym ht) ∙ e.1 in ⊎_elim (λ none. none_some q (sym none ∙ here)) (λ some. some_same q c (sym here ∙ some)) first) u.1)
        (k.past z t j q o)

    pub echoes_more : {echo2 : ℕ → Option Content} {echoed2 : Facts} → Put echo s (Some c) echo2 → Adds echoed y s i c echoed2 → EchoesHeld now count echo2 echoed2
    echoes_more {echo2} {echoed2} put add = record {
      past = λ z t j q o. ⊎_elim
          (λ e. inr (e.0 ∙ same, inr (e.2 ∙ next ∙ ap (λ u. count u + 1) (sym e.1), ap echo2 e.1 ∙ put.at ∙ ap Some (sym e.3))))
          (λ old. ⊎_elim inl
          (λ u. inr (
            u.0,
            ⊎_elim inl
                (λ e. inr (
                  e.0,
                  ⊎_elim
                      (λ ht. ap echo2 ht ∙ put.at ∙ ap Some (sym (echo_stays z t j q (u.0 ∙ sym same) ht (e.0 ∙ ap (λ v. count v + 1) ht ∙ sym next) old)))
                      (λ ht. put.else t ht ∙ e.1) (cases_eq t s),
                ))
                u.1,
          ))
          (k.past z t j q old))
          (add.from z t j q o);
      one = λ z t j u w du dw. ⊎_elim
          (λ a. ⊎_elim (λ b. a.3 ∙ sym b.3) (λ b. a.3 ∙ sym (echo_stays z t j w a.0 a.1 a.2 b)) (add.from z t j w dw))
          (λ a. ⊎_elim (λ b. echo_stays z t j u b.0 b.1 b.2 a ∙ sym b.3) (λ b. k.one z t j u w a b) (add.from z t j w dw))
          (add.from z t j u du);
    }

  pub echoes_delivered : (s i : ℕ) {count2 : ℕ → ℕ} {echo2 : ℕ → Option Content} → i ≡ count s + 1 → Put count s i count2 → Put echo s None echo2 → EchoesHeld now count2 echo2 echoed
  echoes_delivered s i {count2} {echo2} next pc pe = record {
    past = λ z t j q o. ⊎_elim inl
        (λ u. inr (
          u.0,
          ⊎_elim
              (λ ht.
              let at : count2 t ≡ i = ap count2 ht ∙ pc.at in
              let was : count t ≡ count s = ap count ht in
              inl (⊎_elim (λ le. omega arith) (λ e. omega (arith, e.0)) u.1))
              (λ ht. let at = pc.else t ht in ⊎_elim (λ le. inl (omega arith)) (λ e. inr (omega (arith, e.0), pe.else t ht ∙ e.1)) u.1)
              (cases_eq t s),
        ))
        (k.past z t j q o);
    one = k.one;
  }

  pub echoes_moved : (now2 : ℕ) (count2 : ℕ → ℕ) (echo2 : ℕ → Option Content) → now < now2 → EchoesHeld now2 count2 echo2 echoed
  echoes_moved now2 count2 echo2 later = record {
    past = λ z t j q o. inl (⊎_elim (λ u. omega arith) (λ u. omega (arith, u.0)) (k.past z t j q o));
    one = k.one;
  }

-- What was delivered from a sender under a view has the numbers from 1 on, an end the last.
pub record CountsHeld (now : ℕ) (count : ℕ → ℕ) (claims : ℕ → Option ℕ) (total : ℕ → ℕ → ℕ) (delivered : Facts) : Type 0 where
  pub here : (s : ℕ) → total now s ≡ count s
  pub later : (y s : ℕ) → now < y → total y s ≡ 0
  pub past : (y s i : ℕ) (c : Content) → delivered y s i c → (1 ≤ i) × (i ≤ total y s)
  pub all : (y s j : ℕ) → 1 ≤ j → j ≤ total y s → (c : Content) × delivered y s j c
  pub claimed : (s m : ℕ) → claims s ≡ Some m → (i : ℕ) × (c : Content) × delivered now s i c × (claim c ≡ Some m)
  pub ended : (s i m : ℕ) (c : Content) → delivered now s i c → claim c ≡ Some m → claims s ≡ Some m
  pub last : (y s i m : ℕ) (c : Content) → delivered y s i c → claim c ≡ Some m → i ≡ total y s
  pub one : (y s i : ℕ) (c d : Content) → delivered y s i c → delivered y s i d → c ≡ d

module _ {now : ℕ} {count : ℕ → ℕ} {claims : ℕ → Option ℕ} {total : ℕ → ℕ → ℕ} {delivered : Facts} (k : CountsHeld now count claims total delivered) where
  -- Nothing is delivered under a later view.
  pub not_later : (y s i : ℕ) (c : Content) → delivered y s i c → y ≤ now
  not_later y s i c o = ⊎_elim (λ late. absurd (omega (arith, k.later y s late, (k.past y s i c o).0, (k.past y s i c o).1))) (λ le. le) (cases_lt now y)

  module _ (y s i : ℕ) (c : Content) {count2 : ℕ → ℕ} {claims2 : ℕ → Option ℕ} {total2 : ℕ → ℕ → ℕ} {delivered2 : Facts} (same : y ≡ now) (next : i ≡ count s + 1) (open_yet : claims s ≡ None)
      (pc : Put count s i count2) (pe : Put claims s (claim c) claims2) (up : Rises total y s total2) (add : Adds delivered y s i c delivered2) where
    now_total : total y s ≡ count s
    now_total = ap (λ z. total z s) same ∙ k.here s

    total_here : (z t : ℕ) → z ≡ y → t ≡ s → total2 z t ≡ i
    total_here z t hz ht = (λ n. total2 (hz n) (ht n)) ∙ up.at ∙ ap (λ n. n + 1) now_total ∙ sym next

    total_rises : (z t : ℕ) → total z t ≤ total2 z t
    total_rises z t =
        ⊎_elim (λ hz. ⊎_elim (λ ht. let a : total z t ≡ count s = (λ n. total (hz n) (ht n)) ∙ now_total in omega (arith, a, total_here z t hz ht))
        (λ ht. omega (arith, up.else z t (λ e. ht e.1))) (cases_eq t s))
        (λ hz. omega (arith, up.else z t (λ e. hz e.0))) (cases_eq z y)

    other : (z t : ℕ) {A : Type 0} → ((z ≡ y) × (t ≡ s) → A) → (total2 z t ≡ total z t → A) → A
    other z t here there = ⊎_elim (λ hz. ⊎_elim (λ ht. here (hz, ht)) (λ ht. there (up.else z t (λ e. ht e.1))) (cases_eq t s)) (λ hz. there (up.else z t (λ e. hz e.0))) (cases_eq z y)

    -- The sender had not ended.
    no_end : (z t j m : ℕ) (q : Content) {A : Type 0} → z ≡ y → t ≡ s → delivered z t j q → claim q ≡ Some m → A
    no_end z t j m q {A} hz ht o e =
        let at : delivered now t j q = subst (λ v. delivered v t j q) (hz ∙ same) o in none_some m (sym open_yet ∙ ap claims (sym ht) ∙ k.ended t j m q at e)

    -- Its number was not delivered before.
    taken_number : (z t j : ℕ) (q : Content) {A : Type 0} → z ≡ y → t ≡ s → j ≡ i → delivered z t j q → A
    taken_number z t j q hz ht hj o =
        let a : total z t ≡ count s = (λ n. total (hz n) (ht n)) ∙ now_total in absurd (omega (arith, hj, a, (k.past z t j q o).1))

    pub counts_more : CountsHeld now count2 claims2 total2 delivered2
    counts_more = record {
      here = λ t. ⊎_elim (λ ht. total_here now t (sym same) ht ∙ sym (ap count2 ht ∙ pc.at)) (λ ht. up.else now t (λ e. ht e.1) ∙ k.here t ∙ sym (pc.else t ht)) (cases_eq t s);
      later = λ z t late. up.else z t (λ e. omega (arith, e.0)) ∙ k.later z t late;
      past = λ z t j q o. ⊎_elim
          (λ e. let m = total_here z t e.0 e.1 in (omega (arith, e.2), omega (arith, e.2, m)))
          (λ old. let p = k.past z t j q old in (p.0, omega (arith, p.1, total_rises z t)))
          (add.from z t j q o);
      all = λ z t j low high. other z t
          (λ e. ⊎_elim
          (λ less. let a : total z t ≡ count s = (λ n. total (e.0 n) (e.1 n)) ∙ now_total in let p = k.all z t j low (omega arith) in (p.0, add.keep z t j p.0 p.1))
          (λ more.
          let eq : j ≡ i = omega (arith, total_here z t e.0 e.1) in
          (c, moved3 delivered2 c e.0 e.1 eq add.here))
          (cases_lt j i))
          (λ e. let p = k.all z t j low (omega arith) in (p.0, add.keep z t j p.0 p.1));
      claimed = λ t m e. ⊎_elim
          (λ ht. (i, c, subst (λ v. delivered2 v t i c) same (subst (λ v. delivered2 y v i c) (sym ht) add.here), sym (ap claims2 ht ∙ pe.at) ∙ e))
          (λ ht. let p = k.claimed t m (sym (pe.else t ht) ∙ e) in (p.0, p.1, add.keep now t p.0 p.1 p.2, p.3))
          (cases_eq t s);
      ended = λ t j m q o e. ⊎_elim
          (λ new. ap claims2 new.1 ∙ pe.at ∙ ap claim (sym new.3) ∙ e)
          (λ old. ⊎_elim (λ ht. no_end now t j m q (sym same) ht old e) (λ ht. pe.else t ht ∙ k.ended t j m q old e) (cases_eq t s))
          (add.from now t j q o);
      last = λ z t j m q o e. ⊎_elim
          (λ new. new.2 ∙ sym (total_here z t new.0 new.1))
          (λ old. other z t (λ w. no_end z t j m q w.0 w.1 old e) (λ w. k.last z t j m q old e ∙ sym w))
          (add.from z t j q o);
      one = λ z t j u q du dq. ⊎_elim
          (λ p. ⊎_elim (λ r. p.3 ∙ sym r.3) (λ r. taken_number z t j q p.0 p.1 p.2 r) (add.from z t j q dq))
          (λ p. ⊎_elim (λ r. taken_number z t j u r.0 r.1 r.2 p) (λ r. k.one z t j u q p r) (add.from z t j q dq))
          (add.from z t j u du);
    }

  pub counts_moved : {now2 : ℕ} {count2 : ℕ → ℕ} {claims2 : ℕ → Option ℕ} → now < now2 → ((s : ℕ) → count2 s ≡ 0) → ((s : ℕ) → claims2 s ≡ None) → CountsHeld now2 count2 claims2 total delivered
  counts_moved {now2} {count2} {claims2} later none clear = record {
    here = λ s. k.later now2 s later ∙ sym (none s);
    later = λ y s late. k.later y s (omega arith);
    past = k.past;
    all = k.all;
    claimed = λ s m e. none_some m (sym (clear s) ∙ e);
    ended = λ s i m c o e. absurd (omega (arith, later, not_later now2 s i c o));
    last = k.last;
    one = k.one;
  }

-- Boards of two views, and of the first alone.
abbrev pub Stay : ℕ → ℕ → ℕ → Type 0
Stay v w s = (member v s ≡ true) × (member w s ≡ true)

abbrev pub Leave : ℕ → ℕ → ℕ → Type 0
Leave v w s = (member v s ≡ true) × (member w s ≡ false)

-- An end of a board that stays, with this claim, was delivered.
pub record Claimed (delivered : Facts) (v w y m : ℕ) : Type 0 where
  pub board : ℕ
  pub stays : Stay v w board
  pub number : ℕ
  pub content : Content
  pub claims : claim content ≡ Some m
  pub was : delivered y board number content

-- A number is within the board's own claim m, or within one that it delivered.
abbrev pub Within : Facts → ℕ → ℕ → ℕ → ℕ → ℕ → Type 0
Within delivered v w y i m = (i ≤ m) ⊎ ((n : ℕ) × Claimed delivered v w y n × (i ≤ n))

-- What a board sent; an end is the last, and comes once the next view is there; from then on a board that leaves is cut off.
pub record SendsHeld (x : ℕ) (views : ℕ → ℕ) (now number : ℕ) (mine : Option ℕ) (sent : ℕ → ℕ → Content → Type 0) (delivered : Facts) : Type 0 where
  pub past : (y i : ℕ) (c : Content) → sent y i c → (y < now) ⊎ ((y ≡ now) × (i ≤ number))
  pub one : (y i : ℕ) (c d : Content) → sent y i c → sent y i d → c ≡ d
  pub ended : (i m : ℕ) (c : Content) → sent now i c → claim c ≡ Some m → mine ≡ Some m
  pub in_time : (y i m : ℕ) (c : Content) → sent y i c → claim c ≡ Some m → (1 ≤ y) × (y < x)
  pub mine_in_time : (m : ℕ) → mine ≡ Some m → now < x
  pub held_back : (y j m s i : ℕ) (e c : Content) → sent y j e → claim e ≡ Some m → Leave (views y) (views (y + 1)) s → delivered y s i c → Within delivered (views y) (views (y + 1)) y i m

pub within_more : (old new : Facts) {v w y i m : ℕ} → ((z t j : ℕ) (q : Content) → old z t j q → new z t j q) → Within old v w y i m → Within new v w y i m
within_more old new keep p = ⊎_elim inl
    (λ u. inr (u.0, record { board = u.1.board; stays = u.1.stays; number = u.1.number; content = u.1.content; claims = u.1.claims; was = keep _ _ _ _ u.1.was }, u.2)) p

module _ {x : ℕ} {views : ℕ → ℕ} {now number : ℕ} {mine : Option ℕ} {sent : ℕ → ℕ → Content → Type 0} {delivered : Facts} (k : SendsHeld x views now number mine sent delivered) where
  -- A message is sent.
  pub record Sends (y i : ℕ) (c : Content) (sent2 : ℕ → ℕ → Content → Type 0) : Type 0 where
    pub from : (z j : ℕ) (q : Content) → sent2 z j q → ((z ≡ y) × (j ≡ i) × (q ≡ c)) ⊎ sent z j q

  pub sends_more : {count : ℕ → ℕ} {claims : ℕ → Option ℕ} {total : ℕ → ℕ → ℕ} (y i : ℕ) (c : Content) {sent2 : ℕ → ℕ → Content → Type 0} → CountsHeld now count claims total delivered
      → y ≡ now → number < i → mine ≡ None → ((m : ℕ) → claim c ≡ Some m → (1 ≤ y) × (y < x) × ((s : ℕ) → Leave (views y) (views (y + 1)) s → count s ≡ m)) → Sends y i c sent2
      → SendsHeld x views now i (claim c) sent2 delivered
  sends_more {count} {claims} {total} y i c {sent2} held same above unended ends add = record {
    past = λ z j q o. ⊎_elim (λ e. inr (e.0 ∙ same, omega (arith, e.1))) (λ old. ⊎_elim inl (λ u. inr (u.0, omega (arith, u.1))) (k.past z j q old)) (add.from z j q o);
    one = λ z j p q op oq. ⊎_elim
        (λ a. ⊎_elim (λ b. a.2 ∙ sym b.2) (λ b. absurd (new_number z j q a.0 a.1 b)) (add.from z j q oq))
        (λ a. ⊎_elim (λ b. absurd (new_number z j p b.0 b.1 a)) (λ b. k.one z j p q a b) (add.from z j q oq))
        (add.from z j p op);
    ended = λ j m q o e. ⊎_elim (λ new. ap claim (sym new.2) ∙ e) (λ old. none_some m (sym unended ∙ k.ended j m q old e)) (add.from now j q o);
    in_time = λ z j m q o e. ⊎_elim
        (λ new. let t = ends m (ap claim (sym new.2) ∙ e) in (omega (arith, new.0, t.0), omega (arith, new.0, t.1)))
        (λ old. k.in_time z j m q old e)
        (add.from z j q o);
    mine_in_time = λ m e. omega (arith, same, (ends m e).1);
    held_back = λ z j m s n q p o e lv d. ⊎_elim
        (λ new.
        let t = ends m (ap claim (sym new.2) ∙ e) in
        let mine_now : count s ≡ m = t.2 s (subst (λ v. Leave (views v) (views (v + 1)) s) new.0 lv) in
        let here : total z s ≡ count s = ap (λ v. total v s) (new.0 ∙ same) ∙ held.here s in
        inl (omega (arith, (held.past z s n p d).1)))
        (λ old. k.held_back z j m s n q p old e lv d)
        (add.from z j q o);
  }
    where
      new_number : (z j : ℕ) (q : Content) → z ≡ y → j ≡ i → sent z j q → ⊥
      new_number z j q hz hj o = ⊎_elim (λ u. omega arith) (λ u. omega (arith, u.1)) (k.past z j q o)

  pub sends_delivered : {count : ℕ → ℕ} {claims : ℕ → Option ℕ} {total : ℕ → ℕ → ℕ} (y s i : ℕ) (c : Content) {delivered2 : Facts} → CountsHeld now count claims total delivered → y ≡ now
      → ((m : ℕ) → mine ≡ Some m → Leave (views y) (views (y + 1)) s → (t n : ℕ) × Stay (views y) (views (y + 1)) t × (claims t ≡ Some n) × (i ≤ n))
      → Adds delivered y s i c delivered2 → SendsHeld x views now number mine sent delivered2
  sends_delivered {count} {claims} {total} y s i c {delivered2} held same let_by add = record {
    past = k.past;
    one = k.one;
    ended = k.ended;
    in_time = k.in_time;
    mine_in_time = k.mine_in_time;
    held_back = λ z j m t n q p o e lv d. ⊎_elim
        (λ new.
        let own = k.ended j m q (subst (λ v. sent v j q) (new.0 ∙ same) o) e in
        let l = let_by m own (subst (λ v. Leave (views v) (views (v + 1)) s) new.0 (subst (λ v. Leave (views z) (views (z + 1)) v) new.1 lv)) in
        let g = held.claimed l.0 l.1 l.3 in
        inr (
          l.1,
          record {
            board = l.0;
            stays = subst (λ v. Stay (views v) (views (v + 1)) l.0) (sym new.0) l.2;
            number = g.0;
            content = g.1;
            claims = g.3;
            was = subst (λ v. delivered2 v l.0 g.0 g.1) (sym (new.0 ∙ same)) (add.keep now l.0 g.0 g.1 g.2);
          },
          omega (arith, new.2, l.4),
        ))
        (λ old. within_more delivered delivered2 add.keep (k.held_back z j m t n q p o e lv old))
        (add.from z t n p d);
  }

  pub sends_moved : {now2 : ℕ} → now < now2 → SendsHeld x views now2 0 None sent delivered
  sends_moved {now2} later = record {
    past = λ y i c o. inl (⊎_elim (λ u. omega arith) (λ u. omega (arith, u.0)) (k.past y i c o));
    one = k.one;
    ended = λ i m c o e. absurd (⊎_elim (λ u. omega arith) (λ u. omega (arith, u.0)) (k.past now2 i c o));
    in_time = k.in_time;
    mine_in_time = λ m e. none_some m e;
    held_back = k.held_back;
  }

  -- More views change nothing.
  pub sends_onward : {x2 : ℕ} {views2 : ℕ → ℕ} → x ≤ x2 → ((v : ℕ) → v ≤ x → views2 v ≡ views v) → SendsHeld x2 views2 now number mine sent delivered
  sends_onward {x2} {views2} up stay = record {
    past = k.past;
    one = k.one;
    ended = k.ended;
    in_time = λ y i m c o e. let t = k.in_time y i m c o e in (t.0, omega (arith, t.1));
    mine_in_time = λ m e. omega (arith, k.mine_in_time m e);
    held_back = λ y j m s i e c o h lv d.
        let t = k.in_time y j m e o h in
        let a = stay y (omega (arith, t.1)) in
        let b = stay (y + 1) (omega (arith, t.1)) in
        subst (λ v. Within delivered v (views2 (y + 1)) y i m) (sym a)
        (subst (λ v. Within delivered (views y) v y i m) (sym b)
        (k.held_back y j m s i e c o h (subst (λ v. Leave v (views (y + 1)) s) a (subst (λ v. Leave (views2 y) v s) b lv)) d));
  }
