-- One part put after another, from a place on.
-- Two puts are one put of both parts; a loop that puts parts goes through the whole with them.
use Rattle.std.proofs.Common.{◌≡◌, ℕ, ◌+◌, ◌≤◌, List, [], ◌++◌, length, take, drop, sym, refl, ap, ◌∙◌, subst, add-zero, arith}
use Rattle.std.proofs.lemmas.List.{append_assoc, append-nil, take_at, drop_at, drop-drop, length-append, length-drop, length-take-le, take-append-drop}
use Rattle.writer.specs.Writes.{Put, Puts}
use Rattle.writer.specs.declared.put.Cursor.{Cursor}

pub none : (old : List ℕ) (n : ℕ) → Put old n [] n old
none old n = record { place = sym (add-zero n); after = sym (ap (λ k. take n old ++ drop k old) (add-zero n) ∙ take-append-drop n old) }

pub more : {old xs ys new newer : List ℕ} {n m r : ℕ} → n ≤ length old → Put old n xs m new → Put new m ys r newer → Put old n (xs ++ ys) r newer
more {old} {xs} {ys} {new} {newer} {n} {m} {r} h f p =
    let split : new ≡ (take n old ++ xs) ++ drop m old = f.after ∙ ap (λ k. take n old ++ (xs ++ drop k old)) (sym f.place) ∙ sym (append_assoc (take n old) xs (drop m old)) in
    let long : length (take n old ++ xs) ≡ m = length-append (take n old) xs ∙ ap (λ k. k + length xs) (length-take-le n old h) ∙ sym f.place in
    let front : take m new ≡ take n old ++ xs = ap (take m) split ∙ take_at (take n old ++ xs) (drop m old) m long in
    let rest : drop m new ≡ drop m old = ap (drop m) split ∙ drop_at (take n old ++ xs) (drop m old) m long in
    let all : m + length ys ≡ n + length (xs ++ ys) = simp length-append (omega (arith, f.place)) in
    let back : drop (m + length ys) new ≡ drop (n + length (xs ++ ys)) old =
    sym (drop-drop (length ys) m new) ∙ ap (drop (length ys)) rest ∙ drop-drop (length ys) m old ∙ ap (λ k. drop k old) all in
    record {
      place = p.place ∙ all;
      after = p.after ∙ (λ i. front i ++ (ys ++ back i)) ∙ append_assoc (take n old) xs (ys ++ drop (n + length (xs ++ ys)) old) ∙ ap (λ l. take n old ++ l) (sym (append_assoc xs ys (drop (n + length (xs ++ ys)) old)));
    }

pub same : {old xs ys new : List ℕ} {n r : ℕ} → xs ≡ ys → Put old n xs r new → Put old n ys r new
same {old} {new = new} {n = n} {r = r} e p = subst (λ l. Put old n l r new) e p

-- A part within the bytes leaves as many as there were.
pub kept : {old xs new : List ℕ} {n r : ℕ} → n + length xs ≤ length old → Put old n xs r new → length new ≡ length old
kept {old} {xs} {new} {n} {r} h p =
    let front : length (take n old) ≡ n = length-take-le n old (omega arith) in
    ap length p.after ∙ simp (length-append, length-drop) (omega arith)

-- The same of cursors.
pub none_at : (a : Cursor) → Puts a [] a
none_at a = record { put = none a.out.now a.at; kept = refl }

pub more_at : {a b d : Cursor} {xs ys : List ℕ} → a.at ≤ length a.out.now → Puts a xs b → Puts b ys d → Puts a (xs ++ ys) d
more_at h p q = record { put = more h p.put q.put; kept = q.kept ∙ p.kept }

pub same_at : {a b : Cursor} {xs ys : List ℕ} → xs ≡ ys → Puts a xs b → Puts a ys b
same_at {a} {b} e p = subst (λ l. Puts a l b) e p

-- A cursor under another name.
pub reached : {a b d : Cursor} {xs : List ℕ} → d ≡ b → Puts a xs b → Puts a xs d
reached {a} {xs = xs} e p = subst (Puts a xs) (sym e) p

-- What is put from cursor a to b, joined with what is still to put, is the whole.
pub record Through (a : Cursor) (whole rest : List ℕ) (b : Cursor) : Type 0 where
  pub part : List ℕ
  pub puts : Puts a part b
  pub joins : part ++ rest ≡ whole

pub starts : {a : Cursor} {whole rest : List ℕ} → rest ≡ whole → Through a whole rest a
starts {a} e = record { part = []; puts = none_at a; joins = e }

-- What is still to put has room where the whole has.
pub room : {a b : Cursor} {whole rest : List ℕ} → a.at + length whole ≤ length a.out.now → Through a whole rest b → b.at + length rest ≤ length b.out.now
room {rest = rest} h t =
    let long = ap length (sym t.joins) ∙ length-append t.part rest in
    omega (arith, h, long, t.puts.put.place, kept (omega (arith, h, long)) t.puts.put)

pub turn : {a b d : Cursor} {whole rest next left : List ℕ} → rest ≡ next ++ left → a.at ≤ length a.out.now → Through a whole rest b → Puts b next d → Through a whole left d
turn {next = next} {left} e h t p = record { part = t.part ++ next; puts = more_at h t.puts p; joins = append_assoc t.part next left ∙ ap (λ l. t.part ++ l) (sym e) ∙ t.joins }

pub ends : {a b : Cursor} {whole rest : List ℕ} → rest ≡ [] → Through a whole rest b → Puts a whole b
ends e t = same_at (sym (append-nil t.part) ∙ ap (λ l. t.part ++ l) (sym e) ∙ t.joins) t.puts
