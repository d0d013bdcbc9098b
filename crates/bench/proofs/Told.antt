-- The story: what was played from a common start is a history, and the rows at its end are as the program tested them.
-- From the runs of moves and the tests of rows.
use Rattle.std.proofs.Common.{◌≡◌, ℕ, ◌<◌, ◌≤◌, true, false, eqb, List, [], length, replicate, Some, None, Option, MatchOption, true≢false, sym, ap, ◌∙◌, subst, ⊎_elim, arith}
use Rattle.std.specs.List.{list_all}
use Rattle.std.specs.Prelude.{⊤}
use Rattle.std.specs.Option.{is_some}
use Rattle.std.proofs.lemmas.Bool.{and_parts, or_cases, eqb-true, leb-true, both_ways, cases_lt}
use Rattle.boards.specs.Boards.{member, size, tally}
use Rattle.boards.proofs.Chosen.{every_at}
use Rattle.boards.proofs.Sets.{size_none}
use lib.Bits.{bit_and}
use Rattle.views.specs.Shares.{share}
use Rattle.views.specs.Histories.{members_of}
use Rattle.views.proofs.Histories.{no_view_past}
use Rattle.schemes.specs.Registers.{good_in}
use Rattle.wire.specs.Acts.{words}
use Rattle.row.specs.declared.state.State.{State}
use Rattle.row.specs.States.{latest}
use Rattle.views_agree.specs.Agreement.{Outside, Started, row_of, Leads, Defines, Bounded}
use Rattle.bench.specs.declared.desk.Desk.{Desk}
use Rattle.bench.specs.declared.desk.Bench.{Bench}
use Rattle.bench.specs.declared.story.Move.{Move}
use Rattle.bench.specs.Story.{over_register, first, faulty, second, third, blank, Adds, Story}
use Rattle.bench.specs.Moves.{states, pages, Played}
use Rattle.bench.specs.Ends.{few_faulty, few_in_all, arrived, ends}
use Rattle.bench.proofs.Desks.{desk_at}
use Rattle.views_agree.proofs.Tags.{tags_vouch, eight_rows}
use Rattle.bench.proofs.Runs.{Reached, Goes, goes}

-- An answer that is there says what it says.
pub was_some : {P : Type 0} (r : Option (Unit {0})) → true ≡ is_some r → MatchOption r ⊤ (λ _. P) → P
was_some None none p = absurd (true≢false none)
was_some (Some _) there p = p

some : (1 ≤ size second) × (1 ≤ size third)
unfolding size tally member
some = (omega arith, omega arith)

few_at : (s : State) (x : ℕ) → few_in_all faulty s.views ≡ true → x < 65 → size (bit_and faulty (members_of s.views x)) ≤ share (size (members_of s.views x))
unfolding few_in_all few_faulty
few_at s x all l = leb-true _ _ (every_at (λ y. few_faulty faulty (members_of s.views y)) 65 x all l)

module _ (moves : List Move) (b0 b : Bench) (started : Started first (states b0.desks)) (blanks : pages b0.desks ≡ replicate 8 blank) (liars : b0.faulty.bits ≡ faulty)
    (empty : (k : ℕ) (w : List ℕ) (t : ℕ) → good_in b0.register k w t ≡ false) (played : Played moves b0 b) (all : list_all (λ (d : Desk). ends d.row.state) b.desks ≡ true) where
  begins : Reached (states b0.desks) [] b0
  begins = record { liars = liars; leads = Leads.begin; vouched = tt; tags = λ k a t o ok ours good. absurd (both_ways (good_in b0.register k (words a) t) (empty k (words a) t) good) }

  went : Goes (states b0.desks) started moves (pages b0.desks) [] b
  went = goes (states b0.desks) started moves [] b0 b played begins

  own : (k : ℕ) → k < 8 → (row_of (states b.desks) k).board ≡ k
  own = (tags_vouch over_register).seated faulty first (states b0.desks) (states b.desks) went.longer started went.reached.leads

  eight : length (states b.desks) ≡ 8
  eight = eight_rows over_register faulty first (states b0.desks) (states b.desks) went.longer started went.reached.leads

  row_ends : (k : ℕ) → k < 8 → (d : Desk) × (row_of (states b.desks) k ≡ d.row.state) × (ends d.row.state ≡ true)
  row_ends k l = desk_at (λ (d : Desk). ends d.row.state) b.desks k (subst (λ n. k < n) (sym eight) l) all

  few : Bounded faulty (states b.desks)
  few k x v o d =
      let r = row_ends k o.0 in
      let s = r.0.row.state in
      let here : members_of s.views x ≡ v = ap (λ (z : State). members_of z.views x) (sym r.1) ∙ d.0 in
      let low = (and_parts _ _ r.2).0 in
      ⊎_elim (λ l. subst (λ m. size (bit_and faulty m) ≤ share (size m)) here (few_at s x low l))
      (λ past.
      let none = no_view_past s.views x (omega (arith, r.0.row.sound.counted.3, past)) in
      absurd (omega (arith, ap size (sym here ∙ none) ∙ size_none, d.1)))
      (cases_lt x 65)

  end : (k : ℕ) → Outside faulty k → (latest (row_of (states b.desks) k) ≡ 3) × Defines (states b.desks) k 2 second × Defines (states b.desks) k 3 third
  end k o =
      let r = row_ends k o.0 in
      let s = r.0.row.state in
      let mine : s.board ≡ k = ap (λ (z : State). z.board) (sym r.1) ∙ own k o.0 in
      let there : arrived s ≡ true =
      ⊎_elim (λ lies. absurd (both_ways (member faulty k) o.1 (ap (member faulty) (sym mine) ∙ lies))) (λ e. e) (or_cases (member faulty s.board) (arrived s) (and_parts _ _ r.2).1) in
      let at = and_parts (eqb (latest s) 3) _ there in
      let by = and_parts (eqb (members_of s.views 2) second) (eqb (members_of s.views 3) third) at.1 in (
        ap latest r.1 ∙ eqb-true (latest s) 3 at.0,
        (ap (λ (z : State). members_of z.views 2) r.1 ∙ eqb-true (members_of s.views 2) second by.0, some.0),
        (ap (λ (z : State). members_of z.views 3) r.1 ∙ eqb-true (members_of s.views 3) third by.1, some.1),
      )

  pub told : Story moves
  told = record {
    start = states b0.desks;
    rows = states b.desks;
    history = went.longer;
    started = started;
    leads = went.reached.leads;
    calls = subst (λ ps. Adds moves ps [] went.longer) blanks went.adds;
    vouched = went.reached.vouched;
    bounded = few;
    ends = end;
  }
