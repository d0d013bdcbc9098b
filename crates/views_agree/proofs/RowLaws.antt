-- The laws of one row together, kept by each of its deeds; they need no other board, no scheme and no bound on faults.
-- Each law reads only the fields it names, so a deed that leaves those alone passes it by.
use Rattle.std.proofs.Common.{◌≡◌, ℕ, ◌+◌, ◌<◌, ◌≤◌, List, [], ◌∷◌, Option, sym, refl, ◌∙◌, subst}
use Rattle.std.proofs.lemmas.Bool.{false≢true}
use Rattle.boards.specs.Boards.{size}
use Rattle.row.specs.declared.state.Kept.{Kept}
use Rattle.views_agree.proofs.Deeds.{Row, Vote, rank, level, kept_after, Tells, Deed, Did, AskedIn, DeputisedIn, ChangedIn, More, Growing, Begins, Does}
use Rattle.views_agree.proofs.Floor.{Ranked, Floor, ranked_voted, floor_voted, floor_changed}
use Rattle.views_agree.proofs.OneVote.{OneVote, one_vote_voted}
use Rattle.views_agree.proofs.KeptProposal.{Keeps, Readied, keeps_voted, readied_voted, keeps_changed, readied_nothing}
use Rattle.views_agree.proofs.LastTells.{LastTells, last_tells_voted}
use Rattle.views_agree.proofs.Course.{Course, course_changed, course_begins}
use Rattle.views_agree.proofs.Suspects.{Suspects, suspects_asked, suspects_deputised, suspects_changed}

-- What ties a row's floor and kept proposal to its votes.
pub record Votes (now floor : ℕ) (kept : Option Kept) (did : ℕ → Vote → Type 0) : Type 0 where
  pub ranked : Ranked did
  pub above : Floor now floor did
  pub one : OneVote did
  pub keeps : Keeps now kept did
  pub readied : Readied now kept did
  pub tells : LastTells did

pub record LawsOfRow (first : ℕ) (r : Row) (h : List Deed) : Type 0 where
  pub votes : Votes r.x r.floor r.kept (Did h)
  pub course : Course first r.x r.views (ChangedIn h)
  pub asks : Suspects r.x r.suspect r.views (AskedIn h) (DeputisedIn h)

module _ {now floor : ℕ} {kept : Option Kept} {did : ℕ → Vote → Type 0} (p : Votes now floor kept did) where
  voted : (y : ℕ) (v : Vote) → y ≡ now → 1 ≤ rank v → level v < floor → Tells v kept → Votes now (level v) (kept_after v kept) (More did y v)
  voted y v same ranked low tells = record {
    ranked = ranked_voted p.ranked y v ranked;
    above = floor_voted p.above y v same low;
    one = one_vote_voted p.above p.one y v same low;
    keeps = keeps_voted p.ranked p.above p.keeps y v low;
    readied = readied_voted now kept did p.readied y v same;
    tells = last_tells_voted p.above p.keeps p.readied p.tells y v same low tells;
  }

  votes_changed : (r r2 : Row) (c : ℕ) → now ≡ r.x → Growing r c r2 → Votes r2.x r2.floor r2.kept did
  votes_changed r r2 c here g =
      let next : r2.x ≡ now + 1 = g.next ∙ (λ i. sym here i + 1) in
      record {
        ranked = p.ranked;
        above = floor_changed p.above r2.x r2.floor next;
        one = p.one;
        keeps = keeps_changed p.above r2.x r2.kept next;
        readied = readied_nothing r2.x r2.kept did g.kept;
        tells = p.tells;
      }

pub laws_kept : (first : ℕ) (d : Deed) (r r2 : Row) (h : List Deed) → LawsOfRow first r h → Does d r r2 → LawsOfRow first r2 (d ∷ h)
laws_kept first (Deed.Asks y c) r r2 h p s =
    subst (λ z. LawsOfRow first z (Deed.Asks y c ∷ h)) (sym s.1.after) (record { votes = p.votes; course = p.course; asks = suspects_asked r p.asks r2 y c s.0 s.1 })
laws_kept first (Deed.Deputes y c k) r r2 h p s =
    subst (λ z. LawsOfRow first z (Deed.Deputes y c k ∷ h)) (sym s.2.after)
    (record { votes = p.votes; course = p.course; asks = suspects_deputised r p.asks r2 y c k s.0 s.2 s.1 })
laws_kept first (Deed.Voted y v) r r2 h p s =
    subst (λ z. LawsOfRow first z (Deed.Voted y v ∷ h)) (sym s.1.after)
    (record { votes = voted p.votes y v s.0 s.1.ranked s.1.low s.1.tells; course = p.course; asks = p.asks })
laws_kept first (Deed.Changed y c) r r2 h p s = record {
  votes = votes_changed p.votes r r2 c refl s.1;
  course = course_changed first r r2 y c p.course s.0 s.1;
  asks = suspects_changed r p.asks r2 c s.1;
}

pub laws_begin : (first : ℕ) (r : Row) → Begins first r → 1 ≤ size first → LawsOfRow first r []
laws_begin first r b some = record {
  votes = record {
    ranked = λ x v d. absurd d;
    above = λ x v d. absurd d;
    one = λ x v w d. absurd d;
    keeps = λ k c d. absurd d;
    readied = readied_nothing r.x r.kept (Did []) b.kept;
    tells = λ x k j c e d. absurd d;
  };
  course = course_begins first r b some;
  asks = record { suspected = λ a t. absurd (false≢true (sym (b.clear a) ∙ t)); deputy = λ x k d. absurd d };
}
