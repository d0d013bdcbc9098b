-- From moves on the bench to a history: each move goes on with it, and it stays vouched for.
-- The register began empty, so that every good tag of a correct board was signed in a step: the premise on tags is kept, not assumed.
use Rattle.std.proofs.Common.{◌≡◌, ℕ, true, List, [], ◌∷◌, sym, ap, ◌∙◌, subst}
use Rattle.boards.specs.Boards.{member}
use Rattle.boards.specs.declared.Set.{Set}
use Rattle.schemes.specs.Registers.{good_in}
use Rattle.row.specs.declared.state.State.{State}
use Rattle.views_agree.specs.Agreement.{Step, Outside, Started, Leads, Vouched}
use Rattle.views_agree.specs.Tags.{TagsSigned}
use Rattle.views_agree.proofs.Tags.{tags_vouch}
use Rattle.wire.specs.Acts.{words}
use Rattle.words.specs.declared.statement.Statement.{Statement}
use Rattle.words.specs.Said.{said}
use Rattle.bench.specs.declared.desk.Page.{Page}
use Rattle.bench.specs.declared.desk.Bench.{Bench}
use Rattle.bench.specs.declared.story.Move.{Move}
use Rattle.bench.specs.declared.story.Move.TheVariants.{AskOut, AskIn, Hear, Sign}
use Rattle.bench.specs.Story.{over_register, first, faulty, Adds}
use Rattle.bench.specs.Moves.{states, pages, Called, FaultySigned, ByCall, Moved, Played}

-- A history has led from the rows at the start to the bench as it stands.
pub record Reached (start : List State) (h : List Step) (b : Bench) : Type 0 where
  pub liars : b.faulty.bits ≡ faulty
  pub leads : Leads over_register faulty start (states b.desks) h
  pub vouched : Vouched faulty h
  pub tags : TagsSigned faulty h (good_in b.register)

module _ (start : List State) (started : Started first start) where
  -- A call more.
  step_more : (h : List Step) (b b2 : Bench) (e : Step) → Reached start h b → Called b e b2 → Reached start (e ∷ h) b2
  step_more h b b2 e r m =
      let vouch = tags_vouch over_register in
      let outside = subst (λ f. Outside f e.board) r.liars m.outside in
      let own = ap (λ (z : State). z.board) m.before ∙ vouch.seated faulty first start (states b.desks) h started r.leads e.board outside.0 in
      record {
        liars = ap (λ (z : Set). z.bits) m.faulty ∙ r.liars;
        leads = Leads.next r.leads e (record { outside = outside; here = m.before; scheme = b.register; scheme_after = b2.register; promised = m.promised; put = m.states });
        vouched = (r.vouched, vouch.vouch faulty h e b.register b2.register (vouch.honest faulty h e b.register b2.register r.tags m.promised) m.promised);
        tags = vouch.stay faulty h e b.register b2.register r.tags m.promised own;
      }

  -- A faulty board's signature more.
  signature_more : (h : List Step) (b b2 : Bench) (k : ℕ) (x : Statement) → Reached start h b → FaultySigned b k x b2 → Reached start h b2
  signature_more h b b2 k x r m = record {
    liars = ap (λ (z : Set). z.bits) m.faulty ∙ r.liars;
    leads = subst (λ z. Leads over_register faulty start z h) (sym m.states) r.leads;
    vouched = r.vouched;
    tags = (tags_vouch over_register).faulty_signs faulty h b.register b2.register k m.tag (words (said x)) r.tags (subst (λ f. member f k ≡ true) r.liars m.of_faulty) m.signed;
  }

  -- Some history that moves make of one.
  pub record Goes (ms : List Move) (ps : List Page) (h : List Step) (b : Bench) : Type 0 where
    pub longer : List Step
    pub adds : Adds ms ps h longer
    pub reached : Reached start longer b

  call_first : (m : Move) (ms : List Move) (h : List Step) (b b2 b3 : Bench) → Reached start h b → ByCall b m b2
      → ((h2 : List Step) → Reached start h2 b2 → Goes ms (pages b2.desks) h2 b3) → Goes (m ∷ ms) (pages b.desks) h b3
  call_first m ms h b b2 b3 r s rest =
      let e = s.0 in
      let g = rest (e ∷ h) (step_more h b b2 e r s.2) in
      record { longer = g.longer; adds = Adds.call e s.1 s.2.offered (subst (λ ps. Adds ms ps (e ∷ h) g.longer) s.2.pages g.adds); reached = g.reached }

  moved_first : (m : Move) (ms : List Move) (h : List Step) (b b2 b3 : Bench) → Reached start h b → Moved b m b2
      → ((h2 : List Step) → Reached start h2 b2 → Goes ms (pages b2.desks) h2 b3) → Goes (m ∷ ms) (pages b.desks) h b3
  moved_first (AskOut at c) ms h b b2 b3 r s rest = call_first (AskOut at c) ms h b b2 b3 r s rest
  moved_first (AskIn at c) ms h b b2 b3 r s rest = call_first (AskIn at c) ms h b b2 b3 r s rest
  moved_first (Hear at from) ms h b b2 b3 r s rest = call_first (Hear at from) ms h b b2 b3 r s rest
  moved_first (Sign k x) ms h b b2 b3 r s rest =
      let g = rest h (signature_more h b b2 k x r s) in
      record {
        longer = g.longer;
        adds = Adds.signature s.tag s.sent s.out (subst (λ f. member f k ≡ true) r.liars s.of_faulty) s.posted (subst (λ ps. Adds ms ps h g.longer) s.pages g.adds);
        reached = g.reached;
      }

  -- All moves.
  pub goes : (ms : List Move) (h : List Step) (b b2 : Bench) → Played ms b b2 → Reached start h b → Goes ms (pages b.desks) h b2
  goes [] h b b2 Played.over r = record { longer = h; adds = Adds.none; reached = r }
  goes (m ∷ ms) h b b3 (Played.on {b2 = b2} s rest) r = moved_first m ms h b b2 b3 r s (λ h2 r2. goes ms h2 b2 b3 rest r2)
