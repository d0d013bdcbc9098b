-- That the statement speaks of something: what counts as signed in a step was handed to the scheme, and there are histories of the sort that it asks for.
-- In a history of four steps board 0, alone in view 1, asks board 1 in, and defines view 2 with both.
use Rattle.std.specs.Prelude.{◌≡◌, ℕ, false, List, Ok}
use Rattle.schemes.specs.declared.Scheme.{Ghosts}
use Rattle.schemes.specs.Meaning.{signable, Bounded as SignableOnly}
use Rattle.wire.specs.Acts.{Act, words}
use Rattle.row.specs.declared.state.State.{State}
use Rattle.row.specs.declared.state.Sent.{Sent}
use Rattle.row.specs.Calls.{Signs as Sends}
use Rattle.views_agree.specs.Agreement.{Step, Started, Promised, Leads, Signs, Vouched, Bounded, Defines}

-- What counts as signed in a step, by the bytes that it wrote, the scheme signed for the step's board in that very step, and the tag that it gave is the one written.
pub record Handed {S : Type 0} (g : Ghosts S) (e : Step) (s s2 : S) (w : List ℕ) : Type 0 where
  pub act : Act
  pub words : w ≡ words act
  pub to : ℕ
  pub proof : ℕ
  pub acks : List ℕ
  pub sent : Sent
  pub accepted : e.answer ≡ Ok sent
  pub signs : Sends g e.board to act proof acks e.offered s sent s2 e.written

abbrev pub SignedWasHanded : {S : Type 0} → Ghosts S → Type 0
SignedWasHanded {S} g = (e : Step) (s s2 : S) → Promised g e.call e s s2 → e.before.board ≡ e.board → (w : List ℕ) → Signs e w → Handed g e s s2 w

-- A scheme to which every tag is good for what can be signed, and which is never spent.
abbrev pub trusting : Ghosts (Unit {0})
trusting = record { good = λ s b w t. signable b w; spent = λ s. false }

-- A history with no faulty board, over a scheme that keeps the law of schemes, in which board 0 defines the set of board 0 as its first view and that of boards 0 and 1 as its second.
pub record SomeChange : Type 0 where
  pub lawful : SignableOnly trusting.good
  pub start : List State
  pub rows : List State
  pub history : List Step
  pub started : Started 0x80 start
  pub leads : Leads trusting 0 start rows history
  pub vouched : Vouched 0 history
  pub bounded : Bounded 0 rows
  pub first : Defines rows 0 1 0x80
  pub second : Defines rows 0 2 0xC0
