-- What the premise on tags gives a caller of the layer: that histories are vouched for.
-- The premise is of the tags in a heard message alone. For a register that began empty it is shown, by what holds of all its good tags.
use Rattle.std.specs.Prelude.{◌≡◌, ℕ, ◌<◌, true, List, ◌∷◌}
use Rattle.boards.specs.Boards.{member}
use Rattle.schemes.specs.declared.Scheme.{Ghosts}
use Rattle.schemes.specs.Meaning.{Good, Signed as SignedGood}
use Rattle.checks.specs.Checks.{boards_in, act_in, good_in}
use Rattle.checks.specs.declared.Part.{Part}
use Rattle.wire.specs.Acts.{Act, Allowed, words}
use Rattle.row.specs.declared.state.State.{State}
use Rattle.views_agree.specs.Agreement.{Call, Step, Outside, row_of, Started, Promised, Leads, Signed, VouchedFor}

-- The premise at a call: where the tag of a board outside the faulty ones is good in a heard message, among its signers or in its proof, that board
-- signed in an earlier step what the tag stands for.
abbrev pub Honest : ℕ → List Step → Good → Call → Type 0
Honest faulty h good (Call.ask_out c) = Unit {0}
Honest faulty h good (Call.ask_in c y) = Unit {0}
Honest faulty h good (Call.hear m) =
    (part : Part) (b : ℕ) → Outside faulty b → member (boards_in part m) b ≡ true → good_in part good m b ≡ true → Signed h b (words (act_in part m b))

-- An act of this layer: what notifies, acks, readies, deputies and lasts stand for, as `of_group` says it of messages.
abbrev pub OfGroup : Act → Type 0
OfGroup (Act.notify v c) = Unit {0}
OfGroup (Act.ack v k c) = Unit {0}
OfGroup (Act.ready v k c) = Unit {0}
OfGroup (Act.deputy v k) = Unit {0}
OfGroup (Act.last v k e) = Unit {0}
OfGroup (Act.init v s n k p) = ⊥
OfGroup (Act.echo v s n k p) = ⊥

-- Whatever tag of a board outside the faulty ones is good for an act of this layer, that board signed its words in a step.
abbrev pub TagsSigned : ℕ → List Step → Good → Type 0
TagsSigned faulty h good = (b : ℕ) (a : Act) (t : ℕ) → Outside faulty b → Allowed a → OfGroup a → good b (words a) t ≡ true → Signed h b (words a)

-- What good tags give, in a scheme g.
pub record TagsVouch {S : Type 0} (g : Ghosts S) : Type 0 where
  -- Where the premise holds at a call, the steps before it vouch for it.
  pub vouch : (faulty : ℕ) (h : List Step) (e : Step) (s s2 : S) → Honest faulty h (g.good s) e.call → Promised g e.call e s s2 → VouchedFor faulty h e.call e.answer
  -- It holds where all good tags of this layer's acts were signed.
  pub honest : (faulty : ℕ) (h : List Step) (e : Step) (s s2 : S) → TagsSigned faulty h (g.good s) → Promised g e.call e s s2 → Honest faulty h (g.good s) e.call
  -- And that stays so in a call at a row; where a faulty board signs; and where any board signs what is of another layer.
  pub stay : (faulty : ℕ) (h : List Step) (e : Step) (s s2 : S) → TagsSigned faulty h (g.good s) → Promised g e.call e s s2 → e.before.board ≡ e.board
      → TagsSigned faulty (e ∷ h) (g.good s2)
  pub faulty_signs : (faulty : ℕ) (h : List Step) (s s2 : S) (b t : ℕ) (w : List ℕ) → TagsSigned faulty h (g.good s) → member faulty b ≡ true
      → SignedGood (g.good s) (g.good s2) (g.spent s) b w t → TagsSigned faulty h (g.good s2)
  pub others_sign : (faulty : ℕ) (h : List Step) (s s2 : S) (b t : ℕ) (a : Act) → TagsSigned faulty h (g.good s) → Allowed a → (OfGroup a → ⊥)
      → SignedGood (g.good s) (g.good s2) (g.spent s) b (words a) t → TagsSigned faulty h (g.good s2)
  -- In every history each row stays its board's.
  pub seated : (faulty first : ℕ) (start rows : List State) (h : List Step) → Started first start → Leads g faulty start rows h → (b : ℕ) → b < 8 → (row_of rows b).board ≡ b
