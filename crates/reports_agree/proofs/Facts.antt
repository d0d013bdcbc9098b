-- What a board did in a history of steps, told by its calls: what it echoed, and what it sent.
-- What it delivered is told so in specs/Agreement.antt.
use Rattle.std.proofs.Common.{◌≡◌, ℕ, ◌⊎◌, List, [], ◌∷◌, inr}
use Rattle.wire.specs.declared.message.Sort.TheVariants.{Report, End}
use Rattle.row.specs.declared.state.State.{State}
use Rattle.views_agree.specs.Agreement.{Accepted}
use Rattle.delivery.specs.Reports.{Content, content, Reports, now}
use Rattle.delivery.specs.Refusals.{next_number}
use Rattle.delivery.specs.Effects.{finish_claim}
use Rattle.reports_agree.specs.Agreement.{Call, Step, Delivered, number_delivered}
use Rattle.reports_agree.specs.OneBoard.{Echoes}
use Rattle.reports_agree.proofs.Held.{Facts}
use Rattle.reports_agree.proofs.Keeps.{HeldAs}

abbrev pub Echoed : List Step → ℕ → Facts
Echoed [] b y s i c = ⊥
Echoed (Step.of_group e d d2 ∷ h) b y s i c = Echoed h b y s i c
Echoed (Step.of_reports e ∷ h) b y s i c = ((e.board ≡ b) × Accepted e.answer × Echoes e.call y s i c) ⊎ Echoed h b y s i c
Echoed (Step.takes t r d d2 ∷ h) b y s i c = Echoed h b y s i c

abbrev pub SendsOf : Call → State → Reports → ℕ → ℕ → Content → Type 0
SendsOf (Call.send p) st d y i c = (y ≡ now d) × (i ≡ next_number st d) × (c ≡ content Report p)
SendsOf Call.finish st d y i c = (y ≡ now d) × (i ≡ next_number st d) × (c ≡ content End (finish_claim st d ∷ []))
SendsOf (Call.hear m) st d y i c = ⊥

abbrev pub Sent : List Step → ℕ → ℕ → ℕ → Content → Type 0
Sent [] b y i c = ⊥
Sent (Step.of_group e d d2 ∷ h) b y i c = Sent h b y i c
Sent (Step.of_reports e ∷ h) b y i c = ((e.board ≡ b) × Accepted e.answer × SendsOf e.call e.row e.before y i c) ⊎ Sent h b y i c
Sent (Step.takes t r d d2 ∷ h) b y i c = Sent h b y i c

-- The reports d of board b, at the row st, keep their laws over all that b did in these steps.
abbrev pub HeldIn : List Step → ℕ → State → Reports → Type 0
HeldIn hs b st d = HeldAs b st.views d (number_delivered hs b) (Delivered hs b) (Echoed hs b) (Sent hs b)

-- What was done stays done.
pub echoed_on : (e : Step) (h : List Step) (b y s i : ℕ) (c : Content) → Echoed h b y s i c → Echoed (e ∷ h) b y s i c
echoed_on (Step.of_group e d d2) h b y s i c o = o
echoed_on (Step.of_reports e) h b y s i c o = inr o
echoed_on (Step.takes t r d d2) h b y s i c o = o

pub sent_on : (e : Step) (h : List Step) (b y i : ℕ) (c : Content) → Sent h b y i c → Sent (e ∷ h) b y i c
sent_on (Step.of_group e d d2) h b y i c o = o
sent_on (Step.of_reports e) h b y i c o = inr o
sent_on (Step.takes t r d d2) h b y i c o = o
