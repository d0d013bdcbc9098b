-- What follows for every board from what its calls promise.
-- Each statement is the promise of one function of src/laws.rt.
use Rattle.std.specs.Prelude.{◌≡◌, ℕ}
use Rattle.views.specs.declared.history.History.{History}
use Rattle.delivery.specs.Reports.{Reports}
use Rattle.delivery.specs.Endings.{GoesOn, settled}

-- Any number of steps by which a board goes on.
pub data Steps (h : History) (b : ℕ) (d : Reports) : Reports → Type 0 where
  here : Steps h b d d
  on : {e f : Reports} → Steps h b d e → GoesOn h b e f → Steps h b d f

-- They end where no further step can be taken.
pub record Ends (h : History) (b : ℕ) (d e : Reports) : Type 0 where
  pub goes : Steps h b d e
  pub rests : (f : Reports) → GoesOn h b e f → ⊥

-- Wherever a board stands, its steps end at one place, and that is where it settles.
pub record StepsEnd : Type 0 where
  pub ends : (h : History) (b : ℕ) (d : Reports) → Ends h b d (settled h b d)
  pub alone : (h : History) (b : ℕ) (d e : Reports) → Ends h b d e → e ≡ settled h b d
