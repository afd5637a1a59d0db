-- The contracts of the public functions determine their results, what is lent included: two outcomes that a contract allows are the same.
-- The rows that `count` is lent are read only, so they are the same before and after.
use Rattle.std.specs.Prelude.{◌≡◌, Result, List, ℕ}
use Rattle.std.proofs.Common.{sym, ◌∙◌}
use Rattle.model.specs.Count.{count}
use Rattle.model.specs.Turn.{turn}
use Rattle.model.proofs.OneOutcome.{determined}
use Rattle.model.specs.declared.Row.{Row}
use Rattle.model.specs.declared.Catalogue.{Catalogue}
use Rattle.model.specs.declared.Refusal.{Refusal}
use Rattle.model.specs.declared.Worker.{Worker}
use Rattle.model.specs.declared.Turned.{Turned}
use Rattle.lent.specs.declared.TurnResult.{TurnResult}
use Rattle.lent.specs.Result.{result_of}

pub count_once : (rows : List Row) (r s : Result ℕ Refusal) → r ≡ count rows → s ≡ count rows → r ≡ s
count_once rows = determined (count rows)

pub count_of_once : (state : Catalogue) (r s : Result ℕ Refusal) → r ≡ count state.rows → s ≡ count state.rows → r ≡ s
count_of_once state = determined (count state.rows)

-- the result, and the record that was lent as it is found afterwards
pub turn_once : (state : Catalogue) (worker budget : ℕ) (lent : Worker) (r s : TurnResult) (found found' : Worker)
    → (r ≡ result_of (turn state worker budget lent)) × (found ≡ (turn state worker budget lent).lent)
    → (s ≡ result_of (turn state worker budget lent)) × (found' ≡ (turn state worker budget lent).lent)
    → (r ≡ s) × (found ≡ found')
turn_once state worker budget lent r s found found' p q = (p.0 ∙ sym q.0, p.1 ∙ sym q.1)

pub turn_of_once : (state : Catalogue) (worker budget : ℕ) (lent : Worker) (r s : Turned)
    → r ≡ turn state worker budget lent → s ≡ turn state worker budget lent → r ≡ s
turn_of_once state worker budget lent = determined (turn state worker budget lent)
