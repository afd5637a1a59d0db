-- The contracts of the public functions determine their results: two outcomes that a contract allows are the same.
use Rattle.std.specs.Prelude.{ℕ, ◌≡◌, ◌<◌, List, length, get_or}
use Rattle.std.proofs.Common.{ap, sym, ◌∙◌}
use Rattle.std.proofs.lemmas.List.{get_or-set_same}
use Rattle.model.specs.Step.{submit, step}
use Rattle.model.specs.Run.{call}
use Rattle.model.specs.Turn.{turn}
use Rattle.model.specs.Verdict.{Verdict}
use Rattle.model.specs.declared.Row.{Row}
use Rattle.model.specs.declared.Call.{Call}
use Rattle.model.specs.declared.Worker.{Worker}
use Rattle.model.specs.declared.Catalogue.{Catalogue}
use Rattle.model.specs.declared.Stepped.{Stepped}
use Rattle.model.specs.declared.Turned.{Turned}
use Rattle.engine.specs.Steps.{StepsAs}

module _ (c : Catalogue) where
  pub submit_once : (w code key element : ℕ) (r q : Stepped) → r ≡ submit c w code key element → q ≡ submit c w code key element → r ≡ q
  submit_once w code key element r q one other = cc

  pub step_once : (w : ℕ) (r q : Stepped) → r ≡ step c w → q ≡ step c w → r ≡ q
  step_once w r q one other = cc

  pub call_once : (x : Call) (r q : Stepped) → r ≡ call c x → q ≡ call c x → r ≡ q
  call_once x r q one other = cc

  pub turn_once : (w budget : ℕ) (lent : Worker) (r q : Turned) → r ≡ turn c w budget lent → q ≡ turn c w budget lent → r ≡ q
  turn_once w budget lent r q one other = cc

-- A step on any table: the answer, the record and the rows that are left are determined, whatever keeps the rows.
pub step_worker_once : (rows : List Row) (workers : List Worker) (me : ℕ) → me < length workers
    → (v u : Verdict) (k l : Worker) (later other : List Row) → StepsAs rows workers me v k later → StepsAs rows workers me u l other
    → (v ≡ u) × (k ≡ l) × (later ≡ other)
step_worker_once rows workers me there v u k l later other one two =
    let same = one ∙ sym two in (
      ap (λ (s : Stepped). s.verdict) same,
      sym (get_or-set_same workers me k k there) ∙ ap (λ (s : Stepped). get_or s.state.workers me k) same ∙ get_or-set_same workers me l k there,
      ap (λ (s : Stepped). s.state.rows) same,
    )
