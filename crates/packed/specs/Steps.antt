-- What the code of a step on words promises: the model's step, its rows packed. One law for each kind of way out, and one for a step of the
-- rows for which the words stand.
use Rattle.std.specs.Prelude.{ℕ, ◌≡◌, List, set, Ok, Err}
use Rattle.std.proofs.Common.{ap, sym, ◌∙◌}
use Rattle.std.proofs.lemmas.List.{set-get_or}
use Rattle.model.specs.State.{worker_at}
use Rattle.model.specs.Step.{refuse, accept, written, step_worker}
use Rattle.model.specs.Packed.{packed, unpacked, state_of}
use Rattle.model.specs.declared.Worker.{Worker}
use Rattle.model.specs.declared.Stepped.{Stepped}
use Rattle.model.specs.declared.Write.{Write}
use Rattle.model.specs.Verdict.{Verdict}
use Rattle.model.specs.declared.Refusal.{Refusal}
use Rattle.packing.specs.Tables.{PacksRows}
use Rattle.packing.specs.Stored.{stored, packed_stored}
use Rattle.packed.specs.declared.steps.Moved.{Moved}

-- worker `me` of these workers has moved on, and the words are now `after`
pub record StepsAs (words : List ℕ) (workers : List Worker) (me : ℕ) (m : Moved) (after : List ℕ) : Type 0 where
  pub verdict : m.verdict ≡ (step_worker (state_of words workers) me).verdict
  pub record_back : set workers me m.worker ≡ (step_worker (state_of words workers) me).state.workers
  pub rows : after ≡ packed (step_worker (state_of words workers) me).state.rows

module _ (words : List ℕ) (packs : PacksRows words) (workers : List Worker) (me : ℕ) where
  -- a refused step leaves the worker's record and the words
  pub refused : (k : Worker) → worker_at workers me ≡ k → (r : Refusal) → refuse r (state_of words workers) ≡ step_worker (state_of words workers) me
      → StepsAs words workers me (record { verdict = Err r; worker = k }) words
  refused k its r step = record {
    verdict = ap (λ (s : Stepped). s.verdict) step;
    record_back = rw (← its, set-get_or) (ap (λ (s : Stepped). s.state.workers) step);
    rows = sym packs.again ∙ ap (λ (s : Stepped). packed s.state.rows) step;
  }

  -- a step that moves on leaves the words with its write stored
  pub moved : (write : Write) (after : Worker) (later : List ℕ) → later ≡ stored words write
      → accept (record { rows = written (unpacked words) write; workers = set workers me after }) ≡ step_worker (state_of words workers) me
      → StepsAs words workers me (record { verdict = Ok tt; worker = after }) later
  moved write after later stores step = record {
    verdict = ap (λ (s : Stepped). s.verdict) step;
    record_back = ap (λ (s : Stepped). s.state.workers) step;
    rows =
        stores ∙ ap (λ (l : List ℕ). stored l write) (sym packs.again) ∙ sym (packed_stored (unpacked words) write)
        ∙ ap (λ (s : Stepped). packed s.state.rows) step;
  }

-- a step of the rows for which the words stand, where the later words are the packing of theirs
pub repacked : (words : List ℕ) (workers : List Worker) (me : ℕ) (v : Verdict) (after : Worker) (later : List ℕ)
    → record { verdict = v; state = record { rows = unpacked later; workers = set workers me after } } ≡ step_worker (state_of words workers) me
    → packed (unpacked later) ≡ later
    → StepsAs words workers me (record { verdict = v; worker = after }) later
repacked words workers me v after later step again = record {
  verdict = ap (λ (s : Stepped). s.verdict) step;
  record_back = ap (λ (s : Stepped). s.state.workers) step;
  rows = sym again ∙ ap (λ (s : Stepped). packed s.state.rows) step;
}
