-- The contracts of the entry points determine their results, and what is lent: two outcomes that a contract allows are the same. The words
-- that `submit` and `unpack` are lent are read only, so they are the same before and after.
use Rattle.std.specs.Prelude.{ℕ, ◌≡◌, ◌<◌, List, length, get_or, set}
use Rattle.std.proofs.Common.{ap, sym, ◌∙◌}
use Rattle.std.proofs.lemmas.List.{get_or-set_same}
use Rattle.model.proofs.OneOutcome.{determined}
use Rattle.model.specs.Packed.{packed_call, unpack}
use Rattle.model.specs.declared.Worker.{Worker}
use Rattle.model.specs.declared.Catalogue.{Catalogue}
use Rattle.model.specs.declared.Called.{Called}
use Rattle.model.specs.declared.Stepped.{Stepped}
use Rattle.model.specs.declared.Call.{Call}
use Rattle.model.specs.declared.Call.TheVariants.{Submit, Step}
use Rattle.model.specs.Verdict.{Verdict}
use Rattle.packed.specs.Tables.{Packing}
use Rattle.packed.specs.Calls.{Gives}
use Rattle.packed.specs.Steps.{StepsAs}
use Rattle.packed.specs.declared.steps.Moved.{Moved}

module _ (words : List ℕ) (workers : List Worker) where
  pub call_once : (x : Call) (r q : Called) (found found' : List ℕ)
      → Gives (packed_call words workers x) r found → Gives (packed_call words workers x) q found'
      → (r ≡ q) × (found ≡ found')
  call_once x r q found found' one other = (one.0 ∙ sym other.0, one.1 ∙ sym other.1)

  pub step_once : (w : ℕ) (r q : Called) (found found' : List ℕ)
      → Gives (packed_call words workers (Step w)) r found → Gives (packed_call words workers (Step w)) q found'
      → (r ≡ q) × (found ≡ found')
  step_once w = call_once (Step w)

  pub submit_once : (w code key element : ℕ) (r q : Called)
      → r ≡ (packed_call words workers (Submit w code key element)).called
      → q ≡ (packed_call words workers (Submit w code key element)).called
      → r ≡ q
  submit_once w code key element = determined (packed_call words workers (Submit w code key element)).called

  pub unpack_once : (r q : Stepped) → r ≡ unpack words workers → q ≡ unpack words workers → r ≡ q
  unpack_once = determined (unpack words workers)

pub pack_once : (c : Catalogue) (words : List ℕ) (r q : Verdict) (found found' : List ℕ) → Packing c words r found → Packing c words q found'
    → (r ≡ q) × (found ≡ found')
pack_once c words r q found found' one other = (one.verdict ∙ sym other.verdict, one.words ∙ sym other.words)

pub step_worker_once : (words : List ℕ) (workers : List Worker) (me : ℕ) → me < length workers → (m n : Moved) (found found' : List ℕ)
    → StepsAs words workers me m found → StepsAs words workers me n found' → (m ≡ n) × (found ≡ found')
step_worker_once words workers me there m n found found' one other =
    let records : set workers me m.worker ≡ set workers me n.worker = one.record_back ∙ sym other.record_back in
    let worker : m.worker ≡ n.worker =
    sym (get_or-set_same workers me m.worker m.worker there) ∙ ap (λ (l : List Worker). get_or l me m.worker) records
    ∙ get_or-set_same workers me n.worker m.worker there in
    let verdict : m.verdict ≡ n.verdict = one.verdict ∙ sym other.verdict in (
      ap (λ (v : Verdict). moved v m.worker) verdict ∙ ap (moved n.verdict) worker,
      one.rows ∙ sym other.rows,
    )
  where
    moved : Verdict → Worker → Moved
    moved v k = record { verdict = v; worker = k }
