-- What the code of a call on packed rows needs to know of its definition: one law for each way out.
use Rattle.std.specs.Prelude.{ℕ, ◌≤◌, ◌<◌, ◌≡◌, refl, true, false, List, set, Err}
use Rattle.std.proofs.Common.{ap, sym, lt-ltb, le-ltb}
use Rattle.model.specs.Step.{step, submit, step_worker}
use Rattle.model.specs.Run.{call}
use Rattle.model.specs.Printed.{call_worker}
use Rattle.model.specs.Packed.{packs_rows, state_of, packed_well, OnWords, packed_stepped, packed_call}
use Rattle.model.specs.declared.Worker.{Worker}
use Rattle.model.specs.declared.Called.{Called}
use Rattle.model.specs.declared.Call.{Call}
use Rattle.model.specs.declared.Call.TheVariants.{Submit, Step}
use Rattle.model.specs.declared.Refusal.{Refusal}
use Rattle.model.specs.declared.Refusal.TheVariants.{NoSuchWorker, NotWellFormed}
use Rattle.packing.specs.WellFormedWords.{packed_well_told}
use Rattle.packing.specs.PackedCalls.{ill_refused}
use Rattle.packed.specs.declared.steps.Moved.{Moved}
use Rattle.packed.specs.Steps.{StepsAs}

abbrev pub refused_call : Refusal → List Worker → Called
refused_call r workers = record { verdict = Err r; workers = workers }

-- what a call gives back, and the words after it
abbrev pub Gives : OnWords → Called → List ℕ → Type 0
Gives s r words = (r ≡ s.called) × (words ≡ s.words)

told : {s : OnWords} {r : Called} {words : List ℕ} → record { called = r; words = words } ≡ s → Gives s r words
told e = (ap (λ (s : OnWords). s.called) e, ap (λ (s : OnWords). s.words) e)

module _ (words : List ℕ) (workers : List Worker) where
  pub no_worker : (x : Call) → 7 < call_worker x → Gives (packed_call words workers x) (refused_call NoSuchWorker workers) words
  unfolding packed_call
  no_worker x h = rw (lt-ltb 7 (call_worker x) h) (refl, refl)

  pub no_rows : (x : Call) → call_worker x ≤ 7 → packs_rows words ≡ false → Gives (packed_call words workers x) (refused_call NotWellFormed workers) words
  unfolding packed_call
  no_rows x h none = rw (le-ltb 7 (call_worker x) h, none) (refl, refl)

  pub not_well : (x : Call) → call_worker x ≤ 7 → packed_well words workers ≡ false
      → Gives (packed_call words workers x) (refused_call NotWellFormed workers) words
  not_well x h ill = told (sym (rw (le-ltb 7 (call_worker x) h) at (ill_refused words workers ill x)))

  pub submitted : (w code key element : ℕ) → w ≤ 7 → packs_rows words ≡ true
      → packed_stepped (submit (state_of words workers) w code key element) ≡ packed_call words workers (Submit w code key element)
  unfolding packed_call call
  submitted w code key element h packs = rw (le-ltb 7 w h, packs)

  pub stepped : (w : ℕ) → w ≤ 7 → packed_well words workers ≡ true
      → packed_stepped (step_worker (state_of words workers) w) ≡ packed_call words workers (Step w)
  unfolding packed_call call step
  stepped w h well =
      let parts = packed_well_told words workers well in
      rw (le-ltb 7 w h, parts.0, parts.1)

  pub step_gives : (w : ℕ) (m : Moved) (after : List ℕ) → w ≤ 7 → packed_well words workers ≡ true → StepsAs words workers w m after
      → Gives (packed_call words workers (Step w)) (record { verdict = m.verdict; workers = set workers w m.worker }) after
  step_gives w m after h well steps = rw (← stepped w h well) (cc (steps.verdict, steps.record_back), steps.rows)
