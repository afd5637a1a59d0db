-- A state stays well formed: the empty catalogue is, and every call leaves what it found. Nothing else is asked of the state, so it
-- may be reached or made by hand.
use Rattle.std.specs.Prelude.{ℕ, ◌<◌, true, ◌≡◌, refl, List, [], ◌∷◌, eqb}
use Rattle.model.specs.State.{idle, empty_catalogue}
use Rattle.model.specs.Order.{head}
use Rattle.model.proofs.Empty.{empty_well_formed}
use Rattle.model.proofs.Answers.{line_after}
use Rattle.model.specs.Effects.{go}
use Rattle.model.specs.WellFormed.{held_row, no_row_held, well_formed}
use Rattle.model.specs.Step.{written, worker_after, step_worker, step, submit, first_line}
use Rattle.model.specs.declared.Catalogue.{Catalogue}
use Rattle.model.specs.Run.{call, run}
use Rattle.model.proofs.Choices.{if_known}
use Rattle.model.specs.declared.Call.{Call}
use Rattle.model.specs.declared.Call.TheVariants.{Submit, Step}
use Rattle.model.specs.declared.SearchCaller.TheVariants.{Search1, Insert1, Delete1}
use Rattle.kept.specs.Ways.{worker_in, effect_in, worker_step_ways, step_ways, submit_ways, line_of}
use Rattle.kept.specs.Sized.{Sized, empty_sized, worker_step_sized, step_sized, submit_sized}
use Rattle.kept.specs.WellFormedFacts.{WellFormed, well_formed_facts, well_formed_test}
use Rattle.kept.specs.NextLine.{NextLine, to_search_from}
use Rattle.kept.specs.Sound.{Sound, reads}
use Rattle.kept.specs.EffectSound.{good_rows, effect_sound}
use Rattle.kept.specs.HelpsAfter.{helps_after, no_helps_well}
use Rattle.kept.specs.Replaced.{replaced_well_formed}
use Rattle.kept.specs.IdleLine.{idle_names_none, idle_outside}

-- ---- A step ----

worker_step_facts : (c : Catalogue) (w : ℕ) → w < 8 → Sized c → WellFormed c → WellFormed (step_worker c w).state
worker_step_facts c w inside sized well =
    let k = worker_in c w in
    let e = effect_in c w in
    worker_step_ways c w (λ s. WellFormed s.state)
    (λ _. well)
    (λ _ _. well)
    (λ busy room.
    let sound = effect_sound c w sized well inside busy in
    let helps = helps_after k e (well.workers w inside).helps room sound.stack in
    replaced_well_formed c sized well w inside e sound (worker_after k e) (line_after k e) helps)

pub worker_step_keeps : (c : Catalogue) (w : ℕ) → w < 8 → Sized c → well_formed c ≡ true → well_formed (step_worker c w).state ≡ true
worker_step_keeps c w inside sized well =
    well_formed_test (step_worker c w).state (worker_step_sized c w sized)
    (worker_step_facts c w inside sized (well_formed_facts c sized well))

pub step_keeps : (c : Catalogue) (w : ℕ) → Sized c → well_formed c ≡ true → well_formed (step c w).state ≡ true
step_keeps c w sized well =
    step_ways c w (λ s. well_formed s.state ≡ true) (λ _ _. well) (λ inside _. worker_step_keeps c w inside sized well)

-- ---- A submit ----

to_first_line : (count : ℕ) → count ≡ 0 → (code key element : ℕ) → NextLine no_row_held count (first_line code key element)
unfolding first_line
to_first_line count none code key element =
    if_known (NextLine no_row_held count) (eqb code 1) (λ _. to_search_from count none key 0 head Search1 refl refl) (λ _.
    if_known (NextLine no_row_held count) (eqb code 2)
    (λ _. to_search_from count none key element head Insert1 refl refl)
    (λ _. to_search_from count none key 0 head Delete1 refl refl))

-- A request's first line, as the effect of its submit: it reads nothing yet.
submit_sound : (c : Catalogue) (w code key element : ℕ) → w < 8 → Sized c → WellFormed c → idle (line_of c w) ≡ true
    → Sound c.rows w (held_row (line_of c w)) (worker_in c w).count (go (first_line code key element))
submit_sound c w code key element inside sized well rests =
    let k = worker_in c w in
    let none = (well.workers w inside).helps.inside (idle_outside k.line rests) in
    rw (idle_names_none k.line rests)
    (reads c.rows (good_rows c sized well) w no_row_held k.count _ (to_first_line k.count none code key element))

submit_facts : (c : Catalogue) (w code key element : ℕ) → Sized c → WellFormed c → WellFormed (submit c w code key element).state
unfolding written
submit_facts c w code key element sized well =
    let first = first_line code key element in
    submit_ways c w code key element (λ s. WellFormed s.state)
    (λ _ _. well)
    (λ inside _ _ rests.
    let sound = submit_sound c w code key element inside sized well rests in
    replaced_well_formed c sized well w inside (go first) sound _ refl (no_helps_well first))

pub submit_keeps : (c : Catalogue) (w code key element : ℕ) → Sized c → well_formed c ≡ true
    → well_formed (submit c w code key element).state ≡ true
submit_keeps c w code key element sized well =
    well_formed_test (submit c w code key element).state (submit_sized c w code key element sized)
    (submit_facts c w code key element sized (well_formed_facts c sized well))

-- ---- A run of calls ----

pub call_keeps : (c : Catalogue) (x : Call) → Sized c → well_formed c ≡ true
    → Sized (call c x).state × (well_formed (call c x).state ≡ true)
unfolding call
call_keeps c (Submit w code key element) sized well =
    (submit_sized c w code key element sized, submit_keeps c w code key element sized well)
call_keeps c (Step w) sized well = (step_sized c w sized, step_keeps c w sized well)

pub run_keeps : (calls : List Call) (c : Catalogue) → Sized c → well_formed c ≡ true
    → Sized (run c calls) × (well_formed (run c calls) ≡ true)
unfolding run
run_keeps [] c sized well = (sized, well)
run_keeps (x ∷ xs) c sized well = let (s, h) = call_keeps c x sized well in run_keeps xs (call c x).state s h

-- Every reached state is well formed.
pub reached_well_formed : (calls : List Call) → well_formed (run empty_catalogue calls) ≡ true
reached_well_formed calls = (run_keeps calls empty_catalogue empty_sized empty_well_formed).1
