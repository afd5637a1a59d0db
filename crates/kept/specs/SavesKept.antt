-- A linked row stays linked, and its key and its element never change.
use Rattle.std.specs.Prelude.{ℕ, ◌<◌, true, ◌≡◌, refl, ◌≢◌, List, [], ◌∷◌}
use Rattle.std.proofs.Common.{◌∙◌, arith}
use Rattle.model.specs.State.{row_at}
use Rattle.model.specs.WellFormed.{well_formed, no_row_held}
use Rattle.model.specs.Step.{step_worker, step, submit}
use Rattle.model.specs.Run.{call, run}
use Rattle.model.proofs.TurnCount.{Steps, no_step, one_more}
use Rattle.model.specs.declared.Call.{Call}
use Rattle.model.specs.declared.Call.TheVariants.{Submit, Step}
use Rattle.model.specs.declared.Catalogue.{Catalogue}
use Rattle.model.specs.declared.Standing.TheVariants.{Linked}
use Rattle.kept.specs.Ways.{effect_in, worker_step_ways, step_ways, submit_ways}
use Rattle.kept.specs.Sized.{Sized, step_sized}
use Rattle.kept.specs.WellFormedFacts.{well_formed_facts}
use Rattle.kept.specs.Sound.{SameSave}
use Rattle.kept.specs.EffectSound.{effect_sound}
use Rattle.kept.specs.Replaced.{linked_kept}
use Rattle.kept.specs.WellFormedKept.{step_keeps, call_keeps}
use Rattle.kept.specs.TurnSteps.{public}
use Rattle.kept.specs.Standing.{linked_inside}

-- Each row that is linked in the first state is linked in the second, with the same key and element.
abbrev pub SavesKept : Catalogue → Catalogue → Type 0
SavesKept before after = (i : ℕ) → (row_at before.rows i).standing ≡ Linked → SameSave (row_at before.rows i) (row_at after.rows i)

all_kept : (c : Catalogue) → SavesKept c c
all_kept c i linked = record { standing = refl; key = refl; element = refl }

linked_is_row : (c : Catalogue) → Sized c → (i : ℕ) → (row_at c.rows i).standing ≡ Linked → i ≢ no_row_held
linked_is_row c sized i linked e = omega (arith, sized.rows, linked_inside c.rows i linked)

pub worker_step_keeps_saves : (c : Catalogue) (w : ℕ) → w < 8 → Sized c → well_formed c ≡ true → SavesKept c (step_worker c w).state
worker_step_keeps_saves c w inside sized well =
    let facts = well_formed_facts c sized well in
    worker_step_ways c w (λ s. SavesKept c s.state)
    (λ _. all_kept c)
    (λ _ _. all_kept c)
    (λ busy _ i linked.
    let sound = effect_sound c w sized facts inside busy in
    linked_kept c sized facts w inside (effect_in c w) sound i (linked_is_row c sized i linked) linked)

pub step_keeps_saves : (c : Catalogue) (w : ℕ) → Sized c → well_formed c ≡ true → SavesKept c (step c w).state
step_keeps_saves c w sized well =
    step_ways c w (λ s. SavesKept c s.state) (λ _ _. all_kept c) (λ inside _. worker_step_keeps_saves c w inside sized well)

-- a submit writes no row
pub submit_keeps_saves : (c : Catalogue) (w code key element : ℕ) → SavesKept c (submit c w code key element).state
submit_keeps_saves c w code key element =
    submit_ways c w code key element (λ s. SavesKept c s.state) (λ _ _. all_kept c) (λ _ _ _ _. all_kept c)

call_keeps_saves : (c : Catalogue) (x : Call) → Sized c → well_formed c ≡ true → SavesKept c (call c x).state
unfolding call
call_keeps_saves c (Submit w code key element) sized well = submit_keeps_saves c w code key element
call_keeps_saves c (Step w) sized well = step_keeps_saves c w sized well

then_kept : (a b c : Catalogue) → SavesKept a b → SavesKept b c → SavesKept a c
then_kept a b c first second i linked =
    let p = first i linked in
    let q = second i (p.standing ∙ linked) in
    record { standing = q.standing ∙ p.standing; key = q.key ∙ p.key; element = q.element ∙ p.element }

-- Whatever is called, and however often.
pub run_keeps_saves : (calls : List Call) (c : Catalogue) → Sized c → well_formed c ≡ true → SavesKept c (run c calls)
unfolding run
run_keeps_saves [] c sized well = all_kept c
run_keeps_saves (x ∷ xs) c sized well =
    let (s, h) = call_keeps c x sized well in
    then_kept c (call c x).state (run (call c x).state xs) (call_keeps_saves c x sized well) (run_keeps_saves xs (call c x).state s h)

-- A turn's steps.
pub steps_keep_saves : (w : ℕ) {n : ℕ} {c d : Catalogue} → Steps (public w) n c d → Sized c → well_formed c ≡ true → SavesKept c d
steps_keep_saves w {c = c} no_step sized well = all_kept c
steps_keep_saves w (one_more {c = c} {d = d} goes rest) sized well =
    then_kept c (step c w).state d (step_keeps_saves c w sized well)
    (steps_keep_saves w rest (step_sized c w sized) (step_keeps c w sized well))
