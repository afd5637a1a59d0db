-- What a whole run prints: the heading, the texts of the events one after another, and the last line are every byte that the model
-- prints for the file, whatever values the functions give back that their contracts allow.
use Rattle.std.specs.Prelude.{◌≡◌, ℕ, zero, suc, ◌+◌, ◌-◌, ◌^◌, ◌<◌, ◌≤◌, Ok, Err, List, [], ◌∷◌, ◌++◌, length, drop, refl}
use Rattle.std.proofs.Common.{ap, sym, ◌∙◌, append_assoc, arith, length-drop, drop_of_length-le}
use Rattle.std.proofs.lemmas.Bool.Decides.{nat_tests}
use Rattle.model.specs.Schedule.{body, calls_from, calls_of, file_verdict}
use Rattle.model.specs.Printed.{heading, last_line, run_text, refused_file, file_text, printed}
use Rattle.model.specs.declared.Refusal.{Refusal}
use Rattle.schedule.specs.declared.text.Text.{Text}
use Rattle.schedule.specs.declared.run.Run.{Run}
use Rattle.schedule.specs.declared.run.Event.{Event}
use Rattle.schedule.specs.Shown.{shown, Shows}
use Rattle.schedule_file.specs.Positions.{call_at, after, left_at, left_after}
use Rattle.schedule.specs.Events.{start_run, moved, Happens, line_inside, next_inside}
use Rattle.schedule.specs.Whole.{Ran, over, event, all_shown}

calls_over : (tries : ℕ) (file : List ℕ) (at : ℕ) → length file ≤ at → calls_from tries (drop at file) ≡ []
unfolding calls_from
calls_over zero file at h = refl
calls_over (suc tries) file at h = rw (drop_of_length-le file h)

calls_step : (tries : ℕ) (file : List ℕ) (at : ℕ) → at < length file
    → calls_from (suc tries) (drop at file) ≡ call_at file at ∷ calls_from tries (drop (after file at) file)
unfolding calls_from
calls_step tries file at h = rw (left_at file at h, left_after file at)

-- what is left to print of a run, in so many tries
abbrev pub left_to_print : List ℕ → Run → ℕ → List ℕ
left_to_print file r tries = run_text r.event r.state (calls_from tries (drop r.at file))

-- The tries are as many as the bytes that are left, and the event numbers fit.
pub record Lasts (file : List ℕ) (r : Run) (tries : ℕ) : Type 0 where
  pub enough : length file - r.at ≤ tries
  pub fits : r.event + (length file - r.at) < 2 ^ 32

-- Where a record is left.
module _ {file : List ℕ} {r : Run} {e : Event} (inside : r.at < length file) (happens : Happens file r e) where
  stands : e.run ≡ moved file r
  stands = happens.next ∙ next_inside file r inside

  -- every event counts
  counted : r.event + (length file - r.at) < 2 ^ 32 → (moved file r).event ≡ r.event + 1
  counted fits = omega arith

  -- what is left to print is the text of its event, and what is left after that
  pub event_prints : (tries : ℕ) → r.event + (length file - r.at) < 2 ^ 32
      → left_to_print file r (suc tries) ≡ shown e.text ++ left_to_print file e.run tries
  unfolding run_text
  event_prints tries fits = rw (calls_step tries file r.at inside, ← line_inside file r inside, ← happens.prints, stands, counted fits) refl

  -- and the tries are still enough, and the event numbers still fit
  pub still_enough : (tries : ℕ) → Lasts file r (suc tries) → Lasts file e.run tries
  still_enough tries lasts = record {
    enough = rw stands (omega (arith, lasts.enough));
    fits = rw stands (omega (arith, lasts.fits, counted lasts.fits));
  }

-- Where none is left.
pub last_prints : (file : List ℕ) (r : Run) → length file ≤ r.at → (tries : ℕ) → left_to_print file r tries ≡ last_line r.state
unfolding run_text
last_prints file r past tries = rw (calls_over tries file r.at past)

ran_prints : {file : List ℕ} {r end : Run} {texts : List Text} → Ran file r texts end → (tries : ℕ) → Lasts file r tries
    → all_shown texts ++ last_line end.state ≡ left_to_print file r tries
unfolding all_shown
ran_prints {file} {r} (over past) tries lasts = sym (last_prints file r past tries)
ran_prints (event inside happens rest) zero lasts = absurd (omega (arith, lasts.enough))
ran_prints {end = end} (event {e = e} {texts = texts} inside happens rest) (suc tries) lasts =
    append_assoc (shown e.text) (all_shown texts) (last_line end.state)
    ∙ ap (λ (l : List ℕ). shown e.text ++ l) (ran_prints rest tries (still_enough inside happens tries lasts))
    ∙ sym (event_prints inside happens tries lasts.fits)

-- A file that is accepted has at most 60,000 bytes of records.
pub accepted_short : (file : List ℕ) → file_verdict file ≡ Ok tt → length (body file) ≤ 60000
unfolding file_verdict
accepted_short file h = grind (arith, nat_tests)

-- so its run lasts as many tries as the model allows
pub start_lasts : (file : List ℕ) → file_verdict file ≡ Ok tt → Lasts file start_run (length (body file))
start_lasts file accepted =
    let short = accepted_short file accepted in
    record { enough = omega (arith, length-drop 3 file); fits = omega (arith, short, length-drop 3 file) }

-- All that is printed for a file that is not refused.
pub run_prints : {file : List ℕ} {end : Run} {texts : List Text} {first last : Text} → file_verdict file ≡ Ok tt
    → Shows heading first → Ran file start_run texts end → Shows (last_line end.state) last
    → shown first ++ (all_shown texts ++ shown last) ≡ printed file
unfolding printed file_text calls_of
run_prints {file} accepted first ran last =
    rw (accepted, first, last)
    (ap (λ (l : List ℕ). heading ++ l) (ran_prints ran (length (body file)) (start_lasts file accepted)))

-- All that is printed for a file that is refused.
pub refused_prints : (file : List ℕ) {r : Refusal} {only : Text} → file_verdict file ≡ Err r → Shows (refused_file r) only
    → shown only ≡ printed file
unfolding printed file_text
refused_prints file refused only = rw refused only
