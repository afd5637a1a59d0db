-- Every call keeps a sound state sound, whatever its numbers, as long as a submitted key fits under the tail's rank; and so does a run of
-- calls, for a rank of the tail above all of their keys.
use Rattle.std.specs.Prelude.{ℕ, suc, ◌+◌, ◌≤◌, ◌<◌, max, true, false, ◌≡◌, refl, ◌≢◌, ◌⊎◌, List, [], ◌∷◌, eqb, length}
use Rattle.std.proofs.Common.{ap, sym, ◌∙◌, inl, inr, arith}
use Rattle.order.proofs.Table.{Table, standing_of, table_of}
use Rattle.order.proofs.Structure.{Structure}
use Rattle.order.proofs.StructureFacts.{head_rank}
use Rattle.order.proofs.Moves.{Move, nothing, links, marks, unlinks, flags, backlinks, private}
use Rattle.order.proofs.MovesKeep.{move_keeps_structure}
use Rattle.order.proofs.Stack.{newest_first, stack_of, stack_after, stacked_stack, stack_in}
use Rattle.order.proofs.Facts.{AtMost, AllHold, facts}
use Rattle.order.proofs.StableFacts.{others_leave_held, facts_survive}
use Rattle.order.proofs.Lawful.{Lawful, removed_row}
use Rattle.order.proofs.EveryLine.{effect_lawful}
use Rattle.order.proofs.Events.{Event, refused, submitted, stepped, Submitted, StepTaken, each_worker, call_event}
use Rattle.order.proofs.Sound.{Sound}
use Rattle.kept.specs.Standing.{held_not_linked, held_inside, free_not_held}
use Rattle.kept.specs.Ways.{effect_in, submitted_worker, line_of, worker_in}
use Rattle.kept.specs.Sized.{EightHelps, written_length, after_helps}
use Rattle.kept.specs.IdleLine.{if_idle, idle_names_none}
use Rattle.model.specs.State.{row_at, idle}
use Rattle.model.proofs.Choices.{if_both, if_known}
use Rattle.model.specs.WellFormed.{held_row}
use Rattle.model.specs.Step.{written, worker_after, ninth_help, first_line}
use Rattle.model.proofs.Answers.{stacked_line, line_after}
use Rattle.model.specs.Run.{call, run}
use Rattle.model.specs.declared.Row.{Row}
use Rattle.model.specs.declared.Standing.TheVariants.{Free, Held}
use Rattle.model.specs.declared.Worker.{Worker}
use Rattle.model.specs.declared.Catalogue.{Catalogue}
use Rattle.model.specs.declared.Pending.{Pending}
use Rattle.model.specs.declared.Effect.{Effect}
use Rattle.model.specs.declared.Line.{Line}
use Rattle.model.specs.declared.Stepped.{Stepped}
use Rattle.model.specs.declared.Call.{Call}
use Rattle.model.specs.declared.Call.TheVariants.{Submit, Step}

-- ---- A worker after a line ----

idle_knows_nothing : (top w : ℕ) (R : Table) (l : Line) (hs : List Pending) → idle l ≡ true → AllHold top w R (facts l hs)
idle_knows_nothing top w R l hs = if_idle (λ l. AllHold top w R (facts l hs)) (λ a. tt) l

module _ (k : Worker) (e : Effect) where
  known_after : (top w : ℕ) (R : Table) → ninth_help k.count e.stack ≡ false → length k.helps ≡ 8
      → AllHold top w R (facts e.line (stack_after (stack_of k) e.stack))
      → AllHold top w R (facts (worker_after k e).line (stack_of (worker_after k e)))
  unfolding worker_after
  known_after top w R few size known =
      if_known (λ (x : Worker). AllHold top w R (facts x.line (stack_of x))) (idle e.line)
      (λ finished. idle_knows_nothing top w R e.line _ finished)
      (λ _. rw (stacked_line k e.line e.stack, stacked_stack k e.line e.stack few size) known)

-- ---- A submit ----

first_known : (top w : ℕ) (R : Table) (code key element : ℕ) → Structure top R → suc key < top
    → AllHold top w R (facts (first_line code key element) (stack_of (submitted_worker code key element)))
unfolding first_line newest_first
first_known top w R code key element sound fits =
    if_both (λ (l : Line). AllHold top w R (facts l [])) (eqb code 1) (fits, (refl, (at_head (suc key), tt)))
    (if_both (λ (l : Line). AllHold top w R (facts l [])) (eqb code 2)
    (fits, (refl, (at_head (suc key), tt)))
    (fits, (refl, (at_head key, tt))))
  where
    at_head : (bound : ℕ) → AtMost top R 0 bound
    at_head bound = record { linked = sound.head.linked; low = omega (arith, head_rank top R) }

-- ---- Every event ----

-- a move makes no row held but its own worker's
held_before : {top u v : ℕ} {R R' : Table} → u ≢ v → Move top u R R' → (x : ℕ) → standing_of R' x ≡ Held v → standing_of R x ≡ Held v
held_before differ (nothing e) x h = cc
held_before differ (links {new = new} m) x h = sym (m.standing_other x (λ e. held_not_linked h (cc m.new_linked))) ∙ h
held_before differ (marks m) x h = sym (m.standing= x) ∙ h
held_before differ (unlinks m) x h = sym (m.standing= x) ∙ h
held_before differ (flags m) x h = sym (m.standing= x) ∙ h
held_before differ (backlinks m) x h = sym (m.standing= x) ∙ h
held_before {u = u} {v = v} {R' = R'} differ (private {new = new} m) x h =
    ap (λ (r : Row). r.standing) (sym (m.other x (λ e. mine e m.after))) ∙ h
  where
    mine : x ≡ new → (standing_of R' new ≡ Free) ⊎ (standing_of R' new ≡ Held u) → ⊥
    mine e (inl free) = free_not_held {w = v} free (cc)
    mine e (inr held) = differ (cc)

module _ (top : ℕ) (c c' : Catalogue) (sound : Sound top c) where
  submit_keeps_sound : (w code key element : ℕ) → suc key < top → Submitted c c' w code key element → Sound top c'
  submit_keeps_sound w code key element fits s = record {
    structure = same_rows (λ rows. Structure top (row_at rows)) sound.structure;
    known = each_worker s.worker (λ v k. AllHold top v (table_of c') (facts k.line (stack_of k)))
        (same_rows (λ rows. AllHold top w (row_at rows) (facts (first_line code key element) (stack_of (submitted_worker code key element))))
        (first_known top w (table_of c) code key element sound.structure fits))
        (λ v e. same_rows (λ rows. AllHold top v (row_at rows) (facts (line_of c v) (stack_in c v))) (sound.known v));
    named = same_rows (λ rows. (v x : ℕ) → standing_of (row_at rows) x ≡ Held v → held_row (line_of c' v) ≡ x)
        (each_worker s.worker (λ v k. (x : ℕ) → standing_of (table_of c) x ≡ Held v → held_row k.line ≡ x)
        (λ x h. absurd (omega (
          arith,
          sound.named w x h,
          idle_names_none (line_of c w) s.was_idle,
          held_inside c.rows x w h,
          sound.sizes.rows,
        )))
        (λ v e. sound.named v));
    sizes = record {
      rows = cc;
      workers = cc;
      helps = each_worker s.worker (λ v k. EightHelps k) refl (λ v e. sound.sizes.helps v);
    };
  }
    where
      same_rows : (P : List Row → Type 0) → P c.rows → P c'.rows
      same_rows P h = rw s.rows_same h

  -- the effect of the step is lawful
  pub step_lawful : (w : ℕ) → StepTaken c c' w
      → Lawful top w c.rows (held_row (line_of c w)) (removed_row (line_of c w)) (stack_in c w) (effect_in c w)
  step_lawful w s = effect_lawful top w c.rows (worker_in c w) sound.structure sound.sizes.rows s.was_busy (sound.known w)

  step_keeps_sound : (w : ℕ) → StepTaken c c' w → Sound top c'
  step_keeps_sound w s = record {
    structure = rows_after (λ rows. Structure top (row_at rows)) (move_keeps_structure sound.structure l.move);
    known = rows_after (λ rows. (v : ℕ) → AllHold top v (row_at rows) (facts (line_of c' v) (stack_in c' v)))
        (each_worker s.worker (λ v k. AllHold top v (row_at after) (facts k.line (stack_of k)))
        (known_after k e top w (row_at after) s.few_helps_hold (sound.sizes.helps w) l.known)
        (λ v differ. facts_survive top v sound.structure l.move (others_leave_held sound.structure (λ q. differ (sym q)) l.move)
        (facts (line_of c v) (stack_in c v)) (sound.known v)));
    named = rows_after (λ rows. (v x : ℕ) → standing_of (row_at rows) x ≡ Held v → held_row (line_of c' v) ≡ x)
        (each_worker s.worker (λ v k. (x : ℕ) → standing_of (row_at after) x ≡ Held v → held_row k.line ≡ x)
        (λ x h. ap held_row (line_after k e) ∙ l.named x (sound.named w x) h)
        (λ v differ x h. sound.named v x (held_before (λ q. differ (sym q)) l.move x h)));
    sizes = record {
      rows = cc (s.rows_written, written_length c.rows e.write, sound.sizes.rows);
      workers = cc;
      helps = each_worker s.worker (λ v k. EightHelps k) (after_helps k e (sound.sizes.helps w)) (λ v differ. sound.sizes.helps v);
    };
  }
    where
      k : Worker
      k = worker_in c w

      e : Effect
      e = effect_in c w

      after : List Row
      after = written c.rows e.write

      l : Lawful top w c.rows (held_row k.line) (removed_row k.line) (stack_of k) e
      l = step_lawful w s

      rows_after : (P : List Row → Type 0) → P after → P c'.rows
      rows_after P h = rw s.rows_written h

-- the key that a call submits fits
abbrev pub KeyFits : ℕ → Call → Type 0
KeyFits top (Submit w code key element) = suc key < top
KeyFits top (Step w) = Unit {0}

pub event_keeps_sound : (top : ℕ) {c : Catalogue} (x : Call) {s : Stepped} → Sound top c → KeyFits top x → Event c x s
    → Sound top s.state
event_keeps_sound top x sound fits (refused r v same) = rw same sound
event_keeps_sound top {c} x {s} sound fits (submitted w code key element small is v s') =
    submit_keeps_sound top c s.state sound w code key element (rw is at fits) s'
event_keeps_sound top {c} x {s} sound fits (stepped w small is v s') = step_keeps_sound top c s.state sound w s'

pub call_keeps_sound : (top : ℕ) (c : Catalogue) (x : Call) → Sound top c → KeyFits top x → Sound top (call c x).state
call_keeps_sound top c x sound fits = event_keeps_sound top x sound fits (call_event c x sound.sizes.workers)

-- ---- Runs ----

abbrev pub KeysFit : ℕ → List Call → Type 0
KeysFit top [] = Unit {0}
KeysFit top (x ∷ xs) = KeyFits top x × KeysFit top xs

pub run_keeps_sound : (top : ℕ) (c : Catalogue) (calls : List Call) → Sound top c → KeysFit top calls → Sound top (run c calls)
unfolding run
run_keeps_sound top c [] sound fits = sound
run_keeps_sound top c (x ∷ xs) sound fits = run_keeps_sound top (call c x).state xs (call_keeps_sound top c x sound fits.0) fits.1

-- a rank for the tail: above the key and one of every submit
unfoldable pub top_over : List Call → ℕ
top_over [] = 1
top_over (Submit w code key element ∷ xs) = max (key + 2) (top_over xs)
top_over (Step w ∷ xs) = top_over xs

pub keys_fit : (top : ℕ) (calls : List Call) → top_over calls ≤ top → KeysFit top calls
unfolding top_over
keys_fit top [] h = tt
keys_fit top (Submit w code key element ∷ xs) h = (omega arith, keys_fit top xs (omega arith))
keys_fit top (Step w ∷ xs) h = (tt, keys_fit top xs h)

pub top_positive : (calls : List Call) → 1 ≤ top_over calls
unfolding top_over
top_positive [] = omega arith
top_positive (Submit w code key element ∷ xs) = omega (arith, top_positive xs)
top_positive (Step w ∷ xs) = top_positive xs
