-- A run over time: the state before the call at each position, what the call at that position does to it, and the move of the row table.
-- Past the last call nothing changes, so every number is a position.
use Prim.Native.Nat.{ℕ, zero, suc, ◌≤◌, ◌<◌}
use Rattle.std.specs.Prelude.{true, ◌≡◌, refl, List, [], ◌∷◌, ◌++◌, take, get_or}
use Rattle.std.proofs.Math.Path.{ap, sym, subst}
use Rattle.std.proofs.Common.{◌∙◌, arith, take-suc, take_all}
use Rattle.std.proofs.Math.Decide.{dec_lt}
use Rattle.std.proofs.Math.ListN.{length}
use Rattle.order.proofs.Table.{Table, table_of, IsLinked}
use Rattle.order.proofs.Structure.{Structure}
use Rattle.order.proofs.Moves.{Move, nothing}
use Rattle.order.proofs.Events.{Event, refused, submitted, stepped, Submitted, StepTaken, call_event}
use Rattle.order.proofs.Sound.{Sound}
use Rattle.order.proofs.SoundKept.{KeysFit, run_keeps_sound, step_lawful}
use Rattle.order.proofs.Owners.{Owned, event_keeps_owned}
use Rattle.order.specs.Demand.{state_at, Accepts}
use Rattle.order.proofs.OneRequest.{any_default}
use Rattle.order.proofs.Timeline.{grown_later}
use Rattle.order.proofs.MovesKeep.{Grown}
use Rattle.kept.specs.Ways.{accepted_not_refused, line_of}
use Rattle.kept.specs.Conditions.{contradiction}
use Rattle.model.specs.State.{row_at, idle}
use Rattle.model.specs.Run.{call, run}
use Rattle.model.specs.declared.Row.{Row}
use Rattle.model.specs.declared.Catalogue.{Catalogue}
use Rattle.std.specs.Prelude.{Ok}
use Rattle.model.specs.declared.Call.{Call}
use Rattle.model.specs.declared.Call.TheVariants.{Submit, Step}

-- A run of these calls may begin: the state is sound, each set flag has its owner, no worker is busy, and every key fits.
pub record Ready (top : ℕ) (start : Catalogue) (calls : List Call) : Type 0 where
  pub sound : Sound top start
  pub owned : Owned start
  pub at_rest : (w : ℕ) → idle (line_of start w) ≡ true
  pub fits : KeysFit top calls

-- ---- The state after one more call ----

run_append : (c : Catalogue) (xs ys : List Call) → run c (xs ++ ys) ≡ run (run c xs) ys
unfolding run
run_append c [] ys = refl
run_append c (x ∷ xs) ys = run_append (call c x).state xs ys

fits_before : (top i : ℕ) (calls : List Call) → KeysFit top calls → KeysFit top (take i calls)
fits_before top zero calls fits = tt
fits_before top (suc i) [] fits = tt
fits_before top (suc i) (x ∷ xs) fits = (fits.0, fits_before top i xs fits.1)

module _ (start : Catalogue) (calls : List Call) where
  pub state_after : (i : ℕ) (x : Call) → i < length calls → get_or calls i x ≡ x
      → state_at start calls (suc i) ≡ (call (state_at start calls i) x).state
  unfolding state_at run
  state_after i x inside made =
      ap (run start) (take-suc calls i x inside) ∙ run_append start (take i calls) _
      ∙ ap (λ (y : Call). (call (run start (take i calls)) y).state) made

  state_past : (i : ℕ) → length calls ≤ i → state_at start calls (suc i) ≡ state_at start calls i
  unfolding state_at
  state_past i past = ap (run start) (take_all (suc i) calls (omega arith) ∙ sym (take_all i calls past))

  pub state_end : state_at start calls (length calls) ≡ run start calls
  unfolding state_at
  state_end = ap (run start) (take_all (length calls) calls (omega arith))

  -- what happens at a position
  pub data Happening (i : ℕ) : Type 0 where
    nothing_happens : state_at start calls (suc i) ≡ state_at start calls i → Happening i
    submits : (w code key element : ℕ) → Accepts start calls i (Submit w code key element)
        → Submitted (state_at start calls i) (state_at start calls (suc i)) w code key element → Happening i
    steps : (w : ℕ) → Accepts start calls i (Step w) → StepTaken (state_at start calls i) (state_at start calls (suc i)) w → Happening i

module _ {top : ℕ} {start : Catalogue} {calls : List Call} (ready : Ready top start calls) where
  -- the rows before the call at position i, and their table
  abbrev pub RowsAt : ℕ → List Row
  RowsAt i = (state_at start calls i).rows

  abbrev pub TableAt : ℕ → Table
  TableAt i = table_of (state_at start calls i)

  pub sound_at : (i : ℕ) → Sound top (state_at start calls i)
  unfolding state_at
  sound_at i = run_keeps_sound top start (take i calls) ready.sound (fits_before top i calls ready.fits)

  event_at : (i : ℕ) (x : Call) → Event (state_at start calls i) x (call (state_at start calls i) x)
  event_at i x = call_event (state_at start calls i) x (sound_at i).sizes.workers

  pub owned_at : (i : ℕ) → Owned (state_at start calls i)
  unfolding state_at run
  owned_at zero = ready.owned
  owned_at (suc i) = go (dec_lt i (length calls)) (owned_at i)
    where
      go : Dec (i < length calls) → Owned (state_at start calls i) → Owned (state_at start calls (suc i))
      go (yes h) owned = subst Owned (sym (state_after start calls i (get_or calls i (Step 0)) h (any_default calls i _ _ h)))
          (event_keeps_owned (sound_at i) owned (event_at i (get_or calls i (Step 0))))
      go (no h) owned = subst Owned (sym (state_past start calls i (omega arith))) owned

  pub structure_at : (i : ℕ) → Structure top (TableAt i)
  structure_at i = (sound_at i).structure

  -- ---- What happens ----

  pub submit_taken : (i w code key element : ℕ) → Accepts start calls i (Submit w code key element)
      → Submitted (state_at start calls i) (state_at start calls (suc i)) w code key element
  submit_taken i w code key element a = go (event_at i (Submit w code key element))
    where
      next : state_at start calls (suc i) ≡ (call (state_at start calls i) (Submit w code key element)).state
      next = state_after start calls i (Submit w code key element) a.inside a.made

      go : Event (state_at start calls i) (Submit w code key element) (call (state_at start calls i) (Submit w code key element))
          → Submitted (state_at start calls i) (state_at start calls (suc i)) w code key element
      go (refused r v same) = absurd (accepted_not_refused a.accepted v)
      go (stepped v small is q s) = contradiction (cc)
      go (submitted v code' key' element' small is q s) =
          let same_w : v ≡ w = cc in
          let same_code : code' ≡ code = cc in
          let same_key : key' ≡ key = cc in
          let same_element : element' ≡ element = cc in
          rw next (rw (same_w, same_code, same_key, same_element) at s)

  pub step_taken : (i w : ℕ) → Accepts start calls i (Step w) → StepTaken (state_at start calls i) (state_at start calls (suc i)) w
  step_taken i w a = go (event_at i (Step w))
    where
      go : Event (state_at start calls i) (Step w) (call (state_at start calls i) (Step w))
          → StepTaken (state_at start calls i) (state_at start calls (suc i)) w
      go (refused r v same) = absurd (accepted_not_refused a.accepted v)
      go (submitted v code key element small is q s) = contradiction (cc)
      go (stepped v small is q s) =
          let same_w : v ≡ w = cc in
          rw (state_after start calls i (Step w) a.inside a.made) (rw same_w at s)

  pub happening : (i : ℕ) → Happening start calls i
  happening i = within (dec_lt i (length calls))
    where
      x : Call
      x = get_or calls i (Step 0)

      accepts : (y : Call) → i < length calls → x ≡ y → (call (state_at start calls i) x).verdict ≡ Ok tt → Accepts start calls i y
      accepts y h is v = record {
        inside = h;
        made = any_default calls i y (Step 0) h ∙ is;
        accepted = subst (λ (z : Call). (call (state_at start calls i) z).verdict ≡ Ok tt) is v;
      }

      go : i < length calls → Event (state_at start calls i) x (call (state_at start calls i) x) → Happening start calls i
      go h (refused r v same) = nothing_happens (state_after start calls i x h (any_default calls i _ _ h) ∙ same)
      go h (submitted w code key element small is v s) =
          let a = accepts (Submit w code key element) h is v in
          submits w code key element a (submit_taken i w code key element a)
      go h (stepped w small is v s) =
          let a = accepts (Step w) h is v in
          steps w a (step_taken i w a)

      within : Dec (i < length calls) → Happening start calls i
      within (yes h) = go h (event_at i x)
      within (no h) = nothing_happens (state_past start calls i (omega arith))

  -- ---- The move of the table ----

  pub record Moved (i : ℕ) : Type 0 where
    pub worker : ℕ
    pub move : Move top worker (TableAt i) (TableAt (suc i))

  pub step_move : (i w : ℕ) → StepTaken (state_at start calls i) (state_at start calls (suc i)) w
      → Move top w (TableAt i) (TableAt (suc i))
  step_move i w s =
      subst (λ (rows : List Row). Move top w (TableAt i) (row_at rows)) (sym s.rows_written)
      (step_lawful top (state_at start calls i) (state_at start calls (suc i)) (sound_at i) w s).move

  pub moved : (i : ℕ) → Moved i
  moved i = go (happening i)
    where
      go : Happening start calls i → Moved i
      go (nothing_happens e) = record { worker = 0; move = nothing (ap (λ (c : Catalogue). row_at c.rows) (sym e)) }
      go (submits w code key element a s) = record { worker = w; move = nothing (ap row_at (sym s.rows_same)) }
      go (steps w a s) = record { worker = w; move = step_move i w s }

  pub mover_at : ℕ → ℕ
  mover_at i = (moved i).worker

  pub move_at : (i : ℕ) → Move top (mover_at i) (TableAt i) (TableAt (suc i))
  unfolding mover_at
  move_at i = (moved i).move

  -- a linked row, and what has become of it later
  pub grown_at : (t u x : ℕ) → t ≤ u → IsLinked (TableAt t) x → Grown (TableAt t x) (TableAt u x)
  grown_at = grown_later TableAt mover_at structure_at move_at
