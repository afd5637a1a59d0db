-- One event of a run, as the model has it: the line that it prints, and where the run stands then. Past the last record nothing is
-- printed and nothing moves.
use Rattle.std.specs.Prelude.{if◌then◌else◌, ◌≡◌, ℕ, ◌+◌, ◌%◌, ◌^◌, ◌<◌, ◌≤◌, List, [], length, Option, None, Some, nat_lt}
use Rattle.std.proofs.Common.{arith, lt-ltb, le-ltb}
use Rattle.model.specs.State.{empty_catalogue}
use Rattle.model.specs.Run.{call}
use Rattle.model.specs.Printed.{event_text}
use Rattle.schedule.specs.declared.text.Text.{Text}
use Rattle.schedule.specs.declared.run.Run.{Run}
use Rattle.schedule.specs.declared.run.Event.{Event}
use Rattle.schedule.specs.Shown.{Shows}
use Rattle.schedule_file.specs.Records.{whole_rest}
use Rattle.schedule_file.specs.Positions.{call_at, after}

abbrev pub start_run : Run
start_run = record { state = empty_catalogue; event = 1; at = 3 }

unfoldable pub line_at : List ℕ → Run → List ℕ
line_at file r =
    if nat_lt r.at (length file)
    then event_text r.event (call_at file r.at) (call r.state (call_at file r.at))
    else []

-- where the run stands after the record at its position; the event number is kept in 32 bits
abbrev pub moved : List ℕ → Run → Run
moved file r = record { state = (call r.state (call_at file r.at)).state; event = (r.event + 1) % 2 ^ 32; at = after file r.at }

unfoldable pub next_run : List ℕ → Run → Run
next_run file r = if nat_lt r.at (length file) then moved file r else r

-- What the next event of the run r gives.
pub record Happens (file : List ℕ) (r : Run) (e : Event) : Type 0 where
  pub next : e.run ≡ next_run file r
  pub prints : Shows (line_at file r) e.text

-- The run r moved in place: the next event, where a record is left, or nothing.
abbrev pub Advances : List ℕ → Run → Option Text → Run → Type 0
Advances file r None next = (length file ≤ r.at) × (next ≡ r)
Advances file r (Some text) next = (r.at < length file) × Happens file r (record { run = next; text = text })

-- The two cases, read off.
module _ (file : List ℕ) (r : Run) (inside : r.at < length file) where
  pub line_inside : line_at file r ≡ event_text r.event (call_at file r.at) (call r.state (call_at file r.at))
  unfolding line_at
  line_inside = simp (lt-ltb r.at (length file) inside)

  pub next_inside : next_run file r ≡ moved file r
  unfolding next_run
  next_inside = simp (lt-ltb r.at (length file) inside)

  -- so a run that goes on comes to the end
  pub next_later : r.at < (next_run file r).at
  next_later = rw next_inside (omega arith)

module _ (file : List ℕ) (r : Run) (past : length file ≤ r.at) where
  pub line_past : line_at file r ≡ []
  unfolding line_at
  line_past = simp (le-ltb r.at (length file) past)

  pub next_past : next_run file r ≡ r
  unfolding next_run
  next_past = simp (le-ltb r.at (length file) past)

-- what the code of an event rests on
pub ruleset moves = (line_inside, next_inside, line_past, next_past, whole_rest)
