-- What is written of a run, and what a write that stops on its way leaves.
use Rattle.std.specs.Prelude.{◌≡◌, ℕ, List, ◌++◌}
use Rattle.std.specs.declared.option.Option.{Option}
use Rattle.std.specs.Io.KnownBytes.{Appends}
use Rattle.model.specs.State.{empty_catalogue}
use Rattle.model.specs.Schedule.{calls_of}
use Rattle.model.specs.Printed.{run_text}

-- the lines of the events of a file that is not refused, and the last line: all that is printed but the heading
abbrev pub all_lines : List ℕ → List ℕ
all_lines file = run_text 1 empty_catalogue (calls_of file)

-- known bytes grow by a first part of bs, none or all of it among them
abbrev pub AppendsFront : Option (List ℕ) → Option (List ℕ) → List ℕ → Type 0
AppendsFront old new bs = (front : List ℕ) × (rest : List ℕ) × (bs ≡ front ++ rest) × Appends old new front
