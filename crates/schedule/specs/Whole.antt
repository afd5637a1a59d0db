-- A whole run: its events one after another, and what their texts show. That these, with the heading and the last line, are the bytes
-- that the model prints for the file is shown in proofs/Whole.antt.
use Rattle.std.specs.Prelude.{ℕ, ◌<◌, ◌≤◌, List, [], ◌∷◌, ◌++◌, length}
use Rattle.schedule.specs.declared.text.Text.{Text}
use Rattle.schedule.specs.declared.run.Run.{Run}
use Rattle.schedule.specs.declared.run.Event.{Event}
use Rattle.schedule.specs.Shown.{shown}
use Rattle.schedule.specs.Events.{Happens}

-- A run from r to its end, one event after another for as long as a record is left, with the texts of its events.
pub data Ran (file : List ℕ) : Run → List Text → Run → Type 0 where
  over : {r : Run} → length file ≤ r.at → Ran file r [] r
  event : {r end : Run} {e : Event} {texts : List Text} → r.at < length file → Happens file r e → Ran file e.run texts end
      → Ran file r (e.text ∷ texts) end

unfoldable pub all_shown : List Text → List ℕ
all_shown [] = []
all_shown (text ∷ texts) = shown text ++ all_shown texts
