-- The line of a worker, read at an index.
use Rattle.std.specs.Prelude.{ℕ, ◌<◌, ◌≡◌, List, length, get_or}
use Rattle.std.proofs.Common.{sym, ap, ◌∙◌}
use Rattle.std.proofs.lemmas.List.{get_or_default}
use Rattle.model.specs.State.{worker_at}
use Rattle.model.specs.declared.Worker.{Worker}

-- the line that stands at the index h is that of worker n, if h is n
pub line_found : (workers : List Worker) (n h : ℕ) (d : Worker) → h ≡ n → h < length workers → (worker_at workers n).line ≡ (get_or workers h d).line
line_found workers n h d e inside = ap (λ (m : ℕ). (worker_at workers m).line) (sym e) ∙ ap (λ (k : Worker). k.line) (get_or_default workers h _ d inside)
