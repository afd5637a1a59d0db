-- The fixed values of the catalogue's types (the free row, head and tail, an idle worker, the empty catalogue), and how rows,
-- workers and helps are looked up. A look-up is total: past the end stands the free row, a fresh worker, no help.
use Rattle.std.specs.Prelude.{ℕ, Bool, true, false, List, get_or, set, replicate}
use Rattle.model.specs.declared.Row.{Row}
use Rattle.model.specs.declared.Succ.{Succ}
use Rattle.model.specs.declared.Pending.{Pending}
use Rattle.model.specs.declared.Worker.{Worker}
use Rattle.model.specs.declared.Catalogue.{Catalogue}
use Rattle.model.specs.declared.Answer.{Answer}
use Rattle.model.specs.declared.Answer.TheVariants.{NoAnswer}
use Rattle.model.specs.declared.Standing.TheVariants.{Free, Linked}
use Rattle.model.specs.declared.Line.{Line}
use Rattle.model.specs.declared.Line.TheVariants.{Idle, Search, Insert, Flag, Help}

-- the three parts of a successor: (right, mark, flag)
abbrev pub succ_of : ℕ → Bool → Bool → Succ
succ_of right mark flag = record { right = right; mark = mark; flag = flag }

abbrev pub free_row : Row
free_row = record { key = 0; element = 0; backlink = 0; succ = succ_of 0 false false; standing = Free }

-- the head and the tail
abbrev pub end_row : ℕ → Row
end_row right = record { key = 0; element = 0; backlink = 0; succ = succ_of right false false; standing = Linked }

abbrev pub no_help : Pending
no_help = record { prev = 0; del = 0 }

abbrev pub no_helps : List Pending
no_helps = replicate 8 no_help

-- a worker at a line, all other registers zero
abbrev pub fresh_worker : Line → Worker
fresh_worker line = record { line = line; helps = no_helps; count = 0 }

abbrev pub idle_worker : Answer → Worker
idle_worker a = fresh_worker (Idle a)

-- head successor (1,0,0), tail successor (0,0,0), rows 0 and 1 linked, everything else zero, all workers idle with answer 0
abbrev pub empty_catalogue : Catalogue
empty_catalogue =
    record { rows = set (set (replicate 128 free_row) 0 (end_row 1)) 1 (end_row 0); workers = replicate 8 (idle_worker NoAnswer) }

abbrev pub row_at : List Row → ℕ → Row
row_at rows i = get_or rows i free_row

abbrev pub worker_at : List Worker → ℕ → Worker
worker_at workers w = get_or workers w (idle_worker NoAnswer)

abbrev pub help_at : List Pending → ℕ → Pending
help_at helps i = get_or helps i no_help

abbrev pub idle : Line → Bool
idle (Idle a) = true
idle (Search l f) = false
idle (Insert l f) = false
idle (Flag l f) = false
idle (Help l f) = false
