-- Whether the records that are left fit says whether all do. Each takes at least a byte.
use Rattle.std.proofs.Common.{◌≡◌, length}
use Rattle.model.specs.Schedule.{records_fit}
use Rattle.schedule_file.proofs.records_fit.Given as goal

abbrev pub invariant-loop-n : goal.invariant-loop-n
invariant-loop-n l = records_fit (length l.records) l.records ≡ records_fit (length l.body) l.body

abbrev pub decreases-loop-n : goal.decreases-loop-n
decreases-loop-n l = length l.records
