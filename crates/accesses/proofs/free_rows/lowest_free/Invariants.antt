-- The lowest free row is the lowest from i on.
use Rattle.std.proofs.Common.{◌-◌, ◌≡◌}
use Rattle.model.specs.Insert.{lowest_free, lowest_free_from}
use Rattle.accesses.proofs.free_rows.lowest_free.Given as goal

abbrev pub invariant-loop-i : goal.invariant-loop-i
invariant-loop-i g l = lowest_free (g.T.Table.rows l.table) ≡ lowest_free_from (g.T.Table.rows l.table) (128 - l.i) l.i
