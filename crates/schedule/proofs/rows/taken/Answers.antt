-- The chain counts the rows not free in the list.
use Rattle.std.proofs.Common.{◌≡◌, ◌∙◌, ◌-◌, length, take, drop, arith, rules}
use Rattle.std.specs.Prelude.{count_by}
use Rattle.std.proofs.iter.runs.Made.{chains}
use Rattle.schedule.specs.Rows.{is_taken, taken_counted}
use Rattle.schedule.proofs.rows.taken.Goals as goal

pub returns : goal.returns
returns c =
    let rows = c.args.state.now.rows in
    let counted : c.count.result ≡ count_by is_taken (take (length rows - 2) (drop 2 rows)) = search (rules, chains) in
    counted ∙ taken_counted rows (omega arith)
