-- The closure is the model's test of a row, and `all` answers `list_all` of it.
use Rattle.std.proofs.Common.{◌∙◌, rules, tests}
use Rattle.std.proofs.lemmas.Iterator.{YieldsList-from_slice}
use Rattle.std.proofs.lemmas.Iterator.Search.{all_from_yields_List}
use Rattle.model.specs.WellFormed.{row_numbers}
use Rattle.model.specs.Count.{countable}
use Rattle.lent.proofs.Walk.{all_numbers}
use Rattle.lent.proofs.countable.Goals as goal

pub returns-then-rows-eq-ROWS : goal.returns-then-rows-eq-ROWS
unfolding countable
returns-then-rows-eq-ROWS c =
    let rows = c.args.rows.now in
    let all = all_from_yields_List row_numbers _ _ c.all.result c.all.ensures.ran (YieldsList-from_slice rows cc) (λ x b q k. search (rules, tests)) in
    rw c.if-rows-eq-ROWS.true (all ∙ all_numbers 0 rows)
