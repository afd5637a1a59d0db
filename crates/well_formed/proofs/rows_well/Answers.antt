use Rattle.std.proofs.Common.{rules, arith, tests}
use Rattle.model.specs.WellFormed.{row_well}
use Rattle.well_formed.proofs.Tests.{all_numbered}
use Rattle.well_formed.proofs.rows_well.Goals as goal

pub returns : goal.returns
returns c =
    all_numbered (row_well c.args.workers.now) 128 c.args.rows.now c.all.new.self c.all.ensures.ran (cc) (cc) (omega arith) (λ x b q k. search (rules, tests))
