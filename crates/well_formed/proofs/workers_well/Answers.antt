use Rattle.std.proofs.Common.{rules, arith, tests}
use Rattle.model.specs.WellFormed.{worker_well}
use Rattle.well_formed.proofs.Tests.{all_numbered}
use Rattle.well_formed.proofs.workers_well.Goals as goal

pub returns : goal.returns
returns c =
    all_numbered (worker_well c.args.rows.now) 8 c.args.workers.now c.all.new.self c.all.ensures.ran (cc) (cc) (omega arith) (λ x b q k. search (rules, tests))
