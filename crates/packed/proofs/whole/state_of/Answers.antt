-- The rows are read one by one.
use Rattle.std.proofs.Common.{ap, arith, rules, List}
use Rattle.model.specs.declared.Row.{Row}
use Rattle.packed.specs.Tables.{rows_read}
use Rattle.packed.proofs.whole.state_of.Goals as goal

pub returns : goal.returns
returns c =
    let read = rows_read _ _ c.args.words.now c.from_fn.result (omega arith) c.from_fn.ensures.items (λ x y q k. search rules) in
    ap (λ (rows : List Row). record { rows = rows; workers = c.args.workers }) read
