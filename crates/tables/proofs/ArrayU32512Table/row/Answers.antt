use Rattle.std.proofs.Common.{arith}
use Rattle.packing.specs.Tables.{rows_number}
use Rattle.tables.proofs.ArrayU32512Table.row.Goals as goal

pub returns-clause-size : goal.returns-clause-size
returns-clause-size c = rows_number 128 c.args.self.now (omega arith)
