use Rattle.std.proofs.Common.{◌∙◌, ap, arith}
use Rattle.model.specs.Packed.{unpacked}
use Rattle.tables.proofs.Stores.{unpacked_stored, sound_stored}
use Rattle.tables.proofs.ArrayU32512Table.store.Goals as goal

pub returns-clause-rows : goal.returns-clause-rows
returns-clause-rows c =
    ap unpacked c.store_row.ensures.0 ∙ unpacked_stored 128 c.args.self.now c.args.i c.args.row (omega arith) c.store_row.ensures.1

pub returns-clause-sound : goal.returns-clause-sound
returns-clause-sound c again =
    rw (c.store_row.ensures.0) (sound_stored c.args.self.now c.args.i c.args.row (omega arith) c.store_row.ensures.1 again)
