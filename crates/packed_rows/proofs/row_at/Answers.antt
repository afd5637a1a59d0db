-- Row i is what the i-th four words are, and past the last stands the free row.
use Rattle.std.proofs.Common.{◌∙◌, sym, arith}
use Rattle.std.proofs.Math.ListN.{get_or-eq_default}
use Rattle.model.specs.State.{free_row}
use Rattle.model.specs.Packed.{unpacked}
use Rattle.packing.specs.Tables.{rows_number}
use Rattle.packed_rows.proofs.Chunks.{chunk_row}
use Rattle.packed_rows.proofs.row_at.Goals as goal

pub returns-in-Some : goal.returns-in-Some
returns-in-Some c =
    let found = c.in-Some.ensures.lookup in
    let cut = c.as_chunks.ensures in
    c.row_from.ensures
    ∙ chunk_row c.args.words.now c.as_chunks.result.0.now c.args.i c.in-Some.field-0.now c.requires cut.front
    (omega (arith, found.3.0, cut.front_len, c.from.ensures)) (rw (← c.from.ensures) found.1)

pub returns-in-None : goal.returns-in-None
returns-in-None c =
    let past = c.in-None.ensures.lookup.3 in
    let size = rows_number 128 c.args.words.now c.requires in
    c.free_row.ensures
    ∙ sym (get_or-eq_default (unpacked c.args.words.now) free_row (omega (arith, size, past, c.as_chunks.ensures.front_len, c.from.ensures)))
