-- Words of another number pack no rows.
use Rattle.std.proofs.Common.{◌≡◌, sym, length, None, rules}
use Rattle.std.specs.Array.{IsWholeChunk}
use Rattle.packed.specs.Tables.{unsized_rows, table_packs}
use Rattle.packed.proofs.whole.packing_of.Goals as goal

pub returns-in_err-table : goal.returns-in_err-table
returns-in_err-table c =
    let long : length c.args.words.now ≡ 512 → ⊥ = search rules in
    let none : c.from_residual.result ≡ None = search rules in
    rw none (sym (unsized_rows c.args.words.now long))

pub returns : goal.returns
returns c =
    let whole : IsWholeChunk c.args.words.now c.in_ok-table.table.now 512 = search rules in
    rw c.then_some.ensures (table_packs c.args.words.now c.in_ok-table.table _ whole.same c.packs_rows.ensures)
