-- 4 for words that pack no rows or a state that is not well formed, else the step of the worker's record, put back in its place.
use Rattle.std.proofs.Common.{◌<◌, ◌≡◌, sym, length, arith, rules, Err}
use Rattle.std.proofs.lemmas.List.{get_or_default}
use Rattle.std.specs.Array.{IsWholeChunk}
use Rattle.model.specs.declared.Call.TheVariants.{Step}
use Rattle.model.specs.declared.Refusal.TheVariants.{NotWellFormed}
use Rattle.packing.specs.Tables.{packs_rows_lem}
use Rattle.packing.specs.WellFormedWords.{packed_well_told}
use Rattle.packed.specs.Tables.{unsized_rows}
use Rattle.packed.specs.Steps.{repacked}
use Rattle.packed.specs.Calls.{no_rows, not_well, step_gives}
use Rattle.packed.proofs.calls.take_step.Goals as goal

pub returns-in_err-table : goal.returns-in_err-table
returns-in_err-table c =
    let a = c.args in
    let long : length a.words.now ≡ 512 → ⊥ = search rules in
    let refused : c.from_residual.result ≡ Err NotWellFormed = search rules in
    rw refused (no_rows a.words.now a.workers.now (Step a.worker) c.if-worker-gt7.false (sym (unsized_rows a.words.now long)))

pub returns-then-not-packed_well : goal.returns-then-not-packed_well
returns-then-not-packed_well c =
    let a = c.args in
    let whole : IsWholeChunk a.words.now c.in_ok-table.table.now 512 = search rules in
    rw (← whole.same) (not_well c.in_ok-table.table.now a.workers.now (Step a.worker) c.if-worker-gt7.false (sym c.if-not-packed_well.ensures))

pub returns : goal.returns
returns c =
    let a = c.args in
    let whole : IsWholeChunk a.words.now c.in_ok-table.table.now 512 = search rules in
    let inside : a.worker < length a.workers.now = omega arith in
    let steps = c.step_worker.ensures.step a.workers.now (get_or_default a.workers.now a.worker _ _ inside) in
    let well = sym c.if-not-packed_well.ensures in
    let packs = packs_rows_lem c.in_ok-table.table.now (packed_well_told c.in_ok-table.table.now a.workers.now well).0 in
    let again = c.step_worker.ensures.sound packs.again in
    rw (← whole.same)
    (step_gives c.in_ok-table.table.now a.workers.now a.worker _ _ c.if-worker-gt7.false well
    (repacked c.in_ok-table.table.now a.workers.now a.worker _ _ _ steps again))
