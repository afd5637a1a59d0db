-- The words are a table, whose step is the model's, and which stays sound.
use Rattle.std.proofs.Common.{rules}
use Rattle.std.specs.Array.{IsWholeChunk}
use Rattle.packed.specs.Steps.{repacked}
use Rattle.packed.proofs.steps.step_worker.Goals as goal

pub returns : goal.returns
returns c workers its =
    let whole : IsWholeChunk c.args.words.now c.unwrap-table.result.now 512 = search rules in
    let steps = c.step_worker-verdict.ensures.step workers its in
    let again = c.step_worker-verdict.ensures.sound (rw (whole.same) (c.requires.again)) in
    rw (← whole.same) (repacked _ workers c.args.me _ _ _ steps again)
