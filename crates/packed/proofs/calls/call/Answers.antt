-- A submit leaves every word.
use Rattle.std.proofs.Common.{sym}
use Rattle.packing.specs.PackedCalls.{submit_leaves_words}
use Rattle.packed.proofs.calls.call.Goals as goal

pub returns-in-Submit : goal.returns-in-Submit
returns-in-Submit c = rw (c.in-Submit.is) (c.submit.ensures, sym (submit_leaves_words c.args.words.now c.args.workers c.in-Submit.worker c.in-Submit.code c.in-Submit.key c.in-Submit.element))
