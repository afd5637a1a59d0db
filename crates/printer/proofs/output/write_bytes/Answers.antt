-- What a write takes stands behind what was written before.
use Rattle.printer.proofs.Fronts.{onward}
use Rattle.printer.proofs.output.write_bytes.Goals as goal

pub loop-rest-preserved : goal.loop-rest-preserved
loop-rest-preserved g c =
    let before = c.loop-rest.invariant in
    onward c.in_ok-n.n _ _ _ before.0 c.loop-rest.rest.now c.args.bytes.now before.1 before.2 c.in_ok-n.ensures.bytes
