-- What was read is enough of the input.
use Rattle.std.proofs.Common.{◌<◌, arith, length}
use Rattle.printer.proofs.LongInputs.{input_verdict, input_written, input_stopped}
use Rattle.printer.proofs.replay_from.Goals as goal

pub returns-clause-verdict : goal.returns-clause-verdict
returns-clause-verdict g c =
    let enough : 60003 < length c.read_full.new.buffer = omega arith in
    input_verdict c.replay.result _ _ _ enough c.in_ok-n.ensures.bytes c.replay.ensures.verdict

pub returns-clause-written : goal.returns-clause-written
returns-clause-written g c =
    let enough : 60003 < length c.read_full.new.buffer = omega arith in
    input_written c.replay.result _ (g.W.Write.contents c.args.out.now) (g.W.Write.contents c.replay.new.out) _ _ enough c.in_ok-n.ensures.bytes c.replay.ensures.written

pub returns-clause-stopped : goal.returns-clause-stopped
returns-clause-stopped g c =
    let enough : 60003 < length c.read_full.new.buffer = omega arith in
    input_stopped c.replay.result _ (g.W.Write.contents c.args.out.now) (g.W.Write.contents c.replay.new.out) _ _ enough c.in_ok-n.ensures.bytes c.replay.ensures.stopped
