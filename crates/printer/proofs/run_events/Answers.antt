-- One event more is on its way, the last line makes the lines whole, and a write that stops leaves a first part of them.
use Rattle.std.proofs.Common.{arith, sym, subst}
use Rattle.std.proofs.lemmas.Result.{on_ok_weaker, on_err_weaker}
use Rattle.schedule.specs.declared.run.Run.{Run}
use Rattle.schedule.specs.Events.{next_later}
use Rattle.printer.proofs.OnResults.{held}
use Rattle.printer.proofs.OnTheWay.{OnTheWay, at_start, one_more, stopped_there, at_end, stopped_at_end}
use Rattle.printer.proofs.run_events.Goals as goal

pub loop-text-init : goal.loop-text-init
loop-text-init g c accepted =
    subst (λ (r : Run). OnTheWay c.args.file.now r (g.W.Write.contents c.args.out.now) (g.W.Write.contents c.args.out.now)) (sym c.start-run.ensures)
    (at_start c.args.file.now _ accepted)

pub loop-text-smaller : goal.loop-text-smaller
loop-text-smaller g c =
    let happens = c.in-Some.ensures in
    let later = next_later c.args.file.now c.loop-text.run happens.0 in
    rw happens.1.next (omega (arith, later, happens.0))

pub loop-text-preserved : goal.loop-text-preserved
loop-text-preserved g c accepted =
    let happens = c.in-Some.ensures in one_more (c.loop-text.invariant accepted) happens.0 happens.1 _ c.in_ok-show.ensures.written

pub returns-in_err-show-clause-stopped : goal.returns-in_err-show-clause-stopped
returns-in_err-show-clause-stopped g c =
    let happens = c.in-Some.ensures in
    held c.from_residual.result (λ accepted. stopped_there (c.loop-text.invariant accepted) happens.0 happens.1 _ c.in_err-show.ensures.stopped)

pub returns-clause-written : goal.returns-clause-written
returns-clause-written g c =
    on_ok_weaker c.show-2.result (λ told accepted. at_end (c.loop-text.invariant accepted) c.in_default.ensures c.last_line.ensures _ told) c.show-2.ensures.written

pub returns-clause-stopped : goal.returns-clause-stopped
returns-clause-stopped g c =
    on_err_weaker c.show-2.result (λ part accepted. stopped_at_end (c.loop-text.invariant accepted) c.in_default.ensures c.last_line.ensures _ part) c.show-2.ensures.stopped
