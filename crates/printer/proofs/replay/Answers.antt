-- A refused file is one line, an accepted one the heading and the lines of its run; a write that stops leaves a first part of them.
use Rattle.std.proofs.Common.{sym}
use Rattle.printer.proofs.OnResults.{held}
use Rattle.printer.proofs.OnTheWay.{all_told, stopped_in_heading, stopped_in_lines, refused_told, stopped_in_refusal}
use Rattle.printer.proofs.replay.Goals as goal

pub returns-in_ok-show-in-Err-clause-written : goal.returns-in_ok-show-in-Err-clause-written
returns-in_ok-show-in-Err-clause-written g c =
    refused_told _ _ _ _ _ c.in-Err.ensures c.refused_file.ensures c.in_ok-show-in-Err.ensures.written

pub returns-in_err-show-in-Err-clause-stopped : goal.returns-in_err-show-in-Err-clause-stopped
returns-in_err-show-in-Err-clause-stopped g c =
    held c.from_residual.result
    (stopped_in_refusal _ _ _ _ _ c.in-Err.ensures c.refused_file.ensures c.in_err-show-in-Err.ensures.stopped)

pub returns-in_ok-run_events-in-Ok-clause-written : goal.returns-in_ok-run_events-in-Ok-clause-written
returns-in_ok-run_events-in-Ok-clause-written g c =
    all_told _ _ _ _ _ c.in-Ok.ensures c.heading.ensures c.in_ok-show-in-Ok.ensures.written
    (c.in_ok-run_events-in-Ok.ensures.written (sym c.in-Ok.ensures))

pub returns-in_err-show-in-Ok-clause-stopped : goal.returns-in_err-show-in-Ok-clause-stopped
returns-in_err-show-in-Ok-clause-stopped g c =
    held c.from_residual-in_err-show-in-Ok.result
    (stopped_in_heading _ _ _ _ c.in-Ok.ensures c.heading.ensures c.in_err-show-in-Ok.ensures.stopped)

pub returns-in_err-run_events-in-Ok-clause-stopped : goal.returns-in_err-run_events-in-Ok-clause-stopped
returns-in_err-run_events-in-Ok-clause-stopped g c =
    held c.from_residual-in_err-run_events-in-Ok.result
    (stopped_in_lines _ _ _ _ _ c.in-Ok.ensures c.heading.ensures c.in_ok-show-in-Ok.ensures.written
    (c.in_err-run_events-in-Ok.ensures.stopped (sym c.in-Ok.ensures)))
