-- The run of a file that is not refused is on its way: what was written, and what is left to print, are all lines.
use Rattle.std.proofs.Common.{◌≡◌, ◌-◌, length, Ok}
use Rattle.model.specs.Schedule.{file_verdict}
use Rattle.printer.proofs.OnTheWay.{OnTheWay}
use Rattle.printer.proofs.run_events.Given as goal

abbrev pub invariant-loop-text : goal.invariant-loop-text
invariant-loop-text g l = file_verdict l.file ≡ Ok tt → OnTheWay l.file l.run (g.W.Write.contents l.initial.out) (g.W.Write.contents l.out)

abbrev pub decreases-loop-text : goal.decreases-loop-text
decreases-loop-text g l = length l.file - l.run.at
