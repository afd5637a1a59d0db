-- And behind the bytes that are put.
use Rattle.std.proofs.Common.{ap, length}
use Rattle.schedule.proofs.Longer.{appended}
use Rattle.schedule.proofs.text.put.Goals as goal

pub invariant_of-text : goal.invariant_of-text
invariant_of-text c = appended c.text.invariant _ _ (ap length c.copy_from_slice.ensures.after) (rw c.text.view_is c.requires)
