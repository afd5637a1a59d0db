-- Zeros stand behind one byte more.
use Rattle.schedule.proofs.Longer.{pushed}
use Rattle.schedule.proofs.text.Text.push.Goals as goal

pub invariant_of-self : goal.invariant_of-self
invariant_of-self c = pushed c.self.invariant _ (rw c.self.view_is c.requires)
