-- The words before row `i` are the packing of the first `i` rows.
use Rattle.packed.specs.Tables.{FirstPacked}
use Rattle.packed.proofs.whole.pack.Given as goal

abbrev pub invariant-loop-i : goal.invariant-loop-i
invariant-loop-i l = FirstPacked l.fn.state.rows l.i l.words
