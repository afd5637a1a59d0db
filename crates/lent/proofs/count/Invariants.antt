-- What the walk has counted, with what is left of it, is what the model counts.
use Rattle.std.proofs.Common.{◌≡◌, ◌+◌, ◌<◌, ◌≤◌}
use Rattle.model.specs.Count.{walk, saves_among, saves}
use Rattle.lent.proofs.count.Given as goal

abbrev pub invariant-loop-left : goal.invariant-loop-left
invariant-loop-left l = record {
  inside : l.at < 128;
  few : l.saves + l._left ≤ 128;
  same : l.saves + saves_among l.rows (walk l._left l.rows l.at) ≡ saves l.rows;
}
