-- The turn from the start is the turn from here, with the steps taken and what is left of the budget.
use Rattle.std.proofs.Common.{◌-◌, ◌≡◌, length}
use Rattle.model.specs.Turn.{turn_from}
use Rattle.engine.proofs.turns.turn_from.Given as goal

abbrev pub invariant-loop-steps : goal.invariant-loop-steps
invariant-loop-steps l = record {
  workers : length l.state.workers ≡ 8;
  same_turn : turn_from l.worker l.budget 0 l.initial.state ≡ turn_from l.worker (l.budget - l.steps) l.steps l.state;
}
