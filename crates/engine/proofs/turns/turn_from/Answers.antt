-- Each way out of the loop, and a turn of it, is one law of the definition.
use Rattle.std.proofs.Common.{◌∙◌, sym, ap, arith, ◌≡◌, rules, Ok, length}
use Rattle.model.specs.State.{idle}
use Rattle.model.specs.declared.Worker.{Worker}
use Rattle.model.specs.declared.Stepped.{Stepped}
use Rattle.engine.specs.Steps.{workers_kept}
use Rattle.engine.specs.Turns.{turn_idle, turn_stops, turn_goes, turn_spent}
use Rattle.engine.proofs.turns.turn_from.Goals as goal

pub returns-then-is_idle : goal.returns-then-is_idle
returns-then-is_idle c =
    let rests = ap (λ (k : Worker). idle k.line) (sym c.record_of.ensures) ∙ sym c.is_idle.ensures ∙ c.if-is_idle.true in
    c.turn_ends.ensures ∙ turn_idle c.args.worker c.args.budget c.loop-steps.steps c.loop-steps.state (omega arith) rests
    ∙ sym c.loop-steps.invariant.same_turn

pub returns-in-Err : goal.returns-in-Err
returns-in-Err c =
    let busy = ap (λ (k : Worker). idle k.line) (sym c.record_of.ensures) ∙ sym c.is_idle.ensures ∙ c.if-is_idle.false in
    c.turn_ends-in-Err.ensures
    ∙ turn_stops c.args.worker c.args.budget c.loop-steps.steps c.loop-steps.state _ _ c.step_worker.ensures (omega arith) busy _ c.in-Err.is
    ∙ sym c.loop-steps.invariant.same_turn

pub loop-steps-preserved : goal.loop-steps-preserved
loop-steps-preserved c =
    let busy = ap (λ (k : Worker). idle k.line) (sym c.record_of.ensures) ∙ sym c.is_idle.ensures ∙ c.if-is_idle.false in
    let fine : c.step_worker.result ≡ Ok tt = search rules in
    record {
      workers = ap (λ (s : Stepped). length s.state.workers) c.step_worker.ensures ∙ workers_kept c.loop-steps.state c.args.worker
          ∙ c.loop-steps.invariant.workers;
      same_turn = c.loop-steps.invariant.same_turn
          ∙ turn_goes c.args.worker c.args.budget c.loop-steps.steps c.loop-steps.state _ _ c.step_worker.ensures (omega arith) busy fine;
    }

pub returns : goal.returns
returns c =
    let spent : c.loop-steps.steps ≡ c.args.budget = omega arith in
    c.turn_ends-2.ensures ∙ rw (sym spent) (turn_spent c.args.worker c.loop-steps.steps c.loop-steps.steps c.loop-steps.state (omega arith)) ∙ sym c.loop-steps.invariant.same_turn
