-- Each way out is one way of the definition, whoever the other workers are.
use Rattle.std.proofs.Common.{◌∙◌, sym}
use Rattle.engine.specs.Steps.{step_idle, step_ninth, step_moves}
use Rattle.engine.proofs.steps.step_worker.Goals as goal

pub returns-then-is_idle-clause-step : goal.returns-then-is_idle-clause-step
returns-then-is_idle-clause-step g c workers its =
    step_idle (g.T.Table.rows c.args.table.now) workers c.args.me c.args.worker.now its (sym c.is_idle.ensures ∙ c.if-is_idle.true)

pub returns-then-ninth_help-clause-step : goal.returns-then-ninth_help-clause-step
returns-then-ninth_help-clause-step g c workers its =
    step_ninth (g.T.Table.rows c.args.table.now) workers c.args.me c.args.worker.now its _ (sym c.is_idle.ensures ∙ c.if-is_idle.false)
    c.effect_on-effect.ensures (sym c.ninth_help.ensures ∙ c.if-ninth_help.true)

pub returns-clause-step : goal.returns-clause-step
returns-clause-step g c workers its =
    step_moves (g.T.Table.rows c.args.table.now) workers c.args.me c.args.worker.now its _ (sym c.is_idle.ensures ∙ c.if-is_idle.false)
    c.effect_on-effect.ensures _ _ (sym c.ninth_help.ensures ∙ c.if-ninth_help.false) c.store.ensures.rows c.worker_after.ensures
