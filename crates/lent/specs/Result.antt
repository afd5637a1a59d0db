-- What a turn returns: all that it gives but the lent record.
use Rattle.model.specs.declared.Turned.{Turned}
use Rattle.lent.specs.declared.TurnResult.{TurnResult}

abbrev pub result_of : Turned → TurnResult
result_of t = record { verdict = t.verdict; steps = t.steps; state = t.state }
