-- What a call answers: `Ok` if it was accepted, or the refusal.
use Rattle.std.specs.Prelude.{⊤, Result}
use Rattle.model.specs.declared.Refusal.{Refusal}

abbrev pub Verdict : Type 0
Verdict = Result ⊤ Refusal
