-- The contracts of the public functions determine their results: two outcomes that a contract allows are the same.
use Rattle.std.specs.Prelude.{ℕ, ◌≡◌, List}
use Rattle.model.specs.Schedule.{file_verdict, record_call}
use Rattle.model.proofs.OneOutcome.{determined}
use Rattle.model.specs.Verdict.{Verdict}
use Rattle.model.specs.declared.Call.{Call}

pub check_once : (file : List ℕ) (v w : Verdict) → v ≡ file_verdict file → w ≡ file_verdict file → v ≡ w
check_once file = determined (file_verdict file)

pub record_call_once : (n : ℕ) (rest : List ℕ) (x y : Call) → x ≡ record_call n rest → y ≡ record_call n rest → x ≡ y
record_call_once n rest = determined (record_call n rest)
