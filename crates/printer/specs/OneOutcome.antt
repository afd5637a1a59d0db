-- The contract of `replay` determines its result on Ok, and what the writer holds then, where its bytes are known.
use Rattle.std.specs.Prelude.{ℕ, ◌≡◌, List, Some}
use Rattle.std.proofs.Common.{sym, ◌∙◌}
use Rattle.std.specs.Io.KnownBytes.{Appends}
use Rattle.model.specs.Schedule.{file_verdict}
use Rattle.model.specs.Printed.{printed}
use Rattle.model.proofs.OneOutcome.{determined}
use Rattle.model.specs.Verdict.{Verdict}

pub replay_once : (file : List ℕ) (r q : Verdict) → r ≡ file_verdict file → q ≡ file_verdict file → r ≡ q
replay_once file = determined (file_verdict file)

pub written_once : (file old new new' : List ℕ) → Appends (Some old) (Some new) (printed file) → Appends (Some old) (Some new') (printed file)
    → new ≡ new'
written_once file old new new' one other = one ∙ sym other
