-- The requests and their codes: a code is that of a request, or is refused with 6.
use Rattle.std.specs.Prelude.{ℕ, ◌≡◌, true, false, Result, Ok, Err}
use Rattle.model.specs.Step.{is_request}
use Rattle.model.specs.declared.Refusal.{Refusal}
use Rattle.model.specs.declared.Refusal.TheVariants.{NoSuchRequest}
use Rattle.accesses.specs.declared.requests.Request.{Request}
use Rattle.accesses.specs.declared.requests.Request.TheVariants.{Search, Insert, Delete}

abbrev pub code_of : Request → ℕ
code_of Search = 1
code_of Insert = 2
code_of Delete = 3

abbrev pub Asks : ℕ → Result Request Refusal → Type 0
Asks code (Ok request) = (is_request code ≡ true) × (code_of request ≡ code)
Asks code (Err refusal) = (is_request code ≡ false) × (refusal ≡ NoSuchRequest)
