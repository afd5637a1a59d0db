-- The largest file has 60,003 bytes. A longer one is refused whatever stands behind byte 60,004, so it is enough to read that many.
use Rattle.std.specs.Prelude.{if◌then◌else◌, ◌≡◌, ℕ, ◌<◌, ◌≤◌, not, List, length, take, ltb, eqb, None, Some, IfSome, Result, Ok, Err, IfOk, OnOk, OnErr}
use Rattle.std.proofs.Common.{sym, ap, subst, ◌∙◌, arith, take_all, length-take-le, length-drop, get_or-take, inl, inr}
use Rattle.std.proofs.lemmas.Bool.{cases_lt}
use Rattle.std.proofs.lemmas.Bool.Decides.{nat_tests}
use Rattle.std.specs.declared.option.Option.{Option}
use Rattle.std.specs.Io.KnownBytes.{Appends}
use Rattle.printer.specs.Written.{AppendsFront}
use Rattle.model.specs.Schedule.{byte_at, two_bytes, stated_length, file_verdict}
use Rattle.model.specs.Printed.{refused_file, file_text, printed}
use Rattle.model.specs.Verdict.{Verdict}
use Rattle.model.specs.declared.Refusal.{Refusal}
use Rattle.model.specs.declared.Refusal.TheVariants.{FileVersion, FileLength, FileTooLong}

-- why a file of more than 60,003 bytes is refused, by its version and the length that it states
abbrev why : ℕ → ℕ → Refusal
why version stated = if not (eqb version 1) then FileVersion else if ltb 60000 stated then FileTooLong else FileLength

long : (file : List ℕ) → 60003 < length file → file_verdict file ≡ Err (why (byte_at file 0) (stated_length file))
unfolding file_verdict
long file h = grind (arith, length-drop, nat_tests)

-- Of any file the first n bytes are enough: either they are all, or both are refused, and for the same reason.
module _ (n : ℕ) (file : List ℕ) (enough : 60003 < n) where
  same_why : why (byte_at (take n file) 0) (stated_length (take n file)) ≡ why (byte_at file 0) (stated_length file)
  unfolding two_bytes
  same_why = rw (get_or-take n file 0 0 (omega arith), get_or-take n file 1 0 (omega arith), get_or-take n file 2 0 (omega arith))

  long_here : n ≤ length file → file_verdict file ≡ Err (why (byte_at file 0) (stated_length file))
  long_here h = long file (omega arith)

  long_read : n ≤ length file → file_verdict (take n file) ≡ Err (why (byte_at (take n file) 0) (stated_length (take n file)))
  long_read h = long (take n file) (omega (arith, length-take-le n file h))

  pub read_verdict : file_verdict (take n file) ≡ file_verdict file
  read_verdict = elim (cases_lt (length file) n) [
    | inl h ↦ ap file_verdict (take_all n file (omega arith))
    | inr h ↦ long_read h ∙ ap (λ (r : Refusal). Err r) same_why ∙ sym (long_here h)
  ]

  pub read_printed : printed (take n file) ≡ printed file
  unfolding printed file_text
  read_printed = elim (cases_lt (length file) n) [
    | inl h ↦ ap printed (take_all n file (omega arith))
    | inr h ↦ rw (long_read h, long_here h) (ap refused_file same_why)
  ]

-- So what holds of the bytes that were read holds of the whole input, where its bytes are known.
pub input_verdict : {E : Type 0} (r : Result Verdict E) (known : Option (List ℕ)) (bytes : List ℕ) (n : ℕ) → 60003 < n
    → IfSome known (λ file. bytes ≡ take n file) → IfOk r (λ verdict. verdict ≡ file_verdict bytes)
    → IfOk r (λ verdict. IfSome known (λ file. verdict ≡ file_verdict file))
input_verdict (Ok v) None bytes n enough read told = tt
input_verdict (Ok v) (Some file) bytes n enough read told = told ∙ ap file_verdict read ∙ read_verdict n file enough
input_verdict (Err e) known bytes n enough read told = tt

pub input_written : {T E : Type 0} (r : Result T E) (known old new : Option (List ℕ)) (bytes : List ℕ) (n : ℕ) → 60003 < n
    → IfSome known (λ file. bytes ≡ take n file) → OnOk r (Appends old new (printed bytes))
    → OnOk r (IfSome known (λ file. Appends old new (printed file)))
input_written (Ok v) None old new bytes n enough read told = tt
input_written (Ok v) (Some file) old new bytes n enough read told =
    subst (λ (s : List ℕ). Appends old new s) (ap printed read ∙ read_printed n file enough) told
input_written (Err e) known old new bytes n enough read told = tt

pub input_stopped : {T E : Type 0} (r : Result T E) (known old new : Option (List ℕ)) (bytes : List ℕ) (n : ℕ) → 60003 < n
    → IfSome known (λ file. bytes ≡ take n file) → OnErr r (AppendsFront old new (printed bytes))
    → OnErr r (IfSome known (λ file. AppendsFront old new (printed file)))
input_stopped (Ok v) known old new bytes n enough read told = tt
input_stopped (Err e) None old new bytes n enough read told = tt
input_stopped (Err e) (Some file) old new bytes n enough read told =
    subst (λ (s : List ℕ). AppendsFront old new s) (ap printed read ∙ read_printed n file enough) told
