-- The records of a file by position: the call of the record at `at`, where the next one begins, and whether every record from there on
-- fits.
use Rattle.std.specs.Prelude.{ℕ, ◌+◌, ◌-◌, ◌≤◌, ◌<◌, ◌≡◌, Bool, true, false, ◌&&◌, List, ◌∷◌, length, take, drop}
use Rattle.std.proofs.Common.{ap, sym, ◌∙◌, add-one, drop_of_length-le, drop-cons, drop-drop}
use Rattle.model.specs.Schedule.{byte_at, record_fits, records_fit, record_call}
use Rattle.model.specs.declared.Call.{Call}
use Rattle.schedule_file.specs.Records.{all_fit, whole_rest}
use Rattle.schedule_file.specs.Records as records

abbrev pub call_at : List ℕ → ℕ → Call
call_at file at = record_call (byte_at file at) (drop (at + 1) file)

abbrev pub fits_at : List ℕ → ℕ → Bool
fits_at file at = record_fits (byte_at file at) (drop (at + 1) file)

-- where the record behind the one at `at` begins
abbrev pub after : List ℕ → ℕ → ℕ
after file at = at + 1 + byte_at file at

unfoldable pub fits_from : List ℕ → ℕ → Bool
fits_from file at = records_fit (length (drop at file)) (drop at file)

pub fits_told : (file : List ℕ) (at : ℕ) {told fits : Bool}
    → told ≡ record_fits (byte_at file at) (take (length file - (at + 1)) (drop (at + 1) file)) → told ≡ fits → fits_at file at ≡ fits
fits_told file at ensured test = ap (record_fits (byte_at file at)) (sym (whole_rest file (at + 1))) ∙ sym ensured ∙ test

-- what is left at `at` begins with the record there
pub left_at : (file : List ℕ) (at : ℕ) → at < length file → drop at file ≡ byte_at file at ∷ drop (at + 1) file
left_at file at h = rw add-one (drop-cons file at 0 h)

pub left_after : (file : List ℕ) (at : ℕ) → drop (byte_at file at) (drop (at + 1) file) ≡ drop (after file at) file
left_after file at = drop-drop (byte_at file at) (at + 1) file

fits_step : (file : List ℕ) (at : ℕ) → at < length file → fits_from file at ≡ (fits_at file at && fits_from file (after file at))
unfolding fits_from
fits_step file at h =
    ap all_fit (left_at file at h)
    ∙ records.fits_step (byte_at file at) (drop (at + 1) file)
    ∙ ap (λ (left : List ℕ). fits_at file at && all_fit left) (left_after file at)

pub fits_more : (file : List ℕ) (at : ℕ) → at < length file → fits_at file at ≡ true → fits_from file at ≡ fits_from file (after file at)
fits_more file at h fits = fits_step file at h ∙ ap (λ (t : Bool). t && fits_from file (after file at)) fits

pub fits_stop : (file : List ℕ) (at : ℕ) → at < length file → fits_at file at ≡ false → fits_from file at ≡ false
fits_stop file at h unfit = fits_step file at h ∙ ap (λ (t : Bool). t && fits_from file (after file at)) unfit

pub fits_end : (file : List ℕ) (at : ℕ) → length file ≤ at → fits_from file at ≡ true
unfolding fits_from records_fit
fits_end file at h = rw (drop_of_length-le file h)
