-- The rows not free, counted one by one, and in the list of rows.
use Rattle.std.specs.Prelude.{if◌then◌else◌, ◌≡◌, ℕ, zero, suc, ◌+◌, ◌-◌, ◌<◌, ◌≤◌, Bool, true, false, not, List, length, take, drop, count_by, refl}
use Rattle.std.proofs.Common.{ap, ◌∙◌, add-one, arith, drop-cons, drop_of_length-le, take_all, length-drop}
use Rattle.std.proofs.lemmas.List.Sums.{sum_by-cons}
use Rattle.model.specs.State.{row_at, free_row}
use Rattle.model.specs.Insert.{is_free}
use Rattle.model.specs.Count.{taken, taken_from}
use Rattle.model.specs.declared.Row.{Row}
use Rattle.model.specs.declared.Standing.{Standing}

unfoldable pub taken_one : Standing → ℕ
taken_one s = if is_free s then 0 else 1

-- the rows from i on: row i, and those behind it
pub taken_more : (rows : List Row) (i : ℕ) → i < 128
    → taken_from rows (128 - i) i ≡ taken_one (row_at rows i).standing + taken_from rows (128 - (i + 1)) (i + 1)
unfolding taken_from taken_one
taken_more rows i h =
    let one : 128 - i ≡ suc (128 - (i + 1)) = omega arith in
    ap (λ (n : ℕ). taken_from rows n i) one

pub taken_end : (rows : List Row) (i : ℕ) → 128 ≤ i → taken_from rows (128 - i) i ≡ 0
unfolding taken_from
taken_end rows i h = let none : 128 - i ≡ 0 = omega arith in ap (λ (n : ℕ). taken_from rows n i) none

abbrev pub is_taken : Row → Bool
is_taken row = not (is_free row.standing)

one : (free : Bool) → ◌≡◌ {A = ℕ} (if not free then 1 else 0) (if free then 0 else 1)
one true = refl
one false = refl

taken_left : (rows : List Row) (n i : ℕ) → i + n ≡ length rows → count_by is_taken (drop i rows) ≡ taken_from rows n i
unfolding taken_from
taken_left rows zero i all = ap (count_by is_taken) (drop_of_length-le rows (omega arith))
taken_left rows (suc n) i all =
    ap (count_by is_taken) (drop-cons rows i free_row (omega arith))
    ∙ sum_by-cons (λ (row : Row). if is_taken row then 1 else 0) (row_at rows i) (drop (suc i) rows)
    ∙ ap (λ (more : ℕ). more + count_by is_taken (drop (suc i) rows)) (one (is_free (row_at rows i).standing))
    ∙ rw (← add-one i) (ap (λ (left : ℕ). (if is_free (row_at rows i).standing then 0 else 1) + left) (taken_left rows n (i + 1) (omega arith)))

-- the rows from 2 on, as a slice
pub taken_counted : (rows : List Row) → length rows ≡ 128 → count_by is_taken (take (length rows - 2) (drop 2 rows)) ≡ taken rows
unfolding taken
taken_counted rows all =
    ap (count_by is_taken) (take_all (length rows - 2) (drop 2 rows) (omega (arith, length-drop 2 rows))) ∙ taken_left rows 126 2 (omega arith)
