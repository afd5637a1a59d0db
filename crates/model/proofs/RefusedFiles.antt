-- The refusals of the count and of a schedule file come in document 01's order.
use Rattle.std.specs.Prelude.{ℕ, zero, suc, ◌≤◌, ◌<◌, Bool, true, false, not, ◌&&◌, ◌||◌, ◌≡◌, refl, ◌≢◌, ◌⊎◌, List, [], ◌∷◌, length, drop, ltb, eqb}
use Rattle.std.proofs.Common.{inl, inr, arith, length-drop, ltb-true, ltb-false, leb-true, eqb-true, eq-eqb, ne_eqb, le-leb}
use Rattle.std.proofs.lemmas.Bool.{and_parts, or_cases, eqb-false, not-true, not-false}
use Rattle.model.specs.WellFormed.{all_from, is_row, row_numbers}
use Rattle.model.specs.Count.{countable, count, count_verdict}
use Rattle.model.specs.Schedule.{byte_at, two_bytes, stated_length, body, record_fits, records_fit, file_verdict}
use Rattle.model.proofs.RefusalOrder.{First, no_ground, this_one, a_later, NumberAbove, count_grounds, Records, no_record, a_record, file_grounds}
use Rattle.model.proofs.RefusedCalls.{by_test, test, clash, above, not_above}
use Rattle.model.specs.declared.Row.{Row}
use Rattle.model.specs.declared.Refusal.{Refusal}
use Rattle.model.specs.Verdict.{Verdict}
use Rattle.std.specs.Prelude.{Result, Ok, Err}
use Rattle.model.specs.declared.Refusal.TheVariants.{NotWellFormed}

-- ---- Tests ----

not_both_lem : (a b : Bool) → a && b ≡ false → (a ≡ false) ⊎ (b ≡ false)
not_both_lem true b h = inr h
not_both_lem false b h = inl refl

-- ---- Count ----

all_below : (k : ℕ) (rows : List Row) → all_from (λ i r. row_numbers r) k rows ≡ true → ¬ NumberAbove rows
unfolding all_from
all_below k [] h (i, l, _) = omega arith
all_below k (r ∷ rows) h (zero, l, bad) = outside bad
  where
    parts : (is_row r.succ.right ≡ true) × (is_row r.backlink ≡ true)
    parts = and_parts (is_row r.succ.right) (is_row r.backlink) (and_parts (row_numbers r) (all_from (λ i r. row_numbers r) (suc k) rows) h).0

    outside : (127 < r.succ.right) ⊎ (127 < r.backlink) → ⊥
    outside (inl b) = omega (arith, ltb-true r.succ.right 128 parts.0)
    outside (inr b) = omega (arith, ltb-true r.backlink 128 parts.1)
all_below k (r ∷ rows) h (suc i, l, bad) = all_below (suc k) rows (and_parts (row_numbers r) _ h).1 (i, omega arith, bad)

module _ (r : Row) (rows : List Row) where
  above_here : (is_row r.succ.right ≡ false) ⊎ (is_row r.backlink ≡ false) → NumberAbove (r ∷ rows)
  above_here (inl b) = (0, omega arith, inl (omega (arith, ltb-false r.succ.right 128 b)))
  above_here (inr b) = (0, omega arith, inr (omega (arith, ltb-false r.backlink 128 b)))

  above_there : NumberAbove rows → NumberAbove (r ∷ rows)
  above_there (i, l, bad) = (suc i, omega arith, bad)

one_above : (k : ℕ) (rows : List Row) → all_from (λ i r. row_numbers r) k rows ≡ false → NumberAbove rows
unfolding all_from
one_above k [] h = absurd (clash refl h)
one_above k (r ∷ rows) h = either (λ e. one_above (suc k) rows e) (not_both_lem (row_numbers r) _ h)
  where
    either : (all_from (λ i r. row_numbers r) (suc k) rows ≡ false → NumberAbove rows)
        → (row_numbers r ≡ false) ⊎ (all_from (λ i r. row_numbers r) (suc k) rows ≡ false) → NumberAbove (r ∷ rows)
    either later (inl e) = above_here r rows (not_both_lem (is_row r.succ.right) (is_row r.backlink) e)
    either later (inr e) = above_there r rows (later e)

pub count_order : (rows : List Row) → First (count_grounds rows) (count_verdict (count rows))
unfolding count countable
count_order rows = by_test said (countable rows) counts refuses
  where
    said : Result ℕ Refusal → Type 1
    said t = First (count_grounds rows) (count_verdict t)

    fine : countable rows ≡ true → ¬ ((length rows ≢ 128) ⊎ NumberAbove rows)
    fine h (inl other) = other (eqb-true (length rows) 128 (and_parts _ _ h).0)
    fine h (inr bad) = all_below 0 rows (and_parts (eqb (length rows) 128) _ h).1 bad

    counts : countable rows ≡ true → First (count_grounds rows) (Ok tt)
    counts h = a_later (fine h) no_ground

    broken : (eqb (length rows) 128 ≡ false) ⊎ (all_from (λ i r. row_numbers r) 0 rows ≡ false) → (length rows ≢ 128) ⊎ NumberAbove rows
    broken (inl e) = inl (eqb-false (length rows) 128 e)
    broken (inr e) = inr (one_above 0 rows e)

    refuses : countable rows ≡ false → First (count_grounds rows) (Err NotWellFormed)
    refuses h = this_one (broken (not_both_lem (eqb (length rows) 128) _ h))

-- ---- File ----

fits_size : (n : ℕ) (rest : List ℕ) → record_fits n rest ≡ true → ((n ≡ 1) ⊎ (n ≡ 10)) × (n ≤ length rest)
unfolding record_fits
fits_size n rest h = (size (or_cases _ _ (and_parts (eqb n 1 || eqb n 10) _ h).0), leb-true n (length rest) (and_parts (eqb n 1 || eqb n 10) _ h).1)
  where
    size : (eqb n 1 ≡ true) ⊎ (eqb n 10 ≡ true) → (n ≡ 1) ⊎ (n ≡ 10)
    size (inl e) = inl (eqb-true n 1 e)
    size (inr e) = inr (eqb-true n 10 e)

size_fits : (n : ℕ) (rest : List ℕ) → (n ≡ 1) ⊎ (n ≡ 10) → n ≤ length rest → record_fits n rest ≡ true
unfolding record_fits
size_fits n rest (inl e) l = rw (eq-eqb n 1 e, le-leb n (length rest) l)
size_fits n rest (inr e) l = rw (ne_eqb n 1 (λ q. omega arith), eq-eqb n 10 e, le-leb n (length rest) l)

fit_records : (tries : ℕ) (bytes : List ℕ) → records_fit tries bytes ≡ true → Records bytes
unfolding records_fit
fit_records zero [] h = no_record
fit_records zero (n ∷ rest) h = absurd (clash h refl)
fit_records (suc tries) [] h = no_record
fit_records (suc tries) (n ∷ rest) h =
    let fits = fits_size n rest (and_parts (record_fits n rest) _ h).0 in
    a_record fits.0 fits.1 (fit_records tries (drop n rest) (and_parts (record_fits n rest) _ h).1)

records_fit_lem : (tries : ℕ) (bytes : List ℕ) → length bytes ≤ tries → Records bytes → records_fit tries bytes ≡ true
unfolding records_fit
records_fit_lem zero [] l no_record = refl
records_fit_lem zero (n ∷ rest) l r = absurd (omega arith)
records_fit_lem (suc tries) [] l no_record = refl
records_fit_lem (suc tries) (n ∷ rest) l (a_record size inside later) =
    rw (size_fits n rest size inside) (records_fit_lem tries (drop n rest) (omega (arith, length-drop n rest)) later)

same_verdict : Verdict → Verdict
same_verdict v = v

pub file_order : (file : List ℕ) → First (file_grounds file) (file_verdict file)
unfolding file_verdict two_bytes same_verdict
file_order file =
    test same_verdict (ltb (length file) 3) (above (length file) 3) (not_above (length file) 3) refl
    (test same_verdict (not (eqb (byte_at file 0) 1)) (λ h. eqb-false _ _ (not-true _ h)) (λ h n. n (eqb-true _ _ (not-false _ h))) refl
    (test same_verdict (ltb 60000 (stated_length file)) (λ h. omega (arith, ltb-true 60000 (stated_length file) h))
    (λ h l. omega (arith, ltb-false 60000 (stated_length file) h)) refl
    (test same_verdict (not (eqb (stated_length file) (length (body file))))
    (λ h e. eqb-false (stated_length file) (length (body file)) (not-true _ h) (omega arith))
    (λ h other. other (omega (arith, eqb-true (stated_length file) (length (body file)) (not-false _ h)))) refl
    (test same_verdict (not (records_fit (length (body file)) (body file)))
    (λ h r. clash (records_fit_lem _ _ (omega arith) r) (not-true _ h))
    (λ h none. none (fit_records _ _ (not-false _ h))) refl no_ground))))
