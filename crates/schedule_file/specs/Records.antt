-- Whether records fit, one at a time. How many tries the model allows does not matter once they are as many as the bytes.
use Rattle.std.specs.Prelude.{ℕ, zero, suc, ◌-◌, ◌≤◌, ◌≡◌, refl, Bool, true, false, ◌&&◌, ◌||◌, List, [], ◌∷◌, length, take, drop, eqb, leb}
use Rattle.std.proofs.Common.{ap, arith, length-drop, take_all, leb-true}
use Rattle.std.proofs.lemmas.Bool.Decides.{nat_tests}
use Rattle.model.specs.Schedule.{record_fits, records_fit}

pub fits_inside : (n : ℕ) (rest : List ℕ) → record_fits n rest ≡ true → n ≤ length rest
unfolding record_fits
fits_inside n rest h = leb-true n (length rest) (second (eqb n 1 || eqb n 10) (leb n (length rest)) h)
  where
    second : (a b : Bool) → (a && b) ≡ true → b ≡ true
    second true b h = h
    second false b h = absurd (let z : ◌≡◌ {A = ℕ} 0 1 = cc in omega arith)

length_past : (n : ℕ) (bytes : List ℕ) → length (drop n bytes) ≤ length bytes
length_past n bytes = rw length-drop (omega arith)

pub fits_tries : (a b : ℕ) (bytes : List ℕ) → length bytes ≤ a → length bytes ≤ b → records_fit a bytes ≡ records_fit b bytes
unfolding records_fit
fits_tries zero zero [] h k = refl
fits_tries zero (suc b) [] h k = refl
fits_tries (suc a) zero [] h k = refl
fits_tries (suc a) (suc b) [] h k = refl
fits_tries zero b (n ∷ rest) h k = absurd (omega arith)
fits_tries (suc a) zero (n ∷ rest) h k = absurd (omega arith)
fits_tries (suc a) (suc b) (n ∷ rest) h k =
    ap (λ (t : Bool). record_fits n rest && t)
    (fits_tries a b (drop n rest) (omega (arith, length_past n rest)) (omega (arith, length_past n rest)))

-- what is left, as a part of the bytes that ends where they do
pub whole_rest : (bytes : List ℕ) (start : ℕ) → take (length bytes - start) (drop start bytes) ≡ drop start bytes
whole_rest bytes start = take_all (length bytes - start) (drop start bytes) (rw length-drop (omega arith))

-- whether all of the bytes are records that fit
abbrev pub all_fit : List ℕ → Bool
all_fit bytes = records_fit (length bytes) bytes

pub fits_step : (n : ℕ) (rest : List ℕ) → all_fit (n ∷ rest) ≡ (record_fits n rest && all_fit (drop n rest))
unfolding records_fit
fits_step n rest =
    ap (λ (t : Bool). record_fits n rest && t)
    (fits_tries (length rest) (length (drop n rest)) (drop n rest) (length_past n rest) (omega arith))

pub fits_end : (bytes : List ℕ) → length bytes ≡ 0 → all_fit bytes ≡ true
unfolding records_fit
fits_end [] h = refl
fits_end (n ∷ rest) h = absurd (omega arith)

-- what the walk from record to record rests on
pub ruleset one_record = (fits_step, fits_end, whole_rest, nat_tests)
