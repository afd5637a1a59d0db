-- The test of an array from element i on: it is the test from the next element on if element i passes, false if it fails, and true past
-- the end. For every test.
use Rattle.std.specs.Prelude.{ℕ, ◌+◌, ◌≤◌, ◌<◌, ◌≡◌, Bool, true, false, List, length, drop, get_or}
use Rattle.std.proofs.Common.{add-one, drop_of_length-le}
use Rattle.std.proofs.Math.Seq.{drop-cons}
use Rattle.model.specs.WellFormed.{all_from}

module _ {A : Type 0} (p : ℕ → A → Bool) (xs : List A) (i : ℕ) where
  pub all_more : (d : A) → i < length xs → p i (get_or xs i d) ≡ true → all_from p i (drop i xs) ≡ all_from p (i + 1) (drop (i + 1) xs)
  unfolding all_from
  all_more d h t = rw (add-one, drop-cons xs i d h) (simp t)

  pub all_stop : (d : A) → i < length xs → p i (get_or xs i d) ≡ false → all_from p i (drop i xs) ≡ false
  unfolding all_from
  all_stop d h t = rw (drop-cons xs i d h) (simp t)

  pub all_done : length xs ≤ i → all_from p i (drop i xs) ≡ true
  unfolding all_from
  all_done h = rw (drop_of_length-le xs h)
