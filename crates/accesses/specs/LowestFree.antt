-- What the loop that looks for the lowest free row needs to know of its definition, with the rows that are left written 128 - i.
use Rattle.std.specs.Prelude.{ℕ, suc, ◌+◌, ◌-◌, ◌≤◌, ◌<◌, ◌≡◌, true, false, List}
use native.Mathlib.Omega.{arith}
use Rattle.model.specs.State.{row_at}
use Rattle.model.specs.Insert.{is_free, lowest_free_from}
use Rattle.model.specs.declared.Row.{Row}

module _ (rows : List Row) (i : ℕ) where
  left : i < 128 → 128 - i ≡ suc (128 - (i + 1))
  left h = omega arith

  pub free_more : i < 128 → is_free (row_at rows i).standing ≡ false → lowest_free_from rows (128 - i) i ≡ lowest_free_from rows (128 - (i + 1)) (i + 1)
  unfolding lowest_free_from
  free_more h t = rw (left h) (simp t)

  pub free_stop : i < 128 → is_free (row_at rows i).standing ≡ true → lowest_free_from rows (128 - i) i ≡ i
  unfolding lowest_free_from
  free_stop h t = rw (left h) (simp t)

  pub free_done : 128 ≤ i → lowest_free_from rows (128 - i) i ≡ i
  unfolding lowest_free_from
  free_done h = let z : 128 - i ≡ 0 = omega arith in rw z
