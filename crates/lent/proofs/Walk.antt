-- What the loop of the count needs to know of the model's definitions: of the test of the rows, and of the saves that a walk comes to.
use Rattle.std.proofs.Common.{if◌then◌else◌, ◌≡◌, ◌≢◌, ℕ, zero, suc, ◌+◌, ◌-◌, ◌<◌, ◌&&◌, Bool, true, List, [], ◌∷◌, length, refl, arith, ap}
use Rattle.std.proofs.lemmas.Grind.{common_steps}
use Rattle.std.proofs.lemmas.List.Recursion.{and_at}
use Rattle.std.specs.List.{list_all}
use Rattle.model.specs.State.{free_row}
use Rattle.model.specs.Order.{tail}
use Rattle.model.specs.Cas.{succ_at}
use Rattle.model.specs.WellFormed.{all_from, row_numbers}
use Rattle.model.specs.Count.{walk, is_save, saves_among, countable}
use Rattle.model.specs.declared.Row.{Row}

-- the model's test of every row knows the row's number, the library's does not
pub all_numbers : (i : ℕ) (rows : List Row) → list_all row_numbers rows ≡ all_from (λ j row. row_numbers row) i rows
unfolding all_from
all_numbers i [] = refl
all_numbers i (row ∷ rows) = ap (λ (b : Bool). row_numbers row && b) (all_numbers (suc i) rows)

module _ (rows : List Row) where
  abbrev right : ℕ → ℕ
  right at = (succ_at rows at).right

  pub all_128 : countable rows ≡ true → length rows ≡ 128
  unfolding countable
  all_128 h = grind (arith, common_steps)

  pub right_inside : (at : ℕ) → countable rows ≡ true → at < 128 → right at < 128
  unfolding countable
  right_inside at h l =
      let passed = and_at (list_all row_numbers) row_numbers refl (λ _ _. refl) rows at free_row in
      grind (arith, common_steps, passed, all_128, all_numbers 0 rows)

  pub no_moves : (left at : ℕ) → left ≡ 0 → saves_among rows (walk left rows at) ≡ 0
  unfolding walk saves_among
  no_moves zero at e = refl
  no_moves (suc left) at e = cc

  pub at_tail : (left at : ℕ) → 0 < left → right at ≡ tail → saves_among rows (walk left rows at) ≡ 0
  unfolding walk saves_among
  at_tail (suc left) at l e = rw e
  at_tail zero at l e = absurd (omega arith)

  pub moves_on : (left at : ℕ) → 0 < left → right at ≢ tail
      → saves_among rows (walk left rows at) ≡ (if is_save rows (right at) then 1 else 0) + saves_among rows (walk (left - 1) rows (right at))
  unfolding walk saves_among
  moves_on (suc left) at l n = grind (arith, common_steps)
  moves_on zero at l n = absurd (omega arith)

-- what the loop uses
pub ruleset walking = (all_128, right_inside, no_moves, at_tail, moves_on)
