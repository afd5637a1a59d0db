-- The count of saves: a walk over row records from the head by right, until the tail or 128 moves, that says how many times it came
-- to a row above 1 whose standing is linked.
use Rattle.std.specs.Prelude.{if◌then◌else◌, Result, Ok, Err, ℕ, zero, suc, ◌+◌, Bool, ◌&&◌, List, [], ◌∷◌, length, ltb, eqb}
use Rattle.model.specs.State.{row_at}
use Rattle.model.specs.Order.{head, tail}
use Rattle.model.specs.Insert.{is_free}
use Rattle.model.specs.Cas.{succ_at}
use Rattle.model.specs.WellFormed.{all_from, row_numbers, is_linked}
use Rattle.model.specs.declared.Row.{Row}
use Rattle.model.specs.Verdict.{Verdict}
use Rattle.model.specs.declared.Refusal.{Refusal}
use Rattle.model.specs.declared.Refusal.TheVariants.{NotWellFormed}

-- The rows that the walk comes to, each time it does: at most `moves` moves from row `at`, the tail left out.
unfoldable pub walk : ℕ → List Row → ℕ → List ℕ
walk zero rows at = []
walk (suc moves) rows at =
    let next = (succ_at rows at).right in
    let rest = walk moves rows next in
    if eqb next tail then [] else next ∷ rest

-- row i is a save: above 1, and linked
unfoldable pub is_save : List Row → ℕ → Bool
is_save rows i = ltb 1 i && is_linked (row_at rows i).standing

unfoldable pub saves_among : List Row → List ℕ → ℕ
saves_among rows [] = 0
saves_among rows (i ∷ is) = (if is_save rows i then 1 else 0) + saves_among rows is

unfoldable pub saves : List Row → ℕ
saves rows = saves_among rows (walk 128 rows head)

-- there are 128 rows, and no row number among them is above 127
unfoldable pub countable : List Row → Bool
countable rows = eqb (length rows) 128 && all_from (λ i r. row_numbers r) 0 rows

-- Count, refusal 4.
unfoldable pub count : List Row → Result ℕ Refusal
count rows =
    if countable rows
    then Ok (saves rows)
    else Err NotWellFormed

-- what a count answers, the number left out
abbrev pub count_verdict : Result ℕ Refusal → Verdict
count_verdict (Ok n) = Ok tt
count_verdict (Err r) = Err r

-- the number that is told of a count: with a refusal 0
abbrev pub saves_told : Result ℕ Refusal → ℕ
saves_told (Ok n) = n
saves_told (Err r) = 0

-- the rows not free among those from i on, of which n are left
unfoldable pub taken_from : List Row → ℕ → ℕ → ℕ
taken_from rows zero i = 0
taken_from rows (suc n) i = (if is_free (row_at rows i).standing then 0 else 1) + taken_from rows n (i + 1)

-- the rows not free among 2 to 127
unfoldable pub taken : List Row → ℕ
taken rows = taken_from rows 126 2
