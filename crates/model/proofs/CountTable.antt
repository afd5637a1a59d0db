-- Counts of rows made by hand, which no schedule reaches: a chain that loops, a held row on the walk, too few and too many rows, row
-- numbers above 127.
use Rattle.std.specs.Prelude.{ℕ, false, ◌≡◌, refl, List, [], ◌∷◌, map, set, drop}
use Rattle.model.specs.State.{free_row, end_row, empty_catalogue, succ_of}
use Rattle.model.specs.HelpFlagged.{with_backlink}
use Rattle.model.specs.WellFormed.{all_from}
use Rattle.model.specs.Count.{walk, is_save, saves_among, saves, countable, count}
use Rattle.model.specs.declared.Row.{Row}
use Rattle.model.specs.declared.Refusal.{Refusal}
use Rattle.model.specs.declared.Standing.TheVariants.{Held}
use Rattle.std.specs.Prelude.{Result, Ok, Err}
use Rattle.model.specs.declared.Refusal.TheVariants.{NotWellFormed}

abbrev empty_rows : List Row
empty_rows = empty_catalogue.rows

-- row 2 follows the head
abbrev second : Row → List Row
second r = set (set empty_rows 0 (end_row 2)) 2 r

abbrev held_by_zero : Row
held_by_zero = record { key = 5; element = 50; backlink = 0; succ = succ_of 1 false false; standing = Held 0 }

-- a list of rows made by hand, and what its count is
pub record Sample : Type 0 where
  pub rows : List Row
  pub count : Result ℕ Refusal

sample : List Row → Result ℕ Refusal → Sample
sample rows count = record { rows = rows; count = count }

pub samples : List Sample
unfolding sample
samples =
    sample empty_rows (Ok 0)
    ∷ sample (second (end_row 1)) (Ok 1)
    -- a loop: each of the 128 moves comes to row 2
    ∷ sample (second (end_row 2)) (Ok 128)
    -- a way back to the head: every other move comes to row 2
    ∷ sample (second (end_row 0)) (Ok 64)
    -- a held row on the walk, which then ends at the tail
    ∷ sample (second held_by_zero) (Ok 0)
    -- 127 rows, and 129
    ∷ sample (drop 1 empty_rows) (Err NotWellFormed)
    ∷ sample (free_row ∷ empty_rows) (Err NotWellFormed)
    -- a right, and a backlink, of 128, off the walk
    ∷ sample (set empty_rows 5 (end_row 128)) (Err NotWellFormed)
    ∷ sample (set empty_rows 127 (with_backlink free_row 128)) (Err NotWellFormed)
    -- the same with a save on the walk: no save is reported
    ∷ sample (set (second (end_row 1)) 127 (with_backlink free_row 128)) (Err NotWellFormed)
    ∷ []

pub counts_right : map (λ (x : Sample). count x.rows) samples ≡ map (λ (x : Sample). x.count) samples
unfolding samples count countable saves saves_among is_save walk all_from
counts_right = refl
