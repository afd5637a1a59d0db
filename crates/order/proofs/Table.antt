-- The rows as a table: a function from row numbers to rows, so that no length has to be carried. And the rank of a row, one number for
-- the order: 0 for the head, the key and one for a save, and `top` for the tail. `top` is any number above the key and one of every
-- request and row that there is.
use Rattle.std.specs.Prelude.{ℕ, zero, suc, Bool, false, ◌≡◌, List}
use Rattle.model.specs.State.{row_at}
use Rattle.model.specs.declared.Row.{Row}
use Rattle.model.specs.declared.Standing.{Standing}
use Rattle.model.specs.declared.Standing.TheVariants.{Linked}
use Rattle.model.specs.declared.Catalogue.{Catalogue}

abbrev pub Table : Type 0
Table = ℕ → Row

abbrev pub table_of : Catalogue → Table
table_of c = row_at c.rows

-- the tables of the rows at each moment
abbrev pub tables_of : (ℕ → List Row) → ℕ → Table
tables_of rows_at = λ i. row_at (rows_at i)

abbrev pub right_of : Table → ℕ → ℕ
right_of R x = (R x).succ.right

abbrev pub mark_of : Table → ℕ → Bool
mark_of R x = (R x).succ.mark

abbrev pub flag_of : Table → ℕ → Bool
flag_of R x = (R x).succ.flag

abbrev pub back_of : Table → ℕ → ℕ
back_of R x = (R x).backlink

abbrev pub standing_of : Table → ℕ → Standing
standing_of R x = (R x).standing

unfoldable pub rank : ℕ → ℕ → ℕ → ℕ
rank top zero key = 0
rank top (suc zero) key = top
rank top (suc (suc i)) key = suc key

abbrev pub rank_of : ℕ → Table → ℕ → ℕ
rank_of top R x = rank top x (R x).key

abbrev pub IsLinked : Table → ℕ → Type 0
IsLinked R x = standing_of R x ≡ Linked

-- a regular row, in the paper's word: linked, and not marked
pub record Regular (R : Table) (x : ℕ) : Type 0 where
  pub linked : IsLinked R x
  pub unmarked : mark_of R x ≡ false
