-- The order of rows. The head, row 0, is below every key and the tail, row 1, above every key: both are known by their number,
-- so 0 and 4,294,967,295 are keys like any other.
use Rattle.std.specs.Prelude.{if◌then◌else◌, ℕ, Bool, true, false, List, ltb, leb, eqb}
use Rattle.model.specs.State.{row_at}
use Rattle.model.specs.declared.Row.{Row}

abbrev pub head : ℕ
head = 0

abbrev pub tail : ℕ
tail = 1

-- the key of row i is at most k: "row.key ≤ k"
unfoldable pub key_at_most : List Row → ℕ → ℕ → Bool
key_at_most rows i k = if eqb i tail then false else if eqb i head then true else leb (row_at rows i).key k

-- the key of row i is below k: "row.key ≤ k − ε"
unfoldable pub key_below : List Row → ℕ → ℕ → Bool
key_below rows i k = if eqb i tail then false else if eqb i head then true else ltb (row_at rows i).key k

-- row i has the key k: "row.key == k"
unfoldable pub has_key : List Row → ℕ → ℕ → Bool
has_key rows i k = if eqb i tail then false else if eqb i head then false else eqb (row_at rows i).key k
