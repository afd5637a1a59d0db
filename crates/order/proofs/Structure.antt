-- What holds of the rows of every reached state, said without a list: ranks rise to the right, no regular row lies in a gap, a marked
-- row on the chain has a flagged predecessor, backlinks lead down.
use Rattle.std.specs.Prelude.{ℕ, ◌≤◌, ◌<◌, true, false, ◌≡◌, ◌≢◌}
use Rattle.order.proofs.Table.{Table, right_of, mark_of, flag_of, back_of, rank_of, IsLinked, Regular}

pub record Structure (top : ℕ) (R : Table) : Type 0 where
  pub head : Regular R 0
  pub tail : Regular R 1
  pub right_linked : (x : ℕ) → IsLinked R x → x ≢ 1 → IsLinked R (right_of R x)
  pub right_above : (x : ℕ) → IsLinked R x → x ≢ 1 → rank_of top R x < rank_of top R (right_of R x)
  pub below_tail : (x : ℕ) → IsLinked R x → rank_of top R x ≤ rank_of top R 1
  pub mark_linked : (x : ℕ) → mark_of R x ≡ true → IsLinked R x
  -- two regular rows of one rank are one row, and none lies between a regular row and its right neighbour
  pub same : (x y : ℕ) → Regular R x → Regular R y → rank_of top R x ≡ rank_of top R y → x ≡ y
  pub gap : (x z : ℕ) → Regular R x → Regular R z → rank_of top R x < rank_of top R z → rank_of top R (right_of R x) ≤ rank_of top R z
  -- nor between a flagged row and the right neighbour of its marked one
  pub gap_past_marked : (x z : ℕ) → flag_of R x ≡ true → mark_of R (right_of R x) ≡ true → Regular R z
      → rank_of top R x < rank_of top R z → rank_of top R (right_of R (right_of R x)) ≤ rank_of top R z
  pub flag_regular : (x : ℕ) → flag_of R x ≡ true → Regular R x
  pub flag_not_at_tail : flag_of R 1 ≡ false
  pub flag_not_before_tail : (x : ℕ) → flag_of R x ≡ true → right_of R x ≢ 1
  pub marked_is_flagged : (x : ℕ) → Regular R x → x ≢ 1 → mark_of R (right_of R x) ≡ true → flag_of R x ≡ true
  pub past_marked_unmarked : (x : ℕ) → flag_of R x ≡ true → mark_of R (right_of R x) ≡ true → mark_of R (right_of R (right_of R x)) ≡ false
  pub back_linked : (x : ℕ) → IsLinked R x → IsLinked R (back_of R x)
  pub back_below : (x : ℕ) → IsLinked R x → x ≢ 0 → rank_of top R (back_of R x) < rank_of top R x
  pub back_of_marked : (x : ℕ) → flag_of R x ≡ true → mark_of R (right_of R x) ≡ true → back_of R (right_of R x) ≡ x

-- A help (prev, del) that has to be given: prev is flagged for del, or del is marked and its backlink is prev.
pub data Helpable (R : Table) (prev del : ℕ) : Type 0 where
  flagged_for : flag_of R prev ≡ true → right_of R prev ≡ del → Helpable R prev del
  already_marked : mark_of R del ≡ true → back_of R del ≡ prev → Helpable R prev del
