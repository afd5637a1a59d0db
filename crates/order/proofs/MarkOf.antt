-- Only a mark marks: the move by which a row becomes marked is the mark of that row, and what is known of the rows about it then.
use Rattle.std.specs.Prelude.{ℕ, true, false, ◌≡◌}
use Rattle.std.proofs.Common.{sym, subst}
use Rattle.std.proofs.Math.Decide.{ℕ_discrete}
use Rattle.order.proofs.Table.{Table, right_of, mark_of, back_of, Regular}
use Rattle.order.proofs.Structure.{Structure}
use Rattle.order.proofs.Moves.{MarkMove, Move, nothing, links, marks, unlinks, flags, backlinks, private}
use Rattle.order.proofs.StructureFacts.{unflagged_right_unmarked}
use Rattle.order.proofs.MarkKeeps.{del_regular, del_not_tail}
use Rattle.kept.specs.Conditions.{clash}

-- a move after which row x is marked, and before which it was not, is the mark of x
pub record MarkOf (R R' : Table) (x : ℕ) : Type 0 where
  pub prev : ℕ
  pub move : MarkMove R R' prev x

pub mark_of_lem : {top w : ℕ} {R R' : Table} {x : ℕ} → Move top w R R' → mark_of R x ≡ false → mark_of R' x ≡ true → MarkOf R R' x
mark_of_lem (nothing e) h k = absurd (clash k (cc))
mark_of_lem {x = x} (links move) h k = absurd (clash k (cc (move.mark= x)))
mark_of_lem {x = x} (unlinks move) h k = absurd (clash k (cc (move.mark= x)))
mark_of_lem {x = x} (flags move) h k = absurd (clash k (cc (move.mark= x)))
mark_of_lem {x = x} (backlinks move) h k = absurd (clash k (cc (move.mark= x)))
mark_of_lem {x = x} (private move) h k = absurd (clash k (cc (move.other x (λ e. clash k (cc move.unmarked)))))
mark_of_lem {R = R} {R' = R'} {x = x} (marks {prev = prev} {del = del} move) h k = go (ℕ_discrete x del)
  where
    go : Dec (x ≡ del) → MarkOf R R' x
    go (no e) = absurd (clash k (cc (move.mark_other x e)))
    go (yes e) = record { prev = prev; move = subst (MarkMove R R' prev) (sym e) move }

-- at that move x is regular, its right neighbour is unmarked and stays, and so is the row before it, to which its backlink leads
pub record MarkedBy (R R' : Table) (x : ℕ) : Type 0 where
  pub regular : Regular R x
  pub right : right_of R x ≡ right_of R' x
  pub right_unmarked : mark_of R (right_of R' x) ≡ false
  pub back_unmarked : mark_of R (back_of R' x) ≡ false

pub marked_by : {top : ℕ} {R R' : Table} {prev x : ℕ} → Structure top R → MarkMove R R' prev x → MarkedBy R R' x
marked_by {prev = prev} {x = x} sound move = record {
  regular = del_regular sound move;
  right = sym (move.right= x);
  right_unmarked = rw (move.right= x)
      (unflagged_right_unmarked sound x (del_regular sound move) (del_not_tail sound move) move.del_unflagged);
  back_unmarked = cc (move.back= x, move.del_back, (sound.flag_regular prev move.prev_flagged).unmarked);
}
