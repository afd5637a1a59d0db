-- A flag keeps the structure: `prev` is regular, and its right neighbour is not the tail. A primed name is about the table after the
-- move.
use Rattle.std.specs.Prelude.{ℕ, true, ◌≡◌, ◌≢◌}
use Rattle.std.proofs.Common.{sym, ◌∙◌}
use Rattle.std.proofs.Math.Decide.{ℕ_discrete}
use Rattle.order.proofs.Table.{Table, right_of, mark_of, flag_of, Regular}
use Rattle.order.proofs.Structure.{Structure}
use Rattle.order.proofs.Moves.{FlagMove}
use Rattle.order.proofs.Unchanged.{same_regular_after, same_regular_before, same_below_tail, same_back_linked, same_back_below, same_right_linked, same_right_above, same_same, same_gap, same_right_marked, same_gap_past_marked, same_past_marked_unmarked}
use Rattle.kept.specs.Conditions.{clash}

module _ {top : ℕ} {R R' : Table} {prev target : ℕ} (sound : Structure top R) (move : FlagMove R R' prev target) where
  regular_after : (x : ℕ) → Regular R x → Regular R' x
  regular_after = same_regular_after R R' move.standing= move.mark=

  regular_before : (x : ℕ) → Regular R' x → Regular R x
  regular_before = same_regular_before R R' move.standing= move.mark=

  right_marked_before : (x : ℕ) → mark_of R' (right_of R' x) ≡ true → mark_of R (right_of R x) ≡ true
  right_marked_before = same_right_marked R R' move.right= move.mark=

  -- where the right neighbour is marked the flag is old: `prev` was unflagged, so its neighbour is unmarked
  flag_before : (x : ℕ) → flag_of R' x ≡ true → mark_of R' (right_of R' x) ≡ true → flag_of R x ≡ true
  flag_before x h k = elim (ℕ_discrete x prev) [
    | yes e ↦
        let f = sound.marked_is_flagged prev move.prev_regular move.prev_not_tail (cc (right_marked_before x k)) in
        absurd (clash f move.prev_unflagged)
    | no e ↦ cc (move.flag_other x e)
  ]

  flag_regular' : (x : ℕ) → flag_of R' x ≡ true → Regular R' x
  flag_regular' x h = elim (ℕ_discrete x prev) [
    | yes e ↦ rw e (regular_after prev move.prev_regular)
    | no e ↦ regular_after x (sound.flag_regular x (cc (move.flag_other x e)))
  ]

  flag_not_before_tail' : (x : ℕ) → flag_of R' x ≡ true → right_of R' x ≢ 1
  flag_not_before_tail' x h q = elim (ℕ_discrete x prev) [
    | yes e ↦ move.target_not_tail (cc (move.right= x))
    | no e ↦ sound.flag_not_before_tail x (cc (move.flag_other x e)) (cc (move.right= x))
  ]

  pub flag_keeps_structure : Structure top R'
  flag_keeps_structure = record {
    head = regular_after 0 sound.head;
    tail = regular_after 1 sound.tail;
    right_linked = same_right_linked R' sound move.key= move.standing= move.right=;
    right_above = same_right_above R' sound move.key= move.standing= move.right=;
    below_tail = same_below_tail R' sound move.key= move.standing=;
    mark_linked = λ x h. move.standing= x ∙ sound.mark_linked x (cc (move.mark= x));
    same = same_same R' sound move.key= regular_before;
    gap = same_gap R' sound move.key= regular_before move.right=;
    gap_past_marked = same_gap_past_marked R' sound move.key= move.standing= move.mark= move.right= flag_before;
    flag_regular = flag_regular';
    flag_not_at_tail = move.flag_other 1 (λ e. move.prev_not_tail (sym e)) ∙ sound.flag_not_at_tail;
    flag_not_before_tail = flag_not_before_tail';
    marked_is_flagged = λ x l h k. elim (ℕ_discrete x prev) [
      | yes e ↦ cc move.flag_prev
      | no e ↦ move.flag_other x e ∙ sound.marked_is_flagged x (regular_before x l) h (right_marked_before x k)
    ];
    past_marked_unmarked =
        same_past_marked_unmarked R' sound move.key= move.standing= move.mark= move.right= flag_before;
    back_linked = same_back_linked R' sound move.key= move.standing= move.back=;
    back_below = same_back_below R' sound move.key= move.standing= move.back=;
    back_of_marked = λ x h k. rw (move.right= x) (move.back= _ ∙ sound.back_of_marked x (flag_before x h k) (right_marked_before x k));
  }
