-- A backlink keeps the structure: it leads down to the predecessor of the help, and if `del` is marked it was there already. A primed
-- name is about the table after the move.
use Rattle.std.specs.Prelude.{ℕ, true, ◌≡◌}
use Rattle.std.proofs.Common.{ap, ◌∙◌, arith}
use Rattle.std.proofs.Math.Decide.{ℕ_discrete}
use Rattle.order.proofs.Table.{Table, right_of, mark_of, flag_of, back_of, rank_of, Regular}
use Rattle.order.proofs.Structure.{Structure}
use Rattle.order.proofs.Moves.{BacklinkMove}
use Rattle.order.proofs.StructureFacts.{help_back, help_prev_linked, help_below}
use Rattle.order.proofs.Unchanged.{same_rank, same_regular_after, same_regular_before, same_below_tail, same_right_linked, same_right_above, same_same, same_gap, same_right_marked, same_gap_past_marked, same_past_marked_unmarked}

module _ {top : ℕ} {R R' : Table} {prev del : ℕ} (sound : Structure top R) (move : BacklinkMove R R' prev del) where
  rank= : (x : ℕ) → rank_of top R' x ≡ rank_of top R x
  rank= = same_rank top R R' move.key=

  regular_after : (x : ℕ) → Regular R x → Regular R' x
  regular_after = same_regular_after R R' move.standing= move.mark=

  regular_before : (x : ℕ) → Regular R' x → Regular R x
  regular_before = same_regular_before R R' move.standing= move.mark=

  right_marked_before : (x : ℕ) → mark_of R' (right_of R' x) ≡ true → mark_of R (right_of R x) ≡ true
  right_marked_before = same_right_marked R R' move.right= move.mark=

  flag_before : (x : ℕ) → flag_of R' x ≡ true → flag_of R x ≡ true
  flag_before x h = cc (move.flag= x)

  back_of_marked' : (x : ℕ) → flag_of R' x ≡ true → mark_of R' (right_of R' x) ≡ true → back_of R' (right_of R' x) ≡ x
  back_of_marked' x h k = rw (move.right= x) (elim (ℕ_discrete (right_of R x) del) [
    | yes e ↦
        let q : mark_of R del ≡ true = cc (right_marked_before x k) in
        cc (move.back_del, help_back sound prev del move.help q, sound.back_of_marked x (flag_before x h) (right_marked_before x k))
    | no e ↦ move.back_other _ e ∙ sound.back_of_marked x (flag_before x h) (right_marked_before x k)
  ])

  pub backlink_keeps_structure : Structure top R'
  backlink_keeps_structure = record {
    head = regular_after 0 sound.head;
    tail = regular_after 1 sound.tail;
    right_linked = same_right_linked R' sound move.key= move.standing= move.right=;
    right_above = same_right_above R' sound move.key= move.standing= move.right=;
    below_tail = same_below_tail R' sound move.key= move.standing=;
    mark_linked = λ x h. move.standing= x ∙ sound.mark_linked x (cc (move.mark= x));
    same = same_same R' sound move.key= regular_before;
    gap = same_gap R' sound move.key= regular_before move.right=;
    gap_past_marked = same_gap_past_marked R' sound move.key= move.standing= move.mark= move.right= (λ x h _. flag_before x h);
    flag_regular = λ x h. regular_after x (sound.flag_regular x (flag_before x h));
    flag_not_at_tail = move.flag= 1 ∙ sound.flag_not_at_tail;
    flag_not_before_tail = λ x h e. sound.flag_not_before_tail x (flag_before x h) (cc (move.right= x));
    marked_is_flagged = λ x l h k. move.flag= x ∙ sound.marked_is_flagged x (regular_before x l) h (right_marked_before x k);
    past_marked_unmarked =
        same_past_marked_unmarked R' sound move.key= move.standing= move.mark= move.right= (λ x h _. flag_before x h);
    back_linked = λ x l. elim (ℕ_discrete x del) [
      | yes e ↦
          let q : back_of R' x ≡ prev = cc move.back_del in
          rw q (move.standing= prev ∙ help_prev_linked sound prev del move.help)
      | no e ↦ rw (move.back_other x e) (move.standing= _ ∙ sound.back_linked x (cc (move.standing= x)))
    ];
    back_below = λ x l h. elim (ℕ_discrete x del) [
      | yes e ↦
          let q : back_of R' x ≡ prev = cc move.back_del in
          rw q (omega (arith, rank= prev, rank= x, ap (rank_of top R) e, help_below sound prev del move.help))
      | no e ↦ rw (move.back_other x e) (omega (arith, rank= x, rank= (back_of R x), sound.back_below x (cc (move.standing= x)) h))
    ];
    back_of_marked = back_of_marked';
  }
