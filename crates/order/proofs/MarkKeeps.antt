-- A mark keeps the structure: `del` is regular no more, its one regular predecessor is flagged for it, and its own right neighbour is
-- unmarked because `del` is unflagged. A primed name is about the table after the move.
use Rattle.std.specs.Prelude.{ℕ, ◌≤◌, ◌<◌, true, false, ◌≡◌, ◌≢◌}
use Rattle.std.proofs.Common.{ap, sym, ◌∙◌, arith}
use Rattle.std.proofs.Math.Decide.{ℕ_discrete}
use Rattle.order.proofs.Table.{Table, right_of, mark_of, flag_of, back_of, rank_of, Regular}
use Rattle.order.proofs.Structure.{Structure}
use Rattle.order.proofs.Moves.{MarkMove}
use Rattle.order.proofs.StructureFacts.{above_not_head, flagged_not_tail, flagged_right_linked, flagged_right_above, marked_not_tail, unflagged_right_unmarked, predecessor_unique}
use Rattle.order.proofs.Unchanged.{same_rank, same_below_tail, same_back_linked, same_back_below, same_right_linked, same_right_above, same_same, same_gap, same_past_right}
use Rattle.order.proofs.Compared.{Compared, less, equal, more, compared}
use Rattle.kept.specs.Conditions.{clash}

module _ {top : ℕ} {R R' : Table} {prev del : ℕ} (sound : Structure top R) (move : MarkMove R R' prev del) where
  rank= : (x : ℕ) → rank_of top R' x ≡ rank_of top R x
  rank= = same_rank top R R' move.key=

  prev_regular : Regular R prev
  prev_regular = sound.flag_regular prev move.prev_flagged

  pub del_not_tail : del ≢ 1
  del_not_tail e = sound.flag_not_before_tail prev move.prev_flagged (cc)

  pub del_regular : Regular R del
  del_regular = record {
    linked = rw move.prev_right at (flagged_right_linked sound prev move.prev_flagged);
    unmarked = move.del_unmarked;
  }

  pub prev_below : rank_of top R prev < rank_of top R del
  prev_below = rw move.prev_right at (flagged_right_above sound prev move.prev_flagged)

  regular_after : (x : ℕ) → Regular R x → x ≢ del → Regular R' x
  regular_after x l h = record { linked = move.standing= x ∙ l.linked; unmarked = move.mark_other x h ∙ l.unmarked }

  not_del : (x : ℕ) → Regular R' x → x ≢ del
  not_del x l e = clash move.mark_del (cc l.unmarked)

  pub regular_before : (x : ℕ) → Regular R' x → Regular R x
  regular_before x l = record { linked = cc (move.standing= x, l.linked); unmarked = cc (move.mark_other x (not_del x l), l.unmarked) }

  -- a row marked in R' is `del`, or was marked
  data MarkedAfter (x : ℕ) : Type 0 where
    is_del : x ≡ del → MarkedAfter x
    was_marked : x ≢ del → mark_of R x ≡ true → MarkedAfter x

  marked_after : (x : ℕ) → mark_of R' x ≡ true → MarkedAfter x
  marked_after x h = elim (ℕ_discrete x del) [ yes e ↦ is_del e | no e ↦ was_marked e (cc (move.mark_other x e)) ]

  right_mark : (x : ℕ) → mark_of R' (right_of R' x) ≡ true → mark_of R' (right_of R x) ≡ true
  right_mark x h = cc (move.right= x)

  past_right= : (x : ℕ) → right_of R' (right_of R' x) ≡ right_of R (right_of R x)
  past_right= = same_past_right R R' move.right=

  flag_before : (x : ℕ) → flag_of R' x ≡ true → flag_of R x ≡ true
  flag_before x h = cc (move.flag= x)

  -- the one regular predecessor of `del`
  is_prev : (x : ℕ) → Regular R x → x ≢ 1 → right_of R x ≡ del → x ≡ prev
  is_prev x l h e = predecessor_unique sound x prev l prev_regular h (flagged_not_tail sound prev move.prev_flagged) (cc)

  gap_past_marked' : (x z : ℕ) → flag_of R' x ≡ true → mark_of R' (right_of R' x) ≡ true → Regular R' z → rank_of top R' x < rank_of top R' z
      → rank_of top R' (right_of R' (right_of R' x)) ≤ rank_of top R' z
  gap_past_marked' x z h k l b = go (marked_after (right_of R x) (right_mark x k))
    where
      f : flag_of R x ≡ true
      f = flag_before x h

      lz : Regular R z
      lz = regular_before z l

      bz : rank_of top R x < rank_of top R z
      bz = omega (arith, rank= x, rank= z)

      far : rank_of top R' (right_of R' (right_of R' x)) ≡ rank_of top R (right_of R (right_of R x))
      far = cc (past_right= x, rank= _)

      go : MarkedAfter (right_of R x) → rank_of top R' (right_of R' (right_of R' x)) ≤ rank_of top R' z
      go (was_marked e q) = omega (arith, far, rank= z, sound.gap_past_marked x z f q lz bz)
      go (is_del e) =
          let g : rank_of top R del ≤ rank_of top R z = rw e at (sound.gap x z (sound.flag_regular x f) lz bz) in
          let s : rank_of top R del ≢ rank_of top R z = λ q. not_del z l (sym (sound.same del z del_regular lz q)) in
          let t : rank_of top R (right_of R (right_of R x)) ≡ rank_of top R (right_of R del) = cc in
          omega (arith, far, t, rank= z, sound.gap del z del_regular lz (omega arith))

  marked_is_flagged' : (x : ℕ) → Regular R' x → x ≢ 1 → mark_of R' (right_of R' x) ≡ true → flag_of R' x ≡ true
  marked_is_flagged' x l h k = elim (marked_after (right_of R x) (right_mark x k)) [
    | is_del e ↦ cc (is_prev x (regular_before x l) h e, move.flag= x)
    | was_marked e q ↦ move.flag= x ∙ sound.marked_is_flagged x (regular_before x l) h q
  ]

  past_marked_unmarked' : (x : ℕ) → flag_of R' x ≡ true → mark_of R' (right_of R' x) ≡ true → mark_of R' (right_of R' (right_of R' x)) ≡ false
  past_marked_unmarked' x h k = rw (past_right= x) (go (marked_after (right_of R x) (right_mark x k)))
    where
      f : flag_of R x ≡ true
      f = flag_before x h

      lx : Regular R x
      lx = sound.flag_regular x f

      go : MarkedAfter (right_of R x) → mark_of R' (right_of R (right_of R x)) ≡ false
      go (is_del e) = rw e (move.mark_other (right_of R del) right_not_del
          ∙ unflagged_right_unmarked sound del del_regular del_not_tail move.del_unflagged)
        where
          right_not_del : right_of R del ≢ del
          right_not_del q = omega (arith, sound.right_above del del_regular.linked del_not_tail, ap (rank_of top R) q)
      go (was_marked e q) =
          move.mark_other _ (λ t. never t (compared (rank_of top R x) (rank_of top R prev))) ∙ sound.past_marked_unmarked x f q
        where
          up : rank_of top R (right_of R x) < rank_of top R (right_of R (right_of R x))
          up = sound.right_above (right_of R x) (flagged_right_linked sound x f) (marked_not_tail sound (right_of R x) q)

          never : right_of R (right_of R x) ≡ del → Compared (rank_of top R x) (rank_of top R prev) → ⊥
          never t (less a) = omega (arith, sound.gap_past_marked x prev f q prev_regular a, ap (rank_of top R) t, prev_below)
          never t (equal a) = e (ap (λ (y : ℕ). right_of R y) (sound.same x prev lx prev_regular a) ∙ move.prev_right)
          never t (more a) =
              let g = sound.gap prev x prev_regular lx a in
              omega (arith, rw move.prev_right at g, flagged_right_above sound x f, up, ap (rank_of top R) t)

  back_of_marked' : (x : ℕ) → flag_of R' x ≡ true → mark_of R' (right_of R' x) ≡ true → back_of R' (right_of R' x) ≡ x
  back_of_marked' x h k =
      let f = flag_before x h in
      let b : back_of R' (right_of R' x) ≡ back_of R (right_of R x) = cc (move.right= x, move.back= (right_of R x)) in
      b ∙ elim (marked_after (right_of R x) (right_mark x k)) [
        | is_del e ↦ cc (is_prev x (sound.flag_regular x f) (flagged_not_tail sound x f) e)
        | was_marked e q ↦ sound.back_of_marked x f q
      ]

  pub mark_keeps_structure : Structure top R'
  mark_keeps_structure = record {
    head = regular_after 0 sound.head (λ e. above_not_head top R prev del prev_below (sym e));
    tail = regular_after 1 sound.tail (λ e. del_not_tail (sym e));
    right_linked = same_right_linked R' sound move.key= move.standing= move.right=;
    right_above = same_right_above R' sound move.key= move.standing= move.right=;
    below_tail = same_below_tail R' sound move.key= move.standing=;
    mark_linked = λ x h. move.standing= x ∙ elim (marked_after x h) [
      | is_del e ↦ rw e del_regular.linked
      | was_marked e q ↦ sound.mark_linked x q
    ];
    same = same_same R' sound move.key= regular_before;
    gap = same_gap R' sound move.key= regular_before move.right=;
    gap_past_marked = gap_past_marked';
    flag_regular = λ x h. regular_after x (sound.flag_regular x (flag_before x h)) (λ e. clash h (cc (move.flag= x)));
    flag_not_at_tail = move.flag= 1 ∙ sound.flag_not_at_tail;
    flag_not_before_tail = λ x h e. sound.flag_not_before_tail x (flag_before x h) (cc (move.right= x));
    marked_is_flagged = marked_is_flagged';
    past_marked_unmarked = past_marked_unmarked';
    back_linked = same_back_linked R' sound move.key= move.standing= move.back=;
    back_below = same_back_below R' sound move.key= move.standing= move.back=;
    back_of_marked = back_of_marked';
  }
