-- An unlink keeps the structure: the right neighbour of the marked `del` is unmarked, and no regular row stands between `prev` and it. A
-- primed name is about the table after the move.
use Rattle.std.specs.Prelude.{ℕ, ◌<◌, true, ◌≡◌, ◌≢◌}
use Rattle.std.proofs.Common.{ap, sym, ◌∙◌, arith}
use Rattle.std.proofs.Math.Decide.{ℕ_discrete}
use Rattle.order.proofs.Table.{Table, right_of, mark_of, flag_of, rank_of, IsLinked, Regular}
use Rattle.order.proofs.Structure.{Structure}
use Rattle.order.proofs.Moves.{UnlinkMove}
use Rattle.order.proofs.StructureFacts.{flagged_not_tail, flagged_right_linked, flagged_right_above, marked_not_tail}
use Rattle.order.proofs.Unchanged.{same_rank, same_regular_after, same_regular_before, same_below_tail, same_back_linked, same_back_below, same_same}
use Rattle.kept.specs.Conditions.{clash}

module _ {top : ℕ} {R R' : Table} {prev del next : ℕ} (sound : Structure top R) (move : UnlinkMove R R' prev del next) where
  rank= : (x : ℕ) → rank_of top R' x ≡ rank_of top R x
  rank= = same_rank top R R' move.key=

  prev_regular : Regular R prev
  prev_regular = sound.flag_regular prev move.prev_flagged

  prev_right_marked : mark_of R (right_of R prev) ≡ true
  prev_right_marked = cc (move.prev_right, move.del_marked)

  past_prev : right_of R (right_of R prev) ≡ next
  past_prev = cc (move.prev_right, move.del_right)

  del_linked : IsLinked R del
  del_linked = rw move.prev_right at (flagged_right_linked sound prev move.prev_flagged)

  del_not_tail : del ≢ 1
  del_not_tail = marked_not_tail sound del move.del_marked

  next_linked : IsLinked R next
  next_linked = rw move.del_right at (sound.right_linked del del_linked del_not_tail)

  del_above : rank_of top R prev < rank_of top R del
  del_above = rw move.prev_right at (flagged_right_above sound prev move.prev_flagged)

  next_above : rank_of top R del < rank_of top R next
  next_above = rw move.del_right at (sound.right_above del del_linked del_not_tail)

  regular_after : (x : ℕ) → Regular R x → Regular R' x
  regular_after = same_regular_after R R' move.standing= move.mark=

  regular_before : (x : ℕ) → Regular R' x → Regular R x
  regular_before = same_regular_before R R' move.standing= move.mark=

  -- a row of R': `prev`, whose right neighbour is now `next`, or another, whose right neighbour is as it was
  data Case (x : ℕ) : Type 0 where
    is_prev : x ≡ prev → right_of R' x ≡ next → rank_of top R' (right_of R' x) ≡ rank_of top R next → Case x
    is_other : x ≢ prev → right_of R' x ≡ right_of R x → rank_of top R' (right_of R' x) ≡ rank_of top R (right_of R x) → Case x

  which : (x : ℕ) → Case x
  which x = elim (ℕ_discrete x prev) [
    | yes e ↦ let q : right_of R' x ≡ next = cc move.right_next in is_prev e q (ap (rank_of top R') q ∙ rank= next)
    | no e ↦ let q = move.right_other x e in is_other e q (ap (rank_of top R') q ∙ rank= _)
  ]

  -- what is flagged in R' was flagged, and is not prev
  record FlaggedBefore (x : ℕ) : Type 0 where
    flagged : flag_of R x ≡ true
    right : right_of R' x ≡ right_of R x

  flagged_before : (x : ℕ) → flag_of R' x ≡ true → FlaggedBefore x
  flagged_before x h =
      let q : x ≢ prev = λ e. clash h (cc move.flag_prev) in
      record { flagged = cc (move.flag_other x q); right = move.right_other x q }

  right_marked_before : (x : ℕ) → flag_of R' x ≡ true → mark_of R' (right_of R' x) ≡ true → mark_of R (right_of R x) ≡ true
  right_marked_before x h k = cc ((flagged_before x h).right, move.mark= (right_of R x))

  past_right= : (x : ℕ) → flag_of R' x ≡ true → mark_of R' (right_of R' x) ≡ true → right_of R' (right_of R' x) ≡ right_of R (right_of R x)
  past_right= x h k =
      let not_prev : right_of R x ≢ prev = λ e. clash (right_marked_before x h k) (cc prev_regular.unmarked) in
      rw (flagged_before x h).right (move.right_other _ not_prev)

  marked_is_flagged' : (x : ℕ) → Regular R' x → x ≢ 1 → mark_of R' (right_of R' x) ≡ true → flag_of R' x ≡ true
  marked_is_flagged' x l h k = elim (which x) [
    | is_prev e q b ↦
        let u = sound.past_marked_unmarked prev move.prev_flagged prev_right_marked in
        absurd (clash k (cc (move.mark= next, u, past_prev)))
    | is_other e q b ↦ move.flag_other x e ∙ sound.marked_is_flagged x (regular_before x l) h (cc (move.mark= (right_of R x)))
  ]

  pub unlink_keeps_structure : Structure top R'
  unlink_keeps_structure = record {
    head = regular_after 0 sound.head;
    tail = regular_after 1 sound.tail;
    right_linked = λ x l h. elim (which x) [
      | is_prev e q b ↦ rw q (move.standing= next ∙ next_linked)
      | is_other e q b ↦ rw q (move.standing= _ ∙ sound.right_linked x (cc (move.standing= x)) h)
    ];
    right_above = λ x l h. elim (which x) [
      | is_prev e q b ↦ omega (arith, del_above, next_above, rank= x, ap (rank_of top R) e)
      | is_other e q b ↦ omega (arith, rank= x, sound.right_above x (cc (move.standing= x)) h)
    ];
    below_tail = same_below_tail R' sound move.key= move.standing=;
    mark_linked = λ x h. move.standing= x ∙ sound.mark_linked x (cc (move.mark= x));
    same = same_same R' sound move.key= regular_before;
    gap = λ x z l k b. elim (which x) [
      | is_prev e q c ↦
          let above : rank_of top R prev < rank_of top R z = omega (arith, rank= x, rank= z, ap (rank_of top R) e) in
          let g = sound.gap_past_marked prev z move.prev_flagged prev_right_marked (regular_before z k) above in
          omega (arith, rank= z, rw past_prev at g)
      | is_other e q c ↦ omega (arith, rank= z, sound.gap x z (regular_before x l) (regular_before z k) (omega (arith, rank= x, rank= z)))
    ];
    gap_past_marked = λ x z h k l b. omega (
      arith,
      ap (rank_of top R') (past_right= x h k),
      rank= (right_of R (right_of R x)),
      rank= z,
      sound.gap_past_marked x z (flagged_before x h).flagged (right_marked_before x h k) (regular_before z l)
          (omega (arith, rank= x, rank= z)),
    );
    flag_regular = λ x h. regular_after x (sound.flag_regular x (flagged_before x h).flagged);
    flag_not_at_tail = move.flag_other 1 (λ e. flagged_not_tail sound prev move.prev_flagged (sym e)) ∙ sound.flag_not_at_tail;
    flag_not_before_tail = λ x h e. sound.flag_not_before_tail x (flagged_before x h).flagged (cc (flagged_before x h).right);
    marked_is_flagged = marked_is_flagged';
    past_marked_unmarked = λ x h k.
        let u = sound.past_marked_unmarked x (flagged_before x h).flagged (right_marked_before x h k) in
        rw (past_right= x h k) (move.mark= _ ∙ u);
    back_linked = same_back_linked R' sound move.key= move.standing= move.back=;
    back_below = same_back_below R' sound move.key= move.standing= move.back=;
    back_of_marked = λ x h k.
        let b = sound.back_of_marked x (flagged_before x h).flagged (right_marked_before x h k) in
        rw (flagged_before x h).right (move.back= _ ∙ b);
  }
