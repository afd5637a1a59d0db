-- A link keeps the structure: no regular row stood between `prev` and `next`, and `new` stands there now. A primed name is about the
-- table after the move.
use Rattle.std.specs.Prelude.{ℕ, ◌≤◌, ◌<◌, true, false, ◌≡◌, ◌≢◌}
use Rattle.std.proofs.Math.Path.{ap}
use Rattle.std.proofs.Common.{◌∙◌, arith}
use Rattle.std.proofs.Math.Decide.{ℕ_discrete}
use Rattle.order.proofs.Table.{Table, right_of, mark_of, flag_of, back_of, rank, rank_of, IsLinked, Regular}
use Rattle.order.proofs.Structure.{Structure}
use Rattle.order.proofs.Moves.{LinkMove}
use Rattle.order.proofs.StructureFacts.{unflagged_right_unmarked}
use Rattle.order.proofs.Unchanged.{same_rank}
use Rattle.order.proofs.Compared.{Compared, less, equal, more, compared}
use Rattle.kept.specs.Conditions.{clash}
use Rattle.kept.specs.Standing.{held_not_linked}

module _ {top w : ℕ} {R R' : Table} {prev new next : ℕ} (sound : Structure top R) (move : LinkMove top w R R' prev new next) where
  -- the rows of R' as they are seen from R
  data Case (x : ℕ) : Type 0 where
    is_new : x ≡ new → rank_of top R' x ≡ rank_of top R new → right_of R' x ≡ next
        → rank_of top R' (right_of R' x) ≡ rank_of top R next → Case x
    is_prev : x ≡ prev → rank_of top R' x ≡ rank_of top R prev → right_of R' x ≡ new
        → rank_of top R' (right_of R' x) ≡ rank_of top R new → Case x
    is_other : x ≢ new → x ≢ prev → rank_of top R' x ≡ rank_of top R x → right_of R' x ≡ right_of R x
        → rank_of top R' (right_of R' x) ≡ rank_of top R (right_of R x) → Case x

  rank= : (x : ℕ) → rank_of top R' x ≡ rank_of top R x
  rank= = same_rank top R R' move.key=

  prev_not_new : prev ≢ new
  prev_not_new e = held_not_linked move.new_held (cc move.prev_regular.linked)

  which : (x : ℕ) → Case x
  which x = go (ℕ_discrete x new) (ℕ_discrete x prev)
    where
      go : Dec (x ≡ new) → Dec (x ≡ prev) → Case x
      go (yes e) (yes f) = absurd (prev_not_new (cc))
      go (yes e) (no f) =
          let r : right_of R' x ≡ next = cc move.right_new in
          is_new e (rank= x ∙ ap (rank_of top R) e) r (ap (rank_of top R') r ∙ rank= next)
      go (no e) (yes f) =
          let r : right_of R' x ≡ new = cc move.right_prev in
          is_prev f (rank= x ∙ ap (rank_of top R) f) r (ap (rank_of top R') r ∙ rank= new)
      go (no e) (no f) = let r = move.right_other x f e in is_other e f (rank= x) r (ap (rank_of top R') r ∙ rank= (right_of R x))

  linked_after : (x : ℕ) → IsLinked R x → IsLinked R' x
  linked_after x l = move.standing_other x (λ e. held_not_linked move.new_held (cc)) ∙ l

  regular_after : (x : ℕ) → Regular R x → Regular R' x
  regular_after x l = record { linked = linked_after x l.linked; unmarked = move.mark= x ∙ l.unmarked }

  -- a regular row of R' that is not the new one is regular in R
  regular_before : (x : ℕ) → Regular R' x → x ≢ new → Regular R x
  regular_before x l h = record { linked = cc (move.standing_other x h, l.linked); unmarked = cc (move.mark= x, l.unmarked) }

  linked_before : (x : ℕ) → IsLinked R' x → x ≢ new → IsLinked R x
  linked_before x l h = cc (move.standing_other x h)

  next_linked : IsLinked R next
  next_linked = rw move.prev_right at (sound.right_linked prev move.prev_regular.linked move.prev_not_tail)

  -- a regular row does not stand between prev and next
  nothing_between : (z : ℕ) → Regular R z → rank_of top R prev < rank_of top R z → rank_of top R next ≤ rank_of top R z
  nothing_between z l h = rw (← move.prev_right) (sound.gap prev z move.prev_regular l h)

  -- a regular row other than prev that is below new is below prev
  aside : (x : ℕ) → Regular R x → x ≢ prev → rank_of top R x < rank_of top R new → rank_of top R x < rank_of top R prev
  aside x l h b = go (compared (rank_of top R x) (rank_of top R prev))
    where
      go : Compared (rank_of top R x) (rank_of top R prev) → rank_of top R x < rank_of top R prev
      go (less k) = k
      go (equal k) = absurd (h (sound.same x prev l move.prev_regular k))
      go (more k) = absurd (omega (arith, nothing_between x l k, move.above))

  right_above' : (x : ℕ) → IsLinked R' x → x ≢ 1 → rank_of top R' x < rank_of top R' (right_of R' x)
  right_above' x l h = elim (which x) [
    | is_new e a r b ↦ omega (arith, move.above)
    | is_prev e a r b ↦ omega (arith, move.below)
    | is_other e f a r b ↦ omega (arith, sound.right_above x (linked_before x l e) h)
  ]

  right_linked' : (x : ℕ) → IsLinked R' x → x ≢ 1 → IsLinked R' (right_of R' x)
  right_linked' x l h = elim (which x) [
    | is_new e a r b ↦ rw r (linked_after next next_linked)
    | is_prev e a r b ↦ rw r move.new_linked
    | is_other e f a r b ↦ rw r (linked_after (right_of R x) (sound.right_linked x (linked_before x l e) h))
  ]

  below_tail' : (x : ℕ) → IsLinked R' x → rank_of top R' x ≤ rank_of top R' 1
  below_tail' x l = elim (which x) [
    | is_new e a r b ↦ omega (arith, move.above, rank= 1, sound.below_tail next next_linked)
    | is_prev e a r b ↦ omega (arith, rank= 1, sound.below_tail prev move.prev_regular.linked)
    | is_other e f a r b ↦ omega (arith, rank= 1, sound.below_tail x (linked_before x l e))
  ]

  -- the new row's rank is no regular row's
  pub fresh : (z : ℕ) → Regular R z → rank_of top R z ≢ rank_of top R new
  fresh z l h = omega (arith, move.above, nothing_between z l (omega (arith, move.below)))

  same' : (x y : ℕ) → Regular R' x → Regular R' y → rank_of top R' x ≡ rank_of top R' y → x ≡ y
  same' x y l k h = go (ℕ_discrete x new) (ℕ_discrete y new)
    where
      go : Dec (x ≡ new) → Dec (y ≡ new) → x ≡ y
      go (yes e) (yes f) = cc
      go (yes e) (no f) = absurd (fresh y (regular_before y k f) (cc (rank= x, rank= y)))
      go (no e) (yes f) = absurd (fresh x (regular_before x l e) (cc (rank= x, rank= y)))
      go (no e) (no f) = sound.same x y (regular_before x l e) (regular_before y k f) (cc (rank= x, rank= y))

  gap' : (x z : ℕ) → Regular R' x → Regular R' z → rank_of top R' x < rank_of top R' z → rank_of top R' (right_of R' x) ≤ rank_of top R' z
  gap' x z l k h = go (which x) (ℕ_discrete z new)
    where
      go : Case x → Dec (z ≡ new) → rank_of top R' (right_of R' x) ≤ rank_of top R' z
      go (is_new e a r b) (yes f) = omega (arith, rank= z, ap (rank_of top R) f)
      go (is_new e a r b) (no f) = omega (arith, rank= z, nothing_between z (regular_before z k f) (omega (arith, rank= z, move.below)))
      go (is_prev e a r b) (yes f) = omega (arith, rank= z, ap (rank_of top R) f)
      go (is_prev e a r b) (no f) = omega (arith, rank= z, move.above, nothing_between z (regular_before z k f) (omega (arith, rank= z)))
      go (is_other e g a r b) (yes f) =
          let u = regular_before x l e in
          let q = aside x u g (omega (arith, rank= z, ap (rank_of top R) f)) in
          omega (arith, rank= z, ap (rank_of top R) f, move.below, sound.gap x prev u move.prev_regular q)
      go (is_other e g a r b) (no f) =
          omega (arith, rank= z, sound.gap x z (regular_before x l e) (regular_before z k f) (omega (arith, rank= z)))

  -- what is flagged or marked is neither prev nor new
  flagged_right= : (x : ℕ) → flag_of R' x ≡ true → right_of R' x ≡ right_of R x
  flagged_right= x h = move.right_other x (λ e. clash h (cc (move.flag= x))) (λ e. clash h (cc (move.flag= x)))

  marked_right= : (x : ℕ) → mark_of R' x ≡ true → right_of R' x ≡ right_of R x
  marked_right= x h =
      move.right_other x (λ e. clash h (cc (move.mark= x, move.prev_regular.unmarked))) (λ e. clash h (cc (move.mark= x)))

  -- a flagged row with a marked neighbour, as it was in R
  record FlaggedBefore (x : ℕ) : Type 0 where
    flagged : flag_of R x ≡ true
    marked : mark_of R (right_of R x) ≡ true
    right : right_of R' x ≡ right_of R x
    past_right : right_of R' (right_of R' x) ≡ right_of R (right_of R x)

  flagged_before : (x : ℕ) → flag_of R' x ≡ true → mark_of R' (right_of R' x) ≡ true → FlaggedBefore x
  flagged_before x h k = record {
    flagged = cc (move.flag= x);
    marked = cc (move.mark= (right_of R' x), flagged_right= x h);
    right = flagged_right= x h;
    past_right = cc (marked_right= (right_of R' x) k, flagged_right= x h);
  }

  gap_past_marked' : (x z : ℕ) → flag_of R' x ≡ true → mark_of R' (right_of R' x) ≡ true → Regular R' z → rank_of top R' x < rank_of top R' z
      → rank_of top R' (right_of R' (right_of R' x)) ≤ rank_of top R' z
  gap_past_marked' x z h k l b = go (ℕ_discrete z new)
    where
      before : FlaggedBefore x
      before = flagged_before x h k

      far : rank_of top R' (right_of R' (right_of R' x)) ≡ rank_of top R (right_of R (right_of R x))
      far = cc (before.past_right, rank= _)

      go : Dec (z ≡ new) → rank_of top R' (right_of R' (right_of R' x)) ≤ rank_of top R' z
      go (no f) =
          let g = sound.gap_past_marked x z before.flagged before.marked (regular_before z l f) (omega (arith, rank= x, rank= z)) in
          omega (arith, far, rank= z, g)
      go (yes f) =
          let zn = rank= z ∙ ap (rank_of top R) f in
          let q = aside x (sound.flag_regular x before.flagged) (λ e. clash before.flagged (cc)) (omega (arith, rank= x, zn)) in
          omega (arith, far, zn, move.below, sound.gap_past_marked x prev before.flagged before.marked move.prev_regular q)

  marked_is_flagged' : (x : ℕ) → Regular R' x → x ≢ 1 → mark_of R' (right_of R' x) ≡ true → flag_of R' x ≡ true
  marked_is_flagged' x l h k = elim (which x) [
    | is_new e a r b ↦
        let u = unflagged_right_unmarked sound prev move.prev_regular move.prev_not_tail move.prev_unflagged in
        absurd (clash k (cc (move.mark= next, move.prev_right)))
    | is_prev e a r b ↦ absurd (clash k (cc (move.mark= new)))
    | is_other e f a r b ↦ move.flag= x ∙ sound.marked_is_flagged x (regular_before x l e) h (cc (move.mark= (right_of R' x)))
  ]

  past_marked_unmarked' : (x : ℕ) → flag_of R' x ≡ true → mark_of R' (right_of R' x) ≡ true → mark_of R' (right_of R' (right_of R' x)) ≡ false
  past_marked_unmarked' x h k =
      let before = flagged_before x h k in
      rw before.past_right (move.mark= _ ∙ sound.past_marked_unmarked x before.flagged before.marked)

  back_linked' : (x : ℕ) → IsLinked R' x → IsLinked R' (back_of R' x)
  back_linked' x l = go (ℕ_discrete x new)
    where
      go : Dec (x ≡ new) → IsLinked R' (back_of R' x)
      go (yes e) = let z : back_of R' x ≡ 0 = cc (move.back= x) in rw z (linked_after 0 sound.head.linked)
      go (no e) = rw (move.back= x) (linked_after _ (sound.back_linked x (linked_before x l e)))

  back_below' : (x : ℕ) → IsLinked R' x → x ≢ 0 → rank_of top R' (back_of R' x) < rank_of top R' x
  unfolding rank
  back_below' x l h = go (ℕ_discrete x new)
    where
      go : Dec (x ≡ new) → rank_of top R' (back_of R' x) < rank_of top R' x
      go (yes e) = let z : back_of R' x ≡ 0 = cc (move.back= x) in rw z (omega (arith, rank= x, ap (rank_of top R) e, move.below))
      go (no e) = rw (move.back= x) (omega (arith, rank= x, rank= (back_of R x), sound.back_below x (linked_before x l e) h))

  back_of_marked' : (x : ℕ) → flag_of R' x ≡ true → mark_of R' (right_of R' x) ≡ true → back_of R' (right_of R' x) ≡ x
  back_of_marked' x h k =
      let before = flagged_before x h k in
      cc (move.back= (right_of R' x), sound.back_of_marked x before.flagged before.marked, before.right)

  pub link_keeps_structure : Structure top R'
  link_keeps_structure = record {
    head = regular_after 0 sound.head;
    tail = regular_after 1 sound.tail;
    right_linked = right_linked';
    right_above = right_above';
    below_tail = below_tail';
    mark_linked = λ x h. linked_after x (sound.mark_linked x (cc (move.mark= x)));
    same = same';
    gap = gap';
    gap_past_marked = gap_past_marked';
    flag_regular = λ x h. regular_after x (sound.flag_regular x (cc (move.flag= x)));
    flag_not_at_tail = move.flag= 1 ∙ sound.flag_not_at_tail;
    flag_not_before_tail = λ x h e. sound.flag_not_before_tail x (cc (move.flag= x)) (cc (flagged_right= x h));
    marked_is_flagged = marked_is_flagged';
    past_marked_unmarked = past_marked_unmarked';
    back_linked = back_linked';
    back_below = back_below';
    back_of_marked = back_of_marked';
  }
