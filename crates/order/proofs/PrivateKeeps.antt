-- A change of one row that is free or held, before and after, keeps the structure: no linked row leads to it. A primed name is about
-- the table after the move.
use Rattle.std.specs.Prelude.{ℕ, ◌≤◌, ◌<◌, true, ◌≡◌, ◌≢◌, ◌⊎◌}
use Rattle.std.proofs.Common.{ap, ◌∙◌, inl, inr, arith}
use Rattle.model.specs.declared.Row.{Row}
use Rattle.order.proofs.Table.{Table, right_of, mark_of, flag_of, rank, rank_of, IsLinked, Regular}
use Rattle.order.proofs.Structure.{Structure}
use Rattle.order.proofs.Moves.{PrivateMove}
use Rattle.order.proofs.StructureFacts.{below_not_tail, flagged_right_linked, marked_not_tail}
use Rattle.kept.specs.Conditions.{clash}
use Rattle.kept.specs.Standing.{free_not_linked, held_not_linked}
use Rattle.model.specs.declared.Standing.{Standing}
use Rattle.model.specs.declared.Standing.TheVariants.{Free, Held, Linked}

private_linked : {s : Standing} {w : ℕ} → (s ≡ Free) ⊎ (s ≡ Held w) → s ≡ Linked → ⊥
private_linked (inl free) linked = free_not_linked free linked
private_linked (inr held) linked = held_not_linked held linked

module _ {top w : ℕ} {R R' : Table} {new : ℕ} (sound : Structure top R) (move : PrivateMove w R R' new) where
  -- a row that is linked before or after is not the changed one
  pub linked_unchanged : (x : ℕ) → IsLinked R x → R' x ≡ R x
  linked_unchanged x l = move.other x (λ e. private_linked move.before (cc))

  pub linked_after_unchanged : (x : ℕ) → IsLinked R' x → R' x ≡ R x
  linked_after_unchanged x l = move.other x (λ e. private_linked move.after (cc))

  flagged_unchanged : (x : ℕ) → flag_of R' x ≡ true → R' x ≡ R x
  flagged_unchanged x h = move.other x (λ e. clash h (cc move.unflagged))

  pub regular_after : (x : ℕ) → Regular R x → Regular R' x
  regular_after x l =
      let e = linked_unchanged x l.linked in
      record { linked = cc l.linked; unmarked = cc l.unmarked }

  linked_before : (x : ℕ) → IsLinked R' x → IsLinked R x
  linked_before x l = cc (linked_after_unchanged x l)

  pub regular_before : (x : ℕ) → Regular R' x → Regular R x
  regular_before x l = record { linked = linked_before x l.linked; unmarked = cc (linked_after_unchanged x l.linked, l.unmarked) }

  -- a row flagged after the move, as it was before it, with its right neighbour
  record FlaggedBefore (x : ℕ) : Type 0 where
    row : R' x ≡ R x
    flagged : flag_of R x ≡ true
    regular : Regular R x
    next : R' (right_of R' x) ≡ R (right_of R x)

  flagged_before : (x : ℕ) → flag_of R' x ≡ true → FlaggedBefore x
  flagged_before x h =
      let e = flagged_unchanged x h in
      let f : flag_of R x ≡ true = cc in
      let n = ap (λ (r : Row). R' r.succ.right) e ∙ linked_unchanged (right_of R x) (flagged_right_linked sound x f) in
      record { row = e; flagged = f; regular = sound.flag_regular x f; next = n }

  -- and the row past that, where the neighbour is marked
  record PastBefore (x : ℕ) : Type 0 where
    marked : mark_of R (right_of R x) ≡ true
    right : right_of R' (right_of R' x) ≡ right_of R (right_of R x)
    row : R' (right_of R' (right_of R' x)) ≡ R (right_of R (right_of R x))

  past_before : (x : ℕ) → flag_of R' x ≡ true → mark_of R' (right_of R' x) ≡ true → PastBefore x
  past_before x h k =
      let b = flagged_before x h in
      let q : mark_of R (right_of R x) ≡ true = cc b.next in
      let f = ap (λ (r : Row). r.succ.right) b.next in
      let l = sound.right_linked _ (flagged_right_linked sound x b.flagged) (marked_not_tail sound _ q) in
      record { marked = q; right = f; row = ap R' f ∙ linked_unchanged _ l }

  -- ranks of linked rows
  rank= : (x : ℕ) → IsLinked R x → rank_of top R' x ≡ rank_of top R x
  rank= x l = ap (λ (r : Row). rank top x r.key) (linked_unchanged x l)

  -- the right neighbour of a linked row
  right_row= : (x : ℕ) → IsLinked R x → x ≢ 1 → R' (right_of R' x) ≡ R (right_of R x)
  right_row= x l h = cc (linked_unchanged x l, linked_unchanged _ (sound.right_linked x l h))

  right_rank= : (x : ℕ) → IsLinked R x → x ≢ 1 → rank_of top R' (right_of R' x) ≡ rank_of top R (right_of R x)
  right_rank= x l h = cc (linked_unchanged x l, rank= _ (sound.right_linked x l h))

  -- a row below another is not the tail, so its right neighbour is linked
  gap' : (x z : ℕ) → Regular R' x → Regular R' z → rank_of top R' x < rank_of top R' z → rank_of top R' (right_of R' x) ≤ rank_of top R' z
  gap' x z l k b =
      let u = regular_before x l in
      let v = regular_before z k in
      let c : rank_of top R x < rank_of top R z = omega (arith, rank= x u.linked, rank= z v.linked) in
      let h = below_not_tail sound x z v.linked c in
      omega (arith, right_rank= x u.linked h, rank= z v.linked, sound.gap x z u v c)

  pub private_keeps_structure : Structure top R'
  private_keeps_structure = record {
    head = regular_after 0 sound.head;
    tail = regular_after 1 sound.tail;
    right_linked = λ x l h. cc (right_row= x (linked_before x l) h, sound.right_linked x (linked_before x l) h);
    right_above = λ x l h.
        let u = linked_before x l in
        omega (arith, right_rank= x u h, rank= x u, sound.right_above x u h);
    below_tail = λ x l. omega (arith, rank= x (linked_before x l), rank= 1 sound.tail.linked, sound.below_tail x (linked_before x l));
    mark_linked = λ x h.
        let e = move.other x (λ e. clash h (cc move.unmarked)) in
        cc (sound.mark_linked x (cc));
    same = λ x y l k e. sound.same x y (regular_before x l) (regular_before y k)
        (cc (rank= x (linked_before x l.linked), rank= y (linked_before y k.linked)));
    gap = gap';
    gap_past_marked = λ x z h k l b.
        let before = flagged_before x h in
        let f = past_before x h k in
        let rank_z = rank= z (linked_before z l.linked) in
        let above : rank_of top R x < rank_of top R z = omega (arith, rank= x before.regular.linked, rank_z) in
        let g = sound.gap_past_marked x z before.flagged f.marked (regular_before z l) above in
        let t : rank_of top R' (right_of R' (right_of R' x)) ≡ rank_of top R (right_of R (right_of R x)) = cc (f.right, f.row) in
        omega (arith, t, g, rank_z);
    flag_regular = λ x h. regular_after x (flagged_before x h).regular;
    flag_not_at_tail = cc (linked_unchanged 1 sound.tail.linked, sound.flag_not_at_tail);
    flag_not_before_tail = λ x h e. sound.flag_not_before_tail x (flagged_before x h).flagged (cc (flagged_before x h).row);
    marked_is_flagged = λ x l h k.
        let f = sound.marked_is_flagged x (regular_before x l) h (cc (right_row= x (linked_before x l.linked) h)) in
        cc (linked_after_unchanged x l.linked);
    past_marked_unmarked = λ x h k.
        let past = past_before x h k in
        cc (past.row, sound.past_marked_unmarked x (flagged_before x h).flagged past.marked);
    back_linked = λ x l.
        let q = sound.back_linked x (linked_before x l) in
        cc (linked_after_unchanged x l, linked_unchanged _ q);
    back_below = λ x l h.
        let u = linked_before x l in
        let e = ap (λ (r : Row). rank_of top R' r.backlink) (linked_after_unchanged x l) in
        let t = e ∙ rank= _ (sound.back_linked x u) in
        omega (arith, t, rank= x u, sound.back_below x u h);
    back_of_marked = λ x h k.
        let before = flagged_before x h in
        cc (before.next, sound.back_of_marked x before.flagged (past_before x h k).marked);
  }
