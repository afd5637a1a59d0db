-- What follows from the structure of one table: of flagged rows and their neighbours, of marked rows, of helps.
use Rattle.std.specs.Prelude.{ℕ, zero, suc, ◌<◌, true, false, ◌≡◌, ◌≢◌, ◌⊎◌}
use Rattle.std.proofs.Math.Path.{refl}
use Rattle.std.proofs.Common.{ap, inl, inr, arith}
use Rattle.order.proofs.Table.{Table, right_of, mark_of, flag_of, back_of, rank, rank_of, IsLinked, Regular}
use Rattle.order.proofs.Structure.{Structure, Helpable, flagged_for, already_marked}
use Rattle.order.proofs.Compared.{Compared, less, equal, more, compared}
use Rattle.kept.specs.Conditions.{clash}
use Rattle.std.proofs.lemmas.Bool.{cases_Bool}

-- the rank of a row that is neither end
pub save_rank : (top x key : ℕ) → x ≢ 0 → x ≢ 1 → rank top x key ≡ suc key
unfolding rank
save_rank top zero key h k = absurd (h refl)
save_rank top (suc zero) key h k = absurd (k refl)
save_rank top (suc (suc x)) key h k = refl

module _ (top : ℕ) (R : Table) where
  pub head_rank : rank_of top R 0 ≡ 0
  unfolding rank
  head_rank = refl

  pub tail_rank : rank_of top R 1 ≡ top
  unfolding rank
  tail_rank = refl

  -- no row above another is the head
  pub above_not_head : (x y : ℕ) → rank_of top R x < rank_of top R y → y ≢ 0
  above_not_head x y h e = omega (arith, ap (rank_of top R) e, head_rank)

module _ {top : ℕ} {R : Table} (sound : Structure top R) where
  -- no linked row below another is the tail
  pub below_not_tail : (x y : ℕ) → IsLinked R y → rank_of top R x < rank_of top R y → x ≢ 1
  below_not_tail x y l h e = omega (arith, ap (rank_of top R) e, sound.below_tail y l)

  pub flagged_not_tail : (x : ℕ) → flag_of R x ≡ true → x ≢ 1
  flagged_not_tail x h e = clash h (cc sound.flag_not_at_tail)

  pub flagged_right_linked : (x : ℕ) → flag_of R x ≡ true → IsLinked R (right_of R x)
  flagged_right_linked x h = sound.right_linked x (sound.flag_regular x h).linked (flagged_not_tail x h)

  pub flagged_right_above : (x : ℕ) → flag_of R x ≡ true → rank_of top R x < rank_of top R (right_of R x)
  flagged_right_above x h = sound.right_above x (sound.flag_regular x h).linked (flagged_not_tail x h)

  pub marked_not_tail : (x : ℕ) → mark_of R x ≡ true → x ≢ 1
  marked_not_tail x h e = clash h (cc sound.tail.unmarked)

  pub marked_not_head : (x : ℕ) → mark_of R x ≡ true → x ≢ 0
  marked_not_head x h e = clash h (cc sound.head.unmarked)

  -- the neighbour of a regular row without a flag is regular
  pub unflagged_right_unmarked : (x : ℕ) → Regular R x → x ≢ 1 → flag_of R x ≡ false → mark_of R (right_of R x) ≡ false
  unflagged_right_unmarked x l h f = go (cases_Bool (mark_of R (right_of R x)))
    where
      go : (mark_of R (right_of R x) ≡ true) ⊎ (mark_of R (right_of R x) ≡ false) → mark_of R (right_of R x) ≡ false
      go (inl t) = absurd (clash (sound.marked_is_flagged x l h t) f)
      go (inr t) = t

  -- a row has one regular predecessor at most
  pub predecessor_unique : (x y : ℕ) → Regular R x → Regular R y → x ≢ 1 → y ≢ 1 → right_of R x ≡ right_of R y → x ≡ y
  predecessor_unique x y l k h g e = go (compared (rank_of top R x) (rank_of top R y))
    where
      ranks : rank_of top R (right_of R x) ≡ rank_of top R (right_of R y)
      ranks = ap (rank_of top R) e

      go : Compared (rank_of top R x) (rank_of top R y) → x ≡ y
      go (less a) = absurd (omega (arith, ranks, sound.gap x y l k a, sound.right_above y k.linked g))
      go (equal a) = sound.same x y l k a
      go (more a) = absurd (omega (arith, ranks, sound.gap y x k l a, sound.right_above x l.linked h))

  pub flagged_unique : (x y : ℕ) → flag_of R x ≡ true → flag_of R y ≡ true → right_of R x ≡ right_of R y → x ≡ y
  flagged_unique x y h k =
      predecessor_unique x y (sound.flag_regular x h) (sound.flag_regular y k) (flagged_not_tail x h) (flagged_not_tail y k)

  pub help_prev_linked : (prev del : ℕ) → Helpable R prev del → IsLinked R prev
  help_prev_linked prev del (flagged_for h e) = (sound.flag_regular prev h).linked
  help_prev_linked prev del (already_marked h e) = rw e at (sound.back_linked del (sound.mark_linked del h))

  pub help_del_linked : (prev del : ℕ) → Helpable R prev del → IsLinked R del
  help_del_linked prev del (flagged_for h e) = rw e at (flagged_right_linked prev h)
  help_del_linked prev del (already_marked h e) = sound.mark_linked del h

  pub help_below : (prev del : ℕ) → Helpable R prev del → rank_of top R prev < rank_of top R del
  help_below prev del (flagged_for h e) = rw e at (flagged_right_above prev h)
  help_below prev del (already_marked h e) = rw e at (sound.back_below del (sound.mark_linked del h) (marked_not_head del h))

  -- once del is marked its backlink is the predecessor of the help
  pub help_back : (prev del : ℕ) → Helpable R prev del → mark_of R del ≡ true → back_of R del ≡ prev
  help_back prev del (flagged_for h e) k = rw e at (sound.back_of_marked prev h (rw e k))
  help_back prev del (already_marked h e) k = e

  -- two helps of one row have one predecessor
  pub help_unique : (prev other del : ℕ) → Helpable R prev del → Helpable R other del → prev ≡ other
  help_unique prev other del (flagged_for h e) (flagged_for g f) = flagged_unique prev other h g (cc)
  help_unique prev other del (flagged_for h e) (already_marked g f) = cc (help_back prev del (flagged_for h e) g)
  help_unique prev other del (already_marked h e) g = cc (help_back other del g h)
