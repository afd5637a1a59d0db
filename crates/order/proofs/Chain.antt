-- The chain: the rows reached from the head by right. Every regular row is on it.
use Rattle.std.specs.Prelude.{ℕ, zero, suc, ◌+◌, ◌≤◌, ◌<◌, true, false, ◌≡◌, ◌≢◌, ◌⊎◌}
use Rattle.std.proofs.Common.{inl, inr, arith}
use Rattle.order.proofs.Table.{Table, right_of, mark_of, rank_of, IsLinked, Regular}
use Rattle.order.proofs.Structure.{Structure}
use Rattle.order.proofs.StructureFacts.{head_rank, below_not_tail, marked_not_tail}
use Rattle.order.proofs.Compared.{Compared, less, equal, more, compared}
use Rattle.std.proofs.lemmas.Bool.{cases_Bool}

pub data OnChain (R : Table) : ℕ → Type 0 where
  at_head : OnChain R 0
  by_right : {x : ℕ} → OnChain R x → x ≢ 1 → OnChain R (right_of R x)

module _ {top : ℕ} {R : Table} (sound : Structure top R) where
  -- From a regular row x on the chain up to the regular row z, over the marked rows between: `steps` bounds how many ranks are left.
  climb : (z : ℕ) → Regular R z → (steps x : ℕ) → OnChain R x → Regular R x → rank_of top R x ≤ rank_of top R z
      → rank_of top R z ≤ rank_of top R x + steps → OnChain R z
  climb z lz zero x c l h g = rw (sound.same x z l lz (omega arith)) at c
  climb z lz (suc steps) x c l h g = go (compared (rank_of top R x) (rank_of top R z)) (climb z lz steps)
    where
      go : Compared (rank_of top R x) (rank_of top R z)
          → ((y : ℕ) → OnChain R y → Regular R y → rank_of top R y ≤ rank_of top R z → rank_of top R z ≤ rank_of top R y + steps → OnChain R z)
          → OnChain R z
      go (equal e) further = rw (sound.same x z l lz e) at c
      go (more e) further = absurd (omega arith)
      go (less e) further = next (cases_Bool (mark_of R (right_of R x)))
        where
          not_tail : x ≢ 1
          not_tail = below_not_tail sound x z lz.linked e

          right_linked : IsLinked R (right_of R x)
          right_linked = sound.right_linked x l.linked not_tail

          up : rank_of top R x < rank_of top R (right_of R x)
          up = sound.right_above x l.linked not_tail

          next : (mark_of R (right_of R x) ≡ true) ⊎ (mark_of R (right_of R x) ≡ false) → OnChain R z
          next (inr m) =
              let regular : Regular R (right_of R x) = record { linked = right_linked; unmarked = m } in
              further (right_of R x) (by_right c not_tail) regular (sound.gap x z l lz e) (omega (arith, up))
          next (inl m) =
              let f = sound.marked_is_flagged x l not_tail m in
              let t = marked_not_tail sound (right_of R x) m in
              further (right_of R (right_of R x)) (by_right (by_right c not_tail) t)
              (record { linked = sound.right_linked _ right_linked t; unmarked = sound.past_marked_unmarked x f m })
              (sound.gap_past_marked x z f m lz e) (omega (arith, up, sound.right_above _ right_linked t))

  pub regular_on_chain : (z : ℕ) → Regular R z → OnChain R z
  regular_on_chain z l =
      climb z l (rank_of top R z) 0 at_head sound.head (omega (arith, head_rank top R)) (omega (arith, head_rank top R))
