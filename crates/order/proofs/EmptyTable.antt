-- The rows of the empty catalogue have the structure, whatever number above 0 the tail's rank is: what is proved of a sound table is
-- proved of something.
use Rattle.std.specs.Prelude.{ℕ, zero, suc, ◌≤◌, ◌<◌, false, ◌≡◌, refl, ◌≢◌}
use Rattle.std.proofs.Common.{ap, sym, subst, arith}
use Rattle.model.specs.declared.Row.{Row}
use Rattle.model.specs.State.{free_row, row_at, empty_catalogue}
use Rattle.order.proofs.Table.{Table, right_of, mark_of, flag_of, back_of, rank_of, IsLinked, Regular}
use Rattle.order.proofs.Structure.{Structure}
use Rattle.order.proofs.StructureFacts.{head_rank, tail_rank}
use Rattle.kept.specs.Conditions.{clash}
use Rattle.kept.specs.Standing.{free_not_linked}
use Rattle.kept.specs.Stores.{copy_at}

abbrev pub empty_table : Table
empty_table = row_at empty_catalogue.rows

-- past the end of the rows stands a free one too
pub empty_save : (x : ℕ) → empty_table (suc (suc x)) ≡ free_row
empty_save x = copy_at 126 free_row x

pub empty_unflagged : (x : ℕ) → flag_of empty_table x ≡ false
empty_unflagged zero = refl
empty_unflagged (suc zero) = refl
empty_unflagged (suc (suc x)) = ap (λ (r : Row). r.succ.flag) (empty_save x)

pub empty_unmarked : (x : ℕ) → mark_of empty_table x ≡ false
empty_unmarked zero = refl
empty_unmarked (suc zero) = refl
empty_unmarked (suc (suc x)) = ap (λ (r : Row). r.succ.mark) (empty_save x)

-- a linked row is an end
pub data End (x : ℕ) : Type 0 where
  is_head : x ≡ 0 → End x
  is_tail : x ≡ 1 → End x

pub empty_ends : (x : ℕ) → IsLinked empty_table x → End x
empty_ends zero h = is_head refl
empty_ends (suc zero) h = is_tail refl
empty_ends (suc (suc x)) h = absurd (free_not_linked (ap (λ (r : Row). r.standing) (empty_save x)) h)

module _ (top : ℕ) (positive : 1 ≤ top) where
  at_head : rank_of top empty_table 0 ≡ 0
  at_head = head_rank top empty_table

  at_tail : rank_of top empty_table 1 ≡ top
  at_tail = tail_rank top empty_table

  regular : (x : ℕ) → IsLinked empty_table x → Regular empty_table x
  regular x h = record { linked = h; unmarked = empty_unmarked x }

  -- what holds of both ends holds of every linked row
  of_ends : (P : ℕ → Type 0) → P 0 → P 1 → (x : ℕ) → IsLinked empty_table x → P x
  of_ends P h t x l = elim (empty_ends x l) [ is_head e ↦ subst P (sym e) h | is_tail e ↦ subst P (sym e) t ]

  -- what holds of the head holds of every linked row but the tail
  of_head : (P : ℕ → Type 0) → P 0 → (x : ℕ) → IsLinked empty_table x → x ≢ 1 → P x
  of_head P h x l n = elim (empty_ends x l) [ is_head e ↦ subst P (sym e) h | is_tail e ↦ absurd (n e) ]

  same_ends : (x y : ℕ) → End x → End y → rank_of top empty_table x ≡ rank_of top empty_table y → x ≡ y
  same_ends x y (is_head e) (is_head f) q = cc
  same_ends x y (is_head e) (is_tail f) q =
      absurd (omega (arith, ap (rank_of top empty_table) e, ap (rank_of top empty_table) f, at_head, at_tail))
  same_ends x y (is_tail e) (is_head f) q =
      absurd (omega (arith, ap (rank_of top empty_table) e, ap (rank_of top empty_table) f, at_head, at_tail))
  same_ends x y (is_tail e) (is_tail f) q = cc

  empty_gap : (x z : ℕ) → End x → End z → rank_of top empty_table x < rank_of top empty_table z
      → rank_of top empty_table (right_of empty_table x) ≤ rank_of top empty_table z
  empty_gap x z (is_head e) (is_head f) h = absurd (omega (arith, ap (rank_of top empty_table) e, ap (rank_of top empty_table) f))
  empty_gap x z (is_head e) (is_tail f) h =
      rw e (omega (arith, ap (rank_of top empty_table) f))
  empty_gap x z (is_tail e) (is_head f) h =
      absurd (omega (arith, ap (rank_of top empty_table) e, ap (rank_of top empty_table) f, at_head, at_tail))
  empty_gap x z (is_tail e) (is_tail f) h = absurd (omega (arith, ap (rank_of top empty_table) e, ap (rank_of top empty_table) f))

  pub empty_structure : Structure top empty_table
  empty_structure = record {
    head = regular 0 refl;
    tail = regular 1 refl;
    right_linked = of_head (λ y. IsLinked empty_table (right_of empty_table y)) refl;
    right_above = of_head (λ y. rank_of top empty_table y < rank_of top empty_table (right_of empty_table y)) (omega (arith, at_head, at_tail));
    below_tail = of_ends (λ y. rank_of top empty_table y ≤ rank_of top empty_table 1) (omega (arith, at_head)) (omega arith);
    mark_linked = λ x h. absurd (clash h (empty_unmarked x));
    same = λ x y l k e. same_ends x y (empty_ends x l.linked) (empty_ends y k.linked) e;
    gap = λ x z l k h. empty_gap x z (empty_ends x l.linked) (empty_ends z k.linked) h;
    gap_past_marked = λ x z h k l b. absurd (clash h (empty_unflagged x));
    flag_regular = λ x h. absurd (clash h (empty_unflagged x));
    flag_not_at_tail = refl;
    flag_not_before_tail = λ x h e. clash h (empty_unflagged x);
    marked_is_flagged = λ x l n h. absurd (clash h (empty_unmarked (right_of empty_table x)));
    past_marked_unmarked = λ x h k. absurd (clash h (empty_unflagged x));
    back_linked = of_ends (λ y. IsLinked empty_table (back_of empty_table y)) refl refl;
    back_below = λ x l n. elim (empty_ends x l) [
      | is_head e ↦ absurd (n e)
      | is_tail e ↦
          rw e (omega (arith, at_head, at_tail))
    ];
    back_of_marked = λ x h k. absurd (clash h (empty_unflagged x));
  }
