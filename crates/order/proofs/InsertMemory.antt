-- What Insert's lines remember: prev was not marked when the insert was submitted; Duplicate was right at a moment since; Added is given
-- by the step that links the row.
use Rattle.std.specs.Prelude.{ℕ, suc, ◌≤◌, ◌<◌, true, ◌≡◌, ◌≢◌, List, ltb, set}
use Rattle.std.proofs.Math.Bool.{false}
use Rattle.std.proofs.Math.Path.{refl}
use Rattle.std.proofs.Common.{ap, arith}
use Rattle.std.proofs.Math.Logic.{inl, inr}
use Rattle.order.proofs.Table.{mark_of, rank_of, tables_of}
use Rattle.order.proofs.Structure.{Structure}
use Rattle.order.proofs.StructureFacts.{tail_rank}
use Rattle.order.proofs.Moves.{Move}
use Rattle.order.proofs.Facts.{AtMost, AllHold, facts}
use Rattle.order.proofs.Timeline.{RegularWithin, HasWithin, marked_within, has_within}
use Rattle.order.proofs.Writes.{two_written}
use Rattle.order.specs.PlainMap.{insert}
use Rattle.order.proofs.Memory.{Tells, LinksRow, is_duplicate, no_row_free, is_added}
use Rattle.order.proofs.LineConditions.{has_key_lem}
use Rattle.kept.specs.Standing.{held_not_linked, free_not_linked, linked_inside, held_inside}
use Rattle.model.specs.State.{row_at, succ_of}
use Rattle.model.proofs.Choices.{if_both, if_known}
use Rattle.model.specs.Order.{has_key}
use Rattle.model.specs.Cas.{same_succ, flagged_only, succ_at, with_succ}
use Rattle.model.specs.Effects.{go_writing}
use Rattle.model.specs.Insert.{insert_2, insert_20, lowest_free, insert_4, insert_6, insert_15, insert_10_11, linked_row, insert_17, insert_18, insert_line}
use Rattle.model.specs.Step.{written}
use Rattle.model.specs.declared.Row.{Row}
use Rattle.model.specs.declared.Pending.{Pending}
use Rattle.model.specs.declared.Write.TheVariants.{OneRow, TwoRows}
use Rattle.model.specs.declared.InsertFrame.{InsertFrame}
use Rattle.model.specs.declared.InsertLine.{InsertLine}
use Rattle.model.specs.declared.InsertLine.TheVariants.{Insert4, Insert6, Insert11, Insert17, Insert18}
use Rattle.model.specs.declared.Line.{Line}
use Rattle.model.specs.declared.Line.TheVariants.{Insert}

-- a row up to the key is not the tail
pub low_not_tail : (top : ℕ) (rows : List Row) (x bound k : ℕ) → suc k < top → bound ≤ suc k → AtMost top (row_at rows) x bound → x ≢ 1
low_not_tail top rows x bound k fits small low e = omega (arith, low.low, ap (rank_of top (row_at rows)) e, tail_rank top (row_at rows))

module _ (top : ℕ) (rows_at : ℕ → List Row) (who : ℕ → ℕ) (sound : (i : ℕ) → Structure top (row_at (rows_at i)))
    (move : (i : ℕ) → Move top (who i) (row_at (rows_at i)) (row_at (rows_at (suc i)))) (t u : ℕ) (since : t ≤ u) (me : ℕ) where
  -- curr has the key: the key had its element when curr was regular
  pub had_key : (k x n : ℕ) → suc k < top → RegularWithin (tables_of rows_at) t u x n → has_key (rows_at u) x k ≡ true
      → HasWithin (tables_of rows_at) t u k (row_at (rows_at u) x).element
  had_key k x n fits was same =
      let found = (has_key_lem top (rows_at u) x k fits).if_true same in
      has_within (tables_of rows_at) who sound move t u x n k was found.no_end found.the_key

  -- Lines 2 and 3.
  pub insert_2_tells : (k e prev next : ℕ) → suc k < top → mark_of (row_at (rows_at t)) prev ≡ false
      → RegularWithin (tables_of rows_at) t u prev next → Tells me rows_at t u (insert k e) 0 (insert_2 (rows_at u) k e prev next)
  unfolding insert_2
  insert_2_tells k e prev next fits unmarked was =
      if_known (Tells me rows_at t u (insert k e) 0) (has_key (rows_at u) prev k)
      (λ same. record { next = is_duplicate (had_key k prev next fits was same); linking = inl tt })
      (λ _. record { next = record { operation_same = refl; past = unmarked; removed_same = inl refl }; linking = inl tt })

  -- Lines 20 to 22.
  pub insert_20_tells : (k e prev next new : ℕ) → suc k < top → mark_of (row_at (rows_at t)) prev ≡ false
      → RegularWithin (tables_of rows_at) t u prev next
      → Tells me rows_at t u (insert k e) 0 (insert_20 (rows_at u) k e prev next new)
  unfolding insert_20
  insert_20_tells k e prev next new fits unmarked was =
      if_known (Tells me rows_at t u (insert k e) 0) (has_key (rows_at u) prev k)
      (λ same. record { next = is_duplicate (had_key k prev next fits was same); linking = inl (λ h. absurd (free_not_linked refl h)) })
      (λ _. record { next = record { operation_same = refl; past = unmarked; removed_same = inl refl }; linking = inl tt })

  module _ (hs : List Pending) (f : InsertFrame) (unmarked : mark_of (row_at (rows_at t)) f.prev ≡ false) where
    -- Line 4.
    insert_4_tells : (next : ℕ) → Tells me rows_at t u (insert f.key f.element) 0 (insert_4 (rows_at u) me f next)
    unfolding insert_4
    insert_4_tells next =
        if_both (Tells me rows_at t u (insert f.key f.element) 0) (ltb (lowest_free (rows_at u)) 128)
        (record {
          next = record { operation_same = refl; past = unmarked; removed_same = inl refl };
          linking = inl (λ h. absurd (held_not_linked refl h));
        })
        (record { next = no_row_free; linking = inl tt })

    -- Line 6.
    insert_6_tells : (next new : ℕ) → Tells me rows_at t u (insert f.key f.element) 0 (insert_6 (rows_at u) f next new)
    unfolding insert_6
    insert_6_tells next new =
        if_both (Tells me rows_at t u (insert f.key f.element) 0) (succ_at (rows_at u) f.prev).flag
        (record { next = record { operation_same = refl; past = unmarked; removed_same = inl refl }; linking = inl tt })
        (record { next = record { operation_same = refl; past = unmarked; removed_same = inl refl }; linking = inl tt })

    -- Lines 10 and 11, with 12, 13, 15 and 16.
    insert_10_11_tells : (next new : ℕ) → AllHold top me (row_at (rows_at u)) (facts (Insert (Insert11 next new) f) hs)
        → Tells me rows_at t u (insert f.key f.element) 0 (insert_10_11 (rows_at u) f next new)
    unfolding insert_10_11 insert_15
    insert_10_11_tells next new (fits, (alone, (low, (high, (holding, _))))) =
        if_both (Tells me rows_at t u (insert f.key f.element) 0)
        (same_succ (succ_at (set (rows_at u) new stored) f.prev) (succ_of next false false))
        (record { next = is_added linked; linking = inr refl })
        (if_both (λ (l : Line). Tells me rows_at t u (insert f.key f.element) 0 (go_writing (OneRow new stored) l))
        (flagged_only (succ_at (set (rows_at u) new stored) f.prev))
        (record { next = record { operation_same = refl; past = unmarked; removed_same = inl refl }; linking = inl (λ h. h) })
        (record { next = record { operation_same = refl; past = unmarked; removed_same = inl refl }; linking = inl (λ h. h) }))
      where
        stored : Row
        stored = with_succ (row_at (rows_at u) new) (succ_of next false false)

        differ : new ≢ f.prev
        differ e = held_not_linked holding.held (cc low.linked)

        linked : LinksRow me (row_at (rows_at u))
            (row_at (written (rows_at u) (TwoRows new (linked_row stored) f.prev
            (with_succ (row_at (set (rows_at u) new (linked_row stored)) f.prev) (succ_of new false false)))))
            f.key f.element
        linked = record {
          row = new;
          held = holding.held;
          has_key = holding.has_key;
          has_element = holding.has_element;
          linked = ap (λ (r : Row). r.standing)
              (two_written (rows_at u) new (linked_row stored) f.prev _ (held_inside (rows_at u) new me holding.held)
              (linked_inside (rows_at u) f.prev low.linked) differ).first;
        }

    -- Line 17.
    insert_17_tells : (new : ℕ) → Tells me rows_at t u (insert f.key f.element) 0 (insert_17 (rows_at u) f new)
    unfolding insert_17
    insert_17_tells new =
        if_both (Tells me rows_at t u (insert f.key f.element) 0) (succ_at (rows_at u) f.prev).mark
        (record { next = record { operation_same = refl; past = unmarked; removed_same = inl refl }; linking = inl tt })
        (record { next = record { operation_same = refl; past = (unmarked, tt, tt); removed_same = inl refl }; linking = inl tt })

    -- Line 18: a backlink leads to a row that was not marked when this one was.
    insert_18_tells : (new : ℕ) → mark_of (row_at (rows_at u)) f.prev ≡ true
        → Tells me rows_at t u (insert f.key f.element) 0 (insert_18 (rows_at u) f new)
    unfolding insert_18
    insert_18_tells new marked = record {
      next = record {
        operation_same = refl;
        past = (marked_within (tables_of rows_at) who sound move t u f.prev since unmarked marked).back_unmarked;
        removed_same = inl refl;
      };
      linking = inl tt;
    }

  pub insert_tells : (hs : List Pending) (f : InsertFrame) (l : InsertLine) → AllHold top me (row_at (rows_at u)) (facts (Insert l f) hs)
      → mark_of (row_at (rows_at t)) f.prev ≡ false → Tells me rows_at t u (insert f.key f.element) 0 (insert_line (rows_at u) me f l)
  unfolding insert_line
  insert_tells hs f (Insert4 next) known unmarked = insert_4_tells hs f unmarked next
  insert_tells hs f (Insert6 next new) known unmarked = insert_6_tells hs f unmarked next new
  insert_tells hs f (Insert11 next new) known unmarked = insert_10_11_tells hs f unmarked next new known
  insert_tells hs f (Insert17 new) known unmarked = insert_17_tells hs f unmarked new
  insert_tells hs f (Insert18 new) (fits, (alone, (low, (marked, _)))) unmarked = insert_18_tells hs f unmarked new marked
