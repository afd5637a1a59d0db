-- What the lines of SearchFrom remember: curr was not marked when the request was submitted, so it was regular at a moment since, with the
-- right neighbour that was read; and what is concluded from that where SearchFrom returns.
use Prim.Native.Nat.{ℕ, suc, ◌≤◌, ◌<◌}
use Rattle.std.specs.Prelude.{false, ◌≡◌, ◌≢◌, List, eqb}
use Rattle.std.proofs.Math.Path.{refl}
use Rattle.std.proofs.Math.Logic.{inl}
use Rattle.std.proofs.Common.{arith, eqb-true}
use Rattle.order.proofs.Table.{right_of, mark_of, rank_of, tables_of}
use Rattle.order.proofs.Structure.{Structure}
use Rattle.order.proofs.Moves.{Move}
use Rattle.order.proofs.Facts.{AtMost, Above, Below, AllHold, reach, search_caller_facts, facts}
use Rattle.order.proofs.Timeline.{RegularWithin, marked_within, unmarked_earlier, regular_within, lacks_within}
use Rattle.order.specs.PlainMap.{search}
use Rattle.order.proofs.SearchSteps.{reach_fits}
use Rattle.order.proofs.Memory.{Tells, search_operation, search_past, search_caller_past, cas_links_none, is_found, is_absent}
use Rattle.order.proofs.InsertMemory.{low_not_tail, had_key, insert_2_tells, insert_20_tells}
use Rattle.order.proofs.DeleteMemory.{delete_2_tells, try_flag_12_tells}
use Rattle.order.proofs.LineConditions.{has_key_lem, reaches_rank}
use Rattle.model.specs.State.{row_at}
use Rattle.model.proofs.Choices.{if_both, if_known}
use Rattle.model.specs.Order.{has_key}
use Rattle.model.specs.Cas.{succ_at}
use Rattle.model.specs.HelpMarked.{help_marked_2}
use Rattle.model.specs.SearchFrom.{reaches, search_2, search_from_returns, search_from_1, search_from_2, search_from_3_next_mark, search_from_3_curr_mark, search_from_3_curr_right, search_from_4, search_from_6, search_from_7, search_from_9, search_from_10, search_line}
use Rattle.model.specs.declared.Row.{Row}
use Rattle.model.specs.declared.Pending.{Pending}
use Rattle.model.specs.declared.Effect.{Effect}
use Rattle.model.specs.declared.SearchCaller.{SearchCaller}
use Rattle.model.specs.declared.SearchCaller.TheVariants.{Search1, Insert1, Insert19, Delete1, TryFlag11}
use Rattle.model.specs.declared.SearchFrame.{SearchFrame}
use Rattle.model.specs.declared.SearchLine.{SearchLine}
use Rattle.model.specs.declared.SearchLine.TheVariants.{SearchFrom1, SearchFrom3NextMark, SearchFrom3CurrMark, SearchFrom3CurrRight, SearchFrom4, SearchFrom5HelpMarked1, SearchFrom5HelpMarked2, SearchFrom6, SearchFrom9}
use Rattle.model.specs.declared.Line.TheVariants.{Search}

module _ (top : ℕ) (rows_at : ℕ → List Row) (who : ℕ → ℕ) (sound : (i : ℕ) → Structure top (row_at (rows_at i)))
    (move : (i : ℕ) → Move top (who i) (row_at (rows_at i)) (row_at (rows_at (suc i)))) (t u : ℕ) (since : t ≤ u) (me : ℕ) where
  -- Search, lines 2 to 5.
  search_2_tells : (k curr next : ℕ) → suc k < top → RegularWithin (tables_of rows_at) t u curr next
      → AtMost top (row_at (rows_at u)) curr (suc k) → Above top (row_at (rows_at u)) next (suc k)
      → Tells me rows_at t u (search k) 0 (search_2 (rows_at u) k curr)
  unfolding search_2
  search_2_tells k curr next fits was low high =
      if_known (Tells me rows_at t u (search k) 0) (has_key (rows_at u) curr k)
      (λ same. record { next = is_found (had_key top rows_at who sound move t u since me k curr next fits was same); linking = inl tt })
      (λ other.
      let differ : rank_of top (row_at (rows_at u)) curr ≢ suc k = (has_key_lem top (rows_at u) curr k fits).if_false other in
      record {
        next = is_absent (lacks_within (tables_of rows_at) who sound move t u curr next k was
            (low_not_tail top (rows_at u) curr (suc k) k fits (omega arith) low) (omega (arith, low.low)) high.high);
        linking = inl tt;
      })

  -- Line 10.
  returns_tell : (k e curr next : ℕ) (caller : SearchCaller) → suc k < top → mark_of (row_at (rows_at t)) curr ≡ false
      → RegularWithin (tables_of rows_at) t u curr next → AtMost top (row_at (rows_at u)) curr (reach caller k)
      → Above top (row_at (rows_at u)) next (reach caller k) → AllHold top me (row_at (rows_at u)) (search_caller_facts k e caller)
      → search_caller_past (tables_of rows_at) t u k caller
      → Tells me rows_at t u (search_operation k e caller) 0 (search_from_returns (rows_at u) k e curr next caller)
  unfolding search_from_returns
  returns_tell k e curr next Search1 fits unmarked was low high known past = search_2_tells k curr next fits was low high
  returns_tell k e curr next Insert1 fits unmarked was low high known past =
      insert_2_tells top rows_at who sound move t u since me k e curr next fits unmarked was
  returns_tell k e curr next (Insert19 new) fits unmarked was low high known past =
      insert_20_tells top rows_at who sound move t u since me k e curr next new fits unmarked was
  returns_tell k e curr next Delete1 fits unmarked was low high known past =
      delete_2_tells top rows_at who sound move t u since me k curr next fits unmarked was low high
  returns_tell k e curr next (TryFlag11 target) fits unmarked was low high (save, _) past =
      try_flag_12_tells top rows_at who sound move t u since me k curr next target fits unmarked was low high save past

  module _ (hs : List Pending) (f : SearchFrame) (unmarked : mark_of (row_at (rows_at t)) f.curr ≡ false)
      (past : search_caller_past (tables_of rows_at) t u f.key f.caller)
      (common : AllHold top me (row_at (rows_at u)) (facts (Search SearchFrom1 f) hs)) where
    abbrev TellsSearch : Effect → Type 0
    TellsSearch e = Tells me rows_at t u (search_operation f.key f.element f.caller) 0 e

    search_from_10_tells : (next : ℕ) → RegularWithin (tables_of rows_at) t u f.curr next
        → Above top (row_at (rows_at u)) next (reach f.caller f.key) → TellsSearch (search_from_10 (rows_at u) f next)
    unfolding search_from_10
    search_from_10_tells next was high =
        returns_tell f.key f.element f.curr next f.caller common.0 unmarked was common.1.1.0 high common.1.1.1 past

    beyond : (next : ℕ) → Below top (row_at (rows_at u)) f.curr next → reaches (rows_at u) f next ≡ false
        → Above top (row_at (rows_at u)) next (reach f.caller f.key)
    beyond next before far =
        record { linked = before.next_linked; high = (reaches_rank top (rows_at u) f next common.0).if_false far }

    -- Line 2.
    search_from_2_tells : (next : ℕ) → RegularWithin (tables_of rows_at) t u f.curr next
        → Below top (row_at (rows_at u)) f.curr next
        → TellsSearch (search_from_2 (rows_at u) f next)
    unfolding search_from_2
    search_from_2_tells next was before =
        if_known TellsSearch (reaches (rows_at u) f next)
        (λ _. record { next = record { operation_same = refl; past = (unmarked, was, past); removed_same = inl refl }; linking = inl tt })
        (λ far. search_from_10_tells next was (beyond next before far))

    -- Lines 7 and 8: next becomes curr, and was not marked at first.
    search_from_7_tells : (next : ℕ) → RegularWithin (tables_of rows_at) t u f.curr next
        → Below top (row_at (rows_at u)) f.curr next
        → mark_of (row_at (rows_at t)) next ≡ false → TellsSearch (search_from_7 (rows_at u) f next)
    unfolding search_from_7
    search_from_7_tells next was before next_unmarked =
        if_known TellsSearch (reaches (rows_at u) f next)
        (λ _. record {
          next = record { operation_same = refl; past = (next_unmarked, tt, past); removed_same = inl refl };
          linking = inl tt;
        })
        (λ far. search_from_10_tells next was (beyond next before far))

    not_tail : f.curr ≢ 1
    not_tail =
        low_not_tail top (rows_at u) f.curr (reach f.caller f.key) f.key common.0
        (reach_fits f.caller f.key) common.1.1.0

    right_below : Below top (row_at (rows_at u)) f.curr (right_of (row_at (rows_at u)) f.curr)
    right_below = record {
      linked = common.1.1.0.linked;
      next_linked = (sound u).right_linked f.curr common.1.1.0.linked not_tail;
      lower = (sound u).right_above f.curr common.1.1.0.linked not_tail;
    }

    -- what is read of curr now was its right neighbour when it was regular
    right_was : RegularWithin (tables_of rows_at) t u f.curr (right_of (row_at (rows_at u)) f.curr)
    right_was = regular_within (tables_of rows_at) who sound move t u f.curr since unmarked common.1.1.0.linked

    search_line_tells : (l : SearchLine) → AllHold top me (row_at (rows_at u)) (facts (Search l f) hs)
        → search_past (tables_of rows_at) t u l f.curr → TellsSearch (search_line (rows_at u) f l)
    unfolding search_line search_from_1 search_from_3_next_mark search_from_3_curr_mark search_from_3_curr_right search_from_4 search_from_6 search_from_9 help_marked_2
    search_line_tells SearchFrom1 known was = search_from_2_tells _ right_was right_below
    search_line_tells (SearchFrom3NextMark next) (fits, (alone, (low, (before, rest)))) was =
        if_known TellsSearch (succ_at (rows_at u) next).mark
        (λ _. record { next = record { operation_same = refl; past = (unmarked, was, past); removed_same = inl refl }; linking = inl tt })
        (λ clear. search_from_7_tells next was before (unmarked_earlier (tables_of rows_at) who sound move t u next since clear))
    search_line_tells (SearchFrom3CurrMark next) known was =
        if_both TellsSearch (succ_at (rows_at u) f.curr).mark
        (record { next = record { operation_same = refl; past = (unmarked, was, past); removed_same = inl refl }; linking = inl tt })
        (record { next = record { operation_same = refl; past = (unmarked, was, past); removed_same = inl refl }; linking = inl tt })
    search_line_tells (SearchFrom3CurrRight next) (fits, (alone, (low, (before, (marked, (curr_marked, rest)))))) was =
        if_known TellsSearch (eqb (succ_at (rows_at u) f.curr).right next)
        (λ same. search_from_7_tells next was before
        (rw (eqb-true (right_of (row_at (rows_at u)) f.curr) next same) at
        (marked_within (tables_of rows_at) who sound move t u f.curr since unmarked curr_marked).right_unmarked))
        (λ _. record { next = record { operation_same = refl; past = (unmarked, was, past); removed_same = inl refl }; linking = inl tt })
    search_line_tells (SearchFrom4 next) known was =
        if_both TellsSearch (eqb (succ_at (rows_at u) f.curr).right next)
        (record { next = record { operation_same = refl; past = (unmarked, tt, past); removed_same = inl refl }; linking = inl tt })
        (record { next = record { operation_same = refl; past = (unmarked, tt, past); removed_same = inl refl }; linking = inl tt })
    search_line_tells (SearchFrom5HelpMarked1 next) known was =
        record { next = record { operation_same = refl; past = (unmarked, tt, past); removed_same = inl refl }; linking = inl tt }
    search_line_tells (SearchFrom5HelpMarked2 next right) known was = record {
      next = record { operation_same = refl; past = (unmarked, tt, past); removed_same = inl refl };
      linking = inl (cas_links_none (rows_at u) f.curr _ _);
    }
    search_line_tells SearchFrom6 known was =
        record { next = record { operation_same = refl; past = (unmarked, right_was, past); removed_same = inl refl }; linking = inl tt }
    search_line_tells SearchFrom9 known was = search_from_2_tells _ right_was right_below

  -- what every line of a search knows
  common_of : (hs : List Pending) (f : SearchFrame) (l : SearchLine) → AllHold top me (row_at (rows_at u)) (facts (Search l f) hs)
      → AllHold top me (row_at (rows_at u)) (facts (Search SearchFrom1 f) hs)
  common_of hs f SearchFrom1 known = known
  common_of hs f (SearchFrom3NextMark next) (fits, (alone, (low, (before, rest)))) = (fits, (alone, (low, rest)))
  common_of hs f (SearchFrom3CurrMark next) (fits, (alone, (low, (before, (marked, rest))))) = (fits, (alone, (low, rest)))
  common_of hs f (SearchFrom3CurrRight next) (fits, (alone, (low, (before, (marked, (curr_marked, rest)))))) = (fits, (alone, (low, rest)))
  common_of hs f (SearchFrom4 next) (fits, (alone, (low, (before, (marked, rest))))) = (fits, (alone, (low, rest)))
  common_of hs f (SearchFrom5HelpMarked1 next) (fits, (alone, (low, (marked, rest)))) = (fits, (alone, (low, rest)))
  common_of hs f (SearchFrom5HelpMarked2 next right) (fits, (alone, (low, (frozen, rest)))) = (fits, (alone, (low, rest)))
  common_of hs f SearchFrom6 known = known
  common_of hs f SearchFrom9 known = known

  pub search_tells : (hs : List Pending) (f : SearchFrame) (l : SearchLine) → AllHold top me (row_at (rows_at u)) (facts (Search l f) hs)
      → mark_of (row_at (rows_at t)) f.curr ≡ false → search_past (tables_of rows_at) t u l f.curr
      → search_caller_past (tables_of rows_at) t u f.key f.caller
      → Tells me rows_at t u (search_operation f.key f.element f.caller) 0 (search_line (rows_at u) f l)
  search_tells hs f l known unmarked was past = search_line_tells hs f unmarked past (common_of hs f l known) l known was
