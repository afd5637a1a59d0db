-- The lines of SearchFrom are lawful, and so is what they return to; with the other routines' lines, every line is.
use Rattle.std.specs.Prelude.{ℕ, suc, ◌≤◌, ◌<◌, ◌≡◌, ◌≢◌, List, [], eqb}
use Rattle.std.proofs.Math.Path.{refl}
use Rattle.std.proofs.Common.{ap, arith}
use Rattle.order.proofs.Table.{right_of, rank_of}
use Rattle.order.proofs.Structure.{Structure}
use Rattle.order.proofs.StructureFacts.{tail_rank}
use Rattle.order.proofs.Facts.{AtMost, Above, Below, AllHold, reach, search_caller_facts, facts}
use Rattle.order.proofs.Lawful.{Lawful, read}
use Rattle.order.proofs.InsertSteps.{insert_2_lawful, insert_20_lawful}
use Rattle.order.proofs.DeleteSteps.{delete_2_lawful, try_flag_12_lawful}
use Rattle.order.proofs.HelpMarkedSteps.{help_marked_lawful}
use Rattle.order.proofs.LineConditions.{reaches_rank}
use Rattle.model.specs.State.{row_at}
use Rattle.model.proofs.Choices.{if_known, if_both}
use Rattle.model.specs.Order.{has_key}
use Rattle.model.specs.Cas.{succ_at}
use Rattle.model.specs.HelpMarked.{help_marked_1}
use Rattle.model.specs.SearchFrom.{reaches, search_2, search_from_returns, search_from_1, search_from_2, search_from_3_next_mark, search_from_3_curr_mark, search_from_3_curr_right, search_from_4, search_from_6, search_from_7, search_from_9, search_from_10, search_line}
use Rattle.model.specs.WellFormed.{held_row, held_in_search, no_row_held}
use Rattle.model.specs.declared.Row.{Row}
use Rattle.model.specs.declared.Pending.{Pending}
use Rattle.model.specs.declared.Effect.{Effect}
use Rattle.model.specs.declared.Stack.TheVariants.{Keep}
use Rattle.model.specs.declared.SearchCaller.{SearchCaller}
use Rattle.model.specs.declared.SearchCaller.TheVariants.{Search1, Insert1, Insert19, Delete1, TryFlag11}
use Rattle.model.specs.declared.SearchFrame.{SearchFrame}
use Rattle.model.specs.declared.SearchLine.{SearchLine}
use Rattle.model.specs.declared.SearchLine.TheVariants.{SearchFrom1, SearchFrom3NextMark, SearchFrom3CurrMark, SearchFrom3CurrRight, SearchFrom4, SearchFrom5HelpMarked1, SearchFrom5HelpMarked2, SearchFrom6, SearchFrom9}
use Rattle.model.specs.declared.Line.TheVariants.{Search}

-- no search passes the key
pub reach_fits : (caller : SearchCaller) (k : ℕ) → reach caller k ≤ suc k
reach_fits Search1 k = omega arith
reach_fits Insert1 k = omega arith
reach_fits (Insert19 new) k = omega arith
reach_fits Delete1 k = omega arith
reach_fits (TryFlag11 target) k = omega arith

module _ (top me : ℕ) (rows : List Row) (sound : Structure top (row_at rows)) (hs : List Pending) where
  -- Search, lines 2 to 5.
  pub search_2_lawful : (k curr : ℕ) → Lawful top me rows no_row_held 0 hs (search_2 rows k curr)
  unfolding search_2 held_row
  search_2_lawful k curr =
      if_both (Lawful top me rows no_row_held 0 hs) (has_key rows curr k)
      (read top me rows no_row_held 0 hs _ refl refl tt)
      (read top me rows no_row_held 0 hs _ refl refl tt)

  -- Line 10.
  returns_lawful : (k e curr next : ℕ) (caller : SearchCaller) → suc k < top → hs ≡ [] → AtMost top (row_at rows) curr (reach caller k)
      → Above top (row_at rows) next (reach caller k) → AllHold top me (row_at rows) (search_caller_facts k e caller)
      → Lawful top me rows (held_in_search caller) 0 hs (search_from_returns rows k e curr next caller)
  unfolding search_from_returns
  returns_lawful k e curr next Search1 fits alone low high known = search_2_lawful k curr
  returns_lawful k e curr next Insert1 fits alone low high known = insert_2_lawful top me rows sound hs k e curr next fits alone low high
  returns_lawful k e curr next (Insert19 new) fits alone low high (holding, _) =
      insert_20_lawful top me rows sound hs k e curr next new fits alone low high holding
  returns_lawful k e curr next Delete1 fits alone low high known = delete_2_lawful top me rows sound hs k curr next fits alone low high
  returns_lawful k e curr next (TryFlag11 target) fits alone low high (save, _) =
      try_flag_12_lawful top me rows sound hs k curr next target fits alone low save

  module _ (f : SearchFrame) where
    abbrev LawfulSearch : Effect → Type 0
    LawfulSearch e = Lawful top me rows (held_in_search f.caller) 0 hs e

    -- what every line of the search knows: the key, that nothing is pending, curr, and what the caller keeps
    abbrev Common : Type 0
    Common = AllHold top me (row_at rows) (facts (Search SearchFrom1 f) hs)

    search_from_10_lawful : (next : ℕ) → Common → Above top (row_at rows) next (reach f.caller f.key)
        → LawfulSearch (search_from_10 rows f next)
    unfolding search_from_10
    search_from_10_lawful next (fits, (alone, (low, rest))) high =
        returns_lawful f.key f.element f.curr next f.caller fits alone low high rest

    -- Line 2.
    pub search_from_2_lawful : (next : ℕ) → Common → Below top (row_at rows) f.curr next → LawfulSearch (search_from_2 rows f next)
    unfolding search_from_2 held_row
    search_from_2_lawful next (fits, (alone, (low, rest))) before =
        if_known LawfulSearch (reaches rows f next)
        (λ _. read top me rows _ 0 hs _ refl refl (fits, (alone, (low, (before, rest)))))
        (λ past. search_from_10_lawful next (fits, (alone, (low, rest)))
        (record { linked = before.next_linked; high = (reaches_rank top rows f next fits).if_false past }))

    -- Lines 7 and 8.
    pub search_from_7_lawful : (next : ℕ) → Common → Below top (row_at rows) f.curr next → LawfulSearch (search_from_7 rows f next)
    unfolding search_from_7 held_row
    search_from_7_lawful next (fits, (alone, (low, rest))) before =
        if_known LawfulSearch (reaches rows f next)
        (λ reached. read top me rows _ 0 hs _ refl refl
        (fits, (alone, (record { linked = before.next_linked; low = (reaches_rank top rows f next fits).if_true reached }, rest))))
        (λ past. search_from_10_lawful next (fits, (alone, (low, rest)))
        (record { linked = before.next_linked; high = (reaches_rank top rows f next fits).if_false past }))

    -- the right neighbour of curr, which is not the tail
    right_below : suc f.key < top → AtMost top (row_at rows) f.curr (reach f.caller f.key)
        → Below top (row_at rows) f.curr (right_of (row_at rows) f.curr)
    right_below fits low =
        let not_tail : f.curr ≢ 1 = λ e. omega (
          arith,
          low.low,
          reach_fits f.caller f.key,
          ap (rank_of top (row_at rows)) e,
          tail_rank top (row_at rows),
        ) in
        record {
          linked = low.linked;
          next_linked = sound.right_linked f.curr low.linked not_tail;
          lower = sound.right_above f.curr low.linked not_tail;
        }

    -- Lines 1 and 9.
    pub search_from_1_lawful : Common → LawfulSearch (search_from_1 rows f)
    unfolding search_from_1
    search_from_1_lawful known = search_from_2_lawful _ known (right_below known.0 known.1.1.0)

    pub search_from_9_lawful : Common → LawfulSearch (search_from_9 rows f)
    unfolding search_from_9
    search_from_9_lawful known = search_from_2_lawful _ known (right_below known.0 known.1.1.0)

    -- Line 3, its three reads.
    pub search_from_3_next_mark_lawful : (next : ℕ) → AllHold top me (row_at rows) (facts (Search (SearchFrom3NextMark next) f) hs)
        → LawfulSearch (search_from_3_next_mark rows f next)
    unfolding search_from_3_next_mark held_row
    search_from_3_next_mark_lawful next (fits, (alone, (low, (before, rest)))) =
        if_known LawfulSearch (succ_at rows next).mark
        (λ marked. read top me rows _ 0 hs _ refl refl (fits, (alone, (low, (before, (marked, rest))))))
        (λ _. search_from_7_lawful next (fits, (alone, (low, rest))) before)

    pub search_from_3_curr_mark_lawful : (next : ℕ) → AllHold top me (row_at rows) (facts (Search (SearchFrom3CurrMark next) f) hs)
        → LawfulSearch (search_from_3_curr_mark rows f next)
    unfolding search_from_3_curr_mark held_row
    search_from_3_curr_mark_lawful next (fits, (alone, (low, (before, (marked, rest))))) =
        if_known LawfulSearch (succ_at rows f.curr).mark
        (λ curr_marked. read top me rows _ 0 hs _ refl refl (fits, (alone, (low, (before, (marked, (curr_marked, rest)))))))
        (λ _. read top me rows _ 0 hs _ refl refl (fits, (alone, (low, (before, (marked, rest))))))

    pub search_from_3_curr_right_lawful : (next : ℕ) → AllHold top me (row_at rows) (facts (Search (SearchFrom3CurrRight next) f) hs)
        → LawfulSearch (search_from_3_curr_right rows f next)
    unfolding search_from_3_curr_right held_row
    search_from_3_curr_right_lawful next (fits, (alone, (low, (before, (marked, (curr_marked, rest)))))) =
        if_known LawfulSearch (eqb (succ_at rows f.curr).right next)
        (λ _. search_from_7_lawful next (fits, (alone, (low, rest))) before)
        (λ _. read top me rows _ 0 hs _ refl refl (fits, (alone, (low, (before, (marked, rest))))))

    -- Line 4.
    pub search_from_4_lawful : (next : ℕ) → AllHold top me (row_at rows) (facts (Search (SearchFrom4 next) f) hs)
        → LawfulSearch (search_from_4 rows f next)
    unfolding search_from_4 held_row
    search_from_4_lawful next (fits, (alone, (low, (before, (marked, rest))))) =
        if_known LawfulSearch (eqb (succ_at rows f.curr).right next)
        (λ _. read top me rows _ 0 hs _ refl refl (fits, (alone, (low, (marked, rest)))))
        (λ _. read top me rows _ 0 hs _ refl refl (fits, (alone, (low, rest))))

    -- Line 6.
    pub search_from_6_lawful : Common → LawfulSearch (search_from_6 rows f)
    unfolding search_from_6 held_row
    search_from_6_lawful (fits, (alone, (low, rest))) =
        read top me rows _ 0 hs _ refl refl (fits, (alone, (low, (right_below fits low, rest))))

    pub search_lawful : (l : SearchLine) → AllHold top me (row_at rows) (facts (Search l f) hs) → LawfulSearch (search_line rows f l)
    unfolding search_line help_marked_1 held_row
    search_lawful SearchFrom1 known = search_from_1_lawful known
    search_lawful (SearchFrom3NextMark next) known = search_from_3_next_mark_lawful next known
    search_lawful (SearchFrom3CurrMark next) known = search_from_3_curr_mark_lawful next known
    search_lawful (SearchFrom3CurrRight next) known = search_from_3_curr_right_lawful next known
    search_lawful (SearchFrom4 next) known = search_from_4_lawful next known
    search_lawful (SearchFrom5HelpMarked1 next) (fits, (alone, (low, (marked, rest)))) =
        read top me rows _ 0 hs _ refl refl (fits, (alone, (low, (record { mark_set = marked; right_is = refl }, rest))))
    search_lawful (SearchFrom5HelpMarked2 next right) (fits, (alone, (low, (frozen, rest)))) =
        help_marked_lawful top me rows sound _ 0 hs f.curr next right frozen _ Keep tt refl (fits, (alone, (low, rest))) refl
    search_lawful SearchFrom6 known = search_from_6_lawful known
    search_lawful SearchFrom9 known = search_from_9_lawful known
