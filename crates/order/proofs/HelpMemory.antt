-- What the lines inside HelpFlagged remember for their caller; and the answers that are given where the outermost help returns: a delete
-- that set the flag has its row marked, and one that did not has found the key absent at a moment since its submit.
use Rattle.std.specs.Prelude.{ℕ, suc, ◌≤◌, true, false, ◌≡◌}
use Rattle.std.proofs.Math.Path.{refl}
use Rattle.std.proofs.Common.{ap, sym, ◌∙◌, subst, arith, eq-eqb, ne_eqb}
use Rattle.std.proofs.Math.Logic.{inl, inr}
use mathlib.Core.List.{List}
use Rattle.order.proofs.Table.{mark_of, tables_of}
use Rattle.order.proofs.Structure.{Structure}
use Rattle.order.proofs.Moves.{Move}
use Rattle.order.proofs.Stack.{Newest, nothing_pending, pending}
use Rattle.order.proofs.Facts.{SaveOf, AllHold, facts, help_caller_facts}
use Rattle.order.proofs.Timeline.{LacksWithin, lacks_since_marked}
use Rattle.order.proofs.Lawful.{removed_in_help}
use Rattle.order.proofs.Memory.{Tells, UnmarkedOrLacks, help_operation, help_caller_past, cas_links_none, is_removed, none_removed}
use Rattle.model.specs.State.{row_at}
use Rattle.model.proofs.Choices.{if_both}
use Rattle.model.specs.Cas.{flagged_only, succ_at}
use Rattle.model.specs.Effects.{go_writing}
use Rattle.model.specs.Delete.{delete_7}
use Rattle.model.specs.HelpMarked.{help_marked_1, help_marked_2}
use Rattle.model.specs.HelpFlagged.{help_flagged_1, help_flagged_2, help_flagged_4_help_marked_2, help_flagged_returns, try_mark_2, try_mark_3, try_mark_6, help_line}
use Rattle.model.specs.declared.Row.{Row}
use Rattle.model.specs.declared.Pending.{Pending}
use Rattle.model.specs.declared.Effect.{Effect}
use Rattle.model.specs.declared.HelpCaller.{HelpCaller}
use Rattle.model.specs.declared.HelpCaller.TheVariants.{Insert8, Insert16, Delete6}
use Rattle.model.specs.declared.HelpFrame.{HelpFrame}
use Rattle.model.specs.declared.HelpLine.{HelpLine}
use Rattle.model.specs.declared.HelpLine.TheVariants.{HelpFlagged1, HelpFlagged2, TryMark2, TryMark3, TryMark6, HelpMarked1, HelpMarked2}
use Rattle.model.specs.declared.Line.TheVariants.{Help}

module _ (top : ℕ) (rows_at : ℕ → List Row) (who : ℕ → ℕ) (sound : (i : ℕ) → Structure top (row_at (rows_at i)))
    (move : (i : ℕ) → Move top (who i) (row_at (rows_at i)) (row_at (rows_at (suc i)))) (t u : ℕ) (since : t ≤ u) (me : ℕ) where
  -- the target is marked now
  target_gone : (k target : ℕ) → SaveOf (row_at (rows_at u)) target k → mark_of (row_at (rows_at u)) target ≡ true
      → UnmarkedOrLacks (tables_of rows_at) t u k target → LacksWithin (tables_of rows_at) t u k
  target_gone k target save marked (inr lacks) = lacks
  target_gone k target save marked (inl unmarked) =
      lacks_since_marked (tables_of rows_at) who sound move t u target k since unmarked marked save.has_key

  -- The outermost help of del, which is marked, returns to its caller.
  returns_tell : (k e prev del right : ℕ) (caller : HelpCaller) → mark_of (row_at (rows_at u)) del ≡ true
      → AllHold top me (row_at (rows_at u)) (help_caller_facts k e del caller) → help_caller_past (tables_of rows_at) t u k caller
      → Tells me rows_at t u (help_operation k e caller) (removed_in_help caller)
      (go_writing (help_marked_2 (rows_at u) prev del right) (help_flagged_returns (rows_at u) k e caller))
  unfolding help_flagged_returns delete_7 help_marked_2
  returns_tell k e prev del right (Insert8 row new) marked known past = record {
    next = record { operation_same = refl; past = (past, tt, tt); removed_same = inl refl };
    linking = inl (cas_links_none (rows_at u) prev _ _);
  }
  returns_tell k e prev del right (Insert16 row new) marked known past = record {
    next = record { operation_same = refl; past = past; removed_same = inl refl };
    linking = inl (cas_links_none (rows_at u) prev _ _);
  }
  returns_tell k e prev del right (Delete6 target true) marked (same, (save, _)) past = record {
    next = is_removed (record {
      some_row = λ e. omega (arith, save.no_end);
      marked = cc;
      has_element = refl;
    });
    linking = inl (cas_links_none (rows_at u) prev _ _);
  }
  returns_tell k e prev del right (Delete6 target false) marked (same, (save, _)) past = record {
    next = none_removed refl (target_gone k target save (ap (mark_of (row_at (rows_at u))) (sym same) ∙ marked) past);
    linking = inl (cas_links_none (rows_at u) prev _ _);
  }

  module _ (f : HelpFrame) (past : help_caller_past (tables_of rows_at) t u f.key f.caller) where
    abbrev TellsHelp : Effect → Type 0
    TellsHelp e = Tells me rows_at t u (help_operation f.key f.element f.caller) (removed_in_help f.caller) e

    -- HelpFlagged, line 4: the second access of its HelpMarked, and the return.
    help_marked_2_tells : (count : ℕ) (last : Pending) (hs : List Pending) (right : ℕ) → Newest count last hs
        → AllHold top me (row_at (rows_at u)) (facts (Help (HelpMarked2 right) f) hs)
        → TellsHelp (help_flagged_4_help_marked_2 (rows_at u) count last f right)
    unfolding help_flagged_4_help_marked_2 help_marked_2
    help_marked_2_tells count last hs right (pending some newest) known = rw (ne_eqb count 0 some) (record {
      next = record { operation_same = refl; past = past; removed_same = inr refl };
      linking = inl (cas_links_none (rows_at u) f.prev _ _);
    })
    help_marked_2_tells count last hs right (nothing_pending none empty) known =
        rw (eq-eqb count 0 none)
        ((subst (λ (s : List Pending). AllHold top me (row_at (rows_at u)) (facts (Help (HelpMarked2 right) f) s)
        → TellsHelp (go_writing (help_marked_2 (rows_at u) f.prev f.del right)
        (help_flagged_returns (rows_at u) f.key f.element f.caller)))
        (sym empty)
        (λ (fits, (helping, (frozen, rest))).
        returns_tell f.key f.element f.prev f.del right f.caller frozen.mark_set rest past))
        known)

    pub help_tells : (l : HelpLine) (count : ℕ) (last : Pending) (hs : List Pending) → Newest count last hs
        → AllHold top me (row_at (rows_at u)) (facts (Help l f) hs) → TellsHelp (help_line (rows_at u) count last f l)
    unfolding help_line help_flagged_1 help_flagged_2 try_mark_2 try_mark_3 try_mark_6 help_marked_1
    help_tells HelpFlagged1 count last hs newest known =
        record { next = record { operation_same = refl; past = past; removed_same = inr refl }; linking = inl (λ h. h) }
    help_tells HelpFlagged2 count last hs newest known =
        if_both TellsHelp (succ_at (rows_at u) f.del).mark
        (record { next = record { operation_same = refl; past = past; removed_same = inr refl }; linking = inl tt })
        (record { next = record { operation_same = refl; past = past; removed_same = inr refl }; linking = inl tt })
    help_tells TryMark2 count last hs newest known =
        record { next = record { operation_same = refl; past = past; removed_same = inr refl }; linking = inl tt }
    help_tells (TryMark3 right) count last hs newest known =
        if_both TellsHelp (flagged_only (succ_at (rows_at u) f.del))
        (record {
          next = record { operation_same = refl; past = past; removed_same = inr refl };
          linking = inl (cas_links_none (rows_at u) f.del _ _);
        })
        (record {
          next = record { operation_same = refl; past = past; removed_same = inr refl };
          linking = inl (cas_links_none (rows_at u) f.del _ _);
        })
    help_tells TryMark6 count last hs newest known =
        if_both TellsHelp (succ_at (rows_at u) f.del).mark
        (record { next = record { operation_same = refl; past = past; removed_same = inr refl }; linking = inl tt })
        (record { next = record { operation_same = refl; past = past; removed_same = inr refl }; linking = inl tt })
    help_tells HelpMarked1 count last hs newest known =
        record { next = record { operation_same = refl; past = past; removed_same = inr refl }; linking = inl tt }
    help_tells (HelpMarked2 right) count last hs newest known = help_marked_2_tells count last hs right newest known
