-- The lines inside HelpFlagged are lawful: the backlink, the mark and the swing are moves, and a pending help is one that has to be given.
use Rattle.std.specs.Prelude.{ℕ, suc, ◌<◌, true}
use Rattle.std.proofs.Math.Bool.{false}
use Rattle.std.proofs.Math.Path.{refl}
use Rattle.std.proofs.Common.{ap, sym, ◌∙◌, subst, arith, eq-eqb, ne_eqb}
use mathlib.Core.List.{List, [], ◌∷◌}
use Rattle.order.proofs.Structure.{Structure, flagged_for}
use Rattle.order.proofs.StructureFacts.{help_del_linked}
use Rattle.order.proofs.Moves.{BacklinkMove}
use Rattle.order.proofs.Stack.{Newest, nothing_pending, pending}
use Rattle.order.proofs.Facts.{Helping, Frozen, AllHold, facts, help_caller_facts, pending_facts}
use Rattle.order.proofs.StableFacts.{help_survives, facts_survive}
use Rattle.order.proofs.Writes.{one_written, mark_written, backlink_written}
use Rattle.order.proofs.Lawful.{Lawful, removed_in_help, goes_on, SharedMove, chained, read, read_stacking, shared, mark_shared, backlink_shared}
use Rattle.order.proofs.HelpMarkedSteps.{help_marked_lawful, help_ends_lawful}
use Rattle.order.proofs.LineConditions.{same_succ_lem, flagged_only_lem}
use Rattle.order.proofs.Table.{Table}
use Rattle.kept.specs.Conditions.{clash}
use Rattle.kept.specs.Standing.{linked_inside}
use Rattle.model.specs.State.{row_at, succ_of}
use Rattle.model.proofs.Choices.{if_known}
use Rattle.model.specs.Cas.{same_succ, flagged_only, succ_at, cas}
use Rattle.model.specs.Effects.{go_writing, call_help_flagged}
use Rattle.model.specs.Delete.{delete_7}
use Rattle.model.specs.HelpMarked.{help_marked_1, help_marked_2}
use Rattle.model.specs.HelpFlagged.{with_backlink, help_flagged_1, help_flagged_2, help_flagged_4_help_marked_2, help_flagged_returns, try_mark_2, try_mark_3, try_mark_6, help_line}
use Rattle.model.specs.Step.{written}
use Rattle.model.specs.WellFormed.{held_row, held_in_help}
use Rattle.model.specs.declared.Row.{Row}
use Rattle.model.specs.declared.Succ.{Succ}
use Rattle.model.specs.declared.Pending.{Pending}
use Rattle.model.specs.declared.Effect.{Effect}
use Rattle.model.specs.declared.Write.{Write}
use Rattle.model.specs.declared.Write.TheVariants.{NoRow, OneRow}
use Rattle.model.specs.declared.Stack.TheVariants.{Keep, Push, Pop}
use Rattle.model.specs.declared.HelpCaller.{HelpCaller}
use Rattle.model.specs.declared.HelpCaller.TheVariants.{Insert8, Insert16, Delete6}
use Rattle.model.specs.declared.HelpFrame.{HelpFrame}
use Rattle.model.specs.declared.HelpLine.{HelpLine}
use Rattle.model.specs.declared.HelpLine.TheVariants.{HelpFlagged1, HelpFlagged2, TryMark2, TryMark3, TryMark6, HelpMarked1, HelpMarked2}
use Rattle.model.specs.declared.Line.TheVariants.{Help}

module _ (top me : ℕ) (rows : List Row) (sound : Structure top (row_at rows)) where
  -- what a line of the help f is asked, over the pending helps hs
  abbrev LawfulHelp : HelpFrame → List Pending → Effect → Type 0
  LawfulHelp f hs e = Lawful top me rows (held_in_help f.caller) (removed_in_help f.caller) hs e

  module _ (f : HelpFrame) (hs : List Pending) where
    -- HelpFlagged, line 1.
    pub help_flagged_1_lawful : AllHold top me (row_at rows) (facts (Help HelpFlagged1 f) hs) → LawfulHelp f hs (help_flagged_1 rows f)
    unfolding help_flagged_1 held_row
    help_flagged_1_lawful (fits, (help, rest)) = record {
      move = s.move;
      known = (
        fits,
        (
          record { back_is = m.back_del; help = help_survives sound s.move f.prev f.del help },
          facts_survive top me sound s.move s.leaves_held (pending_facts f.key f.element f.caller hs f.prev f.del) rest,
        ),
      );
      named = λ x named h. named (sym (s.standing= x) ∙ h);
      removal = goes_on refl s.no_new_flag;
      pushable = tt;
    }
      where
        after : Table
        after = row_at (written rows (OneRow f.del (with_backlink (row_at rows f.del) f.prev)))

        m : BacklinkMove (row_at rows) after f.prev f.del
        m = backlink_written help
            (one_written rows f.del _ (linked_inside rows f.del (help_del_linked sound f.prev f.del help)))

        s : SharedMove top me (row_at rows) after
        s = backlink_shared me sound m

    -- HelpFlagged, lines 2 to 4.
    pub help_flagged_2_lawful : AllHold top me (row_at rows) (facts (Help HelpFlagged2 f) hs) → LawfulHelp f hs (help_flagged_2 rows f)
    unfolding help_flagged_2 held_row
    help_flagged_2_lawful (fits, (helping, rest)) =
        if_known (LawfulHelp f hs) (succ_at rows f.del).mark
        (λ marked. read top me rows _ _ hs _ refl refl (fits, (helping, (marked, rest))))
        (λ _. read top me rows _ _ hs _ refl refl (fits, (helping, rest)))

    -- TryMark, line 2.
    pub try_mark_2_lawful : AllHold top me (row_at rows) (facts (Help TryMark2 f) hs) → LawfulHelp f hs (try_mark_2 rows f)
    unfolding try_mark_2 held_row
    try_mark_2_lawful known = read top me rows _ _ hs _ refl refl known

    -- TryMark, lines 3 to 5.
    pub try_mark_3_lawful : (right : ℕ) → AllHold top me (row_at rows) (facts (Help (TryMark3 right) f) hs)
        → LawfulHelp f hs (try_mark_3 rows f right)
    unfolding try_mark_3 cas held_row
    try_mark_3_lawful right (fits, (helping, rest)) =
        if_known (LawfulHelp f hs) (flagged_only (succ_at rows f.del))
        (λ flagged. if_known
        (λ (w : Write). LawfulHelp f hs (record {
          line = call_help_flagged f.key f.element f.del (succ_at rows f.del).right f.caller;
          write = w;
          stack = Push (record { prev = f.prev; del = f.del });
        }))
        (same_succ (succ_at rows f.del) (succ_of right false false))
        (λ same. absurd (clash (flagged_only_lem (succ_at rows f.del) flagged)
        (ap (λ (s : Succ). s.flag) (same_succ_lem (succ_at rows f.del) (succ_of right false false) same))))
        (λ _. read_stacking top me rows _ _ hs _ (Push (record { prev = f.prev; del = f.del })) (
          flagged_only_lem (succ_at rows f.del) flagged,
          (refl, helping, chained top me (row_at rows) f.key f.element f.caller hs f.prev f.del rest),
        )
        refl refl
        (fits, (flagged_for (flagged_only_lem (succ_at rows f.del) flagged) refl, (refl, (helping, rest))))))
        (λ _. if_known (λ (w : Write). LawfulHelp f hs (go_writing w (Help TryMark6 f)))
        (same_succ (succ_at rows f.del) (succ_of right false false))
        (λ same. shared top me rows _ _ hs _ sound (mark_shared me sound (mark_written (same_succ_lem (succ_at rows f.del) _ same) helping
        (one_written rows f.del _ (linked_inside rows f.del (help_del_linked sound f.prev f.del helping.help)))))
        tt refl refl (fits, (helping, rest)))
        (λ _. read top me rows _ _ hs _ refl refl (fits, (helping, rest))))

    -- TryMark, line 6.
    pub try_mark_6_lawful : AllHold top me (row_at rows) (facts (Help TryMark6 f) hs) → LawfulHelp f hs (try_mark_6 rows f)
    unfolding try_mark_6 held_row
    try_mark_6_lawful (fits, (helping, rest)) =
        if_known (LawfulHelp f hs) (succ_at rows f.del).mark
        (λ marked. read top me rows _ _ hs _ refl refl (fits, (helping, (marked, rest))))
        (λ _. read top me rows _ _ hs _ refl refl (fits, (helping, rest)))

    -- HelpFlagged, line 4: the first access of its HelpMarked.
    pub help_marked_1_lawful : AllHold top me (row_at rows) (facts (Help HelpMarked1 f) hs)
        → LawfulHelp f hs (go_writing NoRow (Help (HelpMarked2 (help_marked_1 rows f.del)) f))
    unfolding help_marked_1 held_row
    help_marked_1_lawful (fits, (helping, (marked, rest))) =
        read top me rows _ _ hs _ refl refl (fits, (helping, (record { mark_set = marked; right_is = refl }, rest)))

  -- The outermost help returns to its caller. A delete that set the flag has removed its row.
  returns_lawful : (key element prev del right : ℕ) (caller : HelpCaller) → suc key < top → Helping (row_at rows) prev del
      → Frozen (row_at rows) del right
      → AllHold top me (row_at rows) (help_caller_facts key element del caller)
      → Lawful top me rows (held_in_help caller) (removed_in_help caller) []
      (go_writing (help_marked_2 rows prev del right) (help_flagged_returns rows key element caller))
  unfolding help_flagged_returns delete_7 held_row
  returns_lawful key element prev del right (Insert8 row new) fits helping frozen (low, (holding, _)) =
      help_marked_lawful top me rows sound _ _ [] prev del right frozen _ Keep tt refl
      (fits, (refl, (record { linked = low.linked; low = omega (arith, low.low) }, (holding, tt)))) refl
  returns_lawful key element prev del right (Insert16 row new) fits helping frozen (low, (holding, _)) =
      help_marked_lawful top me rows sound _ _ [] prev del right frozen _ Keep tt refl (fits, (refl, (low, (holding, tt)))) refl
  returns_lawful key element prev del right (Delete6 target true) fits helping frozen (same, _) =
      help_ends_lawful top me rows sound _ _ [] prev del right frozen _ Keep tt refl tt helping (sym same) refl
  returns_lawful key element prev del right (Delete6 target false) fits helping frozen known =
      help_marked_lawful top me rows sound _ _ [] prev del right frozen _ Keep tt refl tt refl

  -- HelpFlagged, line 4: the second access of its HelpMarked, and the return.
  pub help_flagged_4_help_marked_2_lawful : (f : HelpFrame) (count : ℕ) (last : Pending) (hs : List Pending) (right : ℕ)
      → Newest count last hs
      → AllHold top me (row_at rows) (facts (Help (HelpMarked2 right) f) hs)
      → LawfulHelp f hs (help_flagged_4_help_marked_2 rows count last f right)
  unfolding help_flagged_4_help_marked_2 held_row
  help_flagged_4_help_marked_2_lawful f count last hs right (nothing_pending none empty) known =
      rw (eq-eqb count 0 none)
      (subst (λ (s : List Pending). AllHold top me (row_at rows) (facts (Help (HelpMarked2 right) f) s)
      → LawfulHelp f s (go_writing (help_marked_2 rows f.prev f.del right) (help_flagged_returns rows f.key f.element f.caller)))
      (sym empty)
      (λ (fits, (helping, (frozen, rest))).
      returns_lawful f.key f.element f.prev f.del right f.caller fits helping frozen rest)
      known)
  help_flagged_4_help_marked_2_lawful f count last hs right (pending {rest = rest} some newest) known =
      rw (ne_eqb count 0 some)
      (subst (λ (s : List Pending). AllHold top me (row_at rows) (facts (Help (HelpMarked2 right) f) s)
      → LawfulHelp f s (record {
        line = Help TryMark6 (record { key = f.key; element = f.element; prev = last.prev; del = last.del; caller = f.caller });
        write = help_marked_2 rows f.prev f.del right;
        stack = Pop;
      }))
      (sym newest)
      (λ (fits, (helping, (frozen, (_, (waiting, below))))).
      help_marked_lawful top me rows sound _ _ (last ∷ rest) f.prev f.del right frozen _ Pop tt refl (fits, (waiting, below)) refl)
      known)

  pub help_lawful : (l : HelpLine) (f : HelpFrame) (count : ℕ) (last : Pending) (hs : List Pending) → Newest count last hs
      → AllHold top me (row_at rows) (facts (Help l f) hs) → LawfulHelp f hs (help_line rows count last f l)
  unfolding help_line
  help_lawful HelpFlagged1 f count last hs newest known = help_flagged_1_lawful f hs known
  help_lawful HelpFlagged2 f count last hs newest known = help_flagged_2_lawful f hs known
  help_lawful TryMark2 f count last hs newest known = try_mark_2_lawful f hs known
  help_lawful (TryMark3 right) f count last hs newest known = try_mark_3_lawful f hs right known
  help_lawful TryMark6 f count last hs newest known = try_mark_6_lawful f hs known
  help_lawful HelpMarked1 f count last hs newest known = help_marked_1_lawful f hs known
  help_lawful (HelpMarked2 right) f count last hs newest known = help_flagged_4_help_marked_2_lawful f count last hs right newest known
