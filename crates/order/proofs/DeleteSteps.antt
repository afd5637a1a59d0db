-- The lines of Delete and TryFlag are lawful: the flag of line 4 is the one move among them, and claims the target.
use Rattle.std.specs.Prelude.{if◌then◌else◌, ℕ, suc, ◌<◌, Bool, ◌≡◌, List, [], eqb}
use Rattle.std.proofs.Math.Bool.{true, false}
use Rattle.std.proofs.Math.Path.{refl}
use Rattle.std.proofs.Common.{ap, sym, ◌∙◌, arith}
use Rattle.order.proofs.Structure.{Structure, flagged_for}
use Rattle.order.proofs.Moves.{flags, FlagMove}
use Rattle.order.proofs.Facts.{AtMost, Above, SaveOf, AllHold, facts, called_alone}
use Rattle.order.proofs.StableFacts.{save_survives}
use Rattle.order.proofs.Writes.{one_written, flag_written}
use Rattle.order.proofs.Lawful.{Lawful, claims, choose, read}
use Rattle.order.proofs.InsertSteps.{not_tail, back_low}
use Rattle.order.proofs.LineConditions.{has_key_lem, same_succ_lem}
use Rattle.kept.specs.Standing.{linked_inside}
use Rattle.model.specs.State.{row_at, succ_of}
use Rattle.model.proofs.Choices.{if_known}
use Rattle.model.specs.Order.{has_key}
use Rattle.model.specs.Cas.{same_succ, succ_at, with_succ, cas}
use Rattle.model.specs.Effects.{go_writing}
use Rattle.model.specs.Delete.{delete_2, delete_6, try_flag_2, try_flag_4, try_flag_5, try_flag_9, try_flag_10, try_flag_12, flag_line}
use Rattle.model.specs.Step.{written}
use Rattle.model.specs.WellFormed.{held_row, no_row_held}
use Rattle.model.specs.declared.Row.{Row}
use Rattle.model.specs.declared.Succ.{Succ}
use Rattle.model.specs.declared.Pending.{Pending}
use Rattle.model.specs.declared.Write.TheVariants.{NoRow, OneRow}
use Rattle.model.specs.declared.HelpCaller.TheVariants.{Delete6}
use Rattle.model.specs.declared.FlagFrame.{FlagFrame}
use Rattle.model.specs.declared.FlagLine.{FlagLine}
use Rattle.model.specs.declared.FlagLine.TheVariants.{TryFlag2, TryFlag4, TryFlag9, TryFlag10}
use Rattle.model.specs.declared.Line.TheVariants.{Flag}

module _ (top me : ℕ) (rows : List Row) (sound : Structure top (row_at rows)) (hs : List Pending) where
  -- Delete, lines 2 to 4.
  pub delete_2_lawful : (k prev del : ℕ) → suc k < top → hs ≡ [] → AtMost top (row_at rows) prev k → Above top (row_at rows) del k
      → Lawful top me rows no_row_held 0 hs (delete_2 rows k prev del)
  unfolding delete_2 held_row
  delete_2_lawful k prev del fits alone low high =
      if_known (Lawful top me rows no_row_held 0 hs) (has_key rows del k)
      (λ same. let found = (has_key_lem top rows del k fits).if_true same in
      read top me rows no_row_held 0 hs _ refl refl
      (fits, (alone, (low, (record { linked = high.linked; no_end = found.no_end; has_key = found.the_key }, tt)))))
      (λ _. read top me rows no_row_held 0 hs _ refl refl tt)

  -- TryFlag, lines 12 and 13.
  pub try_flag_12_lawful : (k prev del target : ℕ) → suc k < top → hs ≡ [] → AtMost top (row_at rows) prev k → SaveOf (row_at rows) target k
      → Lawful top me rows no_row_held 0 hs (try_flag_12 k prev del target)
  unfolding try_flag_12 held_row
  try_flag_12_lawful k prev del target fits alone low save =
      if_known (Lawful top me rows no_row_held 0 hs) (eqb del target)
      (λ _. read top me rows no_row_held 0 hs _ refl refl (fits, (alone, (low, (save, tt)))))
      (λ _. read top me rows no_row_held 0 hs _ refl refl tt)

  module _ (f : FlagFrame) where
    -- somebody has set the flag already
    found_flagged : suc f.key < top → hs ≡ [] → SaveOf (row_at rows) f.target f.key
        → same_succ (succ_at rows f.prev) (succ_of f.target false true) ≡ true
        → Lawful top me rows no_row_held 0 hs (go_writing NoRow (delete_6 f false))
    unfolding held_row
    found_flagged fits alone save same =
        let found = same_succ_lem (succ_at rows f.prev) (succ_of f.target false true) same in
        read top me rows no_row_held 0 hs _ refl refl (
          fits,
          (
            flagged_for (ap (λ (s : Succ). s.flag) found) (ap (λ (s : Succ). s.right) found),
            called_alone top me (row_at rows) f.key 0 (Delete6 f.target false) hs f.prev f.target alone (refl, (save, tt)),
          ),
        )

    -- Line 2.
    pub try_flag_2_lawful : AllHold top me (row_at rows) (facts (Flag TryFlag2 f) hs) → Lawful top me rows no_row_held 0 hs (try_flag_2 rows f)
    unfolding try_flag_2 held_row
    try_flag_2_lawful (fits, (alone, (low, (save, _)))) =
        if_known (Lawful top me rows no_row_held 0 hs) (same_succ (succ_at rows f.prev) (succ_of f.target false true))
        (λ same. found_flagged fits alone save same)
        (λ _. read top me rows no_row_held 0 hs _ refl refl (fits, (alone, (low, (save, tt)))))

    -- Line 4, with 5 to 8.
    pub try_flag_4_lawful : AllHold top me (row_at rows) (facts (Flag TryFlag4 f) hs) → Lawful top me rows no_row_held 0 hs (try_flag_4 rows f)
    unfolding try_flag_4 try_flag_5 cas held_row
    try_flag_4_lawful (fits, (alone, (low, (save, _)))) =
        choose
        (λ (b : Bool). Lawful top me rows no_row_held 0 hs (go_writing
        (if b then OneRow f.prev flagged_row else NoRow)
        (if b then delete_6 f true
        else if same_succ (succ_at rows f.prev) (succ_of f.target false true) then delete_6 f false
        else Flag TryFlag9 f)))
        (same_succ (succ_at rows f.prev) (succ_of f.target false false))
        (λ same. flagged (same_succ_lem _ _ same))
        (λ _. if_known (λ line. Lawful top me rows no_row_held 0 hs (go_writing NoRow line))
        (same_succ (succ_at rows f.prev) (succ_of f.target false true))
        (λ same. found_flagged fits alone save same)
        (λ _. read top me rows no_row_held 0 hs _ refl refl (fits, (alone, (low, (save, tt))))))
      where
        flagged_row : Row
        flagged_row = with_succ (row_at rows f.prev) (succ_of f.target false true)

        flagged : succ_at rows f.prev ≡ succ_of f.target false false
            → Lawful top me rows no_row_held 0 hs (go_writing (OneRow f.prev flagged_row) (delete_6 f true))
        flagged found = record {
          move = flags m;
          known = (
            fits,
            (
              flagged_for m.flag_prev (m.right= f.prev ∙ m.prev_right),
              called_alone top me _ f.key 0 (Delete6 f.target true) hs f.prev f.target alone
                  (refl, (save_survives {u = me} sound (flags m) f.target f.key save, tt)),
            ),
          );
          named = λ x named h. named (sym (m.standing= x) ∙ h);
          removal = claims m refl;
          pushable = tt;
        }
          where
            m : FlagMove (row_at rows) (row_at (written rows (OneRow f.prev flagged_row))) f.prev f.target
            m = flag_written found low.linked (not_tail top me rows sound hs f.prev f.key fits low)
                (λ e. omega (arith, save.no_end))
                (one_written rows f.prev flagged_row (linked_inside rows f.prev low.linked))

    -- Line 9.
    pub try_flag_9_lawful : AllHold top me (row_at rows) (facts (Flag TryFlag9 f) hs) → Lawful top me rows no_row_held 0 hs (try_flag_9 rows f)
    unfolding try_flag_9 held_row
    try_flag_9_lawful (fits, (alone, (low, (save, _)))) =
        if_known (Lawful top me rows no_row_held 0 hs) (succ_at rows f.prev).mark
        (λ marked. read top me rows no_row_held 0 hs _ refl refl (fits, (alone, (low, (save, (marked, tt))))))
        (λ _. read top me rows no_row_held 0 hs _ refl refl (fits, (alone, (low, (save, tt)))))

    -- Line 10.
    pub try_flag_10_lawful : AllHold top me (row_at rows) (facts (Flag TryFlag10 f) hs)
        → Lawful top me rows no_row_held 0 hs (try_flag_10 rows f)
    unfolding try_flag_10 held_row
    try_flag_10_lawful (fits, (alone, (low, (save, (marked, _))))) =
        read top me rows no_row_held 0 hs _ refl refl
        (fits, (alone, (back_low top me rows sound hs f.prev f.key low marked, (save, tt))))

    pub flag_lawful : (l : FlagLine) → AllHold top me (row_at rows) (facts (Flag l f) hs)
        → Lawful top me rows no_row_held 0 hs (flag_line rows f l)
    unfolding flag_line
    flag_lawful TryFlag2 known = try_flag_2_lawful known
    flag_lawful TryFlag4 known = try_flag_4_lawful known
    flag_lawful TryFlag9 known = try_flag_9_lawful known
    flag_lawful TryFlag10 known = try_flag_10_lawful known
