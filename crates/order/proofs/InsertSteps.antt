-- Insert's lines are lawful: each is a move or a read, and leaves the facts of the next line.
use Prim.Native.Nat.{ℕ, suc, ◌<◌}
use Rattle.std.specs.Prelude.{true, ◌≡◌, ◌≢◌, ◌⊎◌, List, [], length, set, ltb}
use Rattle.std.proofs.Math.Bool.{false}
use Rattle.std.proofs.Math.Path.{refl, ap}
use Rattle.std.proofs.Common.{sym, ◌∙◌, inl, inr, arith, get_or-set_other, ltb-true}
use Rattle.std.proofs.Math.Decide.{ℕ_discrete}
use Rattle.order.proofs.Table.{Table, mark_of, back_of, standing_of, rank_of}
use Rattle.order.proofs.Structure.{Structure, flagged_for}
use Rattle.order.proofs.StructureFacts.{save_rank, marked_not_head, tail_rank}
use Rattle.order.proofs.Moves.{Move, links, private, LinkMove, PrivateMove}
use Rattle.order.proofs.Facts.{AtMost, Above, Holding, AllHold, facts, called_alone}
use Rattle.order.proofs.StableFacts.{at_most_survives, above_survives, help_survives}
use Rattle.order.proofs.Writes.{OneWritten, TwoWritten, one_written, two_written, private_written, link_written}
use Rattle.order.proofs.Lawful.{Lawful, removed_row, goes_on, read, private_no_new_flag}
use Rattle.order.proofs.LineConditions.{has_key_lem, same_succ_lem, flagged_only_lem}
use Rattle.kept.specs.Conditions.{contradiction}
use Rattle.kept.specs.Standing.{held_not_linked, linked_inside, held_inside}
use Rattle.kept.specs.FreeRows.{lowest_is_free}
use Rattle.model.specs.State.{row_at, free_row, succ_of}
use Rattle.model.proofs.Choices.{if_known}
use Rattle.model.specs.Order.{has_key}
use Rattle.model.specs.Cas.{same_succ, flagged_only, succ_at, with_succ}
use Rattle.model.specs.Effects.{go_writing}
use Rattle.model.specs.Insert.{insert_2, insert_20, lowest_free, insert_4, insert_6, insert_15, insert_10_11, linked_row, insert_17, insert_18, insert_line}
use Rattle.model.specs.Step.{written}
use Rattle.model.specs.WellFormed.{held_row, held_in_insert, no_row_held}
use Rattle.model.specs.declared.Row.{Row}
use Rattle.model.specs.declared.Pending.{Pending}
use Rattle.model.specs.declared.Standing.TheVariants.{Free, Held}
use Rattle.model.specs.declared.Answer.TheVariants.{Added, Duplicate}
use Rattle.model.specs.declared.Write.TheVariants.{OneRow, TwoRows}
use Rattle.model.specs.declared.HelpCaller.TheVariants.{Insert8, Insert16}
use Rattle.model.specs.declared.InsertFrame.{InsertFrame}
use Rattle.model.specs.declared.InsertLine.{InsertLine}
use Rattle.model.specs.declared.InsertLine.TheVariants.{Insert4, Insert6, Insert11, Insert17, Insert18}
use Rattle.model.specs.declared.Line.{Line}
use Rattle.model.specs.declared.Line.TheVariants.{Idle, Insert}

module _ (top me : ℕ) (rows : List Row) (sound : Structure top (row_at rows)) (hs : List Pending) where
  -- a row that has not the key is below it
  lower : (x k : ℕ) → suc k < top → AtMost top (row_at rows) x (suc k) → has_key rows x k ≡ false → AtMost top (row_at rows) x k
  lower x k fits h no_key =
      let differ : rank_of top (row_at rows) x ≢ suc k = (has_key_lem top rows x k fits).if_false no_key in
      record { linked = h.linked; low = omega (arith, h.low) }

  -- a held row is a save
  held_rank : (new k e : ℕ) → Holding me (row_at rows) new k e → rank_of top (row_at rows) new ≡ suc k
  held_rank new k e h =
      save_rank top new (row_at rows new).key
      (λ q. held_not_linked h.held (cc sound.head.linked))
      (λ q. held_not_linked h.held (cc sound.tail.linked))
      ∙ ap suc h.has_key

  pub not_tail : (x k : ℕ) → suc k < top → AtMost top (row_at rows) x k → x ≢ 1
  not_tail x k fits h e = omega (arith, h.low, ap (rank_of top (row_at rows)) e, tail_rank top (row_at rows))

  -- Lines 2 and 3.
  pub insert_2_lawful : (k e prev next : ℕ) → suc k < top → hs ≡ [] → AtMost top (row_at rows) prev (suc k)
      → Above top (row_at rows) next (suc k)
      → Lawful top me rows no_row_held 0 hs (insert_2 rows k e prev next)
  unfolding insert_2 held_row
  insert_2_lawful k e prev next fits alone low high =
      if_known (Lawful top me rows no_row_held 0 hs) (has_key rows prev k)
      (λ _. read top me rows no_row_held 0 hs _ refl refl tt)
      (λ no_key. read top me rows no_row_held 0 hs _ refl refl (fits, (alone, (lower prev k fits low no_key, (high, tt)))))

  -- Lines 4, 10 and 20 write a row that is free or held by the worker, and leave it so.
  privately : (held new : ℕ) (r : Row) (line : Line) → (standing_of (row_at rows) new ≡ Free) ⊎ (standing_of (row_at rows) new ≡ Held me)
      → (r.standing ≡ Free) ⊎ (r.standing ≡ Held me) → r.succ.flag ≡ false → r.succ.mark ≡ false → new < length rows
      → (r.standing ≡ Held me → held_row line ≡ new)
      → ((x : ℕ) → x ≢ new → standing_of (row_at rows) x ≡ Held me → held ≡ x → held_row line ≡ x)
      → removed_row line ≡ 0
      → (OneWritten (row_at rows) (row_at (written rows (OneRow new r))) new r
      → Move top me (row_at rows) (row_at (written rows (OneRow new r)))
      → AllHold top me (row_at (written rows (OneRow new r))) (facts line hs))
      → Lawful top me rows held 0 hs (go_writing (OneRow new r) line)
  privately held new r line before after unflagged unmarked size names_new names_other removes_none known = record {
    move = private m;
    known = known put (private m);
    named = λ x named h. elim (ℕ_discrete x new) [
      | yes e ↦ names_new (ap (λ (s : Row). s.standing) (sym put.here) ∙ ap (λ (y : ℕ). standing_of R' y) (sym e) ∙ h) ∙ sym e
      | no e ↦ let was = ap (λ (s : Row). s.standing) (sym (put.other x e)) ∙ h in names_other x e was (named was)
    ];
    removal = goes_on removes_none (private_no_new_flag m);
    pushable = tt;
  }
    where
      R' : Table
      R' = row_at (written rows (OneRow new r))

      put : OneWritten (row_at rows) (row_at (written rows (OneRow new r))) new r
      put = one_written rows new r size

      m : PrivateMove me (row_at rows) (row_at (written rows (OneRow new r))) new
      m = private_written before after unflagged unmarked put

  -- Lines 20 to 22.
  pub insert_20_lawful : (k e prev next new : ℕ) → suc k < top → hs ≡ [] → AtMost top (row_at rows) prev (suc k)
      → Above top (row_at rows) next (suc k) → Holding me (row_at rows) new k e
      → Lawful top me rows new 0 hs (insert_20 rows k e prev next new)
  unfolding insert_20 held_row
  insert_20_lawful k e prev next new fits alone low high holding =
      if_known (Lawful top me rows new 0 hs) (has_key rows prev k)
      (λ _. privately new new free_row (Idle Duplicate) (inr holding.held) (inl refl) refl refl (held_inside rows new me holding.held)
      (λ h. contradiction (cc))
      (λ x e h same. absurd (e (sym same)))
      refl (λ put m. tt))
      (λ no_key. read top me rows new 0 hs _ refl refl (fits, (alone, (lower prev k fits low no_key, (high, (holding, tt))))))

  -- Line 4.
  pub insert_4_lawful : (f : InsertFrame) (next : ℕ) → length rows ≡ 128 → AllHold top me (row_at rows) (facts (Insert (Insert4 next) f) hs)
      → Lawful top me rows no_row_held 0 hs (insert_4 rows me f next)
  unfolding insert_4 held_row
  insert_4_lawful f next size (fits, (alone, (low, (high, _)))) =
      if_known (Lawful top me rows no_row_held 0 hs) (ltb (lowest_free rows) 128)
      (λ some_free. taken (lowest_is_free rows some_free) (ltb-true _ _ some_free))
      (λ _. read top me rows no_row_held 0 hs _ refl refl tt)
    where
      taken : standing_of (row_at rows) (lowest_free rows) ≡ Free → lowest_free rows < 128
          → let row : Row =
          record { key = f.key; element = f.element; backlink = 0; succ = succ_of 0 false false; standing = Held me } in
          Lawful top me rows no_row_held 0 hs (go_writing (OneRow (lowest_free rows) row) (Insert (Insert6 next (lowest_free rows)) f))
      taken free small =
          privately no_row_held (lowest_free rows) _ (Insert (Insert6 next (lowest_free rows)) f) (inl free) (inr refl) refl refl (omega arith)
          (λ _. refl)
          (λ x e h same. absurd (omega (arith, same, held_inside rows x me h)))
          refl
          (λ put m. (
            fits,
            (
              alone,
              (
                at_most_survives sound m f.prev f.key low,
                (
                  above_survives sound m next (suc f.key) high,
                  (
                    record {
                      held = ap (λ (r : Row). r.standing) put.here;
                      has_key = ap (λ (r : Row). r.key) put.here;
                      has_element = ap (λ (r : Row). r.element) put.here;
                      back_zero = ap (λ (r : Row). r.backlink) put.here;
                      unmarked = ap (λ (r : Row). r.succ.mark) put.here;
                      unflagged = ap (λ (r : Row). r.succ.flag) put.here;
                    },
                    tt,
                  ),
                ),
              ),
            ),
          ))

  -- Line 6.
  pub insert_6_lawful : (f : InsertFrame) (next new : ℕ) → AllHold top me (row_at rows) (facts (Insert (Insert6 next new) f) hs)
      → Lawful top me rows new 0 hs (insert_6 rows f next new)
  unfolding insert_6 held_row
  insert_6_lawful f next new (fits, (alone, (low, (high, (holding, _))))) =
      if_known (Lawful top me rows new 0 hs) (succ_at rows f.prev).flag
      (λ flagged. read top me rows new 0 hs _ refl refl (
        fits,
        (
          flagged_for flagged refl,
          called_alone top me (row_at rows) f.key f.element (Insert8 f.prev new) hs f.prev _ alone (low, (holding, tt)),
        ),
      ))
      (λ _. read top me rows new 0 hs _ refl refl (fits, (alone, (low, (high, (holding, tt))))))

  -- Lines 10 and 11, with 12, 13, 15 and 16.
  pub insert_10_11_lawful : (f : InsertFrame) (next new : ℕ) → AllHold top me (row_at rows) (facts (Insert (Insert11 next new) f) hs)
      → Lawful top me rows new 0 hs (insert_10_11 rows f next new)
  unfolding insert_10_11 insert_15 held_row
  insert_10_11_lawful f next new (fits, (alone, (low, (high, (holding, _))))) =
      if_known (Lawful top me rows new 0 hs) (same_succ (succ_at (set rows new stored) prev) (succ_of next false false))
      (λ same. linked_in (sym (ap (λ (r : Row). r.succ) (unstored stored)) ∙ same_succ_lem _ _ same))
      (λ _.
      if_known (λ (line : Line). Lawful top me rows new 0 hs (go_writing (OneRow new stored) line))
      (flagged_only (succ_at (set rows new stored) prev))
      (λ flagged. prepared _ refl refl (λ put m. (
        fits,
        (
          help_survives sound m prev _ (flagged_for (ap (λ (r : Row). r.succ.flag) (sym (unstored stored)) ∙ flagged_only_lem _ flagged)
              (ap (λ (r : Row). r.succ.right) (sym (unstored stored)))),
          called_alone top me _ f.key f.element (Insert16 prev new) hs prev _ alone
              (at_most_survives sound m prev f.key low, (still_holding put, tt)),
        ),
      )))
      (λ _. prepared _ refl refl (λ put m. (fits, (alone, (at_most_survives sound m prev f.key low, (still_holding put, tt)))))))
    where
      prev : ℕ
      prev = f.prev

      stored : Row
      stored = with_succ (row_at rows new) (succ_of next false false)

      -- prev is linked and new is held: the store of line 10 is not seen by the C&S of line 11
      differ : prev ≢ new
      differ e = held_not_linked holding.held (cc low.linked)

      unstored : (r : Row) → row_at (set rows new r) prev ≡ row_at rows prev
      unstored r = get_or-set_other rows new prev r free_row differ

      still_holding : {R' : Table} → OneWritten (row_at rows) R' new stored → Holding me R' new f.key f.element
      still_holding put = record {
        held = cc;
        has_key = cc;
        has_element = cc;
        back_zero = cc;
        unmarked = ap (λ (r : Row). r.succ.mark) put.here;
        unflagged = ap (λ (r : Row). r.succ.flag) put.here;
      }

      prepared : (line : Line) → held_row line ≡ new → removed_row line ≡ 0
          → (OneWritten (row_at rows) (row_at (written rows (OneRow new stored))) new stored
          → Move top me (row_at rows) (row_at (written rows (OneRow new stored)))
          → AllHold top me (row_at (written rows (OneRow new stored))) (facts line hs))
          → Lawful top me rows new 0 hs (go_writing (OneRow new stored) line)
      prepared line names removes known =
          privately new new stored line (inr holding.held) (inr holding.held) refl refl (held_inside rows new me holding.held)
          (λ _. names) (λ x e h same. absurd (e (sym same))) removes known

      linked_in : (row_at rows prev).succ ≡ succ_of next false false
          → Lawful top me rows new 0 hs (go_writing
          (TwoRows new (linked_row stored) prev (with_succ (row_at (set rows new (linked_row stored)) prev) (succ_of new false false)))
          (Idle Added))
      linked_in same = record {
        move = links m;
        known = tt;
        named = λ x named h. elim (ℕ_discrete x new) [
          | yes e ↦ absurd (held_not_linked h (ap (λ (y : ℕ). standing_of R' y) e ∙ m.new_linked))
          | no e ↦ absurd (e (sym (named (sym (m.standing_other x e) ∙ h))))
        ];
        removal = goes_on refl (λ x h. sym (m.flag= x) ∙ h);
        pushable = tt;
      }
        where
          row_linked : Row
          row_linked = linked_row stored

          before_swing : Row
          before_swing = row_at (set rows new row_linked) prev

          R' : Table
          R' = row_at (written rows (TwoRows new row_linked prev (with_succ before_swing (succ_of new false false))))

          put : TwoWritten (row_at rows) R' new row_linked prev (with_succ before_swing (succ_of new false false))
          put = two_written rows new row_linked prev _ (held_inside rows new me holding.held)
              (linked_inside rows prev low.linked) (λ e. differ (sym e))

          new_rank : rank_of top (row_at rows) new ≡ suc f.key
          new_rank = held_rank new f.key f.element holding

          m : LinkMove top me (row_at rows) R' prev new next
          m = link_written top same low.linked (not_tail prev f.key fits low) holding.held holding.unmarked holding.unflagged
              holding.back_zero (omega (arith, low.low, new_rank)) (omega (arith, high.high, new_rank))
              (record {
                first = put.first;
                second = cc (put.second, unstored row_linked);
                other = put.other;
              })

  -- Line 17.
  pub insert_17_lawful : (f : InsertFrame) (new : ℕ) → AllHold top me (row_at rows) (facts (Insert (Insert17 new) f) hs)
      → Lawful top me rows new 0 hs (insert_17 rows f new)
  unfolding insert_17 held_row
  insert_17_lawful f new (fits, (alone, (low, (holding, _)))) =
      if_known (Lawful top me rows new 0 hs) (succ_at rows f.prev).mark
      (λ marked. read top me rows new 0 hs _ refl refl (fits, (alone, (low, (marked, (holding, tt))))))
      (λ _. read top me rows new 0 hs _ refl refl
      (fits, (alone, (record { linked = low.linked; low = omega (arith, low.low) }, (holding, tt)))))

  -- a backlink leads down
  pub back_low : (x k : ℕ) → AtMost top (row_at rows) x k → mark_of (row_at rows) x ≡ true → AtMost top (row_at rows) (back_of (row_at rows) x) k
  back_low x k h marked = record {
    linked = sound.back_linked x h.linked;
    low = omega (arith, sound.back_below x h.linked (marked_not_head sound x marked), h.low);
  }

  -- Line 18.
  pub insert_18_lawful : (f : InsertFrame) (new : ℕ) → AllHold top me (row_at rows) (facts (Insert (Insert18 new) f) hs)
      → Lawful top me rows new 0 hs (insert_18 rows f new)
  unfolding insert_18 held_row
  insert_18_lawful f new (fits, (alone, (low, (marked, (holding, _))))) =
      read top me rows new 0 hs _ refl refl (fits, (alone, (back_low f.prev f.key low marked, (holding, tt))))

  pub insert_lawful : (l : InsertLine) (f : InsertFrame) → length rows ≡ 128 → AllHold top me (row_at rows) (facts (Insert l f) hs)
      → Lawful top me rows (held_in_insert l) 0 hs (insert_line rows me f l)
  unfolding insert_line
  insert_lawful (Insert4 next) f size known = insert_4_lawful f next size known
  insert_lawful (Insert6 next new) f size known = insert_6_lawful f next new known
  insert_lawful (Insert11 next new) f size known = insert_10_11_lawful f next new known
  insert_lawful (Insert17 new) f size known = insert_17_lawful f new known
  insert_lawful (Insert18 new) f size known = insert_18_lawful f new known
