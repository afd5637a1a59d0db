-- What the lines of Delete and TryFlag remember: prev was not marked when the delete was submitted, and the target was not marked then or
-- the key was absent at a moment since; so Absent was right at a moment since.
use Prim.Native.Nat.{ℕ, suc, ◌≤◌, ◌<◌}
use Rattle.std.specs.Prelude.{if◌then◌else◌, Bool, ◌≡◌, ◌≢◌, List, eqb}
use Rattle.std.proofs.Math.Bool.{true, false}
use Rattle.std.proofs.Math.Path.{refl}
use Rattle.std.proofs.Math.Logic.{inl}
use Rattle.std.proofs.Common.{inr, arith}
use Rattle.std.proofs.lemmas.Bool.{eqb-false}
use Rattle.order.proofs.Table.{mark_of, rank_of, tables_of}
use Rattle.order.proofs.Structure.{Structure}
use Rattle.order.proofs.Moves.{Move}
use Rattle.order.proofs.Facts.{AtMost, Above, SaveOf, AllHold, facts}
use Rattle.order.proofs.Timeline.{RegularWithin, LacksWithin, marked_within, lacks_within, unmarked_or_lacks, lacks_past_other}
use Rattle.order.proofs.Lawful.{choose}
use Rattle.order.specs.PlainMap.{delete}
use Rattle.order.proofs.Memory.{Tells, UnmarkedOrLacks, none_removed}
use Rattle.order.proofs.InsertMemory.{low_not_tail}
use Rattle.order.proofs.LineConditions.{has_key_lem}
use Rattle.model.specs.State.{row_at, succ_of}
use Rattle.model.proofs.Choices.{if_both, if_known}
use Rattle.model.specs.Order.{has_key}
use Rattle.model.specs.Cas.{same_succ, succ_at, with_succ, cas}
use Rattle.model.specs.Effects.{go_writing}
use Rattle.model.specs.Delete.{delete_2, delete_6, try_flag_2, try_flag_4, try_flag_5, try_flag_9, try_flag_10, try_flag_12, flag_line}
use Rattle.model.specs.declared.Row.{Row}
use Rattle.model.specs.declared.Pending.{Pending}
use Rattle.model.specs.declared.Write.TheVariants.{NoRow, OneRow}
use Rattle.model.specs.declared.FlagFrame.{FlagFrame}
use Rattle.model.specs.declared.FlagLine.{FlagLine}
use Rattle.model.specs.declared.FlagLine.TheVariants.{TryFlag2, TryFlag4, TryFlag9, TryFlag10}
use Rattle.model.specs.declared.Line.{Line}
use Rattle.model.specs.declared.Line.TheVariants.{Flag}

module _ (top : ℕ) (rows_at : ℕ → List Row) (who : ℕ → ℕ) (sound : (i : ℕ) → Structure top (row_at (rows_at i)))
    (move : (i : ℕ) → Move top (who i) (row_at (rows_at i)) (row_at (rows_at (suc i)))) (t u : ℕ) (since : t ≤ u) (me : ℕ) where
  -- Delete, lines 2 to 4.
  pub delete_2_tells : (k prev del : ℕ) → suc k < top → mark_of (row_at (rows_at t)) prev ≡ false
      → RegularWithin (tables_of rows_at) t u prev del → AtMost top (row_at (rows_at u)) prev k → Above top (row_at (rows_at u)) del k
      → Tells me rows_at t u (delete k) 0 (delete_2 (rows_at u) k prev del)
  unfolding delete_2
  delete_2_tells k prev del fits unmarked was low high =
      if_known (Tells me rows_at t u (delete k) 0) (has_key (rows_at u) del k)
      (λ same.
      let found = (has_key_lem top (rows_at u) del k fits).if_true same in
      record {
        next = record {
          operation_same = refl;
          past = (
            unmarked,
            unmarked_or_lacks (tables_of rows_at) who sound move t u prev del k was not_tail (omega (arith, low.low))
                found.no_end found.the_key,
          );
          removed_same = inl refl;
        };
        linking = inl tt;
      })
      (λ other.
      let differ : rank_of top (row_at (rows_at u)) del ≢ suc k = (has_key_lem top (rows_at u) del k fits).if_false other in
      record {
        next = none_removed refl (lacks_within (tables_of rows_at) who sound move t u prev del k was not_tail
            (omega (arith, low.low)) (omega (arith, high.high)));
        linking = inl tt;
      })
    where
      not_tail : prev ≢ 1
      not_tail = low_not_tail top (rows_at u) prev k k fits (omega arith) low

  -- TryFlag, lines 12 and 13.
  pub try_flag_12_tells : (k prev del target : ℕ) → suc k < top → mark_of (row_at (rows_at t)) prev ≡ false
      → RegularWithin (tables_of rows_at) t u prev del → AtMost top (row_at (rows_at u)) prev k → Above top (row_at (rows_at u)) del k
      → SaveOf (row_at (rows_at u)) target k → UnmarkedOrLacks (tables_of rows_at) t u k target
      → Tells me rows_at t u (delete k) 0 (try_flag_12 k prev del target)
  unfolding try_flag_12
  try_flag_12_tells k prev del target fits unmarked was low high save past =
      if_known (Tells me rows_at t u (delete k) 0) (eqb del target)
      (λ _. record { next = record { operation_same = refl; past = (unmarked, past); removed_same = inl refl }; linking = inl tt })
      (λ other. record { next = none_removed refl (absent (eqb-false del target other) past); linking = inl tt })
    where
      absent : del ≢ target → UnmarkedOrLacks (tables_of rows_at) t u k target → LacksWithin (tables_of rows_at) t u k
      absent other (inr lacks) = lacks
      absent other (inl h) =
          lacks_past_other (tables_of rows_at) who sound move t u prev del target k since was
          (low_not_tail top (rows_at u) prev k k fits (omega arith) low) (omega (arith, low.low)) (omega (arith, high.high)) other
          save.linked save.no_end save.has_key h

  module _ (hs : List Pending) (f : FlagFrame) (unmarked : mark_of (row_at (rows_at t)) f.prev ≡ false)
      (past : UnmarkedOrLacks (tables_of rows_at) t u f.key f.target) where
    -- Line 2.
    try_flag_2_tells : Tells me rows_at t u (delete f.key) 0 (try_flag_2 (rows_at u) f)
    unfolding try_flag_2
    try_flag_2_tells =
        if_both (Tells me rows_at t u (delete f.key) 0) (same_succ (succ_at (rows_at u) f.prev) (succ_of f.target false true))
        (record { next = record { operation_same = refl; past = past; removed_same = inl refl }; linking = inl tt })
        (record { next = record { operation_same = refl; past = (unmarked, past); removed_same = inl refl }; linking = inl tt })

    -- Line 4, with 5 to 8.
    try_flag_4_tells : Tells me rows_at t u (delete f.key) 0 (try_flag_4 (rows_at u) f)
    unfolding try_flag_4 try_flag_5 cas
    try_flag_4_tells =
        choose
        (λ (b : Bool). Tells me rows_at t u (delete f.key) 0 (go_writing
        (if b then OneRow f.prev (with_succ (row_at (rows_at u) f.prev) (succ_of f.target false true)) else NoRow)
        (if b then delete_6 f true
        else if same_succ (succ_at (rows_at u) f.prev) (succ_of f.target false true) then delete_6 f false
        else Flag TryFlag9 f)))
        (same_succ (succ_at (rows_at u) f.prev) (succ_of f.target false false))
        (λ _. record { next = record { operation_same = refl; past = tt; removed_same = inl refl }; linking = inl (λ h. h) })
        (λ _. if_both (λ (l : Line). Tells me rows_at t u (delete f.key) 0 (go_writing NoRow l))
        (same_succ (succ_at (rows_at u) f.prev) (succ_of f.target false true))
        (record { next = record { operation_same = refl; past = past; removed_same = inl refl }; linking = inl tt })
        (record { next = record { operation_same = refl; past = (unmarked, past); removed_same = inl refl }; linking = inl tt }))

    -- Line 9.
    try_flag_9_tells : Tells me rows_at t u (delete f.key) 0 (try_flag_9 (rows_at u) f)
    unfolding try_flag_9
    try_flag_9_tells =
        if_both (Tells me rows_at t u (delete f.key) 0) (succ_at (rows_at u) f.prev).mark
        (record { next = record { operation_same = refl; past = (unmarked, past); removed_same = inl refl }; linking = inl tt })
        (record { next = record { operation_same = refl; past = (unmarked, tt, past); removed_same = inl refl }; linking = inl tt })

    -- Line 10.
    try_flag_10_tells : mark_of (row_at (rows_at u)) f.prev ≡ true → Tells me rows_at t u (delete f.key) 0 (try_flag_10 (rows_at u) f)
    unfolding try_flag_10
    try_flag_10_tells marked = record {
      next = record {
        operation_same = refl;
        past = ((marked_within (tables_of rows_at) who sound move t u f.prev since unmarked marked).back_unmarked, past);
        removed_same = inl refl;
      };
      linking = inl tt;
    }

  pub flag_tells : (hs : List Pending) (f : FlagFrame) (l : FlagLine) → AllHold top me (row_at (rows_at u)) (facts (Flag l f) hs)
      → mark_of (row_at (rows_at t)) f.prev ≡ false → UnmarkedOrLacks (tables_of rows_at) t u f.key f.target
      → Tells me rows_at t u (delete f.key) 0 (flag_line (rows_at u) f l)
  unfolding flag_line
  flag_tells hs f TryFlag2 known unmarked past = try_flag_2_tells hs f unmarked past
  flag_tells hs f TryFlag4 known unmarked past = try_flag_4_tells hs f unmarked past
  flag_tells hs f TryFlag9 known unmarked past = try_flag_9_tells hs f unmarked past
  flag_tells hs f TryFlag10 (fits, (alone, (low, (save, (marked, _))))) unmarked past = try_flag_10_tells hs f unmarked past marked
