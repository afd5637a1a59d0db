-- HelpMarked's line 2 is lawful, whoever called it: C&S from (del,0,1) swings prev past del, which is marked, or nothing happens.
use Rattle.std.specs.Prelude.{ℕ, ◌≡◌, ◌≢◌, List}
use Rattle.std.proofs.Math.Bool.{true, false}
use Rattle.std.proofs.Math.Path.{refl, sym}
use Rattle.std.proofs.Common.{ap, ◌∙◌}
use Rattle.std.proofs.Math.Decide.{ℕ_discrete}
use Rattle.order.proofs.Table.{Table, right_of, flag_of}
use Rattle.order.proofs.Structure.{Structure, flagged_for}
use Rattle.order.proofs.StructureFacts.{flagged_unique, help_unique}
use Rattle.order.proofs.Moves.{UnlinkMove}
use Rattle.order.proofs.Stack.{stack_after}
use Rattle.order.proofs.Facts.{Frozen, Helping, AllHold, facts}
use Rattle.order.proofs.Writes.{one_written, unlink_written}
use Rattle.order.proofs.Lawful.{Lawful, removed_row, no_row_removed, ends, with_removal, Pushable, read_stacking, shared, unlink_shared}
use Rattle.order.proofs.LineConditions.{same_succ_lem, same_succ_refl}
use Rattle.kept.specs.Conditions.{clash}
use Rattle.kept.specs.Standing.{linked_inside}
use Rattle.model.specs.State.{row_at, succ_of}
use Rattle.model.proofs.Choices.{if_known}
use Rattle.model.specs.Cas.{same_succ, succ_at, with_succ, cas}
use Rattle.model.specs.HelpMarked.{help_marked_2}
use Rattle.model.specs.Step.{written}
use Rattle.model.specs.WellFormed.{held_row}
use Rattle.model.specs.declared.Row.{Row}
use Rattle.model.specs.declared.Succ.{Succ}
use Rattle.model.specs.declared.Pending.{Pending}
use Rattle.model.specs.declared.Line.{Line}
use Rattle.model.specs.declared.Write.{Write}
use Rattle.model.specs.declared.Write.TheVariants.{OneRow}
use Rattle.model.specs.declared.Stack.{Stack}

-- the table after prev has swung past del to right
abbrev swung : List Row → ℕ → ℕ → Table
swung rows prev right = row_at (written rows (OneRow prev (with_succ (row_at rows prev) (succ_of right false false))))

module _ (top me : ℕ) (rows : List Row) (sound : Structure top (row_at rows)) (held removed : ℕ) (hs : List Pending)
    (prev del right : ℕ) (frozen : Frozen (row_at rows) del right) (line : Line) (s : Stack)
    (pushable : Pushable (row_at rows) hs s) (same_held : held_row line ≡ held)
    (known : AllHold top me (row_at rows) (facts line (stack_after hs s))) where
  unlinked : succ_at rows prev ≡ succ_of del false true
      → UnlinkMove (row_at rows) (swung rows prev right) prev del right
  unlinked found =
      unlink_written found frozen (one_written rows prev _
      (linked_inside rows prev (sound.flag_regular prev (ap (λ (t : Succ). t.flag) found)).linked))

  pub help_marked_lawful : removed_row line ≡ removed
      → Lawful top me rows held removed hs (record { line = line; write = help_marked_2 rows prev del right; stack = s })
  unfolding help_marked_2 cas
  help_marked_lawful same_removed =
      if_known (λ (w : Write). Lawful top me rows held removed hs (record { line = line; write = w; stack = s }))
      (same_succ (succ_at rows prev) (succ_of del false true))
      (λ same.
      let m = unlinked (same_succ_lem _ _ same) in
      shared top me rows held removed hs _ sound (unlink_shared me sound m) pushable same_held same_removed known)
      (λ _. read_stacking top me rows held removed hs line s pushable same_held same_removed known)

  -- where this was the help of the row that the worker removes: no flag is set for it any more
  pub help_ends_lawful : Helping (row_at rows) prev del → removed ≡ del → removed_row line ≡ no_row_removed
      → Lawful top me rows held removed hs (record { line = line; write = help_marked_2 rows prev del right; stack = s })
  unfolding help_marked_2 cas written
  help_ends_lawful helping is_del removes_none =
      if_known (λ (w : Write). Lawful top me rows held removed hs (record { line = line; write = w; stack = s }))
      (same_succ (succ_at rows prev) (succ_of del false true))
      (λ same.
      let m = unlinked (same_succ_lem (succ_at rows prev) (succ_of del false true) same) in
      with_removal
      (shared top me rows held (removed_row line) hs _ sound (unlink_shared me sound m) pushable same_held refl known)
      (ends removes_none (unlink_shared {top = top} me sound m).no_new_flag (λ x h e. past m x h (e ∙ is_del))))
      (λ differs.
      with_removal
      (read_stacking top me rows held (removed_row line) hs line s pushable same_held refl known)
      (ends removes_none (λ x h. h) (λ x h e. failed differs x h (e ∙ is_del))))
    where
      past : UnlinkMove (row_at rows) (swung rows prev right) prev del right → (x : ℕ)
          → flag_of (swung rows prev right) x ≡ true → right_of (swung rows prev right) x ≢ del
      past m x h e = elim (ℕ_discrete x prev) [
        | yes q ↦ clash h (ap (λ (y : ℕ). flag_of (swung rows prev right) y) q ∙ m.flag_prev)
        | no q ↦
            let same_right = sym (m.right_other x q) ∙ e ∙ sym m.prev_right in
            q (flagged_unique sound x prev (sym (m.flag_other x q) ∙ h) m.prev_flagged same_right)
      ]

      failed : same_succ (succ_at rows prev) (succ_of del false true) ≡ false → (x : ℕ) → flag_of (row_at rows) x ≡ true
          → right_of (row_at rows) x ≢ del
      failed differs x h e =
          let q : prev ≡ x = help_unique sound prev x del helping.help (flagged_for h e) in
          let at_x : succ_at rows x ≡ succ_of del false true =
          λ i. record { right = e i; mark = (sound.flag_regular x h).unmarked i; flag = h i } in
          clash (same_succ_refl _ _ (ap (succ_at rows) q ∙ at_x)) differs
