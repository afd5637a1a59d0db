-- The rows that a line writes, read as a move: one row written leaves every field that it keeps as it was everywhere.
use Rattle.std.specs.Prelude.{ℕ, ◌<◌, true, false, ◌≡◌, refl, ◌≢◌, ◌⊎◌, List, length, set}
use Rattle.std.proofs.Common.{ap, sym, ◌∙◌, subst, arith, length-set, get_or-set_same, get_or-set_other}
use Rattle.std.proofs.Math.Decide.{ℕ_discrete}
use Rattle.order.proofs.Table.{Table, mark_of, flag_of, back_of, standing_of, rank_of, IsLinked}
use Rattle.order.proofs.Structure.{Helpable, flagged_for, already_marked}
use Rattle.order.proofs.Moves.{LinkMove, MarkMove, UnlinkMove, FlagMove, BacklinkMove, PrivateMove}
use Rattle.order.proofs.Facts.{Frozen, Helping}
use Rattle.kept.specs.Conditions.{clash}
use Rattle.model.specs.State.{row_at, free_row, succ_of}
use Rattle.model.specs.Cas.{with_succ}
use Rattle.model.specs.Insert.{linked_row}
use Rattle.model.specs.HelpFlagged.{with_backlink}
use Rattle.model.specs.Step.{written}
use Rattle.model.specs.declared.Row.{Row}
use Rattle.model.specs.declared.Succ.{Succ}
use Rattle.model.specs.declared.Standing.TheVariants.{Free, Held}
use Rattle.model.specs.declared.Write.TheVariants.{OneRow, TwoRows}

-- the table after one row is written, and after two
pub record OneWritten (R R' : Table) (i : ℕ) (r : Row) : Type 0 where
  pub here : R' i ≡ r
  pub other : (x : ℕ) → x ≢ i → R' x ≡ R x

pub record TwoWritten (R R' : Table) (i : ℕ) (r : Row) (j : ℕ) (s : Row) : Type 0 where
  pub first : R' i ≡ r
  pub second : R' j ≡ s
  pub other : (x : ℕ) → x ≢ i → x ≢ j → R' x ≡ R x

pub one_written : (rows : List Row) (i : ℕ) (r : Row) → i < length rows → OneWritten (row_at rows) (row_at (written rows (OneRow i r))) i r
unfolding written
one_written rows i r h = record { here = get_or-set_same rows i r free_row h; other = λ x e. get_or-set_other rows i x r free_row e }

pub two_written : (rows : List Row) (i : ℕ) (r : Row) (j : ℕ) (s : Row) → i < length rows → j < length rows → i ≢ j
    → TwoWritten (row_at rows) (row_at (written rows (TwoRows i r j s))) i r j s
unfolding written
two_written rows i r j s h k differ = record {
  first = get_or-set_other (set rows i r) j i s free_row differ ∙ get_or-set_same rows i r free_row h;
  second = get_or-set_same (set rows i r) j s free_row (omega (arith, length-set rows i r));
  other = λ x e f. get_or-set_other (set rows i r) j x s free_row f ∙ get_or-set_other rows i x r free_row e;
}

module _ {R R' : Table} {i : ℕ} {r : Row} (put : OneWritten R R' i r) where
  -- a part of the row that is written as it was is everywhere as it was
  kept : {A : Type 0} (part : Row → A) → part r ≡ part (R i) → (x : ℕ) → part (R' x) ≡ part (R x)
  kept part e x = elim (ℕ_discrete x i) [
    | yes q ↦ ap (λ (y : ℕ). part (R' y)) q ∙ ap part put.here ∙ e ∙ ap (λ (y : ℕ). part (R y)) (sym q)
    | no q ↦ ap part (put.other x q)
  ]

module _ {R R' : Table} {i : ℕ} {r : Row} {j : ℕ} {s : Row} (put : TwoWritten R R' i r j s) where
  kept_both : {A : Type 0} (part : Row → A) → part r ≡ part (R i) → part s ≡ part (R j) → (x : ℕ) → part (R' x) ≡ part (R x)
  kept_both part e g x = go (ℕ_discrete x i) (ℕ_discrete x j)
    where
      go : Dec (x ≡ i) → Dec (x ≡ j) → part (R' x) ≡ part (R x)
      go (yes q) t = cc
      go (no q) (yes t) = cc
      go (no q) (no t) = ap part (put.other x q t)

-- HelpMarked's line 2, C&S succeeded
pub unlink_written : {R R' : Table} {prev del right : ℕ} → (R prev).succ ≡ succ_of del false true → Frozen R del right
    → OneWritten R R' prev (with_succ (R prev) (succ_of right false false)) → UnlinkMove R R' prev del right
unlink_written found frozen put = record {
  prev_flagged = cc;
  prev_right = cc;
  del_marked = frozen.mark_set;
  del_right = frozen.right_is;
  key= = kept put (λ (r : Row). r.key) refl;
  element= = kept put (λ (r : Row). r.element) refl;
  mark= = kept put (λ (r : Row). r.succ.mark) (cc);
  back= = kept put (λ (r : Row). r.backlink) refl;
  standing= = kept put (λ (r : Row). r.standing) refl;
  flag_prev = ap (λ (r : Row). r.succ.flag) put.here;
  flag_other = λ x e. cc (put.other x e);
  right_next = ap (λ (r : Row). r.succ.right) put.here;
  right_other = λ x e. cc (put.other x e);
}

-- TryFlag's line 4, C&S succeeded
pub flag_written : {R R' : Table} {prev target : ℕ} → (R prev).succ ≡ succ_of target false false → IsLinked R prev → prev ≢ 1 → target ≢ 1
    → OneWritten R R' prev (with_succ (R prev) (succ_of target false true)) → FlagMove R R' prev target
flag_written found linked not_tail target_not_tail put = record {
  prev_regular = record { linked = linked; unmarked = ap (λ (s : Succ). s.mark) found };
  prev_not_tail = not_tail;
  prev_unflagged = cc;
  prev_right = cc;
  target_not_tail = target_not_tail;
  key= = kept put (λ (r : Row). r.key) refl;
  element= = kept put (λ (r : Row). r.element) refl;
  mark= = kept put (λ (r : Row). r.succ.mark) (cc);
  right= = kept put (λ (r : Row). r.succ.right) (cc);
  back= = kept put (λ (r : Row). r.backlink) refl;
  standing= = kept put (λ (r : Row). r.standing) refl;
  flag_prev = ap (λ (r : Row). r.succ.flag) put.here;
  flag_other = λ x e. cc (put.other x e);
}

-- TryMark's line 3, C&S succeeded
pub mark_written : {R R' : Table} {prev del right : ℕ} → (R del).succ ≡ succ_of right false false → Helping R prev del
    → OneWritten R R' del (with_succ (R del) (succ_of right true false)) → MarkMove R R' prev del
mark_written {R} {R'} {prev} {del} found helping put = made helping.help
  where
    made : Helpable R prev del → MarkMove R R' prev del
    made (already_marked h e) = absurd (clash h (ap (λ (s : Succ). s.mark) found))
    made (flagged_for h e) = record {
      prev_flagged = h;
      prev_right = e;
      del_unflagged = cc;
      del_unmarked = cc;
      del_back = helping.back_is;
      key= = kept put (λ (r : Row). r.key) refl;
      element= = kept put (λ (r : Row). r.element) refl;
      right= = kept put (λ (r : Row). r.succ.right) (cc);
      flag= = kept put (λ (r : Row). r.succ.flag) (cc);
      back= = kept put (λ (r : Row). r.backlink) refl;
      standing= = kept put (λ (r : Row). r.standing) refl;
      mark_del = ap (λ (r : Row). r.succ.mark) put.here;
      mark_other = λ x e. cc (put.other x e);
    }

-- HelpFlagged's line 1
pub backlink_written : {R R' : Table} {prev del : ℕ} → Helpable R prev del → OneWritten R R' del (with_backlink (R del) prev)
    → BacklinkMove R R' prev del
backlink_written help put = record {
  help = help;
  key= = kept put (λ (r : Row). r.key) refl;
  element= = kept put (λ (r : Row). r.element) refl;
  mark= = kept put (λ (r : Row). r.succ.mark) refl;
  right= = kept put (λ (r : Row). r.succ.right) refl;
  flag= = kept put (λ (r : Row). r.succ.flag) refl;
  standing= = kept put (λ (r : Row). r.standing) refl;
  back_del = cc put.here;
  back_other = λ x e. cc (put.other x e);
}

-- Insert's lines 4, 10 and 20
pub private_written : {w : ℕ} {R R' : Table} {new : ℕ} {r : Row} → (standing_of R new ≡ Free) ⊎ (standing_of R new ≡ Held w)
    → (r.standing ≡ Free) ⊎ (r.standing ≡ Held w) → r.succ.flag ≡ false → r.succ.mark ≡ false
    → OneWritten R R' new r → PrivateMove w R R' new
private_written {w} before after unflagged unmarked put = record {
  before = before;
  after = subst (λ (s : Row). (s.standing ≡ Free) ⊎ (s.standing ≡ Held w)) (sym put.here) after;
  unflagged = cc;
  unmarked = cc;
  other = put.other;
}

-- Insert's lines 10 and 11, C&S succeeded
module _ (top : ℕ) {w : ℕ} {R R' : Table} {prev new next : ℕ} (found : (R prev).succ ≡ succ_of next false false)
    (linked : IsLinked R prev) (not_tail : prev ≢ 1) (held : standing_of R new ≡ Held w) (unmarked : mark_of R new ≡ false)
    (unflagged : flag_of R new ≡ false) (back : back_of R new ≡ 0)
    (below : rank_of top R prev < rank_of top R new) (above : rank_of top R new < rank_of top R next)
    (put : TwoWritten R R' new (linked_row (with_succ (R new) (succ_of next false false))) prev
    (with_succ (R prev) (succ_of new false false))) where
  pub link_written : LinkMove top w R R' prev new next
  link_written = record {
    prev_regular = record { linked = linked; unmarked = ap (λ (s : Succ). s.mark) found };
    prev_not_tail = not_tail;
    prev_right = cc;
    prev_unflagged = cc;
    new_held = held;
    new_unmarked = unmarked;
    new_unflagged = unflagged;
    new_back = back;
    below = below;
    above = above;
    key= = kept_both put (λ (r : Row). r.key) refl refl;
    element= = kept_both put (λ (r : Row). r.element) refl refl;
    mark= = kept_both put (λ (r : Row). r.succ.mark) (sym unmarked) (cc);
    flag= = kept_both put (λ (r : Row). r.succ.flag) (sym unflagged) (cc);
    back= = kept_both put (λ (r : Row). r.backlink) refl refl;
    new_linked = cc put.first;
    standing_other = λ x e. elim (ℕ_discrete x prev) [
      | yes q ↦ ap (λ (y : ℕ). (R' y).standing) q ∙ ap (λ (r : Row). r.standing) put.second ∙ ap (λ (y : ℕ). (R y).standing) (sym q)
      | no q ↦ ap (λ (r : Row). r.standing) (put.other x e q)
    ];
    right_prev = ap (λ (r : Row). r.succ.right) put.second;
    right_new = ap (λ (r : Row). r.succ.right) put.first;
    right_other = λ x e f. cc (put.other x f e);
  }
