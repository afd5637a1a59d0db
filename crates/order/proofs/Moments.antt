-- The moment of an answer that leaves the map as it is: an accepted step after the submit and no later than the finish, before which the
-- plain map gives that answer. Between the table at which the answer was right and the next accepted step no row changes.
use Rattle.std.specs.Prelude.{ℕ, zero, suc, ◌+◌, ◌-◌, ◌≤◌, ◌<◌, Bool, true, false, ◌≡◌, refl, List}
use Rattle.std.proofs.Common.{ap, sym, arith}
use Rattle.std.proofs.Math.Option.{none, some}
use Rattle.order.proofs.Timeline.{HasWithin, LacksWithin}
use Rattle.order.specs.PlainMap.{PlainMap, Operation, operation, search, insert, delete}
use Rattle.order.proofs.MapOfTable.{map_has, map_lacks}
use Rattle.order.proofs.Asking.{Agrees, found_agrees, absent_agrees, duplicate_agrees, no_delete_agrees}
use Rattle.order.proofs.Memory.{Answered, RemovesRow, is_found, is_absent, is_added, is_duplicate, no_row_free, is_removed, none_removed}
use Rattle.order.specs.Demand.{state_at, Accepts}
use Rattle.order.proofs.Time.{Ready, Happening, nothing_happens, submits, steps, happening, structure_at, TableAt, RowsAt}
use Rattle.order.proofs.Running.{removed_at, Ends}
use Rattle.order.proofs.MapAt.{map_at, is_map_at, same_rows_map, link_agrees}
use Rattle.model.specs.declared.Catalogue.{Catalogue}
use Rattle.model.specs.declared.Answer.{Answer}
use Rattle.model.specs.declared.Answer.TheVariants.{NoAnswer, Found, Absent, Added, Duplicate, Removed, Full}
use Rattle.model.specs.declared.Call.{Call}
use Rattle.model.specs.declared.Call.TheVariants.{Step}

-- the answers that the map gives without a change
abbrev pub reading : Answer → Bool
reading NoAnswer = false
reading (Found e) = true
reading Absent = true
reading Added = false
reading Duplicate = true
reading (Removed e) = false
reading Full = false

module _ {top : ℕ} {start : Catalogue} {calls : List Call} (ready : Ready top start calls) where
  -- the first accepted step from T on, no later than f: the rows are still those of T
  record StepFrom (T f : ℕ) : Type 0 where
    moment : ℕ
    from : T ≤ moment
    until : moment ≤ f
    worker : ℕ
    step : Accepts start calls moment (Step worker)
    rows_same : (state_at start calls moment).rows ≡ (state_at start calls T).rows

  step_after : (n T f w : ℕ) → T + n ≡ f → Accepts start calls f (Step w) → StepFrom T f
  step_after zero T f w e a =
      let same : T ≡ f = omega arith in
      let rows = ap (RowsAt ready) (sym same) in
      record { moment = f; from = omega arith; until = omega arith; worker = w; step = a; rows_same = rows }
  step_after (suc n) T f w e a = go (happening ready T) (step_after n (suc T) f w (omega arith) a)
    where
      later : (state_at start calls (suc T)).rows ≡ (state_at start calls T).rows → StepFrom (suc T) f → StepFrom T f
      later same s = record {
        moment = s.moment;
        from = omega (arith, s.from);
        until = s.until;
        worker = s.worker;
        step = s.step;
        rows_same = cc;
      }

      go : Happening start calls T → StepFrom (suc T) f → StepFrom T f
      go (nothing_happens q) s = later (ap (λ (c : Catalogue). c.rows) q) s
      go (submits v code key element q taken) s = later taken.rows_same s
      go (steps v q taken) s = record { moment = T; from = omega arith; until = omega arith; worker = v; step = q; rows_same = refl }

  -- the answer a to the operation o, at a moment of a request submitted at s that finishes at f
  pub record Reads (s f : ℕ) (o : Operation) (a : Answer) : Type 0 where
    pub moment : ℕ
    pub later : s < moment
    pub until : moment ≤ f
    pub worker : ℕ
    pub step : Accepts start calls moment (Step worker)
    pub agrees : Agrees (map_at ready moment) o a (map_at ready moment)

  reads_from : (s f w T : ℕ) (o : Operation) (a : Answer) → Accepts start calls f (Step w) → suc s ≤ T → T ≤ f
      → Agrees (map_at ready T) o a (map_at ready T) → Reads s f o a
  reads_from s f w T o a accepts after before agrees =
      let e : T + (f - T) ≡ f = omega arith in
      let next = step_after (f - T) T f w e accepts in
      record {
        moment = next.moment;
        later = omega (arith, next.from);
        until = next.until;
        worker = next.worker;
        step = next.step;
        agrees = rw (same_rows_map ready T next.moment (sym next.rows_same)) at agrees;
      }

  module _ (s f w : ℕ) (accepts : Accepts start calls f (Step w)) where
    has_reads : (k e : ℕ) (o : Operation) (a : Answer) → ((m : PlainMap) → m k ≡ some e → Agrees m o a m)
        → HasWithin (TableAt ready) (suc s) f k e → Reads s f o a
    has_reads k e o a agrees h =
        reads_from s f w h.time o a accepts h.after h.before
        (agrees (map_at ready h.time) (map_has (structure_at ready h.time) (is_map_at ready h.time) k e h.has))

    lacks_reads : (k : ℕ) (o : Operation) (a : Answer) → ((m : PlainMap) → m k ≡ none → Agrees m o a m)
        → LacksWithin (TableAt ready) (suc s) f k → Reads s f o a
    lacks_reads k o a agrees h =
        reads_from s f w h.time o a accepts h.after h.before
        (agrees (map_at ready h.time) (map_lacks (structure_at ready h.time) (is_map_at ready h.time) k h.lacks))

  -- The four kinds of answers: the map gives it without a change; Full; Added, by the step that links; Removed.
  pub data Kind (s w f : ℕ) (o : Operation) (a : Answer) : Type 0 where
    reads_only : reading a ≡ true → Reads s f o a → Kind s w f o a
    is_full : a ≡ Full → Kind s w f o a
    adds : a ≡ Added → Agrees (map_at ready f) o Added (map_at ready (suc f)) → Kind s w f o a
    removes : (e : ℕ) → a ≡ Removed e → RemovesRow (TableAt ready f) (removed_at ready f w) e → Kind s w f o a

  module _ (s w f : ℕ) (accepts : Accepts start calls f (Step w)) where
    kind_of : (o : Operation) (a : Answer) → Answered w (TableAt ready) (suc s) f (TableAt ready (suc f)) (removed_at ready f w) o a
        → Kind s w f o a
    kind_of (search k) (Found e) (is_found h) = reads_only refl (has_reads s f w accepts k e _ _ (λ m is. found_agrees m k e is) h)
    kind_of (search k) Absent (is_absent h) = reads_only refl (lacks_reads s f w accepts k _ _ (λ m is. absent_agrees m k is) h)
    kind_of (insert k x) Added (is_added h) = adds refl (link_agrees ready f w k x h)
    kind_of (insert k x) Duplicate (is_duplicate {e = e} h) =
        reads_only refl (has_reads s f w accepts k e _ _ (λ m is. duplicate_agrees m k e x is) h)
    kind_of (insert k x) Full no_row_free = is_full refl
    kind_of (delete k) (Removed e) (is_removed h) = removes e refl h
    kind_of (delete k) Absent (none_removed no_row h) =
        reads_only refl (lacks_reads s f w accepts k _ _ (λ m is. no_delete_agrees m k is) h)
    kind_of _ _ other = elim other [ ]

  pub kind : (s w code key element f : ℕ) (a : Answer) → Ends ready s w code key element f a → Kind s w f (operation code key element) a
  kind s w code key element f a e = kind_of s w f e.finished.step (operation code key element) a e.answered
