-- The course of a request: it runs up to a position, or has ended before. A worker has one request at a time, and a row that a running
-- delete removes stays the same.
use Prim.Native.Nat.{ℕ, zero, suc, ◌≤◌, ◌<◌}
use Rattle.std.proofs.Math.Bool.{true}
use Rattle.std.specs.Prelude.{◌≡◌, ◌≢◌, ◌⊎◌, List}
use Rattle.std.proofs.Common.{ap, sym, ◌∙◌, subst, inr, arith}
use Rattle.std.proofs.Math.Logic.{inl}
use Rattle.std.proofs.Math.Decide.{ℕ_discrete}
use Rattle.order.proofs.Lawful.{no_row_removed}
use Rattle.order.proofs.OneRequest.{idle_not_busy, same_finish}
use Rattle.order.specs.Demand.{state_at, line_at, Request, BusySince, Finished}
use Rattle.order.proofs.Time.{Ready, Happening, nothing_happens, submits, steps, happening, submit_taken}
use Rattle.order.proofs.Running.{removed_at, Running, Ends, begins, Continues, runs, ends_now, continues}
use Rattle.order.proofs.Compared.{Compared, less, equal, more, compared}
use Rattle.order.proofs.Events.{other_line}
use Rattle.kept.specs.Conditions.{clash}
use Rattle.kept.specs.Ways.{line_of}
use Rattle.model.specs.State.{idle}
use Rattle.model.specs.Run.{run}
use Rattle.model.specs.declared.Catalogue.{Catalogue}
use Rattle.model.specs.declared.Answer.{Answer}
use Rattle.model.specs.declared.Call.{Call}

module _ {top : ℕ} {start : Catalogue} {calls : List Call} (ready : Ready top start calls) where
  -- ---- Up to a position ----

  pub data Course (s w code key element u : ℕ) : Type 0 where
    under_way : Running ready s w code key element u → Course s w code key element u
    over : (f : ℕ) (a : Answer) → f < u → Ends ready s w code key element f a → Course s w code key element u

  further : (s w code key element u : ℕ) → Course s w code key element u → Course s w code key element (suc u)
  further s w code key element u (over f a h e) = over f a (omega arith) e
  further s w code key element u (under_way r) = go (continues ready s w code key element u r)
    where
      go : Continues ready s w code key element u → Course s w code key element (suc u)
      go (runs r' same) = under_way r'
      go (ends_now a e) = over u a (omega arith) e

  pub course : (s w code key element : ℕ) → Request start calls s w code key element → (u : ℕ) → s < u → Course s w code key element u
  course s w code key element r zero h = absurd (omega arith)
  course s w code key element r (suc u) h = go (ℕ_discrete s u) (λ q. course s w code key element r u q)
    where
      go : Dec (s ≡ u) → (s < u → Course s w code key element u) → Course s w code key element (suc u)
      go (yes e) before = subst (λ (i : ℕ). Course s w code key element (suc i)) e (under_way (begins ready s w code key element r))
      go (no e) before = further s w code key element u (before (omega arith))

  -- a request that ended before is not running
  pub ended_not_running : (s w f u : ℕ) (a : Answer) → Finished start calls s w f a → f < u → BusySince start calls s w u → ⊥
  ended_not_running s w f u a x h busy = idle_not_busy x.answered (busy (suc f) (omega (arith, x.later)) h)

  pub ended : (s w code key element f : ℕ) (a : Answer) → Request start calls s w code key element → Finished start calls s w f a
      → Ends ready s w code key element f a
  ended s w code key element f a r x = go (course s w code key element r (suc f) (omega (arith, x.later)))
    where
      go : Course s w code key element (suc f) → Ends ready s w code key element f a
      go (under_way q) = absurd (ended_not_running s w f (suc f) a x (omega arith) q.busy)
      go (over g b h e) =
          let same = same_finish s w g f b a e.finished x in
          rw same.0 at (rw same.1 at e)

  -- a running request was running before
  pub ran : (s w code key element j u : ℕ) → Running ready s w code key element u → s < j → j ≤ u → Running ready s w code key element j
  ran s w code key element j u r h k = go (course s w code key element r.request j h)
    where
      go : Course s w code key element j → Running ready s w code key element j
      go (under_way q) = q
      go (over f a l e) = absurd (ended_not_running s w f u a e.finished (omega arith) r.busy)

  -- ---- A worker's request ----

  pub record Current (w u : ℕ) : Type 0 where
    pub request : ℕ
    pub code : ℕ
    pub key : ℕ
    pub element : ℕ
    pub running : Running ready request w code key element u

  pub current : (u w : ℕ) → (idle (line_at start calls u w) ≡ true) ⊎ Current w u
  unfolding state_at run
  current zero w = inl (ready.at_rest w)
  current (suc u) w = go (current u w) (happening ready u)
    where
      kept : line_at start calls (suc u) w ≡ line_at start calls u w → idle (line_at start calls u w) ≡ true
          → (idle (line_at start calls (suc u) w) ≡ true) ⊎ Current w (suc u)
      kept same h = inl (rw same h)

      go : (idle (line_at start calls u w) ≡ true) ⊎ Current w u → Happening start calls u
          → (idle (line_at start calls (suc u) w) ≡ true) ⊎ Current w (suc u)
      go (inr c) happens =
          elim (continues ready c.request w c.code c.key c.element u c.running) [
            | runs r same ↦ inr (record { request = c.request; code = c.code; key = c.key; element = c.element; running = r })
            | ends_now a e ↦ inl (ap idle e.finished.answered)
          ]
      go (inl h) (nothing_happens e) = kept (ap (λ (c : Catalogue). line_of c w) e) h
      go (inl h) (submits v code key element a taken) = elim (ℕ_discrete w v) [
        | yes e ↦ inr (record {
          request = u;
          code = code;
          key = key;
          element = element;
          running =
              begins ready u w code key element (rw e a);
        })
        | no e ↦ kept (other_line taken.worker w e) h
      ]
      go (inl h) (steps v a taken) = elim (ℕ_discrete w v) [
        | yes e ↦ absurd (clash h (ap (λ (x : ℕ). idle (line_at start calls u x)) e ∙ taken.was_busy))
        | no e ↦ kept (other_line taken.worker w e) h
      ]

  -- two requests of one worker do not run at one time
  overlap : (s w code key element s' code' key' element' u : ℕ) → Running ready s w code key element u
      → Running ready s' w code' key' element' u
      → s < s' → ⊥
  overlap s w code key element s' code' key' element' u r r' h =
      clash (submit_taken ready s' w code' key' element' r'.request).was_idle (r.busy s' h (omega (arith, r'.since)))

  pub alone : (s w code key element s' code' key' element' u : ℕ) → Running ready s w code key element u
      → Running ready s' w code' key' element' u
      → s ≡ s'
  alone s w code key element s' code' key' element' u r r' = go (compared s s')
    where
      go : Compared s s' → s ≡ s'
      go (less h) = absurd (overlap s w code key element s' code' key' element' u r r' h)
      go (equal e) = e
      go (more h) = absurd (overlap s' w code' key' element' s code key element u r' r h)

  -- ---- The row that a running delete removes ----

  pub removes_on : (s w code key element j u y : ℕ) → Running ready s w code key element u → s < j → j ≤ u → removed_at ready j w ≡ y
      → y ≢ no_row_removed
      → removed_at ready u w ≡ y
  removes_on s w code key element j zero y r h k is some = absurd (omega arith)
  removes_on s w code key element j (suc u) y r h k is some = go (ℕ_discrete j (suc u))
      (λ q. removes_on s w code key element j u y (ran s w code key element u (suc u) r (omega arith) (omega arith)) h q is some)
    where
      step : s < u → removed_at ready u w ≡ y → removed_at ready (suc u) w ≡ y
      step q before = elim (continues ready s w code key element u (ran s w code key element u (suc u) r q (omega arith))) [
        | ends_now a e ↦ absurd (ended_not_running s w u (suc u) a e.finished (omega arith) r.busy)
        | runs r' same ↦ elim same [ inl none ↦ absurd (some (sym before ∙ none)) | inr stays ↦ stays ∙ before ]
      ]

      go : Dec (j ≡ suc u) → (j ≤ u → removed_at ready u w ≡ y) → removed_at ready (suc u) w ≡ y
      go (yes e) before = rw e at is
      go (no e) before = step (omega arith) (before (omega arith))
