-- Requests over time: while a request runs, its worker is busy with lines of its operation, remembers what Memory says, and, once a
-- delete has set its flag, removes that row; and it ends with an answer that fits the operation and was right at a moment.
use Rattle.std.specs.Prelude.{if◌then◌else◌, ℕ, suc, ◌≤◌, ◌<◌, Bool, true, false, ◌≡◌, refl, ◌⊎◌, List, eqb}
use Rattle.std.proofs.Common.{ap, ◌∙◌, inl, inr, arith}
use Rattle.std.proofs.Math.Decide.{ℕ_discrete}
use Rattle.order.proofs.Moves.{FlagMove}
use Rattle.order.specs.PlainMap.{Operation, operation, search, insert, delete}
use Rattle.order.proofs.Lawful.{Removal, goes_on, claims, ends, no_row_removed, removed_row}
use Rattle.order.proofs.Events.{StepTaken, other_line, next_line}
use Rattle.order.proofs.SoundKept.{step_lawful}
use Rattle.order.specs.Demand.{state_at, line_at, Accepts, Request, BusySince, Finished}
use Rattle.order.proofs.Memory.{Past, past_still, operation_of, Answered, GoesOn, NextLine, Tells}
use Rattle.order.proofs.LineMemory.{effect_tells}
use Rattle.order.proofs.Time.{Ready, Happening, nothing_happens, submits, steps, happening, sound_at, structure_at, mover_at, move_at, submit_taken, TableAt, RowsAt}
use Rattle.order.proofs.Table.{Table}
use Rattle.kept.specs.Conditions.{clash}
use Rattle.kept.specs.Ways.{effect_in, line_of}
use Rattle.model.specs.State.{row_at, worker_at, idle}
use Rattle.model.specs.Effects.{call_search_from}
use Rattle.model.specs.Step.{written, first_line}
use Rattle.model.specs.declared.Worker.{Worker}
use Rattle.model.specs.declared.Catalogue.{Catalogue}
use Rattle.model.specs.declared.Answer.{Answer}
use Rattle.model.specs.declared.SearchCaller.TheVariants.{Search1, Insert1, Delete1}
use Rattle.model.specs.declared.Line.{Line}
use Rattle.model.specs.declared.Line.TheVariants.{Idle, Search, Insert, Flag, Help}
use Rattle.model.specs.declared.Call.{Call}
use Rattle.model.specs.declared.Call.TheVariants.{Step}
use Rattle.model.specs.declared.Effect.{Effect}

-- ---- The first line of a request ----

-- what holds of the first line of a search, an insert and a delete
first_line_lem : (P : Line → Operation → Type 0) (code key element : ℕ) → P (call_search_from key 0 0 Search1) (search key)
    → P (call_search_from key element 0 Insert1) (insert key element) → P (call_search_from key 0 0 Delete1) (delete key)
    → P (first_line code key element) (operation code key element)
unfolding first_line operation
first_line_lem P code key element s i d = go (eqb code 1) (eqb code 2)
  where
    go : (a b : Bool)
        → P
        (if a then call_search_from key 0 0 Search1
        else if b then call_search_from key element 0 Insert1
        else call_search_from key 0 0 Delete1)
        (if a then search key else if b then insert key element else delete key)
    go true b = s
    go false true = i
    go false false = d

module _ {top : ℕ} {start : Catalogue} {calls : List Call} (ready : Ready top start calls) where
  -- the row that worker w removes
  abbrev pub removed_at : ℕ → ℕ → ℕ
  removed_at i w = removed_row (line_at start calls i w)

  -- The request has set the flag for row y, at the step `at`, and removes y ever since.
  pub record Claimed (s w u y : ℕ) : Type 0 where
    pub at : ℕ
    pub prev : ℕ
    pub later : s < at
    pub before : at < u
    pub step : Accepts start calls at (Step w)
    pub flag : FlagMove (TableAt ready at) (TableAt ready (suc at)) prev y
    pub removes : (j : ℕ) → at < j → j ≤ u → removed_at j w ≡ y

  -- the request submitted at s runs at position u
  pub record Running (s w code key element u : ℕ) : Type 0 where
    pub request : Request start calls s w code key element
    pub since : s < u
    pub busy : BusySince start calls s w u
    pub operation_is : operation_of (line_at start calls u w) ≡ operation code key element
    pub past : Past (TableAt ready) (suc s) u (line_at start calls u w)
    pub claim : (removed_at u w ≡ no_row_removed) ⊎ Claimed s w u (removed_at u w)

  -- the request ends at f with answer a
  pub record Ends (s w code key element f : ℕ) (a : Answer) : Type 0 where
    pub running : Running s w code key element f
    pub finished : Finished start calls s w f a
    pub answered : Answered w (TableAt ready) (suc s) f (TableAt ready (suc f)) (removed_at f w) (operation code key element) a

  -- ---- It begins ----

  pub begins : (s w code key element : ℕ) → Request start calls s w code key element → Running s w code key element (suc s)
  begins s w code key element r = record {
    request = r;
    since = omega arith;
    busy = λ j low high.
        let e : j ≡ suc s = omega arith in
        rw e (first (λ l o. idle l ≡ false) refl refl refl);
    operation_is = first (λ l o. operation_of l ≡ o) refl refl refl;
    past = first (λ l o. Past (TableAt ready) (suc s) (suc s) l) (head, tt, tt) (head, tt, tt) (head, tt, tt);
    claim = inl (first (λ l o. removed_row l ≡ no_row_removed) refl refl refl);
  }
    where
      head : (TableAt ready (suc s) 0).succ.mark ≡ false
      head = (structure_at ready (suc s)).head.unmarked

      line : line_at start calls (suc s) w ≡ first_line code key element
      line = ap (λ (k : Worker). k.line) (submit_taken ready s w code key element r).worker.now

      first : (P : Line → Operation → Type 0) → P (call_search_from key 0 0 Search1) (search key)
          → P (call_search_from key element 0 Insert1) (insert key element) → P (call_search_from key 0 0 Delete1) (delete key)
          → P (line_at start calls (suc s) w) (operation code key element)
      first P a i d = rw line (first_line_lem P code key element a i d)

  -- ---- It goes on, or ends ----

  -- the row that is removed stays the same
  abbrev pub SameRemoved : ℕ → ℕ → Type 0
  SameRemoved w u = (removed_at u w ≡ no_row_removed) ⊎ (removed_at (suc u) w ≡ removed_at u w)

  pub data Continues (s w code key element u : ℕ) : Type 0 where
    runs : Running s w code key element (suc u) → SameRemoved w u → Continues s w code key element u
    ends_now : (a : Answer) → Ends s w code key element u a → Continues s w code key element u

  busy_further : (s w u : ℕ) → BusySince start calls s w u → idle (line_at start calls (suc u) w) ≡ false → BusySince start calls s w (suc u)
  busy_further s w u busy now j low high = elim (ℕ_discrete j (suc u)) [
    | yes e ↦ rw e now
    | no e ↦ busy j low (omega arith)
  ]

  claim_further : {s w u y : ℕ} → Claimed s w u y → removed_at (suc u) w ≡ y → Claimed s w (suc u) y
  claim_further {u = u} c now = record {
    at = c.at;
    prev = c.prev;
    later = c.later;
    before = omega (arith, c.before);
    step = c.step;
    flag = c.flag;
    removes = λ j low high. elim (ℕ_discrete j (suc u)) [ yes e ↦ rw e now | no e ↦ c.removes j low (omega arith) ];
  }

  module _ (s w code key element u : ℕ) (r : Running s w code key element u) where
    -- another worker's call, or none
    unchanged : line_at start calls (suc u) w ≡ line_at start calls u w → Continues s w code key element u
    unchanged same = runs
        (record {
          request = r.request;
          since = omega (arith, r.since);
          busy = busy_further s w u r.busy (rw same (r.busy u r.since (omega arith)));
          operation_is = rw same r.operation_is;
          past = rw same (past_still (TableAt ready) (suc s) u (line_at start calls u w) r.past);
          claim = elim r.claim [
            | inl none ↦ inl (rw same none)
            | inr c ↦ inr (rw same (claim_further c (rw same refl)))
          ];
        })
        (inr (ap removed_row same))

    pub step_tells : idle (line_at start calls u w) ≡ false
        → Tells w (RowsAt ready) (suc s) u (operation_of (line_at start calls u w)) (removed_at u w) (effect_in (state_at start calls u) w)
    step_tells busy =
        effect_tells top (RowsAt ready) (mover_at ready) (structure_at ready) (move_at ready) (suc s) u r.since w
        (worker_at (state_at start calls u).workers w) busy ((sound_at ready u).known w) r.past

    abbrev effect_now : Effect
    effect_now = effect_in (state_at start calls u) w

    abbrev TableAfter : Table
    TableAfter = row_at (written (RowsAt ready u) effect_now.write)

    module _ (accepts : Accepts start calls u (Step w)) (taken : StepTaken (state_at start calls u) (state_at start calls (suc u)) w) where
      claim_after : (removed_at (suc u) w ≡ no_row_removed) ⊎ Claimed s w (suc u) (removed_at (suc u) w)
      claim_after = rw (next_line taken) (go (step_lawful top _ _ (sound_at ready u) w taken).removal r.claim)
        where
          now : removed_at (suc u) w ≡ removed_row effect_now.line
          now = ap removed_row (next_line taken)

          go : Removal (TableAt ready u) TableAfter (removed_at u w) (removed_row effect_now.line)
              → (removed_at u w ≡ no_row_removed) ⊎ Claimed s w u (removed_at u w)
              → (removed_row effect_now.line ≡ no_row_removed) ⊎ Claimed s w (suc u) (removed_row effect_now.line)
          go (goes_on same no_new) (inl none) = inl (same ∙ none)
          go (goes_on same no_new) (inr c) =
              inr (rw same (claim_further c (now ∙ same)))
          go (ends none no_new gone) c = inl none
          go (claims {prev = prev} flag none) c = inr (record {
            at = u;
            prev = prev;
            later = r.since;
            before = omega arith;
            step = accepts;
            flag = rw taken.rows_written flag;
            removes = λ j low high.
                let e : j ≡ suc u = omega arith in
                rw e now;
          })

      goes : (l : Line) → idle l ≡ false → line_at start calls (suc u) w ≡ l
          → GoesOn w (TableAt ready) (suc s) u TableAfter (removed_at u w) (operation_of (line_at start calls u w)) l
          → Continues s w code key element u
      goes l busy is g = runs
          (record {
            request = r.request;
            since = omega (arith, r.since);
            busy = busy_further s w u r.busy (rw is busy);
            operation_is = rw is (g.operation_same ∙ r.operation_is);
            past = rw is (past_still (TableAt ready) (suc s) u l g.past);
            claim = claim_after;
          })
          (elim g.removed_same [ inl none ↦ inl none | inr same ↦ inr (ap removed_row is ∙ same) ])

      stepped_on : Continues s w code key element u
      stepped_on = go effect_now.line (next_line taken) (step_tells taken.was_busy).next
        where
          go : (l : Line) → line_at start calls (suc u) w ≡ l
              → NextLine w (TableAt ready) (suc s) u TableAfter (removed_at u w) (operation_of (line_at start calls u w)) l
              → Continues s w code key element u
          go (Idle a) is answered = ends_now a (record {
            running = r;
            finished = record { later = r.since; step = accepts; busy = r.busy; answered = is };
            answered = rw taken.rows_written (rw r.operation_is at answered);
          })
          go (Search l f) is g = goes (Search l f) refl is g
          go (Insert l f) is g = goes (Insert l f) refl is g
          go (Flag l f) is g = goes (Flag l f) refl is g
          go (Help l f) is g = goes (Help l f) refl is g

    pub continues : Continues s w code key element u
    continues = go (happening ready u)
      where
        still_busy : idle (line_at start calls u w) ≡ false
        still_busy = r.busy u r.since (omega arith)

        go : Happening start calls u → Continues s w code key element u
        go (nothing_happens e) = unchanged (ap (λ (c : Catalogue). line_of c w) e)
        go (submits v code' key' element' a taken) = elim (ℕ_discrete w v) [
          | yes e ↦ absurd (clash (ap (λ (x : ℕ). idle (line_at start calls u x)) e ∙ taken.was_idle) still_busy)
          | no e ↦ unchanged (other_line taken.worker w e)
        ]
        go (steps v a taken) = elim (ℕ_discrete w v) [
          | yes e ↦ stepped_on (rw e a) (rw e taken)
          | no e ↦ unchanged (other_line taken.worker w e)
        ]
