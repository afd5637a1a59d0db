-- A plain map, asked one request after another in the order of a run, gives every answer that was given: before each step it is the map of
-- the rows at that position.
use Prim.Native.Nat.{ℕ, zero, suc, ◌+◌, ◌<◌}
use Rattle.std.specs.Prelude.{true, ◌≡◌, refl, ◌≢◌, ◌⊎◌, length}
use Rattle.std.proofs.Common.{ap, sym, ◌∙◌, subst, inl, inr}
use mathlib.Core.List.Memᴰ
use mathlib.Core.List.{List, [], ◌∷◌, ◌++◌}
use native.Mathlib.Omega.{arith}
use Rattle.order.specs.PlainMap.{PlainMap, operation, answer_of, after_asking}
use Rattle.order.proofs.Asking.{Agrees}
use Rattle.order.proofs.Distinct.{Among, Distinct, one_more}
use Rattle.order.specs.Demand.{Placed, Request, Finished, Removing, Replays, at_end, answers, is_full, removes as removes_entry}
use Rattle.order.proofs.Time.{Ready, TableAt}
use Rattle.order.proofs.OneRequest.{same_request}
use Rattle.order.proofs.MapAt.{map_at}
use Rattle.order.proofs.Moments.{reading}
use Rattle.order.proofs.MapChanges.{Change, adds, removes, change_alone, Outcome, finishes, stays, outcome, removal_agrees, add_agrees}
use Rattle.order.proofs.Causes.{Cause, same_map, changed_by, cause}
use Rattle.order.proofs.Fates.{ReadsAt}
use Rattle.order.proofs.Picked.{picked, in_picked, picked_passes, picked_distinct}
use Rattle.order.proofs.Placing.{placed_at}
use Rattle.order.proofs.OrderOfRun.{reads_now, changes_now, reads_now_lem, changes_now_lem, change_known, order_from}
use Rattle.kept.specs.Conditions.{clash, contradiction}
use Rattle.model.specs.declared.Catalogue.{Catalogue}
use Rattle.model.specs.declared.Answer.{Answer}
use Rattle.model.specs.declared.Answer.TheVariants.{Added, Removed, Full}
use Rattle.model.specs.declared.Call.{Call}

module _ {top : ℕ} {start : Catalogue} {calls : List Call} (ready : Ready top start calls) where
  -- ---- One request ----

  reading_not_full : {a : Answer} → reading a ≡ true → a ≢ Full
  reading_not_full h e = clash h (ap reading e)

  -- the map answers and becomes m', with which the rest is replayed
  answers_then : {m m' n : PlainMap} {ps : List (Placed start calls)} (p : Placed start calls) (w code key element f : ℕ) (a : Answer)
      → Request start calls p.request w code key element → Finished start calls p.request w f a → a ≢ Full
      → Agrees m (operation code key element) a m' → Replays start calls m' ps n → Replays start calls m (p ∷ ps) n
  answers_then {n = n} {ps = ps} p w code key element f a request finished some agrees rest =
      answers w code key element f a request finished some agrees.answer
      (subst (λ (x : PlainMap). Replays start calls x ps n) (sym agrees.after) rest)

  removes_then : {m m' n : PlainMap} {ps : List (Placed start calls)} (p : Placed start calls) (w code key element e : ℕ)
      → Request start calls p.request w code key element → Removing start calls p.request w
      → Agrees m (operation code key element) (Removed e) m' → Replays start calls m' ps n → Replays start calls m (p ∷ ps) n
  removes_then {m} {m'} {n} {ps} p w code key element e request r agrees rest =
      removes_entry w r e (ap (answer_of m) same ∙ agrees.answer)
      (subst (λ (x : PlainMap). Replays start calls x ps n) (sym (ap (after_asking m) same ∙ agrees.after)) rest)
    where
      same : operation 3 r.key r.element ≡ operation code key element
      same =
          let q = same_request p.request w code key element w 3 r.key r.element request r.request in
          cc (q.code_same, q.key_same, q.element_same)

  read_then : {n : PlainMap} {ps : List (Placed start calls)} (s t : ℕ) → ReadsAt ready s t → Replays start calls (map_at ready t) ps n
      → Replays start calls (map_at ready t) (record { request = s; moment = t } ∷ ps) n
  read_then {n} {ps} s t r rest = go r.right
    where
      go : (r.answer ≡ Full) ⊎ ((reading r.answer ≡ true)
          × Agrees (map_at ready t) (operation r.code r.key r.element) r.answer (map_at ready t))
          → Replays start calls (map_at ready t) (record { request = s; moment = t } ∷ ps) n
      go (inl e) = is_full r.worker r.code r.key r.element r.finish r.ends_so.running.request
          (rw e at r.ends_so.finished) rest
      go (inr (h, agrees)) =
          answers_then _ r.worker r.code r.key r.element r.finish r.answer
          r.ends_so.running.request r.ends_so.finished (reading_not_full h) agrees rest

  change_then : {n : PlainMap} {ps : List (Placed start calls)} (s t : ℕ) → Change ready s t
      → Replays start calls (map_at ready (suc t)) ps n
      → Replays start calls (map_at ready t) (record { request = s; moment = t } ∷ ps) n
  change_then s t (adds w code key element e) rest =
      answers_then _ w code key element t Added e.running.request e.finished (λ h. contradiction (cc))
      (add_agrees ready s w code key element t e) rest
  change_then {n} {ps} s t (removes w code key element y r is some unmarked marked) rest =
      go (outcome ready s w code key element t y r is some unmarked marked)
    where
      agrees : Agrees (map_at ready t) (operation code key element) (Removed (TableAt ready t y).element) (map_at ready (suc t))
      agrees = removal_agrees ready s w code key element t y r is some unmarked marked

      go : Outcome ready s w code key element t y → Replays start calls (map_at ready t) (record { request = s; moment = t } ∷ ps) n
      go (finishes f h e) =
          answers_then _ w code key element f _ r.request e.finished (λ q. contradiction (cc)) agrees rest
      go (stays m) = removes_then _ w code key element _ r.request m agrees rest

  -- ---- One step ----

  reads_replay : {n : PlainMap} {ps : List (Placed start calls)} (t : ℕ) (xs : List ℕ) → ((s : ℕ) → Among s xs → ReadsAt ready s t)
      → Replays start calls (map_at ready t) ps n → Replays start calls (map_at ready t) (placed_at start calls t xs ++ ps) n
  unfolding placed_at
  reads_replay t [] read rest = rest
  reads_replay t (s ∷ xs) read rest =
      read_then s t (read s (Memᴰ.head refl)) (reads_replay t xs (λ u m. read u (Memᴰ.tail m)) rest)

  -- at most one request changes the map at a step, and if none does it stays
  changes_replay : {n : PlainMap} {ps : List (Placed start calls)} (t : ℕ) (xs : List ℕ) → ((s : ℕ) → Among s xs → Change ready s t)
      → Distinct xs
      → ((s : ℕ) → Change ready s t → Among s xs) → Replays start calls (map_at ready (suc t)) ps n
      → Replays start calls (map_at ready t) (placed_at start calls t xs ++ ps) n
  unfolding placed_at
  changes_replay {n} {ps} t [] change d known rest = go (cause ready t)
    where
      go : Cause ready t → Replays start calls (map_at ready t) ps n
      go (same_map e) = rw e at rest
      go (changed_by s c) = absurd (Memᴰ.not-nil (known s c))
  changes_replay t (s ∷ []) change d known rest = change_then s t (change s (Memᴰ.head refl)) rest
  changes_replay t (s ∷ u ∷ xs) change (one_more new d) known rest =
      let same = change_alone ready s u t (change s (Memᴰ.head refl)) (change u (Memᴰ.tail (Memᴰ.head refl))) in
      absurd (new (Memᴰ.head same))

  -- ---- All steps ----

  change_inside : (s t : ℕ) → Change ready s t → s < length calls
  change_inside s t (adds w code key element e) = e.running.request.inside
  change_inside s t (removes w code key element y r is some unmarked marked) = r.request.inside

  pub order_replays : (n t : ℕ) → Replays start calls (map_at ready t) (order_from ready n t) (map_at ready (t + n))
  unfolding order_from
  order_replays zero t =
      let e : t + 0 ≡ t = omega arith in
      rw e at_end
  order_replays (suc n) t =
      let e : t + suc n ≡ suc t + n = omega arith in
      rw e
      (reads_replay t (picked (reads_now ready t) (length calls))
      (λ s m. reads_now_lem ready t s (picked_passes (reads_now ready t) s (length calls) m).1)
      (changes_replay t (picked (changes_now ready t) (length calls))
      (λ s m. changes_now_lem ready t s (picked_passes (changes_now ready t) s (length calls) m).1)
      (picked_distinct (changes_now ready t) (length calls))
      (λ s c. in_picked (changes_now ready t) s (length calls) (change_inside s t c) (change_known ready t s c))
      (order_replays n (suc t))))
