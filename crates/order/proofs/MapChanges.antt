-- The requests that change the map, each at its step: an add at the step that links its row, a delete at the step that marks its row.
-- Such a request changes the map once, and two never change it at one step.
use Rattle.std.specs.Prelude.{ℕ, suc, ◌≤◌, ◌<◌, true, false, ◌≡◌, refl, ◌≢◌, List, length}
use Rattle.std.proofs.Common.{ap, sym, ◌∙◌, arith}
use Rattle.std.proofs.Math.Decide.{ℕ_discrete, dec_le}
use Rattle.order.proofs.Table.{Table, mark_of}
use Rattle.order.proofs.MarkOf.{mark_of_lem}
use Rattle.order.specs.PlainMap.{Operation, operation, insert}
use Rattle.order.proofs.Lawful.{no_row_removed}
use Rattle.order.proofs.Asking.{Agrees}
use Rattle.order.proofs.Memory.{Answered, LinksRow, is_added}
use Rattle.order.specs.Demand.{state_at, Accepts, Request, Removing}
use Rattle.order.proofs.Time.{Ready, Happening, nothing_happens, submits, steps, happening, owned_at, structure_at, move_at, TableAt, grown_at}
use Rattle.order.proofs.Running.{removed_at, Running, Ends}
use Rattle.order.proofs.OneRequest.{same_stepper, same_request, same_finish}
use Rattle.order.proofs.Courses.{ended_not_running, Course, under_way, over, course, alone, removes_on}
use Rattle.order.proofs.MapAt.{map_at, link_of, mark_agrees}
use Rattle.order.proofs.Moments.{reading, Kind, reads_only, is_full, kind, adds as adds_kind, removes as removes_kind}
use Rattle.order.proofs.Removals.{removes_save, removal_answer, removing}
use Rattle.order.proofs.Compared.{Compared, less, equal, more, compared}
use Rattle.kept.specs.Conditions.{clash, contradiction}
use Rattle.model.specs.State.{row_at}
use Rattle.model.specs.declared.Row.{Row}
use Rattle.model.specs.declared.Catalogue.{Catalogue}
use Rattle.model.specs.declared.Answer.{Answer}
use Rattle.model.specs.declared.Answer.TheVariants.{Added, Removed, Full}
use Rattle.model.specs.declared.Call.{Call}
use Rattle.model.specs.declared.Call.TheVariants.{Step}

not_removed : {A : Type 0} {a : Answer} {e : ℕ} → a ≡ Added → a ≡ Removed e → A
not_removed h k = contradiction (cc)

module _ {top : ℕ} {start : Catalogue} {calls : List Call} (ready : Ready top start calls) where
  -- the request submitted at s changes the map at T
  pub data Change (s T : ℕ) : Type 0 where
    adds : (w code key element : ℕ) → Ends ready s w code key element T Added → Change s T
    removes : (w code key element y : ℕ) → Running ready s w code key element T → removed_at ready T w ≡ y → y ≢ no_row_removed
        → mark_of (TableAt ready T) y ≡ false → mark_of (TableAt ready (suc T)) y ≡ true → Change s T

  -- what is said of one request by another account of it
  pub by_request : (P : ℕ → ℕ → ℕ → ℕ → Type 0) {s w code key element w' code' key' element' : ℕ}
      → Request start calls s w code key element → Request start calls s w' code' key' element' → P w' code' key' element'
      → P w code key element
  by_request P {s} {w} {code} {key} {element} {w'} {code'} {key'} {element'} a b p =
      let e = same_request s w code key element w' code' key' element' a b in
      rw (e.worker, e.code_same, e.key_same, e.element_same) at p

  ends_too : {s w code key element w' code' key' element' f : ℕ} {a : Answer} → Request start calls s w code key element
      → Ends ready s w' code' key' element' f a → Ends ready s w code key element f a
  ends_too {s} {f = f} {a = a} r e = by_request (λ v c k x. Ends ready s v c k x f a) r e.running.request e

  pub marked_still : (t u y : ℕ) → t ≤ u → mark_of (TableAt ready t) y ≡ true → mark_of (TableAt ready u) y ≡ true
  marked_still t u y h m =
      (grown_at ready t u y h ((structure_at ready t).mark_linked y m)).mark m

  -- a mark is the work of an accepted step
  pub marking_step : (T y : ℕ) → mark_of (TableAt ready T) y ≡ false → mark_of (TableAt ready (suc T)) y ≡ true
      → (v : ℕ) × Accepts start calls T (Step v)
  marking_step T y unmarked marked = go (happening ready T)
    where
      unchanged : {A : Type 0} → (state_at start calls (suc T)).rows ≡ (state_at start calls T).rows → A
      unchanged same = absurd (clash (ap (λ (rows : List Row). mark_of (row_at rows) y) (sym same) ∙ marked) unmarked)

      go : Happening start calls T → (v : ℕ) × Accepts start calls T (Step v)
      go (nothing_happens e) = unchanged (ap (λ (c : Catalogue). c.rows) e)
      go (submits w code key element a taken) = unchanged taken.rows_same
      go (steps w a taken) = (w, a)

  -- a delete that removes a row ends with Removed
  pub ends_removed : (s w code key element T f y : ℕ) (a : Answer) → Running ready s w code key element T → removed_at ready T w ≡ y
      → y ≢ no_row_removed
      → Ends ready s w code key element f a → (T ≤ f) × (a ≡ Removed (TableAt ready f y).element)
  ends_removed s w code key element T f y a r is some e = go (dec_le T f)
    where
      go : Dec (T ≤ f) → (T ≤ f) × (a ≡ Removed (TableAt ready f y).element)
      go (no h) = absurd (ended_not_running ready s w f T a e.finished (omega arith) r.busy)
      go (yes h) = (
        h,
        removal_answer ready s w code key element f y a e
            (removes_on ready s w code key element T f y e.running r.since h is some) some,
      )

  -- ---- What becomes of a removal ----

  pub data Outcome (s w code key element T y : ℕ) : Type 0 where
    finishes : (f : ℕ) → T ≤ f → Ends ready s w code key element f (Removed (TableAt ready T y).element) → Outcome s w code key element T y
    stays : Removing start calls s w → Outcome s w code key element T y

  module _ (s w code key element T y : ℕ) (r : Running ready s w code key element T) (is : removed_at ready T w ≡ y)
      (some : y ≢ no_row_removed) (unmarked : mark_of (TableAt ready T) y ≡ false) (marked : mark_of (TableAt ready (suc T)) y ≡ true) where
    inside : T < length calls
    inside = (marking_step T y unmarked marked).1.inside

    pub outcome : Outcome s w code key element T y
    outcome = go (course ready s w code key element r.request (length calls) r.request.inside)
      where
        go : Course ready s w code key element (length calls) → Outcome s w code key element T y
        go (under_way q) =
            stays (removing ready s w code key element y q
            (removes_on ready s w code key element T (length calls) y q r.since (omega (arith, inside)) is some) some
            (marked_still (suc T) (length calls) y inside marked))
        go (over f a h e) =
            let answer = ends_removed s w code key element T f y a r is some e in
            let linked = (removes_save ready s w code key element T y r is some).save.linked in
            let g = grown_at ready T f y answer.0 linked in
            finishes f answer.0 (rw (answer.1 ∙ ap Removed g.element) at e)

    pub removal_agrees : Agrees (map_at ready T) (operation code key element) (Removed (TableAt ready T y).element) (map_at ready (suc T))
    removal_agrees =
        let m = removes_save ready s w code key element T y r is some in
        rw m.is_delete (rw m.save.has_key at (mark_agrees ready T y unmarked marked))

  pub add_agrees : (s w code key element T : ℕ) → Ends ready s w code key element T Added
      → Agrees (map_at ready T) (operation code key element) Added (map_at ready (suc T))
  add_agrees s w code key element T e = go (kind ready s w code key element T Added e)
    where
      go : Kind ready s w T (operation code key element) Added
          → Agrees (map_at ready T) (operation code key element) Added (map_at ready (suc T))
      go (reads_only h r) = absurd (clash h refl)
      go (is_full h) = contradiction (cc)
      go (adds_kind h agrees) = agrees
      go (removes_kind x h r) = not_removed refl h

  -- ---- Once ----

  add_not_removal : {A : Type 0} (s w code key element w' code' key' element' T T' y : ℕ) → Ends ready s w code key element T Added
      → Running ready s w' code' key' element' T' → removed_at ready T' w' ≡ y → y ≢ no_row_removed → A
  add_not_removal s w code key element w' code' key' element' T T' y e r is some =
      let e' = ends_too r.request e in
      not_removed refl (ends_removed s w' code' key' element' T' T y Added r is some e').1

  removal_before : {A : Type 0} (s w code key element T T' y y' : ℕ) → Running ready s w code key element T → removed_at ready T w ≡ y
      → y ≢ no_row_removed
      → mark_of (TableAt ready (suc T)) y ≡ true → Running ready s w code key element T' → removed_at ready T' w ≡ y'
      → mark_of (TableAt ready T') y' ≡ false → T < T' → A
  removal_before s w code key element T T' y y' r is some marked r' is' unmarked' h =
      let same : y' ≡ y = sym is' ∙ removes_on ready s w code key element T T' y r' r.since (omega arith) is some in
      absurd (clash (marked_still (suc T) T' y h marked) (ap (mark_of (TableAt ready T')) (sym same) ∙ unmarked'))

  pub change_once : (s T T' : ℕ) → Change s T → Change s T' → T ≡ T'
  change_once s T T' (adds w code key element e) (adds w' code' key' element' e') =
      let e'' = ends_too e.running.request e' in
      (same_finish s w T T' Added Added e.finished e''.finished).0
  change_once s T T' (adds w code key element e) (removes w' code' key' element' y r is some unmarked marked) =
      add_not_removal s w code key element w' code' key' element' T T' y e r is some
  change_once s T T' (removes w' code' key' element' y r is some unmarked marked) (adds w code key element e) =
      add_not_removal s w code key element w' code' key' element' T' T y e r is some
  change_once s T T' (removes w code key element y r is some unmarked marked)
      (removes w' code' key' element' y' r' is' some' unmarked' marked') =
      go (compared T T')
      (by_request (λ v c k x. Running ready s v c k x T' × (removed_at ready T' v ≡ y')) r.request r'.request (r', is'))
    where
      go : Compared T T' → Running ready s w code key element T' × (removed_at ready T' w ≡ y') → T ≡ T'
      go (less h) (q, i) = removal_before s w code key element T T' y y' r is some marked q i unmarked' h
      go (equal e) (q, i) = e
      go (more h) (q, i) = removal_before s w code key element T' T y' y q i some' marked' r is unmarked h

  -- ---- Alone ----

  -- the add links its row
  answer_links : (w t u : ℕ) (R' : Table) (y : ℕ) (o : Operation) → Answered w (TableAt ready) t u R' y o Added
      → (k : ℕ) × (x : ℕ) × LinksRow w (TableAt ready u) R' k x
  answer_links w t u R' y (insert k x) (is_added h) = (k, x, h)
  answer_links w t u R' y _ other = elim other [ ]

  ends_link : (s w code key element T : ℕ) (e : Ends ready s w code key element T Added)
      → (k : ℕ) × (x : ℕ) × LinksRow w (TableAt ready T) (TableAt ready (suc T)) k x
  ends_link s w code key element T e =
      answer_links w (suc s) T (TableAt ready (suc T)) (removed_at ready T w) (operation code key element) e.answered

  link_no_mark : {A : Type 0} (s w code key element T y : ℕ) → Ends ready s w code key element T Added → mark_of (TableAt ready T) y ≡ false
      → mark_of (TableAt ready (suc T)) y ≡ true → A
  link_no_mark s w code key element T y e unmarked marked =
      let l = (ends_link s w code key element T e).2 in
      absurd (clash marked ((link_of (move_at ready T) l.held l.linked).move.mark= y ∙ unmarked))

  pub change_alone : (s s' T : ℕ) → Change s T → Change s' T → s ≡ s'
  change_alone s s' T (adds w code key element e) (adds w' code' key' element' e') =
      let same = same_stepper T w' w e'.finished.step e.finished.step in
      alone ready s w code key element s' code' key' element' T e.running
      (rw same at e'.running)
  change_alone s s' T (adds w code key element e) (removes w' code' key' element' y r is some unmarked marked) =
      link_no_mark s w code key element T y e unmarked marked
  change_alone s s' T (removes w' code' key' element' y r is some unmarked marked) (adds w code key element e) =
      link_no_mark s' w code key element T y e unmarked marked
  change_alone s s' T (removes w code key element y r is some unmarked marked)
      (removes w' code' key' element' y' r' is' some' unmarked' marked') =
      let same = (owned_at ready T).only w' w y some (is' ∙ sym one_row) is in
      alone ready s w code key element s' code' key' element' T r (rw same at r')
    where
      one_row : y ≡ y'
      one_row = elim (ℕ_discrete y y') [
        | yes e ↦ e
        | no e ↦ absurd (clash marked ((mark_of_lem (move_at ready T) unmarked' marked').move.mark_other y e ∙ unmarked))
      ]

  -- ---- What a request that changes the map is answered ----

  pub change_ends : (s T w code key element f : ℕ) (a : Answer) → Change s T → Ends ready s w code key element f a
      → (reading a ≡ false) × (a ≢ Full)
  change_ends s T w code key element f a (adds w' code' key' element' e') e =
      let e'' = ends_too e.running.request e' in
      let same = (same_finish s w f T a Added e.finished e''.finished).1 in
      (ap reading same, λ h. contradiction (cc))
  change_ends s T w code key element f a (removes w' code' key' element' y r is some unmarked marked) e =
      let e' = ends_too r.request e in
      let same = (ends_removed s w' code' key' element' T f y a r is some e').1 in
      (ap reading same, λ h. contradiction (cc))

  -- at the end worker w removes a row that is marked
  abbrev pub RemovesMarked : ℕ → Type 0
  RemovesMarked w = (removed_at ready (length calls) w ≢ no_row_removed)
      × (mark_of (TableAt ready (length calls)) (removed_at ready (length calls) w) ≡ true)

  -- a request that changes the map and is unfinished at the end is a delete whose row is marked
  pub change_unfinished : (s T w code key element : ℕ) → Change s T → Running ready s w code key element (length calls)
      → RemovesMarked w
  change_unfinished s T w code key element (adds w' code' key' element' e') q =
      let e = ends_too q.request e' in
      absurd (ended_not_running ready s w T (length calls) Added e.finished e.finished.step.inside q.busy)
  change_unfinished s T w code key element (removes w' code' key' element' y r is some unmarked marked) q =
      let both = by_request (λ v c k x. Running ready s v c k x T × (removed_at ready T v ≡ y)) q.request r.request (r, is) in
      let early = (marking_step T y unmarked marked).1.inside in
      let still = removes_on ready s w code key element T (length calls) y q both.0.since (omega arith) both.1 some in
      ((λ h. some (sym still ∙ h)), rw still (marked_still (suc T) (length calls) y early marked))
