-- What the statement of demand 3 excludes, whatever the machine: from an order alone, without a fact about rows or lines. An add that was
-- answered Added is in the map at the end if its key is never deleted; a request of the key submitted after the add's finish is answered
-- Absent only if another delete of the key is in the order; and Full is not given while a row is free that was never linked.
use Rattle.std.specs.Prelude.{ℕ, suc, ◌≤◌, ◌<◌, ◌≡◌, refl, ◌≢◌, ◌⊎◌}
use Rattle.std.proofs.Math.Path.{ap, subst}
use Rattle.std.proofs.Common.{sym, ◌∙◌, inl, inr, arith}
use mathlib.Core.List.Memᴰ
use mathlib.Core.List.{List, ◌∷◌, Memᴰ}
use Rattle.std.proofs.Math.Option.{some}
use Rattle.std.proofs.Math.Decide.{ℕ_discrete}
use Rattle.order.specs.PlainMap.{PlainMap, Operation, operation, search, insert, delete, key_of, holding_after, after_asking, answer_of, answer_holding}
use Rattle.order.proofs.MapOfTable.{setting_same, setting_other}
use Rattle.order.proofs.Asking.{added_holds}
use Rattle.order.specs.Demand.{state_at, line_at, Accepts, Request, Finished, Removing, Placed, InOrder, no_entry, one_entry, next_entry, Entry, is_finished, is_removing, Replays, at_end, answers, is_full, removes, Ordered, FullExactly}
use Rattle.order.proofs.OneRequest.{same_request, same_finish, idle_not_busy}
use Rattle.kept.specs.Conditions.{contradiction}
use Rattle.model.specs.State.{row_at}
use Rattle.model.specs.declared.Catalogue.{Catalogue}
use Rattle.model.specs.declared.Answer.{Answer}
use Rattle.model.specs.declared.Answer.TheVariants.{Absent, Added, Full}
use Rattle.model.specs.declared.Standing.TheVariants.{Free, Linked}
use Rattle.model.specs.declared.Line.TheVariants.{Idle}
use Rattle.model.specs.declared.Call.{Call}
use Rattle.model.specs.declared.Call.TheVariants.{Step}

-- ---- One key of a plain map ----

module _ (m : PlainMap) (k e : ℕ) (is : m k ≡ some e) where
  held_after : (o : Operation) → k ≡ key_of o → o ≢ delete k → holding_after o (m (key_of o)) ≡ some e
  held_after (search j) same other = cc
  held_after (insert j x) same other = ap (holding_after (insert j x)) (ap m (sym same) ∙ is)
  held_after (delete j) same other = absurd (other (ap delete (sym same)))

  -- what does not delete the key keeps it
  asked_keeps : (o : Operation) → o ≢ delete k → after_asking m o k ≡ some e
  unfolding after_asking
  asked_keeps o other = elim (ℕ_discrete k (key_of o)) [
    | yes same ↦ ap (after_asking m o) same ∙ setting_same m (key_of o) _ ∙ held_after o same other
    | no apart ↦ setting_other m (key_of o) k _ apart ∙ is
  ]

  -- and is not answered Absent if it is of this key
  not_absent : (o : Operation) → k ≡ key_of o → answer_of m o ≢ Absent
  unfolding answer_of
  not_absent o same h = go o (ap (answer_holding o) (sym is ∙ ap m same) ∙ h)
    where
      go : (p : Operation) → answer_holding p (some e) ≡ Absent → ⊥
      go (search j) q = contradiction (cc)
      go (insert j x) q = contradiction (cc)
      go (delete j) q = contradiction (cc)

module _ (start : Catalogue) (calls : List Call) where
  -- no request of the list deletes key k
  abbrev NoneDeletes : ℕ → List (Placed start calls) → Type 0
  NoneDeletes k ps =
      (p : Placed start calls) → Memᴰ p ps → (w code key element : ℕ) → Request start calls p.request w code key element
      → operation code key element ≢ delete k

  keeps : (k e : ℕ) {m n : PlainMap} {ps : List (Placed start calls)} → Replays start calls m ps n → m k ≡ some e → NoneDeletes k ps
      → n k ≡ some e
  keeps k e at_end is clean = is
  keeps k e {m = m} (answers {p = p} w code key element f a request finished asked ans rest) is clean =
      keeps k e rest (asked_keeps m k e is (operation code key element) (clean p (Memᴰ.head refl) w code key element request))
      (λ q i. clean q (Memᴰ.tail i))
  keeps k e (is_full w code key element f request finished rest) is clean = keeps k e rest is (λ q i. clean q (Memᴰ.tail i))
  keeps k e {m = m} (removes {p = p} w r x ans rest) is clean =
      keeps k e rest
      (asked_keeps m k e is (operation 3 r.key r.element) (clean p (Memᴰ.head refl) w 3 r.key r.element r.request))
      (λ q i. clean q (Memᴰ.tail i))

  -- the request at s is in the list
  abbrev Asks : ℕ → List (Placed start calls) → Type 0
  Asks s ps = (p : Placed start calls) × (p.request ≡ s) × Memᴰ p ps

  asks_later : {s : ℕ} {p : Placed start calls} {ps : List (Placed start calls)} → Asks s (p ∷ ps) → p.request ≢ s → Asks s ps
  asks_later {s} {p} {ps} (q, same, i) other = elim (Memᴰ.cases_cons i) [
    | inl e ↦ absurd (other (ap (λ (r : Placed start calls). r.request) (sym e) ∙ same))
    | inr j ↦ (q, same, j)
  ]

  -- the list begins with the request, or it comes later
  first_or_later : {A : Type 0} {s : ℕ} {p : Placed start calls} {ps : List (Placed start calls)} → Asks s (p ∷ ps)
      → (p.request ≡ s → A) → (p.request ≢ s → Asks s ps → A) → A
  first_or_later {s = s} {p = p} asks here later = elim (ℕ_discrete p.request s) [
    | yes same ↦ here same
    | no other ↦ later other (asks_later asks other)
  ]

  -- ---- The add of key k with element e ----

  module _ (s w k e f : ℕ) (request : Request start calls s w 2 k e) (finished : Finished start calls s w f Added) where
    -- an entry of the add is its insert, with its finish
    add_finish : (p : Placed start calls) (v code key element g : ℕ) (a : Answer) → p.request ≡ s
        → Request start calls p.request v code key element → Finished start calls p.request v g a
        → (operation code key element ≡ insert k e) × (g ≡ f) × (a ≡ Added)
    unfolding operation
    add_finish p v code key element g a same r x =
        let q = same_request s w 2 k e v code key element request (rw same at r) in
        let here = subst (λ (i : ℕ). Finished start calls i v g a) same x in
        let finish = same_finish s w g f a Added (rw q.worker at here) finished in
        (cc (q.code_same, q.key_same, q.element_same), finish.0, finish.1)

    -- the map is asked to insert, and answers Added
    add_entry : (m : PlainMap) (p : Placed start calls) (v code key element g : ℕ) (a : Answer) → p.request ≡ s
        → Request start calls p.request v code key element → Finished start calls p.request v g a
        → answer_of m (operation code key element) ≡ a → after_asking m (operation code key element) k ≡ some e
    add_entry m p v code key element g a same r x ans =
        let (o, _, added) = add_finish p v code key element g a same r x in
        rw o (added_holds m (after_asking m (insert k e)) k e (record { answer = ap (answer_of m) (sym o) ∙ ans ∙ added; after = refl }))

    -- it is no Full
    add_not_full : {A : Type 0} (p : Placed start calls) (v code key element g : ℕ) → p.request ≡ s
        → Request start calls p.request v code key element → Finished start calls p.request v g Full → A
    add_not_full p v code key element g same r x = contradiction (cc (add_finish p v code key element g Full same r x).2)

    -- and no removal
    add_not_removal : {A : Type 0} (p : Placed start calls) (v : ℕ) → p.request ≡ s → Removing start calls p.request v → A
    add_not_removal p v same r =
        let asked = subst (λ (i : ℕ). Request start calls i v 3 r.key r.element) same r.request in
        absurd (omega (arith, (same_request s w 2 k e v 3 r.key r.element request asked).code_same))

    holds_at_end : {m n : PlainMap} {ps : List (Placed start calls)} → Replays start calls m ps n → Asks s ps → NoneDeletes k ps
        → n k ≡ some e
    holds_at_end at_end (p, same, i) clean = absurd (Memᴰ.not-nil i)
    holds_at_end {m} (answers {p = p} v code key element g a r x asked ans rest) asks clean =
        first_or_later asks
        (λ same. keeps k e rest (add_entry m p v code key element g a same r x ans) (λ q i. clean q (Memᴰ.tail i)))
        (λ other h. holds_at_end rest h (λ q i. clean q (Memᴰ.tail i)))
    holds_at_end (is_full {p = p} v code key element g r x rest) asks clean =
        first_or_later asks
        (λ same. add_not_full p v code key element g same r x)
        (λ other h. holds_at_end rest h (λ q i. clean q (Memᴰ.tail i)))
    holds_at_end (removes {p = p} v r x ans rest) asks clean =
        first_or_later asks
        (λ same. add_not_removal p v same r)
        (λ other h. holds_at_end rest h (λ q i. clean q (Memᴰ.tail i)))

    -- A lost insert: if key k is never deleted, the map holds the save at the end.
    pub add_never_lost : {before after : PlainMap} → Ordered start calls before after
        → ((d v code key element : ℕ) → Request start calls d v code key element → operation code key element ≢ delete k)
        → after k ≡ some e
    add_never_lost ordered clean =
        holds_at_end ordered.replays (ordered.finished_in s w 2 k e f Added request finished)
        (λ p i v code key element r. clean p.request v code key element r)

    -- ---- A request of key k that comes after the add and is answered Absent ----

    module _ (q v code key element h : ℕ) (asked : Request start calls q v code key element)
        (of_key : k ≡ key_of (operation code key element)) (after : f < q) (absent : Finished start calls q v h Absent) where
      -- only the request itself deletes key k
      abbrev OnlyItDeletes : List (Placed start calls) → Type 0
      OnlyItDeletes ps =
          (p : Placed start calls) → Memᴰ p ps → (w code key element : ℕ) → Request start calls p.request w code key element
          → operation code key element ≡ delete k → p.request ≡ q

      same_absent : (u code' key' element' g : ℕ) (a : Answer) → Request start calls q u code' key' element' → Finished start calls q u g a
          → (a ≡ Absent) × (operation code' key' element' ≡ operation code key element)
      same_absent u code' key' element' g a r x =
          let s = same_request q v code key element u code' key' element' asked r in (
            (same_finish q v g h a Absent (rw s.worker at x) absent).1,
            cc (s.code_same, s.key_same, s.element_same),
          )

      until : {m n : PlainMap} {ps : List (Placed start calls)} → Replays start calls m ps n → m k ≡ some e → Asks q ps → OnlyItDeletes ps
          → ⊥
      until at_end is (p, same, i) only = Memᴰ.not-nil i
      until {m} (answers {p = p} u code' key' element' g a r x some_answer ans rest) is asks only =
          first_or_later asks
          (λ same.
          let (absent_too, same_operation) = same_absent u code' key' element' g a (rw same at r) (rw same at x) in
          not_absent m k e is (operation code' key' element') (of_key ∙ ap key_of (sym same_operation)) (ans ∙ absent_too))
          (λ other h.
          let kept = asked_keeps m k e is (operation code' key' element')
          (λ d. other (only p (Memᴰ.head refl) u code' key' element' r d)) in
          until rest kept h (λ y i. only y (Memᴰ.tail i)))
      until (is_full {p = p} u code' key' element' g r x rest) is asks only =
          first_or_later asks
          (λ same.
          let (full_absent, _) = same_absent u code' key' element' g Full (rw same at r) (rw same at x) in
          contradiction (cc))
          (λ other h. until rest is h (λ y i. only y (Memᴰ.tail i)))
      until {m} (removes {p = p} u r x ans rest) is asks only =
          first_or_later asks
          (λ same.
          let worker = (same_request q v code key element u 3 r.key r.element asked (rw same at r.request)).worker in
          idle_not_busy absent.answered
          (rw worker at (r.unfinished (suc h) (omega (arith, same, absent.later)) absent.step.inside)))
          (λ other j.
          let kept = asked_keeps m k e is (operation 3 r.key r.element)
          (λ d. other (only p (Memᴰ.head refl) u 3 r.key r.element r.request d)) in
          until rest kept j (λ y i. only y (Memᴰ.tail i)))

      -- the add's entries come no later than its finish, those of the request after its submit
      record Bounds (ps : List (Placed start calls)) : Type 0 where
        sorted : InOrder start calls ps
        add_early : (p : Placed start calls) → Memᴰ p ps → p.request ≡ s → p.moment ≤ f
        request_late : (p : Placed start calls) → Memᴰ p ps → p.request ≡ q → q < p.moment

      lowest : {p : Placed start calls} {ps : List (Placed start calls)} → InOrder start calls (p ∷ ps) → (r : Placed start calls)
          → Memᴰ r ps
          → p.moment ≤ r.moment
      lowest one_entry r i = absurd (Memᴰ.not-nil i)
      lowest {p} (next_entry {q = x} {ps = ps} low sorted) r i = go (Memᴰ.cases_cons i) (λ j. lowest sorted r j)
        where
          go : (r ≡ x) ⊎ Memᴰ r ps → (Memᴰ r ps → x.moment ≤ r.moment) → p.moment ≤ r.moment
          go (inl same) further = omega (arith, low, ap (λ (y : Placed start calls). y.moment) same)
          go (inr j) further = omega (arith, low, further j)

      sorted_later : {p : Placed start calls} {ps : List (Placed start calls)} → InOrder start calls (p ∷ ps) → InOrder start calls ps
      sorted_later one_entry = no_entry
      sorted_later (next_entry low sorted) = sorted

      bounds_later : {p : Placed start calls} {ps : List (Placed start calls)} → Bounds (p ∷ ps) → Bounds ps
      bounds_later b = record {
        sorted = sorted_later b.sorted;
        add_early = λ r i. b.add_early r (Memᴰ.tail i);
        request_late = λ r i. b.request_late r (Memᴰ.tail i);
      }

      -- what the list begins with: the add, the later request, which the bounds exclude, or neither of the two
      first_of : {p : Placed start calls} {ps : List (Placed start calls)} → Bounds (p ∷ ps) → Asks s (p ∷ ps) → Asks q (p ∷ ps)
          → ((p.request ≡ s) → Asks q ps → ⊥) → (Asks s ps → Asks q ps → ⊥) → ⊥
      first_of {p} {ps} b add asks here further = go (ℕ_discrete p.request s) (ℕ_discrete p.request q)
        where
          go : Dec (p.request ≡ s) → Dec (p.request ≡ q) → ⊥
          go (yes same) d = here same (asks_later asks (λ x. omega (arith, same, x, finished.later)))
          go (no other) (no apart) = further (asks_later add other) (asks_later asks apart)
          go (no other) (yes same) =
              let a = asks_later add other in
              omega (
                arith,
                lowest b.sorted a.0 a.2,
                b.add_early a.0 (Memᴰ.tail a.2) a.1,
                b.request_late p (Memᴰ.head refl) same,
              )

      refuted : {m n : PlainMap} {ps : List (Placed start calls)} → Replays start calls m ps n → Bounds ps → Asks s ps → Asks q ps
          → OnlyItDeletes ps → ⊥
      refuted at_end b (p, same, i) asks only = Memᴰ.not-nil i
      refuted {m} (answers {p = p} u code' key' element' g a r x some_answer ans rest) b add asks only =
          first_of b add asks
          (λ same j. until rest (add_entry m p u code' key' element' g a same r x ans) j (λ y i. only y (Memᴰ.tail i)))
          (λ c j. refuted rest (bounds_later b) c j (λ y i. only y (Memᴰ.tail i)))
      refuted (is_full {p = p} u code' key' element' g r x rest) b add asks only =
          first_of b add asks (λ same j. add_not_full p u code' key' element' g same r x)
          (λ c j. refuted rest (bounds_later b) c j (λ y i. only y (Memᴰ.tail i)))
      refuted (removes {p = p} u r x ans rest) b add asks only =
          first_of b add asks (λ same j. add_not_removal p u same r)
          (λ c j. refuted rest (bounds_later b) c j (λ y i. only y (Memᴰ.tail i)))

      -- the add's entry is no later than its finish
      add_in_time : (p : Placed start calls) → p.request ≡ s → Entry start calls p → p.moment ≤ f
      add_in_time p same (is_finished u code' key' element' g a r x until_then) =
          omega (arith, until_then, (add_finish p u code' key' element' g a same r x).1)
      add_in_time p same (is_removing u r) = add_not_removal p u same r

      -- A request of key k submitted after the add's finish is answered Absent only if another delete of key k is in the order.
      pub not_absent_alone : {before after : PlainMap} (ordered : Ordered start calls before after) → OnlyItDeletes ordered.order → ⊥
      not_absent_alone ordered only =
          refuted ordered.replays
          (record {
            sorted = ordered.in_order;
            add_early = λ p i same. add_in_time p same (ordered.nothing_else p i);
            request_late = λ p i same. omega (arith, same, (ordered.moments p i).later);
          })
          (ordered.finished_in s w 2 k e f Added request finished) (ordered.finished_in q v code key element h Absent asked absent) only

  -- Full while a row is free.
  pub full_not_early : FullExactly start calls → (i w row : ℕ) → Accepts start calls i (Step w) → line_at start calls (suc i) w ≡ Idle Full
      → 2 ≤ row → row < 128 → (row_at (state_at start calls i).rows row).standing ≡ Free
      → (j : ℕ) × (j ≤ i) × ((row_at (state_at start calls j).rows row).standing ≡ Linked)
  full_not_early full i w row accepts answered low high free = elim (((full i w accepts).0 answered).1 row low high) [
    | inl linked ↦ linked
    | inr (v, held, named) ↦ contradiction (cc)
  ]
