-- The order of a run: step after step, the requests that read the map at this step, and then the one that changes it, if any. It holds
-- exactly the finished requests and the unfinished removals whose row is marked, each once, in the order of the moments.
use Prim.Native.Nat.{ℕ, zero, suc, ◌+◌, ◌≤◌, ◌<◌}
use Rattle.std.specs.Prelude.{Bool, false, ◌≡◌, ◌⊎◌, eqb, length}
use Rattle.std.proofs.Math.Bool.{true}
use Rattle.std.proofs.Math.Path.{refl, sym}
use Rattle.std.proofs.Common.{◌∙◌, arith}
use Rattle.std.proofs.Math.Logic.{inl, inr}
use mathlib.Core.List.Memᴰ
use mathlib.Core.List.{List, [], ◌++◌, Memᴰ}
use Rattle.std.proofs.Math.Decide.{ℕ_discrete}
use borrow.Author.Tests.{eqb-true, eq-eqb}
use Rattle.order.specs.Demand.{Placed, InOrder, no_entry, Entry, is_finished, is_removing, Moment}
use Rattle.order.proofs.Time.{Ready}
use Rattle.order.proofs.MapChanges.{Change, adds, removes, change_once, change_ends, Outcome, finishes, stays, outcome, marking_step}
use Rattle.order.proofs.Fates.{ReadsAt, NoPlace, Fate, reads_at, changes_at, no_place, fate}
use Rattle.order.proofs.Picked.{picked, in_picked, picked_passes, picked_distinct}
use Rattle.order.proofs.Placing.{Once, nobody, once_append, placed_at, in_placed, of_placed, placed_once, placed_in_order}
use Rattle.kept.specs.Conditions.{clash}
use Rattle.model.specs.declared.Catalogue.{Catalogue}
use Rattle.model.specs.declared.Call.{Call}

module _ {top : ℕ} {start : Catalogue} {calls : List Call} (ready : Ready top start calls) where
  -- ---- Which requests belong to a step ----

  abbrev reads_in : ℕ → {s : ℕ} → Fate ready s → Bool
  reads_in t (reads_at T r) = eqb T t
  reads_in t (changes_at T c) = false
  reads_in t (no_place n) = false

  abbrev changes_in : ℕ → {s : ℕ} → Fate ready s → Bool
  changes_in t (reads_at T r) = false
  changes_in t (changes_at T c) = eqb T t
  changes_in t (no_place n) = false

  pub reads_now : ℕ → ℕ → Bool
  reads_now t s = reads_in t (fate ready s)

  pub changes_now : ℕ → ℕ → Bool
  changes_now t s = changes_in t (fate ready s)

  pub reads_now_lem : (t s : ℕ) → reads_now t s ≡ true → ReadsAt ready s t
  unfolding reads_now
  reads_now_lem t s h = go (fate ready s) h
    where
      go : (x : Fate ready s) → reads_in t x ≡ true → ReadsAt ready s t
      go (reads_at T r) h = rw (eqb-true T t h) at r
      go (changes_at T c) h = absurd (clash h refl)
      go (no_place n) h = absurd (clash h refl)

  pub changes_now_lem : (t s : ℕ) → changes_now t s ≡ true → Change ready s t
  unfolding changes_now
  changes_now_lem t s h = go (fate ready s) h
    where
      go : (x : Fate ready s) → changes_in t x ≡ true → Change ready s t
      go (reads_at T r) h = absurd (clash h refl)
      go (changes_at T c) h = rw (eqb-true T t h) at c
      go (no_place n) h = absurd (clash h refl)

  -- a request that changes the map at t is known to
  pub change_known : (t s : ℕ) → Change ready s t → changes_now t s ≡ true
  unfolding changes_now
  change_known t s c = go (fate ready s)
    where
      go : (x : Fate ready s) → changes_in t x ≡ true
      go (reads_at T r) =
          let not = change_ends ready s t r.worker r.code r.key r.element r.finish r.answer c r.ends_so in
          elim r.right [ inl h ↦ absurd (not.1 h) | inr h ↦ absurd (clash h.0 not.0) ]
      go (changes_at T c') = eq-eqb T t (change_once ready s T t c' c)
      go (no_place n) = absurd (n.not_changing t c)

  -- a request has one step
  abbrev pub BelongsTo : ℕ → ℕ → Type 0
  BelongsTo t s = (reads_now t s ≡ true) ⊎ (changes_now t s ≡ true)

  one_step : (s t u : ℕ) → BelongsTo t s → BelongsTo u s → t ≡ u
  unfolding reads_now changes_now
  one_step s t u h k = go (fate ready s) h k
    where
      go : (x : Fate ready s) → (reads_in t x ≡ true) ⊎ (changes_in t x ≡ true) → (reads_in u x ≡ true) ⊎ (changes_in u x ≡ true) → t ≡ u
      go (reads_at T r) (inl h) (inl k) = sym (eqb-true T t h) ∙ eqb-true T u k
      go (reads_at T r) (inr h) k = absurd (clash h refl)
      go (reads_at T r) (inl h) (inr k) = absurd (clash k refl)
      go (changes_at T c) (inr h) (inr k) = sym (eqb-true T t h) ∙ eqb-true T u k
      go (changes_at T c) (inl h) k = absurd (clash h refl)
      go (changes_at T c) (inr h) (inl k) = absurd (clash k refl)
      go (no_place n) (inl h) k = absurd (clash h refl)
      go (no_place n) (inr h) k = absurd (clash h refl)

  -- and reads or changes there
  one_way : (s t u : ℕ) → reads_now t s ≡ true → changes_now u s ≡ true → ⊥
  unfolding reads_now changes_now
  one_way s t u h k = go (fate ready s) h k
    where
      go : (x : Fate ready s) → reads_in t x ≡ true → changes_in u x ≡ true → ⊥
      go (reads_at T r) h k = clash k refl
      go (changes_at T c) h k = clash h refl
      go (no_place n) h k = clash h refl

  -- ---- The list ----

  -- the requests that pass a test, placed at step t
  abbrev passing : (ℕ → Bool) → ℕ → List (Placed start calls)
  passing test t = placed_at start calls t (picked test (length calls))

  in_passing : (test : ℕ → Bool) (t s : ℕ) → s < length calls → test s ≡ true
      → Memᴰ (record { request = s; moment = t }) (passing test t)
  in_passing test t s inside h = in_placed start calls t s (picked test (length calls)) (in_picked test s (length calls) inside h)

  record Passes (test : ℕ → Bool) (t : ℕ) (p : Placed start calls) : Type 0 where
    now : p.moment ≡ t
    inside : p.request < length calls
    passed : test p.request ≡ true

  passes : (test : ℕ → Bool) (t : ℕ) (p : Placed start calls) → Memᴰ p (passing test t) → Passes test t p
  passes test t p m =
      let at = of_placed start calls t (picked test (length calls)) p m in
      let picks = picked_passes test p.request (length calls) at.1 in
      record { now = at.0; inside = picks.0; passed = picks.1 }

  passing_once : (test : ℕ → Bool) (t : ℕ) → Once start calls (passing test t)
  passing_once test t = placed_once start calls t (picked test (length calls)) (picked_distinct test (length calls))

  -- those that read the map at step t, and those that change it there
  abbrev readers : ℕ → List (Placed start calls)
  readers t = passing (reads_now t) t

  abbrev changers : ℕ → List (Placed start calls)
  changers t = passing (changes_now t) t

  -- the n steps from t on
  unfoldable pub order_from : ℕ → ℕ → List (Placed start calls)
  order_from zero t = []
  order_from (suc n) t = readers t ++ (changers t ++ order_from n (suc t))

  -- where an entry comes from
  pub record Stands (n t : ℕ) (p : Placed start calls) : Type 0 where
    pub from : t ≤ p.moment
    pub until : p.moment < t + n
    pub inside : p.request < length calls
    pub belongs : BelongsTo p.moment p.request

  pub stands : (n t : ℕ) (p : Placed start calls) → Memᴰ p (order_from n t) → Stands n t p
  unfolding order_from
  stands zero t p m = absurd (Memᴰ.not-nil m)
  stands (suc n) t p m = go (Memᴰ.append_cases (readers t) m) (λ k. stands n (suc t) p k)
    where
      now : {test : ℕ → Bool} → (test p.request ≡ true → BelongsTo t p.request) → Passes test t p → Stands (suc n) t p
      now belongs r = record {
        from = omega (arith, r.now);
        until = omega (arith, r.now);
        inside = r.inside;
        belongs = rw r.now (belongs r.passed);
      }

      later : Stands n (suc t) p → Stands (suc n) t p
      later s = record { from = omega (arith, s.from); until = omega (arith, s.until); inside = s.inside; belongs = s.belongs }

      go : Memᴰ p (readers t) ⊎ Memᴰ p (changers t ++ order_from n (suc t))
          → (Memᴰ p (order_from n (suc t)) → Stands n (suc t) p) → Stands (suc n) t p
      go (inl k) rest = now (λ h. inl h) (passes (reads_now t) t p k)
      go (inr k) rest = elim (Memᴰ.append_cases (changers t) k) [
        | inl h ↦ now (λ q. inr q) (passes (changes_now t) t p h)
        | inr h ↦ later (rest h)
      ]

  pub in_order_from : (n t s T : ℕ) → t ≤ T → T < t + n → s < length calls → BelongsTo T s
      → Memᴰ (record { request = s; moment = T }) (order_from n t)
  unfolding order_from
  in_order_from zero t s T low high inside belongs = absurd (omega arith)
  in_order_from (suc n) t s T low high inside belongs =
      go (ℕ_discrete T t) belongs (λ h. in_order_from n (suc t) s T h (omega arith) inside belongs)
    where
      now : BelongsTo t s → Memᴰ (record { request = s; moment = t }) (order_from (suc n) t)
      now (inl h) = Memᴰ.append_left _ (in_passing (reads_now t) t s inside h)
      now (inr h) = Memᴰ.append_right (readers t) (Memᴰ.append_left _ (in_passing (changes_now t) t s inside h))

      go : Dec (T ≡ t) → BelongsTo T s → (suc t ≤ T → Memᴰ (record { request = s; moment = T }) (order_from n (suc t)))
          → Memᴰ (record { request = s; moment = T }) (order_from (suc n) t)
      go (yes e) b rest = rw e (now (rw e at b))
      go (no e) b rest = Memᴰ.append_right (readers t) (Memᴰ.append_right (changers t) (rest (omega arith)))

  pub order_sorted : (n t : ℕ) → InOrder start calls (order_from n t)
  unfolding order_from
  order_sorted zero t = no_entry
  order_sorted (suc n) t =
      placed_in_order start calls t (picked (reads_now t) (length calls)) _
      (λ q m. elim (Memᴰ.append_cases (changers t) {t = order_from n (suc t)} m) [
        | inl k ↦ omega (arith, (passes (changes_now t) t q k).now)
        | inr k ↦ omega (arith, (stands n (suc t) q k).from)
      ])
      (placed_in_order start calls t (picked (changes_now t) (length calls)) (order_from n (suc t))
      (λ q m. omega (arith, (stands n (suc t) q m).from))
      (order_sorted n (suc t)))

  pub order_once : (n t : ℕ) → Once start calls (order_from n t)
  unfolding order_from
  order_once zero t = nobody
  order_once (suc n) t =
      once_append start calls (readers t) _ (passing_once (reads_now t) t)
      (once_append start calls (changers t) (order_from n (suc t)) (passing_once (changes_now t) t) (order_once n (suc t))
      (λ p q m k e.
      let r = passes (changes_now t) t p m in
      later p q (inr r.passed) r.now (stands n (suc t) q k) e))
      (λ p q m k e.
      let r = passes (reads_now t) t p m in
      elim (Memᴰ.append_cases (changers t) k) [
        | inl h ↦ one_way p.request t t r.passed (rw e (passes (changes_now t) t q h).passed)
        | inr h ↦ later p q (inl r.passed) r.now (stands n (suc t) q h) e
      ])
    where
      later : (p q : Placed start calls) → BelongsTo t p.request → p.moment ≡ t → Stands n (suc t) q → p.request ≡ q.request → ⊥
      later p q b at s e =
          let same = one_step p.request t q.moment b (rw e s.belongs) in
          omega (arith, s.from)

  -- ---- What an entry says ----

  change_entry : (s T : ℕ) → Change ready s T → Entry start calls (record { request = s; moment = T })
  change_entry s T (adds w code key element e) = is_finished w code key element T _ e.running.request e.finished (omega arith)
  change_entry s T (removes w code key element y r is some unmarked marked) =
      go (outcome ready s w code key element T y r is some unmarked marked)
    where
      go : Outcome ready s w code key element T y → Entry start calls (record { request = s; moment = T })
      go (finishes f h e) = is_finished w code key element f _ r.request e.finished h
      go (stays m) = is_removing w m

  change_moment : (s T : ℕ) → Change ready s T → Moment start calls (record { request = s; moment = T })
  change_moment s T (adds w code key element e) = record { worker = w; later = e.finished.later; step = e.finished.step }
  change_moment s T (removes w code key element y r is some unmarked marked) =
      let step = marking_step ready T y unmarked marked in
      record { worker = step.0; later = r.since; step = step.1 }

  pub entry_of : (p : Placed start calls) → BelongsTo p.moment p.request → Entry start calls p
  entry_of p (inr h) = change_entry p.request p.moment (changes_now_lem p.moment p.request h)
  entry_of p (inl h) =
      let r = reads_now_lem p.moment p.request h in
      is_finished r.worker r.code r.key r.element r.finish r.answer r.ends_so.running.request
      r.ends_so.finished r.until

  pub moment_of : (p : Placed start calls) → BelongsTo p.moment p.request → Moment start calls p
  moment_of p (inr h) = change_moment p.request p.moment (changes_now_lem p.moment p.request h)
  moment_of p (inl h) =
      let r = reads_now_lem p.moment p.request h in
      record { worker = r.stepper; later = r.later; step = r.step }

  -- ---- Who is in it ----

  pub record HasPlace (s : ℕ) : Type 0 where
    pub moment : ℕ
    pub inside : moment < length calls
    pub belongs : BelongsTo moment s

  pub has_place : (s : ℕ) → (NoPlace ready s → ⊥) → HasPlace s
  unfolding reads_now changes_now
  has_place s some = go (fate ready s) refl
    where
      go : (x : Fate ready s) → fate ready s ≡ x → HasPlace s
      go (no_place n) e = absurd (some n)
      go (reads_at T r) e = record { moment = T; inside = r.step.inside; belongs = inl (rw e (eq-eqb T T refl)) }
      go (changes_at T c) e = record { moment = T; inside = (change_moment s T c).step.inside; belongs = inr (rw e (eq-eqb T T refl)) }
