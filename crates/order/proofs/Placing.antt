-- Lists of requests with their moments: all of one step, lists put after one another, each request once, in the order of the moments.
use Rattle.std.specs.Prelude.{ℕ, zero, suc, ◌≤◌, ◌<◌, ◌≡◌, refl, ◌≢◌, ◌⊎◌, length, get_or}
use Rattle.std.proofs.Common.{ap, sym, arith}
use Rattle.std.proofs.Math.Logic.{inl, inr}
use mathlib.Core.List.Memᴰ
use mathlib.Core.List.{List, [], ◌∷◌, ◌++◌, Memᴰ}
use Rattle.order.proofs.Distinct.{Among, Distinct, no_number, one_more}
use Rattle.order.specs.Demand.{Placed, InOrder, one_entry, next_entry}
use Rattle.model.specs.declared.Catalogue.{Catalogue}
use Rattle.model.specs.declared.Call.{Call}

at_index : {A : Type 0} (xs : List A) (i : ℕ) (d : A) → i < length xs → Memᴰ (get_or xs i d) xs
at_index [] i d h = absurd (omega arith)
at_index (x ∷ xs) zero d h = Memᴰ.head refl
at_index (x ∷ xs) (suc i) d h = Memᴰ.tail (at_index xs i d (omega arith))

module _ (start : Catalogue) (calls : List Call) where
  -- ---- Each once ----

  pub data Once : List (Placed start calls) → Type 0 where
    nobody : Once []
    also : {p : Placed start calls} {ps : List (Placed start calls)}
        → ((q : Placed start calls) → Memᴰ q ps → q.request ≢ p.request) → Once ps → Once (p ∷ ps)

  pub once_append : (xs ys : List (Placed start calls)) → Once xs → Once ys
      → ((p q : Placed start calls) → Memᴰ p xs → Memᴰ q ys → p.request ≢ q.request) → Once (xs ++ ys)
  once_append zs ys nobody ys_once apart = ys_once
  once_append zs ys (also {p = p} {ps = xs} new xs_once) ys_once apart =
      also
      (λ q m e. elim (Memᴰ.append_cases xs {t = ys} m) [ inl k ↦ new q k e | inr k ↦ apart p q (Memᴰ.head refl) k (sym e) ])
      (once_append xs ys xs_once ys_once (λ r q m k. apart r q (Memᴰ.tail m) k))

  pub once_at : {ps : List (Placed start calls)} → Once ps → (i j : ℕ) (d : Placed start calls) → i < length ps → j < length ps
      → (get_or ps i d).request ≡ (get_or ps j d).request → i ≡ j
  once_at nobody i j d h k e = absurd (omega arith)
  once_at (also new rest) zero zero d h k e = refl
  once_at (also {ps = ps} new rest) zero (suc j) d h k e = absurd (new (get_or ps j d) (at_index ps j d (omega arith)) (sym e))
  once_at (also {ps = ps} new rest) (suc i) zero d h k e = absurd (new (get_or ps i d) (at_index ps i d (omega arith)) e)
  once_at (also new rest) (suc i) (suc j) d h k e = ap suc (once_at rest i j d (omega arith) (omega arith) e)

  -- ---- In order ----

  pub in_order_first : (p : Placed start calls) (ps : List (Placed start calls))
      → ((q : Placed start calls) → Memᴰ q ps → p.moment ≤ q.moment) → InOrder start calls ps → InOrder start calls (p ∷ ps)
  in_order_first p [] low sorted = one_entry
  in_order_first p (q ∷ ps) low sorted = next_entry (low q (Memᴰ.head refl)) sorted

  -- ---- All of one step ----

  unfoldable pub placed_at : ℕ → List ℕ → List (Placed start calls)
  placed_at t [] = []
  placed_at t (s ∷ xs) = record { request = s; moment = t } ∷ placed_at t xs

  pub in_placed : (t s : ℕ) (xs : List ℕ) → Among s xs → Memᴰ (record { request = s; moment = t }) (placed_at t xs)
  unfolding placed_at
  in_placed t s [] m = absurd (Memᴰ.not-nil m)
  in_placed t s (x ∷ xs) m = elim (Memᴰ.cases_cons m) [
    | inl e ↦ Memᴰ.head (λ i. record { request = e i; moment = t })
    | inr k ↦ Memᴰ.tail (in_placed t s xs k)
  ]

  pub of_placed : (t : ℕ) (xs : List ℕ) (p : Placed start calls) → Memᴰ p (placed_at t xs) → (p.moment ≡ t) × Among p.request xs
  unfolding placed_at
  of_placed t [] p m = absurd (Memᴰ.not-nil m)
  of_placed t (x ∷ xs) p m = go (Memᴰ.cases_cons m) (λ k. of_placed t xs p k)
    where
      go : (p ≡ record { request = x; moment = t }) ⊎ Memᴰ p (placed_at t xs)
          → (Memᴰ p (placed_at t xs) → (p.moment ≡ t) × Among p.request xs)
          → (p.moment ≡ t) × Among p.request (x ∷ xs)
      go (inl e) rest = (ap (λ (q : Placed start calls). q.moment) e, Memᴰ.head (ap (λ (q : Placed start calls). q.request) e))
      go (inr k) rest = ((rest k).0, Memᴰ.tail (rest k).1)

  pub placed_once : (t : ℕ) (xs : List ℕ) → Distinct xs → Once (placed_at t xs)
  unfolding placed_at
  placed_once t zs no_number = nobody
  placed_once t zs (one_more {x = x} {xs = xs} new d) =
      also (λ q m e. new (rw e at (of_placed t xs q m).1)) (placed_once t xs d)

  -- the requests of one step, before others that are no earlier
  pub placed_in_order : (t : ℕ) (xs : List ℕ) (ps : List (Placed start calls)) → ((q : Placed start calls) → Memᴰ q ps → t ≤ q.moment)
      → InOrder start calls ps → InOrder start calls (placed_at t xs ++ ps)
  unfolding placed_at
  placed_in_order t [] ps low sorted = sorted
  placed_in_order t (x ∷ xs) ps low sorted =
      in_order_first _ (placed_at t xs ++ ps)
      (λ q m. elim (Memᴰ.append_cases (placed_at t xs) m) [ inl k ↦ omega (arith, (of_placed t xs q k).0) | inr k ↦ low q k ])
      (placed_in_order t xs ps low sorted)
