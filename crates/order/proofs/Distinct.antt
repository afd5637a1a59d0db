-- A list of distinct numbers below n has at most n of them.
use Rattle.std.specs.Prelude.{ℕ, zero, suc, ◌≤◌, ◌<◌, ◌≡◌, refl, ◌≢◌, length}
use Rattle.std.proofs.Common.{inl, inr, arith}
use mathlib.Core.List.Memᴰ
use mathlib.Core.List.{List, [], ◌∷◌, Memᴰ}
use Rattle.std.proofs.Math.Decide.{ℕ_discrete}

abbrev pub Among : ℕ → List ℕ → Type 0
Among x xs = Memᴰ x xs

pub data Distinct : List ℕ → Type 0 where
  no_number : Distinct []
  one_more : {x : ℕ} {xs : List ℕ} → (Among x xs → ⊥) → Distinct xs → Distinct (x ∷ xs)

-- the numbers of xs other than n, where n stands in xs once at most
record Without (n : ℕ) (xs : List ℕ) : Type 0 where
  rest : List ℕ
  within : (y : ℕ) → Among y rest → Among y xs
  other : (y : ℕ) → Among y rest → y ≢ n
  distinct : Distinct rest
  one_less : length xs ≤ suc (length rest)

without : (n : ℕ) {xs : List ℕ} → Distinct xs → Without n xs
without n no_number = record {
  rest = [];
  within = λ y m. m;
  other = λ y m. absurd (Memᴰ.not-nil m);
  distinct = no_number;
  one_less = omega arith;
}
without n (one_more {x = x} {xs = xs} new d) = go (ℕ_discrete x n) (without n d)
  where
    go : Dec (x ≡ n) → Without n xs → Without n (x ∷ xs)
    go (yes e) w = record {
      rest = xs;
      within = λ y m. Memᴰ.tail m;
      other = λ y m f. new (Memᴰ.cast (cc) m);
      distinct = d;
      one_less = omega arith;
    }
    go (no e) w = record {
      rest = x ∷ w.rest;
      within = λ y m. elim (Memᴰ.cases_cons m) [ inl f ↦ Memᴰ.head f | inr k ↦ Memᴰ.tail (w.within y k) ];
      other = λ y m q. elim (Memᴰ.cases_cons m) [ inl f ↦ e (cc) | inr k ↦ w.other y k q ];
      distinct = one_more (λ m. new (w.within x m)) w.distinct;
      one_less = omega (arith, w.one_less);
    }

pub distinct_below : (n : ℕ) (xs : List ℕ) → Distinct xs → ((x : ℕ) → Among x xs → x < n) → length xs ≤ n
distinct_below zero [] d below = omega arith
distinct_below zero (x ∷ xs) d below = absurd (omega (arith, below x (Memᴰ.head refl)))
distinct_below (suc n) xs d below =
    let w = without n d in
    let few = distinct_below n w.rest w.distinct (λ x m. omega (arith, below x (w.within x m), w.other x m)) in
    omega (arith, w.one_less, few)
