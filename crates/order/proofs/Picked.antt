-- The numbers below n that pass a test, each once.
use Prim.Native.Nat.{ℕ, zero, suc, ◌<◌}
use Rattle.std.specs.Prelude.{if◌then◌else◌, Bool, true, false, ◌≡◌, ◌⊎◌}
use Rattle.std.proofs.Common.{ap, sym, ◌∙◌, inl, inr}
use mathlib.Core.List.Memᴰ
use mathlib.Core.List.{List, [], ◌∷◌}
use native.Mathlib.Omega.{arith}
use Rattle.std.proofs.Math.Decide.{ℕ_discrete}
use Rattle.order.proofs.Distinct.{Among, Distinct, no_number, one_more}
use Rattle.std.proofs.lemmas.Bool.{cases_Bool}
use Rattle.model.proofs.Choices.{if_known}

unfoldable pub picked : (ℕ → Bool) → ℕ → List ℕ
picked p zero = []
picked p (suc n) = let rest = picked p n in if p n then n ∷ rest else rest

module _ (p : ℕ → Bool) where
  pub in_picked : (s n : ℕ) → s < n → p s ≡ true → Among s (picked p n)
  unfolding picked
  in_picked s zero below passes = absurd (omega arith)
  in_picked s (suc n) below passes = go (ℕ_discrete s n) (λ h. in_picked s n h passes)
    where
      go : Dec (s ≡ n) → (s < n → Among s (picked p n)) → Among s (picked p (suc n))
      go (yes e) rest = rw (ap p (sym e) ∙ passes, picked) (Memᴰ.head e)
      go (no e) rest =
          if_known (λ (xs : List ℕ). Among s xs) (p n) (λ _. Memᴰ.tail (rest (omega arith))) (λ _. rest (omega arith))

  -- what is picked is below n and passes
  pub picked_passes : (s n : ℕ) → Among s (picked p n) → (s < n) × (p s ≡ true)
  unfolding picked
  picked_passes s zero m = absurd (Memᴰ.not-nil m)
  picked_passes s (suc n) m = go (cases_Bool (p n)) m (λ h. picked_passes s n h)
    where
      more : (s < n) × (p s ≡ true) → (s < suc n) × (p s ≡ true)
      more (below, passes) = (omega arith, passes)

      go : (p n ≡ true) ⊎ (p n ≡ false) → Among s (picked p (suc n)) → (Among s (picked p n) → (s < n) × (p s ≡ true))
          → (s < suc n) × (p s ≡ true)
      go (inl yes_n) k rest = elim (Memᴰ.cases_cons (rw (yes_n, picked) at k)) [
        | inl e ↦ (omega arith, ap p e ∙ yes_n)
        | inr q ↦ more (rest q)
      ]
      go (inr no_n) k rest = more (rest (rw (no_n, picked) at k))

  pub picked_distinct : (n : ℕ) → Distinct (picked p n)
  unfolding picked
  picked_distinct zero = no_number
  picked_distinct (suc n) =
      if_known Distinct (p n)
      (λ _. one_more (λ m. omega (arith, (picked_passes n n m).0)) (picked_distinct n))
      (λ _. picked_distinct n)
