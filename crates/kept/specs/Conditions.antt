-- What a condition says that came out one way: never the other way, of both its parts, of every element of a list.
use Prim.Native.Nat.{ℕ, zero, suc, ◌+◌, ◌<◌, suc-le-suc}
use Rattle.std.specs.Prelude.{Bool, true, false, ◌≡◌, length, get_or}
use Rattle.std.proofs.Math.Path.{refl}
use Rattle.std.proofs.Common.{add-suc, suc-add, zero-add, le_of_suc-le-suc, arith}
use mathlib.Core.List.{List, [], ◌∷◌}
use Rattle.std.proofs.Math.Nat.{add-zero}
use Rattle.std.proofs.lemmas.Bool.{and_parts, and_from}
use Rattle.model.specs.WellFormed.{all_from}

-- ---- Both ways ----

-- where a value has two constructors, `cc` proves this equation, and anything follows
pub contradiction : {A : Type 0} → ◌≡◌ {A = ℕ} 0 1 → A
contradiction e = absurd (omega arith)

pub clash : {b : Bool} → b ≡ true → b ≡ false → ⊥
clash holds fails = contradiction (cc)

-- ---- Every element ----

module _ {A : Type 0} (p : ℕ → A → Bool) where
  every_from : (k : ℕ) (xs : List A) (d : A) → all_from p k xs ≡ true → (i : ℕ) → i < length xs → p (k + i) (get_or xs i d) ≡ true
  unfolding all_from
  every_from k [] d h i l = absurd (omega arith)
  every_from k (x ∷ xs) d h zero l = rw add-zero (and_parts (p k x) _ h).0
  every_from k (x ∷ xs) d h (suc i) l =
      rw (add-suc, ← suc-add) (every_from (suc k) xs d (and_parts (p k x) _ h).1 i (le_of_suc-le-suc l))

  from_every : (k : ℕ) (xs : List A) (d : A) → ((i : ℕ) → i < length xs → p (k + i) (get_or xs i d) ≡ true) → all_from p k xs ≡ true
  unfolding all_from
  from_every k [] d h = refl
  from_every k (x ∷ xs) d h =
      and_from (p k x) _
      (rw add-zero at (h 0 (omega arith)))
      (from_every (suc k) xs d (λ i l. rw (suc-add, ← add-suc) (h (suc i) (suc-le-suc l))))

  pub every : (xs : List A) (d : A) → all_from p 0 xs ≡ true → (i : ℕ) → i < length xs → p i (get_or xs i d) ≡ true
  every xs d h i l = rw zero-add at (every_from 0 xs d h i l)

  pub if_every : (xs : List A) (d : A) → ((i : ℕ) → i < length xs → p i (get_or xs i d) ≡ true) → all_from p 0 xs ≡ true
  if_every xs d h = from_every 0 xs d (λ i l. rw zero-add (h i l))
