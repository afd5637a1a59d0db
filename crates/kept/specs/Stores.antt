-- What stands at an index of a list after a store, and in a list of copies.
use Rattle.std.specs.Prelude.{ℕ, zero, suc, ◌<◌, ◌≡◌, refl, ◌≢◌, List, [], ◌∷◌, length, get_or, set, replicate}
use Rattle.std.proofs.Math.Decide.{ℕ_discrete}
use Rattle.std.proofs.Common.{get_or-set_same, get_or-set_other}

module _ {A : Type 0} (xs : List A) (i : ℕ) (a d : A) (inside : i < length xs) where
  -- what holds of the element stored at its index, and of every other at its own, holds at each index after the store
  pub after_store : (P : A → Type 0) (j : ℕ) → (j ≡ i → P a) → (j ≢ i → P (get_or xs j d)) → P (get_or (set xs i a) j d)
  after_store P j here there = go (ℕ_discrete j i)
    where
      go : Dec (j ≡ i) → P (get_or (set xs i a) j d)
      go (yes e) = rw (e, get_or-set_same) (here e)
      go (no n) = rw get_or-set_other (there n)

-- what holds of the element stored, and of one read before, holds of that one read after the store, wherever the store was
pub store_keeps : {A : Type 0} (P : A → Type 0) (xs : List A) (i : ℕ) (a d : A) (j : ℕ) → P a → P (get_or xs j d)
    → P (get_or (set xs i a) j d)
store_keeps P [] i a d j new old = old
store_keeps P (x ∷ xs) zero a d zero new old = new
store_keeps P (x ∷ xs) zero a d (suc j) new old = old
store_keeps P (x ∷ xs) (suc i) a d zero new old = old
store_keeps P (x ∷ xs) (suc i) a d (suc j) new old = store_keeps P xs i a d j new old

pub copy_at : {A : Type 0} (n : ℕ) (a : A) (i : ℕ) → get_or (replicate n a) i a ≡ a
copy_at zero a i = refl
copy_at (suc n) a zero = refl
copy_at (suc n) a (suc i) = copy_at n a i
