-- A test put to each element of an array in turn is the model's test of the array: with the numbers of its places, and where the number
-- plays no part.
use Rattle.std.proofs.Common.{◌≡◌, ◌∙◌, refl, ap, ℕ, zero, suc, add-one, Bool, true, false, ◌&&◌, Option, List, [], ◌∷◌, length, arith}
use Rattle.std.proofs.iter.Yields.{fronts, nat_range_steps}
use Rattle.std.proofs.lemmas.Iterator.{YieldsList-from_slice, YieldsList-from_range, YieldsList-from_zip, zips}
use Rattle.std.proofs.lemmas.Iterator.Search.{all_from_yields_List}
use Rattle.std.specs.Fn.{Called}
use Rattle.std.specs.Iterator.{YieldsThen}
use Rattle.std.specs.Iterator.Adapters.{zip_first, zip_second}
use Rattle.std.specs.List.{list_all, zip, range_with_len, FoldsTo}
use Rattle.std.specs.Option.{MatchOption}
use Rattle.std.specs.Slice.Iter.{iter_rest}
use Rattle.std.specs.declared.ops.Range.{Range}
use Rattle.std.specs.declared.iter.Zip.{Zip}
use Rattle.std.specs.declared.slice.Iter.{Iter}
use denote.Param.Members.{Mut}
use denote.Ref.{Bor}
use Rattle.model.specs.WellFormed.{all_from}

all_zipped : {A : Type 0} (p : ℕ → A → Bool) (n i : ℕ) (xs : List A) → length xs ≡ n → list_all (λ x. p x.0 x.1) (zip (range_with_len i n) xs) ≡ all_from p i xs
unfolding all_from
all_zipped p zero i [] size = refl
all_zipped p (suc n) i [] size = refl
all_zipped p zero i (x ∷ xs) size = absurd (omega arith)
all_zipped p (suc n) i (x ∷ xs) size = rw add-one (ap (λ r. p i x && r) (all_zipped p n (suc i) xs (omega arith)))

module _ {A F : Type 0} {g : Mut F ((ℕ × Bor A) × Unit {0}) Bool} {s : Zip (Range ℕ) (Iter A)} {f : F} {r : Bool} (p : ℕ → A → Bool) (n : ℕ) (xs : List A) (u : Zip (Range ℕ) (Iter A)) where
  pub all_numbered : ((ys : List (ℕ × Bor A)) × (o : Option (ℕ × Bor A)) × (j : F) × YieldsThen (zips nat_range_steps fronts) s ys o u × FoldsTo (λ q x h. Called g q (x, tt) true h) f ys j
      × MatchOption o (r ≡ true) (λ x. (r ≡ false) × ((h : F) × Called g j (x, tt) false h)))
      → zip_first s ≡ record { start = 0; end = n } → iter_rest (zip_second s) ≡ xs → length xs ≡ n
      → ((x : ℕ × Bor A) (b : Bool) (q : F) → Called g f (x, tt) b q → (q ≡ f) × (b ≡ p x.0 x.1.now)) → r ≡ all_from p 0 xs
  all_numbered ran numbers elements size told =
      all_from_yields_List (λ x. p x.0 x.1) u f r ran (YieldsList-from_zip (YieldsList-from_range 0 n n numbers (omega arith)) (YieldsList-from_slice xs elements)) told
      ∙ all_zipped p n 0 xs size

pub all_alike : {A : Type 0} (p : A → Bool) (i : ℕ) (xs : List A) → list_all p xs ≡ all_from (λ _. p) i xs
unfolding all_from
all_alike p i [] = refl
all_alike p i (x ∷ xs) = ap (λ r. p x && r) (all_alike p (suc i) xs)
