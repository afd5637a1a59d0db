-- Proofs about a choice: what holds of both branches holds of it.
use Rattle.std.specs.Prelude.{if◌then◌else◌, Bool, true, false, ◌≡◌, refl}

pub if_both : {A : Type 0} (P : A → Type 0) (b : Bool) {x y : A} → P x → P y → P (if b then x else y)
if_both P true p q = p
if_both P false p q = q

-- the same, where each branch knows how the test came out
pub if_known : {A : Type 0} (P : A → Type 0) (b : Bool) {x y : A} → (b ≡ true → P x) → (b ≡ false → P y) → P (if b then x else y)
if_known P true p q = p refl
if_known P false p q = q refl
