-- The array of a text, zeros behind the bytes that are held.
use Rattle.std.specs.Prelude.{◌≡◌, ℕ, ◌-◌, ◌≤◌, List, ◌++◌, length, take, drop, replicate}
use Rattle.std.proofs.Common.{ap, sym, subst, ◌∙◌, take-append-drop, length-take-le}

-- the first `len` of these 48 bytes are held
pub record Padded (bytes : List ℕ) (len : ℕ) : Type 0 where
  pub room : len ≤ 48
  pub size : length bytes ≡ 48
  pub zeros : drop len bytes ≡ replicate (48 - len) 0

-- Those determine the array, and their number.
module _ {bytes : List ℕ} {len : ℕ} (padded : Padded bytes len) where
  pub held_length : length (take len bytes) ≡ len
  held_length = length-take-le len bytes (subst (λ (n : ℕ). len ≤ n) (sym padded.size) padded.room)

  pub padded_whole : take len bytes ++ replicate (48 - length (take len bytes)) 0 ≡ bytes
  padded_whole =
      ap (λ (n : ℕ). take len bytes ++ replicate (48 - n) 0) held_length
      ∙ ap (λ (held : List ℕ). take len bytes ++ held) (sym padded.zeros)
      ∙ take-append-drop len bytes
