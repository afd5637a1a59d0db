-- A store into any words of 128 rows, read again, is the store to the rows; and into packed words it is the packing of the store.
use Rattle.std.proofs.Common.{◌≡◌, ◌∙◌, ap, refl, ℕ, zero, suc, ◌*◌, List, [], ◌∷◌, length, set, arith}
use Rattle.model.specs.Packed.{unpacked, packed, row_from}
use Rattle.model.specs.declared.Row.{Row}
use Rattle.packing.specs.OneRow.{Bytes, row_back}
use Rattle.packing.specs.Stored.{stored_row, row_stored_on, row_packed_stored}

pub unpacked_stored : (n : ℕ) (words : List ℕ) (i : ℕ) (r : Row) → length words ≡ n * 4 → Bytes r → unpacked (stored_row words i r) ≡ set (unpacked words) i r
unfolding unpacked stored_row
unpacked_stored n [] i r size b = refl
unpacked_stored n (a ∷ []) i r size b = absurd (omega arith)
unpacked_stored n (a ∷ b ∷ []) i r size bytes = absurd (omega arith)
unpacked_stored n (a ∷ b ∷ c ∷ []) i r size bytes = absurd (omega arith)
unpacked_stored zero (a ∷ b ∷ c ∷ d ∷ words) i r size bytes = absurd (omega arith)
unpacked_stored (suc n) (a ∷ b ∷ c ∷ d ∷ words) zero r size bytes = ap (λ (x : Row). x ∷ unpacked words) (row_back r bytes)
unpacked_stored (suc n) (a ∷ b ∷ c ∷ d ∷ words) (suc i) r size bytes =
    ap unpacked (row_stored_on a b c d words i r) ∙ ap (λ (l : List Row). row_from a b c d ∷ l) (unpacked_stored n words i r (omega arith) bytes)

pub sound_stored : (words : List ℕ) (i : ℕ) (r : Row) → length words ≡ 512 → Bytes r → packed (unpacked words) ≡ words
    → packed (unpacked (stored_row words i r)) ≡ stored_row words i r
sound_stored words i r size bytes again =
    ap packed (unpacked_stored 128 words i r size bytes) ∙ row_packed_stored (unpacked words) i r ∙ ap (λ (w : List ℕ). stored_row w i r) again
