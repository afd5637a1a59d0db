-- Each four words of a table are those of a row.
use Rattle.std.proofs.Common.{ℕ, zero, suc, ◌*◌, ◌/◌, ◌<◌, ◌≡◌, ◌∙◌, refl, ap, List, [], ◌∷◌, length, get_or, arith}
use Rattle.std.specs.Simd.{first_chunks}
use Rattle.model.specs.State.{row_at}
use Rattle.model.specs.Packed.{row_from, unpacked}
use Rattle.model.specs.declared.Row.{Row}
use Rattle.packing.specs.Stored.{word_at}

-- the row of four words
abbrev pub row_of : List ℕ → Row
row_of four = row_from (word_at four 0) (word_at four 1) (word_at four 2) (word_at four 3)

row_of_chunk : (n : ℕ) (words : List ℕ) (i : ℕ) (d : List ℕ) → length words ≡ n * 4 → i < n
    → row_of (get_or (first_chunks 4 n words) i d) ≡ row_at (unpacked words) i
unfolding unpacked
row_of_chunk zero words i d size inside = absurd (omega arith)
row_of_chunk (suc n) [] i d size inside = absurd (omega arith)
row_of_chunk (suc n) (a ∷ []) i d size inside = absurd (omega arith)
row_of_chunk (suc n) (a ∷ b ∷ []) i d size inside = absurd (omega arith)
row_of_chunk (suc n) (a ∷ b ∷ c ∷ []) i d size inside = absurd (omega arith)
row_of_chunk (suc n) (k ∷ e ∷ s ∷ r ∷ words) zero d size inside = refl
row_of_chunk (suc n) (k ∷ e ∷ s ∷ r ∷ words) (suc i) d size inside = row_of_chunk n words i d (omega arith) (omega arith)

pub chunk_row : (words : List ℕ) (chunks : List (List ℕ)) (i : ℕ) (four : List ℕ) → length words ≡ 512
    → chunks ≡ first_chunks 4 (length words / 4) words → i < 128 → four ≡ get_or chunks i four → row_of four ≡ row_at (unpacked words) i
chunk_row words chunks i four size cut inside found =
    ap row_of (found ∙ ap (λ (l : List (List ℕ)). get_or l i four) cut) ∙ row_of_chunk (length words / 4) words i four (omega arith) (omega arith)
