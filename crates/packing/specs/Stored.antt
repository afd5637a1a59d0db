-- Where the words of a row stand in a table, and stores: a store into packed rows is the packing of the store.
use Rattle.std.specs.Prelude.{ℕ, zero, suc, ◌+◌, ◌*◌, ◌≤◌, ◌<◌, ◌≡◌, refl, List, [], ◌∷◌, length, get_or, set}
use Rattle.std.proofs.Common.{ap, sym, ◌∙◌, arith, length-set}
use Rattle.std.proofs.Math.Seq.{set_out}
use Rattle.model.specs.State.{row_at, free_row}
use Rattle.model.specs.Step.{written}
use Rattle.model.specs.Packed.{succ_word, rest_word, packed, succ_from, standing_from, row_from, unpacked}
use Rattle.model.specs.declared.Row.{Row}
use Rattle.model.specs.declared.Write.{Write}
use Rattle.model.specs.declared.Write.TheVariants.{NoRow, OneRow, TwoRows}

-- ---- The words of row i ----

abbrev pub word_at : List ℕ → ℕ → ℕ
word_at words i = get_or words i 0

-- the row whose words begin at `at`
abbrev pub row_found : List ℕ → ℕ → Row
row_found words at = row_from (word_at words at) (word_at words (at + 1)) (word_at words (at + 2)) (word_at words (at + 3))

zero_free : free_row ≡ row_from 0 0 0 0
unfolding row_from succ_from standing_from
zero_free = refl

-- four words further on
word_on : (a b c d : ℕ) (words : List ℕ) (i at : ℕ) → at ≡ suc (suc (suc (suc i))) → word_at (a ∷ b ∷ c ∷ d ∷ words) at ≡ word_at words i
word_on a b c d words i at h = rw h

row_on : (a b c d : ℕ) (words : List ℕ) (i : ℕ) → row_found words (i * 4) ≡ row_found (a ∷ b ∷ c ∷ d ∷ words) (suc i * 4)
row_on a b c d words i =
    cc (
      word_on a b c d words (i * 4) (suc i * 4) (omega arith),
      word_on a b c d words (i * 4 + 1) (suc i * 4 + 1) (omega arith),
      word_on a b c d words (i * 4 + 2) (suc i * 4 + 2) (omega arith),
      word_on a b c d words (i * 4 + 3) (suc i * 4 + 3) (omega arith),
    )

pub row_found_lem : (n : ℕ) (words : List ℕ) (i : ℕ) → length words ≡ n * 4 → row_at (unpacked words) i ≡ row_found words (i * 4)
unfolding unpacked
row_found_lem n [] i h = zero_free
row_found_lem n (a ∷ []) i h = absurd (omega arith)
row_found_lem n (a ∷ b ∷ []) i h = absurd (omega arith)
row_found_lem n (a ∷ b ∷ c ∷ []) i h = absurd (omega arith)
row_found_lem zero (a ∷ b ∷ c ∷ d ∷ words) i h = absurd (omega arith)
row_found_lem (suc n) (a ∷ b ∷ c ∷ d ∷ words) zero h = refl
row_found_lem (suc n) (a ∷ b ∷ c ∷ d ∷ words) (suc i) h = row_found_lem n words i (omega arith) ∙ row_on a b c d words i

-- the words of row i of a packed table
pub record RowWords (words : List ℕ) (at : ℕ) (r : Row) : Type 0 where
  pub key : word_at words at ≡ r.key
  pub element : word_at words (at + 1) ≡ r.element
  pub succ : word_at words (at + 2) ≡ succ_word r.succ
  pub rest : word_at words (at + 3) ≡ rest_word r

pub packed_at : (rows : List Row) (i : ℕ) → i < length rows → RowWords (packed rows) (i * 4) (row_at rows i)
unfolding packed
packed_at [] i h = absurd (omega arith)
packed_at (r ∷ rows) zero h = record { key = refl; element = refl; succ = refl; rest = refl }
packed_at (r ∷ rows) (suc i) h =
    let there = packed_at rows i (omega arith) in
    let on = word_on r.key r.element (succ_word r.succ) (rest_word r) (packed rows) in
    record {
      key = on (i * 4) (suc i * 4) (omega arith) ∙ there.key;
      element = on (i * 4 + 1) (suc i * 4 + 1) (omega arith) ∙ there.element;
      succ = on (i * 4 + 2) (suc i * 4 + 2) (omega arith) ∙ there.succ;
      rest = on (i * 4 + 3) (suc i * 4 + 3) (omega arith) ∙ there.rest;
    }

-- ---- Stores ----

-- the words of row i are those of r; past the last row nothing is stored
unfoldable pub stored_row : List ℕ → ℕ → Row → List ℕ
stored_row words i r =
    set (set (set (set words (i * 4) r.key) (i * 4 + 1) r.element) (i * 4 + 2) (succ_word r.succ)) (i * 4 + 3) (rest_word r)

unfoldable pub stored : List ℕ → Write → List ℕ
stored words NoRow = words
stored words (OneRow i r) = stored_row words i r
stored words (TwoRows i r j s) = stored_row (stored_row words i r) j s

pub row_stored_length : (words : List ℕ) (i : ℕ) (r : Row) → length (stored_row words i r) ≡ length words
unfolding stored_row
row_stored_length words i r = simp length-set

pub row_stored_out : (words : List ℕ) (i : ℕ) (r : Row) → length words ≤ i * 4 → stored_row words i r ≡ words
unfolding stored_row
row_stored_out words i r h =
    rw (set_out words (i * 4) r.key h)
    (rw (set_out words (i * 4 + 1) r.element (omega arith))
    (rw (set_out words (i * 4 + 2) _ (omega arith)) (set_out words (i * 4 + 3) _ (omega arith))))

set_on : (a b c d : ℕ) (words : List ℕ) (i at v : ℕ) → at ≡ suc (suc (suc (suc i))) → set (a ∷ b ∷ c ∷ d ∷ words) at v ≡ a ∷ b ∷ c ∷ d ∷ set words i v
set_on a b c d words i at v h = rw h

pub row_stored_on : (a b c d : ℕ) (words : List ℕ) (i : ℕ) (r : Row) → stored_row (a ∷ b ∷ c ∷ d ∷ words) (suc i) r ≡ a ∷ b ∷ c ∷ d ∷ stored_row words i r
unfolding stored_row
row_stored_on a b c d words i r =
    rw (set_on a b c d words (i * 4) (suc i * 4) r.key (omega arith))
    (rw (set_on a b c d _ (i * 4 + 1) (suc i * 4 + 1) r.element (omega arith))
    (rw (set_on a b c d _ (i * 4 + 2) (suc i * 4 + 2) (succ_word r.succ) (omega arith))
    (set_on a b c d _ (i * 4 + 3) (suc i * 4 + 3) (rest_word r) (omega arith))))

pub row_packed_stored : (rows : List Row) (i : ℕ) (r : Row) → packed (set rows i r) ≡ stored_row (packed rows) i r
unfolding packed stored_row
row_packed_stored [] i r = refl
row_packed_stored (x ∷ rows) zero r = refl
row_packed_stored (x ∷ rows) (suc i) r =
    ap (λ (l : List ℕ). x.key ∷ x.element ∷ succ_word x.succ ∷ rest_word x ∷ l) (row_packed_stored rows i r)
    ∙ sym (row_stored_on x.key x.element (succ_word x.succ) (rest_word x) (packed rows) i r)

pub packed_stored : (rows : List Row) (write : Write) → packed (written rows write) ≡ stored (packed rows) write
unfolding written stored
packed_stored rows NoRow = refl
packed_stored rows (OneRow i r) = row_packed_stored rows i r
packed_stored rows (TwoRows i r j s) =
    row_packed_stored (set rows i r) j s ∙ ap (λ (l : List ℕ). stored_row l j s) (row_packed_stored rows i r)
