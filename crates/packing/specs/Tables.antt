-- Tables of rows and of words: packing and reading undo each other, and the test `packs_rows` tells exactly the packings of 128 rows.
use Rattle.std.specs.Prelude.{if◌then◌else◌, ℕ, zero, suc, ◌*◌, ◌≡◌, refl, Bool, true, false, List, [], ◌∷◌, eqb}
use Rattle.std.proofs.Math.Path.{ap}
use Rattle.std.proofs.Common.{sym, ◌∙◌, arith, eqb-true, eq-eqb}
use Rattle.std.proofs.Math.ListN.{length}
use Rattle.model.specs.Packed.{packed, row_from, unpacked, packs_row, packs_each, packs_rows}
use Rattle.model.specs.declared.Row.{Row}
use Rattle.kept.specs.Conditions.{clash}
use Rattle.std.proofs.lemmas.Bool.{and_parts, and_from}
use Rattle.packing.specs.OneRow.{Bytes, row_back, row_bytes, bytes_packs, packs_told}

pub data AllBytes : List Row → Type 0 where
  none : AllBytes []
  more : {r : Row} {rows : List Row} → Bytes r → AllBytes rows → AllBytes (r ∷ rows)

pub unpacked_packed : {rows : List Row} → AllBytes rows → unpacked (packed rows) ≡ rows
unfolding unpacked packed
unpacked_packed none = refl
unpacked_packed (more {r} {rows} b bs) = cc (row_back r b, unpacked_packed bs)

pub packed_length : (rows : List Row) → length (packed rows) ≡ length rows * 4
unfolding packed
packed_length [] = refl
packed_length (r ∷ rows) = omega (arith, packed_length rows)

pub rows_number : (n : ℕ) (words : List ℕ) → length words ≡ n * 4 → length (unpacked words) ≡ n
unfolding unpacked
rows_number n [] h = omega arith
rows_number n (a ∷ []) h = absurd (omega arith)
rows_number n (a ∷ b ∷ []) h = absurd (omega arith)
rows_number n (a ∷ b ∷ c ∷ []) h = absurd (omega arith)
rows_number zero (a ∷ b ∷ c ∷ d ∷ words) h = absurd (omega arith)
rows_number (suc n) (a ∷ b ∷ c ∷ d ∷ words) h = ap suc (rows_number n words (omega arith))

pub unpacked_bytes : (words : List ℕ) → AllBytes (unpacked words)
unfolding unpacked
unpacked_bytes [] = AllBytes.none
unpacked_bytes (a ∷ []) = AllBytes.none
unpacked_bytes (a ∷ b ∷ []) = AllBytes.none
unpacked_bytes (a ∷ b ∷ c ∷ []) = AllBytes.none
unpacked_bytes (a ∷ b ∷ c ∷ d ∷ words) = AllBytes.more (row_bytes a b c d) (unpacked_bytes words)

packed_each : {rows : List Row} → AllBytes rows → packs_each (packed rows) ≡ true
unfolding packs_each packed
packed_each none = refl
packed_each (more {r} b bs) = and_from _ _ (bytes_packs r b) (packed_each bs)

each_packed : (n : ℕ) (words : List ℕ) → length words ≡ n * 4 → packs_each words ≡ true → packed (unpacked words) ≡ words
unfolding packs_each packed unpacked row_from
each_packed n [] size h = refl
each_packed n (a ∷ []) size h = absurd (omega arith)
each_packed n (a ∷ b ∷ []) size h = absurd (omega arith)
each_packed n (a ∷ b ∷ c ∷ []) size h = absurd (omega arith)
each_packed zero (a ∷ b ∷ c ∷ d ∷ words) size h = absurd (omega arith)
each_packed (suc n) (a ∷ b ∷ c ∷ d ∷ words) size h =
    let parts = and_parts (packs_row c d) _ h in
    let one = packs_told a b c d parts.0 in
    let later = each_packed n words (omega arith) parts.1 in
    cc (one.succ, one.rest, later)

-- ---- The packings of 128 rows ----

pub record PackingOf (words : List ℕ) (rows : List Row) : Type 0 where
  pub bytes : AllBytes rows
  pub number : length rows ≡ 128
  pub packing : packed rows ≡ words

-- what the test says
pub record PacksRows (words : List ℕ) : Type 0 where
  pub size : length words ≡ 512
  pub again : packed (unpacked words) ≡ words

pub packs_rows_lem : (words : List ℕ) → packs_rows words ≡ true → PacksRows words
unfolding packs_rows
packs_rows_lem words h = go (eqb (length words) 512) refl h
  where
    go : (b : Bool) → eqb (length words) 512 ≡ b → (if b then packs_each words else false) ≡ true → PacksRows words
    go true e h = let size = eqb-true (length words) 512 e in record { size = size; again = each_packed 128 words size h }
    go false e h = absurd (clash h refl)

-- the test holds of every packing of 128 rows of bytes, and of nothing else
module _ (words : List ℕ) where
  pub told_packing : packs_rows words ≡ true → PackingOf words (unpacked words)
  told_packing h =
      let p = packs_rows_lem words h in
      record { bytes = unpacked_bytes words; number = rows_number 128 words p.size; packing = p.again }

  pub packing_told : {rows : List Row} → PackingOf words rows → packs_rows words ≡ true
  unfolding packs_rows
  packing_told {rows} p =
      let size : length words ≡ 512 = ap length (sym p.packing) ∙ packed_length rows ∙ omega (arith, p.number) in
      simp (eq-eqb (length words) 512 size) (rw (← p.packing) (packed_each p.bytes))

  -- and it is the packing of no other rows
  pub packing_once : {rows : List Row} → PackingOf words rows → unpacked words ≡ rows
  packing_once p = rw (← p.packing) (unpacked_packed p.bytes)
