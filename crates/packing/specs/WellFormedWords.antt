-- The words of a well-formed state: its rows are rows of bytes, so that packing loses nothing of it; and which words make a state not
-- well formed.
use Rattle.std.specs.Prelude.{if◌then◌else◌, ℕ, suc, ◌+◌, ◌*◌, ◌/◌, ◌%◌, ◌≤◌, ◌<◌, ◌≡◌, refl, Bool, not, ◌&&◌, ◌⊎◌}
use Rattle.std.proofs.Math.Path.{ap, sym}
use Rattle.std.proofs.Common.{◌∙◌, inl, inr, arith, ltb-true}
use Rattle.std.proofs.Math.Bool.{true, false}
use mathlib.Core.List.{List, [], ◌∷◌}
use Rattle.std.proofs.Math.ListN.{length}
use Rattle.model.specs.State.{row_at, free_row}
use Rattle.model.specs.WellFormed.{all_from, not_both, row_well, well_formed}
use Rattle.model.specs.Packed.{bit, succ_word, standing_number, rest_word, packed, unpacked, packs_rows, state_of, packed_well}
use Rattle.model.specs.declared.Row.{Row}
use Rattle.model.specs.declared.Succ.{Succ}
use Rattle.model.specs.declared.Standing.{Standing}
use Rattle.model.specs.declared.Standing.TheVariants.{Free, Held, Linked}
use Rattle.model.specs.declared.Worker.{Worker}
use Rattle.model.specs.declared.Catalogue.{Catalogue}
use Rattle.kept.specs.Conditions.{clash, every}
use Rattle.std.proofs.lemmas.Bool.{cases_Bool, and_parts}
use Rattle.kept.specs.WellFormedFacts.{RowWell, row_facts}
use Rattle.packing.specs.OneRow.{Bytes}
use Rattle.packing.specs.Tables.{AllBytes, PackingOf, packs_rows_lem, rows_number, packing_told, packing_once}
use Rattle.packing.specs.Stored.{word_at, packed_at}

-- ---- The rows of a well-formed state ----

holder_below : (s : Standing) → ((v : ℕ) → s ≡ Held v → v < 8) → standing_number s < 10
holder_below Free h = omega arith
holder_below (Held w) h = omega (arith, h w refl)
holder_below Linked h = omega arith

module _ {workers : List Worker} {i : ℕ} {r : Row} (well : RowWell workers i r) where
  right_below : r.succ.right < 128
  right_below = ltb-true _ 128 well.numbers.right

  backlink_below : r.backlink < 128
  backlink_below = ltb-true _ 128 well.numbers.backlink

  standing_below : standing_number r.standing < 10
  standing_below = holder_below r.standing (λ v e. (well.holder v e).0)

  row_of_bytes : Bytes r
  row_of_bytes = record { right = omega (arith, right_below); backlink = omega (arith, backlink_below); holder = omega (arith, standing_below) }

bytes_from : (workers : List Worker) (i : ℕ) (rows : List Row) → all_from (row_well workers) i rows ≡ true → AllBytes rows
unfolding all_from
bytes_from workers i [] h = AllBytes.none
bytes_from workers i (r ∷ rows) h =
    let parts = and_parts (row_well workers i r) _ h in
    AllBytes.more (row_of_bytes (row_facts workers i r parts.0)) (bytes_from workers (suc i) rows parts.1)

module _ (c : Catalogue) (well : well_formed c ≡ true) where
  pub well_formed_bytes : AllBytes c.rows
  unfolding well_formed
  well_formed_bytes = bytes_from c.workers 0 c.rows (and_parts (all_from (row_well c.workers) 0 c.rows) _ well).0

  -- the state of 128 rows is packed without loss
  pub well_formed_packs : length c.rows ≡ 128 → PackingOf (packed c.rows) c.rows
  well_formed_packs number = record { bytes = well_formed_bytes; number = number; packing = refl }

-- ---- The test on words ----

module _ (c : Catalogue) {words : List ℕ} (p : PackingOf words c.rows) where
  pub state_back : state_of words c.workers ≡ c
  state_back = rw (packing_once words p)

  pub packed_well_lem : packed_well words c.workers ≡ well_formed c
  unfolding packed_well
  packed_well_lem = rw (packing_told words p, state_back)

module _ (words : List ℕ) (workers : List Worker) where
  pub packed_well_told : packed_well words workers ≡ true → (packs_rows words ≡ true) × (well_formed (state_of words workers) ≡ true)
  unfolding packed_well
  packed_well_told h = go (packs_rows words) h
    where
      go : (b : Bool) → (if b then well_formed (state_of words workers) else false) ≡ true
          → (b ≡ true) × (well_formed (state_of words workers) ≡ true)
      go true h = (refl, h)
      go false h = absurd (clash h refl)

-- ---- Which words make a state not well formed ----

abbrev pub succ_word_at : List ℕ → ℕ → ℕ
succ_word_at words i = word_at words (i * 4 + 2)

abbrev pub rest_word_at : List ℕ → ℕ → ℕ
rest_word_at words i = word_at words (i * 4 + 3)

succ_good : (s : Succ) → s.right < 128 → not_both s ≡ true → (succ_word s < 512) × (succ_word s % 4 ≡ 3 → ⊥)
unfolding succ_word
succ_good s below apart = go s.mark s.flag apart
  where
    go : (m f : Bool) → not (m && f) ≡ true
        → let word = s.right * 4 + bit m * 2 + bit f in (word < 512) × (word % 4 ≡ 3 → ⊥)
    go true true h = absurd (clash h refl)
    go true false h = (omega arith, λ e. omega arith)
    go false true h = (omega arith, λ e. omega arith)
    go false false h = (omega arith, λ e. omega arith)

rest_good : (r : Row) → r.backlink < 128 → standing_number r.standing < 10 → (rest_word r % 256 < 128) × (rest_word r / 256 < 10)
unfolding rest_word
rest_good r back standing = (omega arith, omega arith)

module _ (words : List ℕ) (workers : List Worker) (i : ℕ) (inside : i < 128) where
  pub record GoodWords : Type 0 where
    pub row : succ_word_at words i < 512
    pub apart : succ_word_at words i % 4 ≡ 3 → ⊥
    pub backlink : rest_word_at words i % 256 < 128
    pub standing : rest_word_at words i / 256 < 10

  -- the words of each row of a well-formed state
  pub good_words : packed_well words workers ≡ true → GoodWords
  unfolding well_formed
  good_words h =
      let told = packed_well_told words workers h in
      let packs = packs_rows_lem words told.0 in
      let rows = unpacked words in
      let there : i < length rows = omega (arith, rows_number 128 words packs.size) in
      let one = every (row_well workers) rows free_row (and_parts (all_from (row_well workers) 0 rows) _ told.1).0 i there in
      let well = row_facts workers i (row_at rows i) one in
      let found = packed_at rows i there in
      let succ : succ_word (row_at rows i).succ ≡ succ_word_at words i = sym found.succ ∙ ap (λ (l : List ℕ). succ_word_at l i) packs.again in
      let rest : rest_word (row_at rows i) ≡ rest_word_at words i = sym found.rest ∙ ap (λ (l : List ℕ). rest_word_at l i) packs.again in
      let s = succ_good (row_at rows i).succ (right_below well) well.numbers.apart in
      let r = rest_good (row_at rows i) (backlink_below well) (standing_below well) in
      record { row = rw succ at s.0; apart = rw succ at s.1; backlink = rw rest at r.0; standing = rw rest at r.1 }

  not_well : (GoodWords → ⊥) → packed_well words workers ≡ false
  not_well bad = elim (cases_Bool (packed_well words workers)) [
    | inl h ↦ absurd (bad (good_words h))
    | inr h ↦ h
  ]

  -- A successor word of 512 or more, or one with both low bits set, makes the state not well formed.
  pub bad_succ_word : (512 ≤ succ_word_at words i) ⊎ (succ_word_at words i % 4 ≡ 3) → packed_well words workers ≡ false
  bad_succ_word (inl large) = not_well (λ good. omega (arith, good.row))
  bad_succ_word (inr both_set) = not_well (λ good. good.apart both_set)

  -- So does a backlink of 128 or more, or a standing that is none: neither free (0) nor linked (1) nor held by a worker (2 to 9).
  pub bad_rest_word : (128 ≤ rest_word_at words i % 256) ⊎ (10 ≤ rest_word_at words i / 256) → packed_well words workers ≡ false
  bad_rest_word (inl large) = not_well (λ good. omega (arith, good.backlink))
  bad_rest_word (inr none) = not_well (λ good. omega (arith, good.standing))
