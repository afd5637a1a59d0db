-- The lowest free row: it is free and none below it is, or there is none at all. And so what the test of Insert's line 4 says.
use Rattle.std.specs.Prelude.{ℕ, zero, suc, ◌+◌, ◌≤◌, ◌<◌, true, false, ◌≡◌, ◌≢◌, List, ltb}
use Rattle.std.proofs.Common.{arith, ltb-true, ltb-false, le-ltb}
use Rattle.std.proofs.Math.Decide.{ℕ_discrete}
use Rattle.model.specs.State.{row_at}
use Rattle.model.proofs.Choices.{if_known}
use Rattle.model.specs.Insert.{is_free, lowest_free_from, lowest_free}
use Rattle.model.specs.declared.Row.{Row}
use Rattle.model.specs.declared.Standing.TheVariants.{Free}
use Rattle.kept.specs.Standing.{is_free_lem, not_free}

-- no row from `first` to before `last` is free
abbrev pub NoneFree : List Row → ℕ → ℕ → Type 0
NoneFree rows first last = (x : ℕ) → first ≤ x → x < last → (row_at rows x).standing ≢ Free

-- the lowest free row among those from `first` to before `last`
data LowestFree (rows : List Row) (first last row : ℕ) : Type 0 where
  found : (row_at rows row).standing ≡ Free → first ≤ row → row < last → NoneFree rows first row → LowestFree rows first last row
  none : row ≡ last → NoneFree rows first last → LowestFree rows first last row

none_free_before : (rows : List Row) (i last : ℕ) → (row_at rows i).standing ≢ Free → NoneFree rows (i + 1) last → NoneFree rows i last
none_free_before rows i last used later x low high = elim (ℕ_discrete x i) [
  | yes e ↦ λ free. used (cc)
  | no e ↦ later x (omega arith) high
]

lowest_from : (rows : List Row) (n i : ℕ) → LowestFree rows i (i + n) (lowest_free_from rows n i)
unfolding lowest_free_from
lowest_from rows zero i = none (omega arith) (λ x low high. absurd (omega arith))
lowest_from rows (suc n) i =
    if_known (LowestFree rows i (i + suc n)) (is_free (row_at rows i).standing)
    (λ free. found (is_free_lem _ free) (omega arith) (omega arith) (λ x low high. absurd (omega arith)))
    (λ used. later (not_free _ used) (lowest_from rows n (i + 1)))
  where
    later : {row : ℕ} → (row_at rows i).standing ≢ Free → LowestFree rows (i + 1) (i + 1 + n) row → LowestFree rows i (i + suc n) row
    later used (found free low high rest) = found free (omega arith) (omega arith) (none_free_before rows i _ used rest)
    later used (none e rest) = none (omega arith) (none_free_before rows i _ used (λ x low high. rest x low (omega arith)))

-- rows 2 to 127 carry saves
module _ (rows : List Row) where
  lowest_free_lem : LowestFree rows 2 128 (lowest_free rows)
  unfolding lowest_free
  lowest_free_lem = lowest_from rows 126 2

  pub lowest_is_free : ltb (lowest_free rows) 128 ≡ true → (row_at rows (lowest_free rows)).standing ≡ Free
  lowest_is_free some = elim lowest_free_lem [
    | found free low high rest ↦ free
    | none e rest ↦ absurd (omega (arith, ltb-true (lowest_free rows) 128 some))
  ]

  pub none_left : ltb (lowest_free rows) 128 ≡ false → NoneFree rows 2 128
  none_left no_row = elim lowest_free_lem [
    | found free low high rest ↦ absurd (omega (arith, ltb-false (lowest_free rows) 128 no_row))
    | none e rest ↦ rest
  ]

  pub if_none_left : NoneFree rows 2 128 → ltb (lowest_free rows) 128 ≡ false
  if_none_left no_row = elim lowest_free_lem [
    | found free low high rest ↦ absurd (no_row (lowest_free rows) low high free)
    | none e rest ↦ le-ltb (lowest_free rows) 128 (omega arith)
  ]
