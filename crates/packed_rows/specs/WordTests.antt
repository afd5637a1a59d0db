-- What the tests of the code say. Two words are a row's if packing gives back the one and then the other; a row is free where its last
-- word is below 256, for the standing's number is then 0.
use Rattle.std.specs.Prelude.{ℕ, ◌+◌, ◌*◌, ◌/◌, ◌≤◌, ◌<◌, ◌≡◌, refl, ◌≢◌, true, false, List, length, eqb}
use Rattle.std.proofs.Math.Path.{ap}
use Rattle.std.proofs.Common.{◌∙◌, arith, eq-eqb, ne_eqb}
use Rattle.model.specs.State.{row_at}
use Rattle.model.specs.Insert.{is_free}
use Rattle.model.proofs.Choices.{if_both}
use Rattle.model.specs.Packed.{succ_word, rest_word, succ_from, standing_from, row_from, unpacked, packs_row}
use Rattle.model.specs.declared.Row.{Row}
use Rattle.packing.specs.Stored.{word_at, row_found_lem}

module _ (succ rest : ℕ) where
  pub packs_by_rest : succ_word (succ_from succ) ≡ succ → eqb (rest_word (row_from 0 0 succ rest)) rest ≡ packs_row succ rest
  unfolding packs_row
  packs_by_rest h = simp (eq-eqb (succ_word (succ_from succ)) succ h)

  pub packs_not : succ_word (succ_from succ) ≢ succ → false ≡ packs_row succ rest
  unfolding packs_row
  packs_not h = simp (ne_eqb (succ_word (succ_from succ)) succ h)

number_free : (w : ℕ) → w < 256 → is_free (standing_from (w / 256)) ≡ true
unfolding standing_from
number_free w h = let none : w / 256 ≡ 0 = omega arith in rw none

number_taken : (w : ℕ) → 256 ≤ w → is_free (standing_from (w / 256)) ≡ false
unfolding standing_from
number_taken w h = rw (ne_eqb (w / 256) 0 (λ e. omega arith)) (if_both (λ s. is_free s ≡ false) (eqb (w / 256) 1) refl refl)

module _ (n : ℕ) (words : List ℕ) (i : ℕ) (size : length words ≡ n * 4) where
  pub word_free : word_at words (i * 4 + 3) < 256 → is_free (row_at (unpacked words) i).standing ≡ true
  unfolding row_from
  word_free h = ap (λ (r : Row). is_free r.standing) (row_found_lem n words i size) ∙ number_free (word_at words (i * 4 + 3)) h

  pub word_taken : 256 ≤ word_at words (i * 4 + 3) → is_free (row_at (unpacked words) i).standing ≡ false
  unfolding row_from
  word_taken h = ap (λ (r : Row). is_free r.standing) (row_found_lem n words i size) ∙ number_taken (word_at words (i * 4 + 3)) h
