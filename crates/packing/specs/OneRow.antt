-- A row and its words: which rows can be packed, that packing one and reading it again gives the row, and which words are a row's.
use Rattle.std.specs.Prelude.{ℕ, ◌+◌, ◌-◌, ◌*◌, ◌/◌, ◌%◌, ◌<◌, ◌≡◌, refl, Bool, true, false, eqb}
use Rattle.std.proofs.Common.{ap, arith, eqb-true, eq-eqb, ne_eqb}
use Rattle.model.specs.Packed.{bit, succ_word, standing_number, rest_word, succ_from, standing_from, row_from, packs_row}
use Rattle.model.proofs.Choices.{if_known}
use Rattle.model.specs.declared.Row.{Row}
use Rattle.model.specs.declared.Succ.{Succ}
use Rattle.model.specs.declared.Standing.{Standing}
use Rattle.model.specs.declared.Standing.TheVariants.{Free, Held, Linked}
use Rattle.std.proofs.lemmas.Bool.{and_parts, and_from}

-- Right row, backlink and holder are bytes, as the types of the code say of every row that it holds.
pub record Bytes (r : Row) : Type 0 where
  pub right : r.succ.right < 256
  pub backlink : r.backlink < 256
  pub holder : standing_number r.standing < 258

-- ---- A row, packed and read again ----

module _ (right : ℕ) (small : right < 256) where
  quotient : (m f : Bool) → (right * 4 + bit m * 2 + bit f) / 4 % 256 ≡ right
  quotient true true = omega arith
  quotient true false = omega arith
  quotient false true = omega arith
  quotient false false = omega arith

  marked : (m f : Bool) → eqb ((right * 4 + bit m * 2 + bit f) / 2 % 2) 1 ≡ m
  marked true true = eq-eqb ((right * 4 + 1 * 2 + 1) / 2 % 2) 1 (omega arith)
  marked true false = eq-eqb ((right * 4 + 1 * 2 + 0) / 2 % 2) 1 (omega arith)
  marked false true = ne_eqb ((right * 4 + 0 * 2 + 1) / 2 % 2) 1 (λ e. omega (arith, e))
  marked false false = ne_eqb ((right * 4 + 0 * 2 + 0) / 2 % 2) 1 (λ e. omega (arith, e))

  flagged : (m f : Bool) → eqb ((right * 4 + bit m * 2 + bit f) % 2) 1 ≡ f
  flagged true true = eq-eqb ((right * 4 + 1 * 2 + 1) % 2) 1 (omega arith)
  flagged true false = ne_eqb ((right * 4 + 1 * 2 + 0) % 2) 1 (λ e. omega (arith, e))
  flagged false true = eq-eqb ((right * 4 + 0 * 2 + 1) % 2) 1 (omega arith)
  flagged false false = ne_eqb ((right * 4 + 0 * 2 + 0) % 2) 1 (λ e. omega (arith, e))

pub succ_back : (s : Succ) → s.right < 256 → succ_from (succ_word s) ≡ s
unfolding succ_from succ_word
succ_back s small =
    let m = s.mark in
    let f = s.flag in
    rw (quotient s.right small m f, marked s.right small m f, flagged s.right small m f)

standing_back : (s : Standing) → standing_number s < 258 → standing_from (standing_number s) ≡ s
unfolding standing_from
standing_back Free h = refl
standing_back (Held w) h =
    let back : (w + 2 - 2) % 256 ≡ w = omega arith in
    simp (ne_eqb (w + 2) 0 (λ e. omega arith), ne_eqb (w + 2) 1 (λ e. omega arith), back)
standing_back Linked h = refl

pub row_back : (r : Row) → Bytes r → row_from r.key r.element (succ_word r.succ) (rest_word r) ≡ r
unfolding row_from rest_word
row_back r b =
    let number = standing_number r.standing in
    let q : (number * 256 + r.backlink) / 256 ≡ number = omega (arith, b.backlink) in
    let m : (number * 256 + r.backlink) % 256 ≡ r.backlink = omega (arith, b.backlink) in
    rw (q, m, succ_back r.succ b.right, standing_back r.standing b.holder)

-- ---- Words, read and packed again ----

number_small : (n : ℕ) → standing_number (standing_from n) < 258
unfolding standing_from
number_small n =
    if_known (λ s. standing_number s < 258) (eqb n 0) (λ _. omega arith) (λ _.
    if_known (λ s. standing_number s < 258) (eqb n 1) (λ _. omega arith) (λ _. omega arith))

-- whatever the words are, they are read as a row of bytes
pub row_bytes : (k e s r : ℕ) → Bytes (row_from k e s r)
unfolding row_from succ_from
row_bytes k e s r = record { right = omega arith; backlink = omega arith; holder = number_small (r / 256) }

rest_again : (r : Row) → Bytes r → rest_word (row_from 0 0 (succ_word r.succ) (rest_word r)) ≡ rest_word r
unfolding rest_word row_from
rest_again r b =
    let same = row_back r b in
    cc (ap (λ (x : Row). x.backlink) same, ap (λ (x : Row). x.standing) same)

-- the words of a row of bytes are told by the test
pub bytes_packs : (r : Row) → Bytes r → packs_row (succ_word r.succ) (rest_word r) ≡ true
unfolding packs_row
bytes_packs r b =
    and_from _ _ (eq-eqb _ _ (ap succ_word (succ_back r.succ b.right))) (eq-eqb _ _ (rest_again r b))

pub record Packs (k e s r : ℕ) : Type 0 where
  pub succ : succ_word (row_from k e s r).succ ≡ s
  pub rest : rest_word (row_from k e s r) ≡ r

pub packs_told : (k e s r : ℕ) → packs_row s r ≡ true → Packs k e s r
unfolding packs_row row_from rest_word
packs_told k e s r h =
    let parts = and_parts (eqb (succ_word (succ_from s)) s) _ h in
    record { succ = eqb-true _ _ parts.0; rest = eqb-true _ _ parts.1 }
