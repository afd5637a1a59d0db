-- What the code over whole tables needs to know: the test of all rows is that of each four words, the rows read one by one are all rows, and
-- the words of one row more.
use Rattle.std.specs.Prelude.{ℕ, zero, suc, ◌+◌, ◌*◌, ◌/◌, ◌≤◌, ◌<◌, ◌≡◌, refl, Bool, true, false, ◌&&◌, List, [], ◌∷◌, ◌++◌, length, get_or, set, take, drop, Option, MatchOption, Ok, Err}
use Rattle.std.specs.Bool.{then_some}
use Rattle.std.specs.List.{list_all}
use Rattle.std.specs.Simd.{first_chunks}
use Rattle.std.specs.Array.{IsFromFnResult, IsFromFnResultFrom}
use denote.Param.Members.{Mut, Called}
use denote.Ref.{Bor}
use Rattle.std.proofs.Common.{inl, inr, ap, sym, ◌∙◌, arith, add-one, drop_of_length-le, drop-cons, take-suc, take-suc-set, take_all, length-append, eq-eqb, ne_eqb}
use Rattle.std.proofs.Math.Seq.{length-take-le, take_at}
use Rattle.std.proofs.lemmas.Bool.{cases_lt}
use Rattle.std.proofs.lemmas.List.{ext_get_or}
use Rattle.std.proofs.lemmas.List.Edits.{sets-eq}
use Rattle.model.specs.State.{row_at, free_row, empty_catalogue}
use Rattle.model.specs.Step.{refuse, accept}
use Rattle.model.specs.Packed.{succ_word, rest_word, packed, unpacked, packs_row, packs_each, packs_rows, state_of, packed_well, pack_verdict, pack_into, unpack}
use Rattle.model.specs.Verdict.{Verdict}
use Rattle.model.specs.WellFormed.{well_formed}
use Rattle.model.specs.declared.Row.{Row}
use Rattle.model.specs.declared.Worker.{Worker}
use Rattle.model.specs.declared.Catalogue.{Catalogue}
use Rattle.model.specs.declared.Refusal.TheVariants.{NotWellFormed}
use Rattle.kept.specs.Conditions.{contradiction}
use Rattle.packing.specs.OneRow.{Bytes}
use Rattle.packing.specs.Tables.{AllBytes, none, more, PackingOf, rows_number}
use Rattle.packing.specs.Stored.{word_at, stored_row, row_stored_length}

-- ---- The test ----

-- the test of four words is that of their last two
abbrev pub packs_four : List ℕ → Bool
packs_four four = packs_row (word_at four 2) (word_at four 3)

pub each_packs : (n : ℕ) (words : List ℕ) → length words ≡ n * 4 → list_all packs_four (first_chunks 4 n words) ≡ packs_each words
unfolding packs_each
each_packs zero [] size = refl
each_packs (suc n) [] size = absurd (omega arith)
each_packs n (a ∷ []) size = absurd (omega arith)
each_packs n (a ∷ b ∷ []) size = absurd (omega arith)
each_packs n (a ∷ b ∷ c ∷ []) size = absurd (omega arith)
each_packs zero (k ∷ e ∷ s ∷ r ∷ words) size = absurd (omega arith)
each_packs (suc n) (k ∷ e ∷ s ∷ r ∷ words) size = ap (λ (b : Bool). packs_row s r && b) (each_packs n words (omega arith))

module _ (words : List ℕ) (i : ℕ) (inside : i < 128) (size : length words ≡ 512) where
  -- the words from row i on are those of row i, and those from row i + 1 on
  row_dropped : drop (i * 4) words
      ≡ word_at words (i * 4) ∷ word_at words (i * 4 + 1) ∷ word_at words (i * 4 + 2) ∷ word_at words (i * 4 + 3) ∷ drop ((i + 1) * 4) words
  row_dropped =
      let one : i * 4 + 1 ≡ suc (i * 4) = omega arith in
      let two : i * 4 + 2 ≡ suc (suc (i * 4)) = omega arith in
      let three : i * 4 + 3 ≡ suc (suc (suc (i * 4))) = omega arith in
      let next : (i + 1) * 4 ≡ suc (suc (suc (suc (i * 4)))) = omega arith in
      rw (one, two, three, next)
      (drop-cons words (i * 4) 0 (omega arith)
      ∙ ap (λ (l : List ℕ). word_at words (i * 4) ∷ l) (drop-cons words (suc (i * 4)) 0 (omega arith)
      ∙ ap (λ (l : List ℕ). word_at words (suc (i * 4)) ∷ l) (drop-cons words (suc (suc (i * 4))) 0 (omega arith)
      ∙ ap (λ (l : List ℕ). word_at words (suc (suc (i * 4))) ∷ l) (drop-cons words (suc (suc (suc (i * 4)))) 0 (omega arith)))))

  -- from row i on, where its words are a row's, the test is that from the next row on
  pub each_more : packs_row (word_at words (i * 4 + 2)) (word_at words (i * 4 + 3)) ≡ true
      → packs_each (drop (i * 4) words) ≡ packs_each (drop ((i + 1) * 4) words)
  unfolding packs_each
  each_more h = rw row_dropped (simp h)

  -- and fails where they are not
  pub each_stop : packs_row (word_at words (i * 4 + 2)) (word_at words (i * 4 + 3)) ≡ false → packs_each (drop (i * 4) words) ≡ false
  unfolding packs_each
  each_stop h = rw row_dropped (simp h)

-- no words are left past the last row
pub each_done : (words : List ℕ) (i : ℕ) → length words ≤ i * 4 → packs_each (drop (i * 4) words) ≡ true
unfolding packs_each
each_done words i h = rw (drop_of_length-le words h)

pub sized_rows : (words : List ℕ) (b : Bool) → length words ≡ 512 → packs_each words ≡ b → b ≡ packs_rows words
unfolding packs_rows
sized_rows words b size h = rw (eq-eqb (length words) 512 size) (sym h)

pub unsized_rows : (words : List ℕ) → (length words ≡ 512 → ⊥) → false ≡ packs_rows words
unfolding packs_rows
unsized_rows words h = rw (ne_eqb (length words) 512 h)

pub all_pack : (words : List ℕ) (chunks : List (List ℕ)) → length words ≡ 512 → chunks ≡ first_chunks 4 (length words / 4) words
    → list_all packs_four chunks ≡ packs_rows words
all_pack words chunks size cut =
    sized_rows words _ size (sym (ap (list_all packs_four) cut ∙ each_packs (length words / 4) words (omega arith)))

-- the words as a table, if they pack rows
abbrev pub PackedTable : List ℕ → Option (Bor (List ℕ)) → Type 0
PackedTable words r = MatchOption r (packs_rows words ≡ false) (λ table. (packs_rows words ≡ true) × (table.now ≡ words))

pub table_packs : (words : List ℕ) (table : Bor (List ℕ)) (b : Bool) → table.now ≡ words → b ≡ packs_rows table.now → PackedTable words (then_some b table)
table_packs words table true same told = (sym (told ∙ ap packs_rows same), same)
table_packs words table false same told = sym (told ∙ ap packs_rows same)

-- ---- Rows read from words ----

-- what a closure that stays as it is says of each index
made_each : {F B : Type 0} (g : Mut F (ℕ × Unit {0}) B) (Q : ℕ → B → Type 0) (f : F) → ((x : ℕ) (y : B) (q : F) → Called g f (x, tt) y q → (q ≡ f) × Q x y)
    → (ys : List B) (i n : ℕ) → IsFromFnResultFrom g f ys i n → (k : ℕ) (d : B) → i ≤ k → k < i + n → Q k (get_or ys k d)
made_each g Q f says ys i zero made k d low high = absurd (omega arith)
made_each g Q f says ys i (suc n) (q, y, there, called, later) k d low high =
    let said = says i y q called in
    elim (cases_lt i k) [
      | inl above ↦ made_each g Q f says ys (i + 1) n (rw (said.0) at later) k d (omega arith) (omega arith)
      | inr same ↦ let here : k ≡ i = omega arith in rw (here, there.1 d) said.1
    ]

pub rows_read : {F : Type 0} (g : Mut F (ℕ × Unit {0}) Row) (f : F) (words : List ℕ) (rows : List Row) → length words ≡ 512
    → IsFromFnResult g f rows 128 → ((x : ℕ) (y : Row) (q : F) → Called g f (x, tt) y q → (q ≡ f) × (y ≡ row_at (unpacked words) x))
    → rows ≡ unpacked words
rows_read g f words rows size made says =
    let long = rows_number 128 words size in
    ext_get_or free_row rows (unpacked words) (omega (arith, made.long))
    (λ i h. made_each g (λ x y. y ≡ row_at (unpacked words) x) f says rows 0 128 made.each i free_row (omega arith) (omega (arith, made.long)))

-- rows that agree with these up to i, and hold row i at i, agree up to i + 1
pub filled : (rows all : List Row) (i : ℕ) (row : Row) → i < length rows → i < length all → row ≡ row_at all i → take i rows ≡ take i all
    → take (i + 1) (set rows i row) ≡ take (i + 1) all
filled rows all i row inside there found before =
    rw add-one (take-suc-set rows i row inside ∙ rw (before, found) (sym (take-suc all i free_row there)))

-- and those that agree up to the end are these
pub all_filled : {A : Type 0} (n : ℕ) (rows all : List A) → length rows ≡ n → length all ≡ n → take n rows ≡ take n all → rows ≡ all
all_filled n rows all p q h = sym (take_all n rows (omega arith)) ∙ h ∙ take_all n all (omega arith)

-- ---- Rows packed into words ----

packed_append : (rows others : List Row) → packed (rows ++ others) ≡ packed rows ++ packed others
unfolding packed
packed_append [] others = refl
packed_append (r ∷ rows) others = cc (packed_append rows others)

one_more : {rows : List Row} {r : Row} → AllBytes rows → Bytes r → AllBytes (rows ++ r ∷ [])
one_more none b = more b none
one_more (more a rest) b = more a (one_more rest b)

-- the words before row i are the packing of the first i rows
pub record FirstPacked (rows : List Row) (i : ℕ) (words : List ℕ) : Type 0 where
  pub size : length words ≡ 512
  pub bytes : AllBytes (take i rows)
  pub packing : take (i * 4) words ≡ packed (take i rows)

module _ (words : List ℕ) (i : ℕ) (row : Row) (inside : i < 128) (size : length words ≡ 512) where
  row_placed : take ((i + 1) * 4) (stored_row words i row) ≡ take (i * 4) words ++ packed (row ∷ [])
  unfolding stored_row packed
  row_placed =
      let four : List ℕ = row.key ∷ row.element ∷ succ_word row.succ ∷ rest_word row ∷ [] in
      let later = drop (i * 4 + length four) words in
      let one : i * 4 + 1 ≡ suc (i * 4) = omega arith in
      let two : i * 4 + 2 ≡ suc (suc (i * 4)) = omega arith in
      let three : i * 4 + 3 ≡ suc (suc (suc (i * 4))) = omega arith in
      let before : length (take (i * 4) words) ≡ i * 4 = length-take-le (i * 4) words (omega arith) in
      let long : length (take (i * 4) words ++ four) ≡ (i + 1) * 4 = length-append (take (i * 4) words) four ∙ omega arith in
      rw (one, two, three)
      (ap (take ((i + 1) * 4)) (sets-eq four words (i * 4) (omega arith))
      ∙ take_at (take (i * 4) words ++ four) later ((i + 1) * 4) long)

  -- the first rows are packed, and each can be
  pub more_packed : (rows : List Row) (d : Row) (after : List ℕ) → length rows ≡ 128 → row ≡ get_or rows i d → FirstPacked rows i words
      → after ≡ stored_row words i row → Bytes row → FirstPacked rows (i + 1) after
  more_packed rows d after number found h stores bytes =
      let there = take-suc rows i d (omega arith) in
      record {
        size = ap length stores ∙ row_stored_length words i row ∙ size;
        bytes = rw (add-one, there, ← found) (one_more h.bytes bytes);
        packing =
            rw stores (row_placed ∙ rw (h.packing, ← packed_append (take i rows) (row ∷ []), add-one, found) (ap packed (sym there)));
      }

pub none_yet : (rows : List Row) (words : List ℕ) → length words ≡ 512 → FirstPacked rows 0 words
unfolding packed
none_yet rows words size = record { size = size; bytes = none; packing = refl }

-- what packing a catalogue promises: the verdict and the words, and that the words pack its rows
pub record Packing (c : Catalogue) (before : List ℕ) (r : Verdict) (after : List ℕ) : Type 0 where
  pub verdict : r ≡ pack_verdict before
  pub words : after ≡ pack_into c before
  pub rows : r ≡ Ok tt → PackingOf after c.rows

pub all_packed : (c : Catalogue) (before words : List ℕ) → length before ≡ 512 → length c.rows ≡ 128 → (i : ℕ) → i ≡ 128 → FirstPacked c.rows i words
    → Packing c before (Ok tt) words
unfolding pack_verdict pack_into
all_packed c before words was number i done h =
    let all = take_all i c.rows (omega arith) in
    let same : packed c.rows ≡ words = sym (rw all at h.packing) ∙ take_all (i * 4) words (omega (arith, h.size)) in
    record {
      verdict = rw (eq-eqb (length before) 512 was);
      words = rw (eq-eqb (length before) 512 was) (sym same);
      rows = λ _. record { bytes = rw all at h.bytes; number = number; packing = same };
    }

pub none_packed : (c : Catalogue) (words : List ℕ) → (length words ≡ 512 → ⊥) → Packing c words (Err NotWellFormed) words
unfolding pack_verdict pack_into
none_packed c words h = record {
  verdict = rw (ne_eqb (length words) 512 h);
  words = rw (ne_eqb (length words) 512 h);
  rows = λ e. contradiction (cc);
}

-- ---- What the tests say of the definitions ----

module _ (words : List ℕ) (workers : List Worker) where
  pub well_if_packs : packs_rows words ≡ true → well_formed (state_of words workers) ≡ packed_well words workers
  unfolding packed_well
  well_if_packs h = rw h

  pub not_well_if_none : packs_rows words ≡ false → false ≡ packed_well words workers
  unfolding packed_well
  not_well_if_none h = rw h

  pub unpacks : packs_rows words ≡ true → accept (state_of words workers) ≡ unpack words workers
  unfolding unpack
  unpacks h = rw h

  pub unpacks_nothing : packs_rows words ≡ false → refuse NotWellFormed empty_catalogue ≡ unpack words workers
  unfolding unpack
  unpacks_nothing h = rw h
