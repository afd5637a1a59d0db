-- How long a line is, and that its parts make it up: each line of a run has room in a text.
use Rattle.std.specs.Prelude.{◌≡◌, ℕ, ◌^◌, ◌<◌, ◌≤◌, List, [], ◌∷◌, ◌++◌, length}
use Rattle.std.proofs.Common.{ap, sym, ◌∙◌, append_assoc, arith}
use Rattle.std.proofs.Math.ListN.{length-append}
use Rattle.model.specs.Printed.{decimal, event_line, refused_file, last_line}
use Rattle.model.specs.Numbers.{refusal_number}
use Rattle.model.specs.Count.{saves_told, count, taken}
use Rattle.model.specs.declared.Refusal.{Refusal}
use Rattle.model.specs.declared.Catalogue.{Catalogue}
use Rattle.schedule.specs.Digits.{decimal_short}
use Rattle.schedule.specs.Shown.{Shows}

-- a number of 32 bits has at most ten digits
pub decimal_ten : (n : ℕ) → n < 2 ^ 32 → length (decimal n) ≤ 10
decimal_ten n h = decimal_short 9 n (omega arith)

-- event number and worker, a space behind each
abbrev pub line_start : ℕ → ℕ → List ℕ
line_start event worker = decimal event ++ 32 ∷ decimal worker ++ 32 ∷ []

-- the result's number, the element, and the line's end
abbrev pub line_end : ℕ → ℕ → List ℕ
line_end number element = decimal number ++ 32 ∷ decimal element ++ 10 ∷ []

halves : (start letter number element end : List ℕ) (space : ℕ)
    → (start ++ (space ∷ [])) ++ (letter ++ ((number ++ element) ++ end)) ≡ ((start ++ (space ∷ (letter ++ number))) ++ element) ++ end
halves start letter number element end space =
    append_assoc start (space ∷ []) _
    ∙ ap (λ (l : List ℕ). start ++ (space ∷ l))
    (ap (λ (l : List ℕ). letter ++ l) (append_assoc number element end) ∙ sym (append_assoc letter number (element ++ end)))
    ∙ sym (append_assoc start (space ∷ (letter ++ number)) (element ++ end))
    ∙ sym (append_assoc (start ++ (space ∷ (letter ++ number))) element end)

line_halves : (event worker : ℕ) (letter : List ℕ) (number element : ℕ)
    → line_start event worker ++ (letter ++ line_end number element) ≡ event_line event worker (letter ++ decimal number) element
unfolding event_line
line_halves event worker letter number element =
    halves (decimal event ++ 32 ∷ decimal worker) letter (decimal number) (32 ∷ decimal element) (10 ∷ []) 32

pub line_shows : (event worker : ℕ) (letter : List ℕ) (number element : ℕ)
    → Shows (event_line event worker (letter ++ decimal number) element) ((line_start event worker ++ letter) ++ line_end number element)
line_shows event worker letter number element =
    append_assoc (line_start event worker) letter (line_end number element) ∙ line_halves event worker letter number element

-- a line of numbers of 32 bits, the result with one letter before it or none
module _ (event worker : ℕ) (letter : List ℕ) (number element : ℕ)
    (e : event < 2 ^ 32) (w : worker < 2 ^ 32) (l : length letter ≤ 1) (n : number < 2 ^ 32) (m : element < 2 ^ 32) where
  pub line_short : length (event_line event worker (letter ++ decimal number) element) ≤ 48
  unfolding event_line
  line_short =
      simp length-append (omega (arith, decimal_ten event e, decimal_ten worker w, decimal_ten number n, decimal_ten element m))

-- "file ", "count " and " rows "
abbrev file_word : List ℕ
file_word = 102 ∷ 105 ∷ 108 ∷ 101 ∷ 32 ∷ []

abbrev count_word : List ℕ
count_word = 99 ∷ 111 ∷ 117 ∷ 110 ∷ 116 ∷ 32 ∷ []

abbrev rows_word : List ℕ
rows_word = 32 ∷ 114 ∷ 111 ∷ 119 ∷ 115 ∷ 32 ∷ []

pub refused_short : (r : Refusal) → refusal_number r < 2 ^ 32 → length (refused_file r) ≤ 48
unfolding refused_file
refused_short r h = simp length-append (omega (arith, decimal_ten (refusal_number r) h))

-- the line of a refused file: the word, the number and the line's end
pub refused_shows : (r : Refusal) → Shows (refused_file r) ((file_word ++ decimal (refusal_number r)) ++ (10 ∷ []))
unfolding refused_file
refused_shows r = append_assoc file_word (decimal (refusal_number r)) (10 ∷ [])

-- the last line: the two words, a number behind each, and the line's end
module _ (c : Catalogue) (saves rows : ℕ) (counted : saves ≡ saves_told (count c.rows)) (told : rows ≡ taken c.rows) where
  last_whole : last_line c ≡ count_word ++ (decimal saves ++ (rows_word ++ (decimal rows ++ (10 ∷ []))))
  unfolding last_line
  last_whole =
      rw (← counted, ← told)
      (ap (λ (l : List ℕ). count_word ++ l) (append_assoc (decimal saves) (rows_word ++ decimal rows) (10 ∷ [])))

  pub last_short : saves < 2 ^ 32 → rows < 2 ^ 32 → length (last_line c) ≤ 48
  last_short s r = rw last_whole (simp length-append (omega (arith, decimal_ten saves s, decimal_ten rows r)))

  pub last_shows : Shows (last_line c) ((((count_word ++ decimal saves) ++ rows_word) ++ decimal rows) ++ (10 ∷ []))
  last_shows =
      append_assoc ((count_word ++ decimal saves) ++ rows_word) (decimal rows) (10 ∷ [])
      ∙ append_assoc (count_word ++ decimal saves) rows_word (decimal rows ++ (10 ∷ []))
      ∙ append_assoc count_word (decimal saves) (rows_word ++ (decimal rows ++ (10 ∷ [])))
      ∙ sym last_whole
