-- The digits of a number: the last one split off, how many there are, and that they are the library's.
use Rattle.std.specs.Prelude.{◌≡◌, ℕ, zero, suc, ◌+◌, ◌*◌, ◌/◌, ◌%◌, ◌^◌, ◌<◌, ◌≤◌, List, [], ◌∷◌, ◌++◌, length}
use Rattle.std.proofs.Common.{ap, ◌∙◌, add-one, append_assoc, append-nil, arith, length-append, lt-ltb, le-ltb}
use Rattle.std.proofs.Math.Decide.{dec_lt}
use Rattle.std.proofs.lemmas.Fmt.{PrependsLastDigit, decimal_from_prepends, length-decimal-le_succ}
use Rattle.std.specs.Fmt as library
use Rattle.model.specs.Printed.{digits_before, decimal}

abbrev digit : ℕ → ℕ
digit n = 48 + n % 10

-- one digit goes before what is there, and ends it; or the digits of the tenth part go before it
pub digits_small : (a n : ℕ) (later : List ℕ) → n < 10 → digits_before (suc a) n later ≡ digit n ∷ later
unfolding digits_before
digits_small a n later h = simp (lt-ltb n 10 h)

pub digits_large : (a n : ℕ) (later : List ℕ) → 10 ≤ n → digits_before (suc a) n later ≡ digits_before a (n / 10) (digit n ∷ later)
unfolding digits_before
digits_large a n later h = simp (le-ltb n 10 h)

-- what is there comes behind the digits
digits_append : (a n : ℕ) (later : List ℕ) → n < a → digits_before a n later ≡ digits_before a n [] ++ later
digits_append zero n later h = absurd (omega arith)
digits_append (suc a) n later h = go (dec_lt n 10) (digits_append a (n / 10))
  where
    go : Dec (n < 10) → ((l : List ℕ) → n / 10 < a → digits_before a (n / 10) l ≡ digits_before a (n / 10) [] ++ l)
        → digits_before (suc a) n later ≡ digits_before (suc a) n [] ++ later
    go (yes small) f = rw (digits_small a n later small, digits_small a n [] small)
    go (no large) f =
        let ten : 10 ≤ n = omega arith in
        let tenth : n / 10 < a = omega arith in
        rw (digits_large a n later ten, digits_large a n [] ten, f (digit n ∷ later) tenth, f (digit n ∷ []) tenth, append_assoc)

-- more tries than the number are enough, however many
digits_tries : (a b n : ℕ) (later : List ℕ) → n < a → n < b → digits_before a n later ≡ digits_before b n later
digits_tries zero b n later h k = absurd (omega arith)
digits_tries (suc a) zero n later h k = absurd (omega arith)
digits_tries (suc a) (suc b) n later h k = go (dec_lt n 10) (digits_tries a b (n / 10) (digit n ∷ later))
  where
    go : Dec (n < 10) → (n / 10 < a → n / 10 < b → digits_before a (n / 10) (digit n ∷ later) ≡ digits_before b (n / 10) (digit n ∷ later))
        → digits_before (suc a) n later ≡ digits_before (suc b) n later
    go (yes small) f = rw (digits_small a n later small, digits_small b n later small)
    go (no large) f =
        let ten : 10 ≤ n = omega arith in
        rw (digits_large a n later ten, digits_large b n later ten) (f (omega arith) (omega arith))

pub decimal_small : (n : ℕ) → n < 10 → decimal n ≡ (48 + n) ∷ []
unfolding decimal
decimal_small n h = let same : n % 10 ≡ n = omega arith in digits_small n n [] h ∙ rw same

pub decimal_large : (n : ℕ) → 10 ≤ n → decimal n ≡ decimal (n / 10) ++ ((48 + n % 10) ∷ [])
unfolding decimal
decimal_large n h =
    let tenth : n / 10 < n = omega arith in
    digits_large n n [] h
    ∙ digits_append n (n / 10) (digit n ∷ []) tenth
    ∙ ap (λ (l : List ℕ). l ++ (digit n ∷ [])) (digits_tries n (suc (n / 10)) (n / 10) [] tenth (omega arith))

pub decimal_digit : (n : ℕ) → n < 10 → length (decimal n) ≡ 1
decimal_digit n h = rw (decimal_small n h)

pub decimal_longer : (n : ℕ) → 10 ≤ n → length (decimal n) ≡ length (decimal (n / 10)) + 1
decimal_longer n h = rw (decimal_large n h) (length-append (decimal (n / 10)) _)

-- ten to the power k
abbrev pub tens : ℕ → ℕ
tens zero = 1
tens (suc k) = 10 * tens k

-- a number below that has at most k digits
pub decimal_short : (k n : ℕ) → n < tens (suc k) → length (decimal n) ≤ suc k
decimal_short zero n h = omega (arith, decimal_digit n (omega arith))
decimal_short (suc k) n h = go (dec_lt n 10) (decimal_short k (n / 10))
  where
    go : Dec (n < 10) → (n / 10 < tens (suc k) → length (decimal (n / 10)) ≤ suc k) → length (decimal n) ≤ suc (suc k)
    go (yes small) f = omega (arith, decimal_digit n small)
    go (no large) f = omega (arith, decimal_longer n (omega arith), f (omega arith))

-- ---- The library's digits ----

digits_prepended : PrependsLastDigit digits_before
digits_prepended = record {
  one = λ k n later small. let same : n % 10 ≡ n = omega arith in digits_small k n later small ∙ rw same;
  more = λ k n later large. digits_large k n later large;
}

pub decimal_same : (n : ℕ) → n < 2 ^ 64 → decimal n ≡ library.decimal n
unfolding decimal
decimal_same n h = decimal_from_prepends digits_before digits_prepended (suc n) n [] h (rw (← add-one n) (length-decimal-le_succ n h)) ∙ append-nil (library.decimal n)
