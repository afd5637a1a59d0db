-- A first part of some bytes: a part of them behind others, the same of longer bytes, and one that grows.
use Rattle.std.specs.Prelude.{◌≡◌, ℕ, ◌-◌, List, ◌++◌, length, take, drop}
use Rattle.std.proofs.Common.{sym, ap, ◌∙◌, append_assoc, arith, length-drop, take_all, take-append-drop}
use Rattle.std.specs.declared.option.Option.{Option}
use Rattle.std.specs.Io.KnownBytes.{Appends}
use Rattle.std.proofs.KnownBytes.{Appends-trans}
use Rattle.printer.specs.Written.{AppendsFront}

pub behind : (a b c : Option (List ℕ)) (bs cs : List ℕ) → Appends a b bs → AppendsFront b c cs → AppendsFront a c (bs ++ cs)
behind a b c bs cs before (front, rest, whole, part) =
    (bs ++ front, rest, ap (λ (l : List ℕ). bs ++ l) whole ∙ sym (append_assoc bs front rest), Appends-trans a b c bs front before part)

pub longer : (a b : Option (List ℕ)) (bs cs : List ℕ) → AppendsFront a b bs → AppendsFront a b (bs ++ cs)
longer a b bs cs (front, rest, whole, part) =
    (front, rest ++ cs, ap (λ (l : List ℕ). l ++ cs) whole ∙ append_assoc front rest cs, part)

-- n bytes more of those that are left; what is left then is a part of it that ends where it does
pub onward : (n : ℕ) (a b c : Option (List ℕ)) (front rest bs : List ℕ) → bs ≡ front ++ rest → Appends a b front → Appends b c (take n rest)
    → (further : List ℕ) × (bs ≡ further ++ take (length rest - n) (drop n rest)) × Appends a c further
onward n a b c front rest bs whole before more =
    let left : take (length rest - n) (drop n rest) ≡ drop n rest =
    take_all (length rest - n) (drop n rest) (omega (arith, length-drop n rest)) in (
      front ++ take n rest,
      rw left (whole ∙ ap (λ (l : List ℕ). front ++ l) (sym (take-append-drop n rest)) ∙ sym (append_assoc front (take n rest) (drop n rest))),
      Appends-trans a b c front (take n rest) before more,
    )
