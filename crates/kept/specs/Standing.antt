-- The standing of a row: what the tests of it say, what it cannot be at once, and that a row which is not free is one of the list.
use Rattle.std.specs.Prelude.{ℕ, ◌≤◌, ◌<◌, true, false, ◌≡◌, refl, ◌≢◌, List, length}
use Rattle.std.proofs.Common.{ap, arith, eqb-true}
use Rattle.std.proofs.Math.Decide.{dec_lt}
use Rattle.std.proofs.Math.ListN.{get_or-eq_default}
use Rattle.model.specs.State.{row_at, free_row}
use Rattle.model.specs.Insert.{is_free}
use Rattle.model.specs.WellFormed.{is_linked, held_by}
use Rattle.model.specs.declared.Row.{Row}
use Rattle.model.specs.declared.Standing.{Standing}
use Rattle.model.specs.declared.Standing.TheVariants.{Free, Held, Linked}
use Rattle.kept.specs.Conditions.{clash, contradiction}

-- ---- The tests ----

pub is_free_lem : (s : Standing) → is_free s ≡ true → s ≡ Free
is_free_lem Free h = refl
is_free_lem (Held w) h = absurd (clash h refl)
is_free_lem Linked h = absurd (clash h refl)

pub not_free : (s : Standing) → is_free s ≡ false → s ≢ Free
not_free s h e = clash (ap is_free e) h

pub is_linked_lem : (s : Standing) → is_linked s ≡ true → s ≡ Linked
is_linked_lem Free h = absurd (clash h refl)
is_linked_lem (Held w) h = absurd (clash h refl)
is_linked_lem Linked h = refl

pub is_held : (w : ℕ) (s : Standing) → held_by w s ≡ true → s ≡ Held w
is_held w Free h = absurd (clash h refl)
is_held w (Held v) h = cc (eqb-true v w h)
is_held w Linked h = absurd (clash h refl)

-- ---- Not two at once ----

pub free_not_held : {s : Standing} {w : ℕ} → s ≡ Free → s ≡ Held w → ⊥
free_not_held free held = contradiction (cc)

pub free_not_linked : {s : Standing} → s ≡ Free → s ≡ Linked → ⊥
free_not_linked free linked = contradiction (cc)

pub held_not_linked : {s : Standing} {w : ℕ} → s ≡ Held w → s ≡ Linked → ⊥
held_not_linked held linked = contradiction (cc)

pub one_holder : {s : Standing} {v w : ℕ} → s ≡ Held v → s ≡ Held w → v ≡ w
one_holder held again = cc

-- ---- Past the end stands a free row ----

module _ (rows : List Row) (x : ℕ) where
  inside : (row_at rows x).standing ≢ Free → x < length rows
  inside used = elim (dec_lt x (length rows)) [
    | yes h ↦ h
    | no h ↦
        let past : length rows ≤ x = omega arith in
        absurd (used (ap (λ (r : Row). r.standing) (get_or-eq_default rows free_row past)))
  ]

  pub linked_inside : (row_at rows x).standing ≡ Linked → x < length rows
  linked_inside linked = inside (λ free. free_not_linked free linked)

  pub held_inside : (w : ℕ) → (row_at rows x).standing ≡ Held w → x < length rows
  held_inside w held = inside (λ free. free_not_held free held)
