-- The map of a list of rows as a function: the unmarked rows that the model's walk from the head meets, key by key. It is the map of the
-- table.
use Rattle.std.specs.Prelude.{ℕ, ◌≤◌, true, false, not, ◌&&◌, cond, ◌≡◌, refl, ◌⊎◌, length, eqb}
use Rattle.std.proofs.Common.{ap, sym, ◌∙◌, inl, inr}
use mathlib.Core.List.Memᴰ
use mathlib.Core.List.{List, [], ◌∷◌}
use Rattle.std.proofs.Math.Option.{Option, none, some}
use Rattle.std.proofs.Math.Decide.{ℕ_discrete}
use borrow.Author.Tests.{eq-eqb, ne_eqb}
use Rattle.model.specs.declared.Row.{Row}
use Rattle.model.specs.State.{row_at}
use Rattle.model.specs.Count.{walk}
use Rattle.order.proofs.Table.{mark_of}
use Rattle.order.proofs.Structure.{Structure}
use Rattle.order.proofs.Distinct.{Among}
use Rattle.order.proofs.TableMap.{Has, shown_has, has_shown}
use Rattle.order.specs.PlainMap.{PlainMap}
use Rattle.order.proofs.MapOfTable.{Entry, IsMapOf}
use Rattle.kept.specs.Conditions.{clash}
use Rattle.std.proofs.lemmas.Bool.{cases_Bool}

-- the element of the first of these rows that is unmarked and has key k
unfoldable pub element_among : List Row → ℕ → List ℕ → Option ℕ
element_among rows k [] = none
element_among rows k (x ∷ xs) =
    cond (not (mark_of (row_at rows) x) && eqb (row_at rows x).key k) (some (row_at rows x).element) (element_among rows k xs)

unfoldable pub chain_map : List Row → PlainMap
chain_map rows k = element_among rows k (walk 128 rows 0)

module _ (rows : List Row) (k : ℕ) where
  -- of a list of rows: the entry under key k, and a row that has it or that there is none
  data Looked (xs : List ℕ) : Option ℕ → Type 0 where
    found : {e : ℕ} (x : ℕ) → Among x xs → mark_of (row_at rows) x ≡ false → (row_at rows x).key ≡ k → (row_at rows x).element ≡ e
        → Looked xs (some e)
    nowhere : ((x : ℕ) → Among x xs → mark_of (row_at rows) x ≡ false → (row_at rows x).key ≡ k → ⊥) → Looked xs none

  further : {x : ℕ} {xs : List ℕ} {o : Option ℕ} → Looked xs o → (mark_of (row_at rows) x ≡ false → (row_at rows x).key ≡ k → ⊥)
      → Looked (x ∷ xs) o
  further (found y m u q e) h = found y (Memᴰ.tail m) u q e
  further {x} {xs} (nowhere none_here) h = nowhere (λ y m u q. elim (Memᴰ.cases_cons m) [
    | inl e ↦ h (ap (mark_of (row_at rows)) (sym e) ∙ u) (ap (λ (z : ℕ). (row_at rows z).key) (sym e) ∙ q)
    | inr n ↦ none_here y n u q
  ])

  looked : (xs : List ℕ) → Looked xs (element_among rows k xs)
  unfolding element_among
  looked [] = nowhere (λ x m u q. Memᴰ.not-nil m)
  looked (x ∷ xs) = go (cases_Bool (mark_of (row_at rows) x)) (ℕ_discrete (row_at rows x).key k) (looked xs)
    where
      go : (mark_of (row_at rows) x ≡ true) ⊎ (mark_of (row_at rows) x ≡ false) → Dec ((row_at rows x).key ≡ k)
          → Looked xs (element_among rows k xs)
          → Looked (x ∷ xs) (element_among rows k (x ∷ xs))
      go (inl m) d rest = rw m (further rest (λ u q. clash m u))
      go (inr u) (yes q) rest = rw (u, eq-eqb (row_at rows x).key k q) (found x (Memᴰ.head refl) u q refl)
      go (inr u) (no q) rest = rw (u, ne_eqb (row_at rows x).key k q) (further rest (λ v e. q e))

pub chain_map_is_map : {top : ℕ} (rows : List Row) → length rows ≤ 128 → Structure top (row_at rows) → IsMapOf (row_at rows) (chain_map rows)
unfolding chain_map
chain_map_is_map rows small sound = record { entry = λ k. go k (looked rows k (walk 128 rows 0)) }
  where
    go : (k : ℕ) {o : Option ℕ} → Looked rows k (walk 128 rows 0) o → Entry (row_at rows) k o
    go k {o = some e} (found x m u q f) = shown_has rows small sound k e (record { row = x; met = m; unmarked = u; key = q; element = f })
    go k {o = none} (nowhere none_here) = record {
      none = λ x l s q.
          let has : Has (row_at rows) k (row_at rows x).element = record { row = x; regular = l; save = s; key = q; element = refl } in
          let h = has_shown rows small sound k (row_at rows x).element has in
          none_here h.row h.met h.unmarked h.key;
    }
