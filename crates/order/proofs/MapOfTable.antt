-- When a plain map is the map of a table, and what a move of the table does to it.
use Rattle.std.specs.Prelude.{ℕ, ◌≡◌, refl, ◌≢◌}
use Rattle.std.proofs.Math.Option.{Option, none, some}
use Rattle.std.proofs.Math.Decide.{ℕ_discrete}
use Rattle.std.proofs.Common.{eq-eqb, ne_eqb}
use Rattle.order.specs.PlainMap.{PlainMap, empty_map, setting}
use Rattle.order.proofs.Table.{Table}
use Rattle.order.proofs.Structure.{Structure}
use Rattle.order.proofs.Moves.{Move, nothing, links, marks, unlinks, flags, backlinks, private}
use Rattle.order.proofs.EmptyTable.{empty_table}
use Rattle.order.proofs.TableMap.{Has, Lacks, has_one, has_not_lacks, empty_lacks}
use Rattle.order.proofs.MapMoves.{SameAt, Adds, Removes, link_adds, mark_removes, unlink_same, flag_same, backlink_same, private_same, nothing_same}

pub setting_same : (M : PlainMap) (k : ℕ) (entry : Option ℕ) → setting M k entry k ≡ entry
unfolding setting
setting_same M k entry = rw (eq-eqb k k refl)

pub setting_other : (M : PlainMap) (k j : ℕ) (entry : Option ℕ) → j ≢ k → setting M k entry j ≡ M j
unfolding setting
setting_other M k j entry h = rw (ne_eqb j k h)

-- the table has this entry under key k
abbrev pub Entry : Table → ℕ → Option ℕ → Type 0
Entry R k none = Lacks R k
Entry R k (some e) = Has R k e

pub record IsMapOf (R : Table) (M : PlainMap) : Type 0 where
  pub entry : (k : ℕ) → Entry R k (M k)

pub empty_map_lem : IsMapOf empty_table empty_map
unfolding empty_map
empty_map_lem = record { entry = empty_lacks }

pub map_has : {top : ℕ} {R : Table} {M : PlainMap} → Structure top R → IsMapOf R M → (k e : ℕ) → Has R k e → M k ≡ some e
map_has {R = R} {M = M} sound is k e h = go (M k) (is.entry k) refl
  where
    go : (o : Option ℕ) → Entry R k o → M k ≡ o → M k ≡ some e
    go none a q = absurd (has_not_lacks sound k e h a)
    go (some e') a q = cc (has_one sound k e' e a h)

pub map_lacks : {top : ℕ} {R : Table} {M : PlainMap} → Structure top R → IsMapOf R M → (k : ℕ) → Lacks R k → M k ≡ none
map_lacks {R = R} {M = M} sound is k h = go (M k) (is.entry k) refl
  where
    go : (o : Option ℕ) → Entry R k o → M k ≡ o → M k ≡ none
    go none a q = q
    go (some e) a q = absurd (has_not_lacks sound k e a h)

same_entry : {R R' : Table} {k : ℕ} → SameAt R R' k → (o : Option ℕ) → Entry R k o → Entry R' k o
same_entry same none h = same.lacks_after h
same_entry same (some e) h = same.has_after e h

same_map : {R R' : Table} {M : PlainMap} → ((k : ℕ) → SameAt R R' k) → IsMapOf R M → IsMapOf R' M
same_map {M = M} same is = record { entry = λ k. same_entry (same k) (M k) (is.entry k) }

-- one entry is set, and the others stay
set_map : {R R' : Table} {M : PlainMap} {k : ℕ} (entry : Option ℕ) → Entry R' k entry → ((j : ℕ) → j ≢ k → SameAt R R' j)
    → IsMapOf R M → IsMapOf R' (setting M k entry)
set_map {R' = R'} {M = M} {k = k} entry here others is = record { entry = λ j. go j (ℕ_discrete j k) }
  where
    go : (j : ℕ) → Dec (j ≡ k) → Entry R' j (setting M k entry j)
    go j (yes q) = rw q (rw (setting_same M k entry) here)
    go j (no q) = rw (setting_other M k j entry q) (same_entry (others j q) (M j) (is.entry j))

pub adds_map : {R R' : Table} {M : PlainMap} {k e : ℕ} → Adds R R' k e → IsMapOf R M → IsMapOf R' (setting M k (some e))
adds_map adds is = set_map (some _) adds.has adds.others is

pub removes_map : {R R' : Table} {M : PlainMap} {k e : ℕ} → Removes R R' k e → IsMapOf R M → IsMapOf R' (setting M k none)
removes_map removes is = set_map none removes.lacks removes.others is

-- the map after a move
unfoldable pub map_after_move : {top w : ℕ} {R R' : Table} → Move top w R R' → PlainMap → PlainMap
map_after_move (nothing e) M = M
map_after_move {R = R} (links {new = new} move) M = setting M (R new).key (some (R new).element)
map_after_move {R = R} (marks {del = del} move) M = setting M (R del).key none
map_after_move (unlinks move) M = M
map_after_move (flags move) M = M
map_after_move (backlinks move) M = M
map_after_move (private move) M = M

pub map_after_move_lem : {top w : ℕ} {R R' : Table} {M : PlainMap} → Structure top R → (move : Move top w R R') → IsMapOf R M
    → IsMapOf R' (map_after_move move M)
unfolding map_after_move
map_after_move_lem sound (nothing e) is = same_map (λ k. nothing_same k e) is
map_after_move_lem sound (links move) is = adds_map (link_adds sound move) is
map_after_move_lem sound (marks move) is = removes_map (mark_removes sound move) is
map_after_move_lem sound (unlinks move) is = same_map (λ k. unlink_same sound k move) is
map_after_move_lem sound (flags move) is = same_map (λ k. flag_same sound k move) is
map_after_move_lem sound (backlinks move) is = same_map (λ k. backlink_same sound k move) is
map_after_move_lem sound (private move) is = same_map (λ k. private_same sound k move) is
