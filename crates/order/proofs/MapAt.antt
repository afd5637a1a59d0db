-- The map of the rows at each position of a run, and how it changes: a step that links a row adds its key and element, a step that marks a
-- row removes them, and no other step changes it.
use Rattle.std.specs.Prelude.{ℕ, suc, true, false, ◌≡◌, ◌⊎◌, List}
use Rattle.std.proofs.Math.Path.{ap}
use Rattle.std.proofs.Common.{sym, ◌∙◌, subst, inl, inr, arith}
use Rattle.std.proofs.Math.Decide.{ℕ_discrete}
use Rattle.order.proofs.Table.{Table, mark_of, standing_of}
use Rattle.order.proofs.Moves.{Move, nothing, links, marks, unlinks, flags, backlinks, private, LinkMove, MarkMove}
use Rattle.order.proofs.MarkOf.{mark_of_lem}
use Rattle.order.proofs.MapMoves.{link_adds, mark_removes}
use Rattle.order.specs.PlainMap.{PlainMap, insert, delete}
use Rattle.order.proofs.MapOfTable.{IsMapOf, map_has, map_lacks, adds_map, removes_map, map_after_move, map_after_move_lem}
use Rattle.order.proofs.ChainMap.{chain_map, chain_map_is_map}
use Rattle.order.proofs.Asking.{Agrees, added_agrees, removed_agrees, map_unique}
use Rattle.order.proofs.Memory.{LinksRow}
use Rattle.order.specs.Demand.{state_at}
use Rattle.order.proofs.Time.{Ready, sound_at, structure_at, move_at, TableAt}
use Rattle.kept.specs.Standing.{held_not_linked, free_not_linked}
use Rattle.model.specs.declared.Row.{Row}
use Rattle.model.specs.declared.Standing.TheVariants.{Free, Held, Linked}
use Rattle.model.specs.declared.Answer.TheVariants.{Added, Removed}
use Rattle.model.specs.declared.Catalogue.{Catalogue}
use Rattle.model.specs.declared.Call.{Call}

-- Only a link links: a move after which a held row is linked is the link of that row.
pub record LinkOf (top w : ℕ) (R R' : Table) (x : ℕ) : Type 0 where
  pub prev : ℕ
  pub next : ℕ
  pub move : LinkMove top w R R' prev x next

pub link_of : {top w v : ℕ} {R R' : Table} {x : ℕ} → Move top w R R' → standing_of R x ≡ Held v → standing_of R' x ≡ Linked
    → LinkOf top w R R' x
link_of (nothing e) h k = absurd (held_not_linked h (cc))
link_of {top} {w} {R = R} {R' = R'} {x = x} (links {prev = prev} {new = new} {next = next} m) h k = elim (ℕ_discrete x new) [
  | yes e ↦ record { prev = prev; next = next; move = subst (λ (y : ℕ). LinkMove top w R R' prev y next) (sym e) m }
  | no e ↦ absurd (held_not_linked h (sym (m.standing_other x e) ∙ k))
]
link_of {x = x} (marks m) h k = absurd (held_not_linked h (sym (m.standing= x) ∙ k))
link_of {x = x} (unlinks m) h k = absurd (held_not_linked h (sym (m.standing= x) ∙ k))
link_of {x = x} (flags m) h k = absurd (held_not_linked h (sym (m.standing= x) ∙ k))
link_of {x = x} (backlinks m) h k = absurd (held_not_linked h (sym (m.standing= x) ∙ k))
link_of {w = w} {R' = R'} {x = x} (private {new = new} m) h k = elim (ℕ_discrete x new) [
  | yes e ↦ absurd (mine e m.after)
  | no e ↦ absurd (held_not_linked h (ap (λ (r : Row). r.standing) (sym (m.other x e)) ∙ k))
]
  where
    mine : x ≡ new → (standing_of R' new ≡ Free) ⊎ (standing_of R' new ≡ Held w) → ⊥
    mine e (inl free) = free_not_linked free (ap (standing_of R') (sym e) ∙ k)
    mine e (inr held) = held_not_linked held (ap (standing_of R') (sym e) ∙ k)

-- what a move does to the map
pub data Turn (top w : ℕ) (R R' : Table) (M : PlainMap) : PlainMap → Type 0 where
  turns_nothing : Turn top w R R' M M
  turns_link : {prev new next : ℕ} {M' : PlainMap} → LinkMove top w R R' prev new next → Turn top w R R' M M'
  turns_mark : {prev del : ℕ} {M' : PlainMap} → MarkMove R R' prev del → Turn top w R R' M M'

pub turn : {top w : ℕ} {R R' : Table} (m : Move top w R R') (M : PlainMap) → Turn top w R R' M (map_after_move m M)
unfolding map_after_move
turn (nothing e) M = turns_nothing
turn (links m) M = turns_link m
turn (marks m) M = turns_mark m
turn (unlinks m) M = turns_nothing
turn (flags m) M = turns_nothing
turn (backlinks m) M = turns_nothing
turn (private m) M = turns_nothing

module _ {top : ℕ} {start : Catalogue} {calls : List Call} (ready : Ready top start calls) where
  unfoldable pub map_at : ℕ → PlainMap
  map_at i = chain_map (state_at start calls i).rows

  pub is_map_at : (i : ℕ) → IsMapOf (TableAt ready i) (map_at i)
  unfolding map_at
  is_map_at i = chain_map_is_map (state_at start calls i).rows (omega (arith, (sound_at ready i).sizes.rows)) (structure_at ready i)

  pub same_rows_map : (i j : ℕ) → (state_at start calls i).rows ≡ (state_at start calls j).rows → map_at i ≡ map_at j
  unfolding map_at
  same_rows_map i j e = ap chain_map e

  -- any map of the table is the map
  pub is_the_map : (i : ℕ) (M : PlainMap) → IsMapOf (TableAt ready i) M → M ≡ map_at i
  is_the_map i M is = map_unique (structure_at ready i) is (is_map_at i)

  -- the map, or what changes it, at position i
  pub turn_at : (i w : ℕ) → Move top w (TableAt ready i) (TableAt ready (suc i))
      → Turn top w (TableAt ready i) (TableAt ready (suc i)) (map_at i) (map_at (suc i))
  turn_at i w m =
      let is = is_the_map (suc i) (map_after_move m (map_at i)) (map_after_move_lem (structure_at ready i) m (is_map_at i)) in
      rw is at (turn m (map_at i))

  -- the step that links a row of key k and element e
  pub link_agrees : (i w k e : ℕ) → LinksRow w (TableAt ready i) (TableAt ready (suc i)) k e
      → Agrees (map_at i) (insert k e) Added (map_at (suc i))
  link_agrees i w k e l =
      let m = (link_of (move_at ready i) l.held l.linked).move in
      let adds = link_adds (structure_at ready i) m in
      let lacked = map_lacks (structure_at ready i) (is_map_at i) _ adds.lacked in
      let becomes = is_the_map (suc i) _ (adds_map adds (is_map_at i)) in
      added_agrees (map_at i) k e (map_at (suc i)) (ap (map_at i) (sym l.has_key) ∙ lacked)
      (rw (l.has_key, l.has_element) at becomes)

  -- the step that marks row y
  pub mark_agrees : (i y : ℕ) → mark_of (TableAt ready i) y ≡ false → mark_of (TableAt ready (suc i)) y ≡ true
      → Agrees (map_at i) (delete (TableAt ready i y).key) (Removed (TableAt ready i y).element) (map_at (suc i))
  mark_agrees i y unmarked marked =
      let m = (mark_of_lem (move_at ready i) unmarked marked).move in
      let removes = mark_removes (structure_at ready i) m in
      removed_agrees (map_at i) _ _ (map_at (suc i)) (map_has (structure_at ready i) (is_map_at i) _ _ removes.had)
      (is_the_map (suc i) _ (removes_map removes (is_map_at i)))
