-- The map of a table: it has element e under key k where a regular save has them, and lacks k where no regular save has it. It is a
-- map, for two regular saves of one key are one row; and it is what the model's walk from the head shows, its marked rows left out.
use Rattle.std.specs.Prelude.{ℕ, suc, ◌≤◌, ◌<◌, true, false, ◌≡◌, ◌≢◌, List, length}
use Rattle.std.proofs.Common.{ap, sym, ◌∙◌, arith}
use Rattle.model.specs.declared.Row.{Row}
use Rattle.model.specs.State.{row_at}
use Rattle.model.specs.Count.{walk}
use Rattle.order.proofs.Table.{Table, right_of, mark_of, flag_of, rank_of, Regular}
use Rattle.order.proofs.Structure.{Structure}
use Rattle.order.proofs.StructureFacts.{save_rank, flagged_right_linked, marked_not_tail}
use Rattle.order.proofs.Distinct.{Among}
use Rattle.order.proofs.Chain.{regular_on_chain}
use Rattle.order.proofs.Walk.{WalkMeetsChain, walk_meets_chain}
use Rattle.order.proofs.EmptyTable.{empty_table, is_head, is_tail, empty_ends}

-- the table has element e under key k
pub record Has (R : Table) (k e : ℕ) : Type 0 where
  pub row : ℕ
  pub regular : Regular R row
  pub save : 1 < row
  pub key : (R row).key ≡ k
  pub element : (R row).element ≡ e

-- the table has nothing under key k
pub record Lacks (R : Table) (k : ℕ) : Type 0 where
  pub none : (row : ℕ) → Regular R row → 1 < row → (R row).key ≢ k

-- the rank of a save is its key and one
pub rank_of_save : (top : ℕ) (R : Table) (x : ℕ) → 1 < x → rank_of top R x ≡ suc (R x).key
rank_of_save top R x save = save_rank top x (R x).key (omega arith) (omega arith)

module _ {top : ℕ} {R : Table} (sound : Structure top R) where
  -- two regular saves of one key are one row
  pub one_row : (x y : ℕ) → Regular R x → Regular R y → 1 < x → 1 < y → (R x).key ≡ (R y).key → x ≡ y
  one_row x y l k s t e = sound.same x y l k (rank_of_save top R x s ∙ ap suc e ∙ sym (rank_of_save top R y t))

  pub has_one : (k e e' : ℕ) → Has R k e → Has R k e' → e ≡ e'
  has_one k e e' h g =
      let same = one_row h.row g.row h.regular g.regular h.save g.save (h.key ∙ sym g.key) in
      cc (h.element, g.element)

  pub has_not_lacks : (k e : ℕ) → Has R k e → Lacks R k → ⊥
  has_not_lacks k e h a = a.none h.row h.regular h.save h.key

  -- a key between a regular row and its right neighbour is lacking
  pub lacks_between : (x k : ℕ) → Regular R x → rank_of top R x < suc k → suc k < rank_of top R (right_of R x) → Lacks R k
  lacks_between x k l below above = record {
    none = λ z m s e.
        let r = rank_of_save top R z s in
        omega (arith, sound.gap x z l m (omega arith));
  }

  -- and so is the key of a marked right neighbour
  pub lacks_marked : (x k : ℕ) → flag_of R x ≡ true → mark_of R (right_of R x) ≡ true → rank_of top R x < suc k
      → rank_of top R (right_of R x) ≡ suc k → Lacks R k
  lacks_marked x k f m below at = record {
    none = λ z l s e.
        let r = rank_of_save top R z s in
        omega (
          arith,
          sound.gap_past_marked x z f m l (omega arith),
          sound.right_above _ (flagged_right_linked sound x f) (marked_not_tail sound _ m),
        );
  }

-- the walk from the head meets an unmarked row with key k and element e
pub record Shown (rows : List Row) (k e : ℕ) : Type 0 where
  pub row : ℕ
  pub met : Among row (walk 128 rows 0)
  pub unmarked : mark_of (row_at rows) row ≡ false
  pub key : (row_at rows row).key ≡ k
  pub element : (row_at rows row).element ≡ e

module _ {top : ℕ} (rows : List Row) (small : length rows ≤ 128) (sound : Structure top (row_at rows)) where
  along : WalkMeetsChain top rows
  along = walk_meets_chain rows small sound

  -- the unmarked rows of the walk are the regular saves
  pub met_regular : (x : ℕ) → Among x (walk 128 rows 0) → mark_of (row_at rows) x ≡ false → Regular (row_at rows) x
  met_regular x m u = record { linked = along.met_linked x m; unmarked = u }

  pub regular_met : (x : ℕ) → Regular (row_at rows) x → 1 < x → Among x (walk 128 rows 0)
  regular_met x l s = along.chain_met x (regular_on_chain sound x l) s

  pub shown_has : (k e : ℕ) → Shown rows k e → Has (row_at rows) k e
  shown_has k e h = record {
    row = h.row;
    regular = met_regular h.row h.met h.unmarked;
    save = along.met_save h.row h.met;
    key = h.key;
    element = h.element;
  }

  pub has_shown : (k e : ℕ) → Has (row_at rows) k e → Shown rows k e
  has_shown k e h = record {
    row = h.row;
    met = regular_met h.row h.regular h.save;
    unmarked = h.regular.unmarked;
    key = h.key;
    element = h.element;
  }

-- the empty catalogue has nothing
pub empty_lacks : (k : ℕ) → Lacks empty_table k
empty_lacks k = record { none = λ x l s e. elim (empty_ends x l.linked) [ is_head q ↦ omega arith | is_tail q ↦ omega arith ] }
