-- How the moves change the map of a table: a link adds its row's key and element, a mark removes its row's key, and every other move
-- leaves the map as it is.
use Rattle.std.specs.Prelude.{ℕ, suc, ◌<◌, ◌≡◌, refl, ◌≢◌}
use Rattle.std.proofs.Common.{ap, sym, ◌∙◌, subst, arith}
use Rattle.order.proofs.Table.{Table, IsLinked, Regular}
use Rattle.order.proofs.Structure.{Structure}
use Rattle.order.proofs.Moves.{SameMark, SameStanding, LinkMove, MarkMove, UnlinkMove, FlagMove, BacklinkMove, PrivateMove, links, marks, unlinks, flags, backlinks, private}
use Rattle.order.proofs.StructureFacts.{above_not_head}
use Rattle.order.proofs.Unchanged.{same_regular_after, same_regular_before}
use Rattle.order.proofs.LinkKeeps.{fresh}
use Rattle.order.proofs.MarkKeeps.{del_regular, del_not_tail, prev_below, regular_before}
use Rattle.order.proofs.MovesKeep.{Grown, grow}
use Rattle.order.proofs.TableMap.{Has, Lacks, rank_of_save, one_row}
use Rattle.order.proofs.PrivateKeeps.{regular_after as private_regular_after, regular_before as private_regular_before}
use Rattle.kept.specs.Conditions.{clash}
use Rattle.kept.specs.Standing.{held_not_linked}

-- the two tables have the same under key k
pub record SameAt (R R' : Table) (k : ℕ) : Type 0 where
  pub has_after : (e : ℕ) → Has R k e → Has R' k e
  pub has_before : (e : ℕ) → Has R' k e → Has R k e
  pub lacks_after : Lacks R k → Lacks R' k
  pub lacks_before : Lacks R' k → Lacks R k

-- where a row of that key is regular after exactly if it was before
same_at : (R R' : Table) (k : ℕ) → ((x : ℕ) → IsLinked R x → Grown (R x) (R' x))
    → ((z : ℕ) → Regular R z → (R z).key ≡ k → Regular R' z) → ((z : ℕ) → Regular R' z → (R' z).key ≡ k → Regular R z) → SameAt R R' k
same_at R R' k grown after before = record {
  has_after = λ e h.
      let g = grown h.row h.regular.linked in
      let l = after h.row h.regular h.key in
      record { row = h.row; regular = l; save = h.save; key = g.key ∙ h.key; element = g.element ∙ h.element };
  has_before = λ e h.
      let l = before h.row h.regular h.key in
      let g = grown h.row l.linked in
      record { row = h.row; regular = l; save = h.save; key = sym g.key ∙ h.key; element = sym g.element ∙ h.element };
  lacks_after = λ h. record {
    none = λ z l s q.
        let b = before z l q in
        h.none z b s (sym (grown z b.linked).key ∙ q);
  };
  lacks_before = λ h. record { none = λ z l s q. h.none z (after z l q) s ((grown z l.linked).key ∙ q) };
}

-- exactly (k, e) is in the map after, and was not before
pub record Adds (R R' : Table) (k e : ℕ) : Type 0 where
  pub lacked : Lacks R k
  pub has : Has R' k e
  pub others : (j : ℕ) → j ≢ k → SameAt R R' j

-- exactly (k, e) was in the map before, and is not after
pub record Removes (R R' : Table) (k e : ℕ) : Type 0 where
  pub had : Has R k e
  pub lacks : Lacks R' k
  pub others : (j : ℕ) → j ≢ k → SameAt R R' j

module _ {top w : ℕ} {R R' : Table} {prev new next : ℕ} (sound : Structure top R) (move : LinkMove top w R R' prev new next) where
  new_save : 1 < new
  new_save =
      let h : new ≢ 0 = λ e. held_not_linked move.new_held (cc sound.head.linked) in
      let k : new ≢ 1 = λ e. held_not_linked move.new_held (cc sound.tail.linked) in
      omega arith

  pub link_adds : Adds R R' (R new).key (R new).element
  link_adds = record {
    lacked = record { none = λ z l s e. fresh sound move z l (rank_of_save top R z s ∙ ap suc e ∙ sym (rank_of_save top R new new_save)) };
    has = record {
      row = new;
      regular = record { linked = move.new_linked; unmarked = move.mark= new ∙ move.new_unmarked };
      save = new_save;
      key = move.key= new;
      element = move.element= new;
    };
    others = λ j h. same_at R R' j (grow {w = w} sound (links move))
        (λ z l e. record {
          linked = move.standing_other z (λ q. held_not_linked move.new_held (cc l.linked)) ∙ l.linked;
          unmarked = move.mark= z ∙ l.unmarked;
        })
        (λ z l e.
        let other : z ≢ new = λ q. h (cc (move.key= z)) in
        record { linked = sym (move.standing_other z other) ∙ l.linked; unmarked = sym (move.mark= z) ∙ l.unmarked });
  }

module _ {top : ℕ} {R R' : Table} {prev del : ℕ} (sound : Structure top R) (move : MarkMove R R' prev del) where
  del_save : 1 < del
  del_save =
      let h = above_not_head top R prev del (prev_below sound move) in
      omega (arith, del_not_tail sound move)

  pub mark_removes : Removes R R' (R del).key (R del).element
  mark_removes = record {
    had = record { row = del; regular = del_regular sound move; save = del_save; key = refl; element = refl };
    lacks = record {
      none = λ z l s e.
          let same = one_row sound z del (regular_before sound move z l) (del_regular sound move) s del_save (sym (move.key= z) ∙ e) in
          clash move.mark_del (cc l.unmarked);
    };
    others = λ j h. same_at R R' j (grow {w = 0} sound (marks move))
        (λ z l e. record {
          linked = move.standing= z ∙ l.linked;
          unmarked = move.mark_other z (λ q. h (cc)) ∙ l.unmarked;
        })
        (λ z l e. regular_before sound move z l);
  }

module _ {top : ℕ} {R R' : Table} (sound : Structure top R) (k : ℕ) where
  -- standings and marks unchanged
  same_rows : ((x : ℕ) → IsLinked R x → Grown (R x) (R' x)) → SameStanding R R' → SameMark R R' → SameAt R R' k
  same_rows grown standing= mark= =
      same_at R R' k grown (λ z l e. same_regular_after R R' standing= mark= z l) (λ z l e. same_regular_before R R' standing= mark= z l)

  pub unlink_same : {prev del next : ℕ} → UnlinkMove R R' prev del next → SameAt R R' k
  unlink_same move = same_rows (grow {w = 0} sound (unlinks move)) move.standing= move.mark=

  pub flag_same : {prev target : ℕ} → FlagMove R R' prev target → SameAt R R' k
  flag_same move = same_rows (grow {w = 0} sound (flags move)) move.standing= move.mark=

  pub backlink_same : {prev del : ℕ} → BacklinkMove R R' prev del → SameAt R R' k
  backlink_same move = same_rows (grow {w = 0} sound (backlinks move)) move.standing= move.mark=

  pub private_same : {w new : ℕ} → PrivateMove w R R' new → SameAt R R' k
  private_same {w = w} move = same_at R R' k (grow {w = w} sound (private move))
      (λ z l e. private_regular_after sound move z l) (λ z l e. private_regular_before sound move z l)

pub nothing_same : {R R' : Table} (k : ℕ) → R ≡ R' → SameAt R R' k
nothing_same {R} k e = subst (λ (S : Table). SameAt R S k) e
    (record { has_after = λ e h. h; has_before = λ e h. h; lacks_after = λ h. h; lacks_before = λ h. h })
