-- Every move keeps the structure, and every move keeps of a linked row that it is linked, its key and its element, and, once it is
-- marked, its mark, its right neighbour and its backlink.
use Rattle.std.specs.Prelude.{ℕ, true, ◌≡◌, refl}
use Rattle.std.proofs.Common.{ap, ◌∙◌, subst}
use Rattle.std.proofs.Math.Decide.{ℕ_discrete}
use Rattle.model.specs.declared.Row.{Row}
use Rattle.model.specs.declared.Standing.TheVariants.{Linked}
use Rattle.order.proofs.Table.{Table, mark_of, rank, rank_of, IsLinked}
use Rattle.order.proofs.Structure.{Structure}
use Rattle.order.proofs.Moves.{Move, nothing, links, marks, unlinks, flags, backlinks, private}
use Rattle.order.proofs.StructureFacts.{help_back}
use Rattle.order.proofs.LinkKeeps.{link_keeps_structure}
use Rattle.order.proofs.MarkKeeps.{mark_keeps_structure}
use Rattle.order.proofs.UnlinkKeeps.{unlink_keeps_structure}
use Rattle.order.proofs.FlagKeeps.{flag_keeps_structure}
use Rattle.order.proofs.BacklinkKeeps.{backlink_keeps_structure}
use Rattle.order.proofs.PrivateKeeps.{private_keeps_structure, linked_unchanged}
use Rattle.kept.specs.Conditions.{clash}
use Rattle.kept.specs.Standing.{held_not_linked}

pub move_keeps_structure : {top w : ℕ} {R R' : Table} → Structure top R → Move top w R R' → Structure top R'
move_keeps_structure {top = top} sound (nothing e) = rw e at sound
move_keeps_structure sound (links move) = link_keeps_structure sound move
move_keeps_structure sound (marks move) = mark_keeps_structure sound move
move_keeps_structure sound (unlinks move) = unlink_keeps_structure sound move
move_keeps_structure sound (flags move) = flag_keeps_structure sound move
move_keeps_structure sound (backlinks move) = backlink_keeps_structure sound move
move_keeps_structure sound (private move) = private_keeps_structure sound move

-- a linked row, and what has become of it later
pub record Grown (r r' : Row) : Type 0 where
  pub linked : r'.standing ≡ Linked
  pub key : r'.key ≡ r.key
  pub element : r'.element ≡ r.element
  pub mark : r.succ.mark ≡ true → r'.succ.mark ≡ true
  pub right : r.succ.mark ≡ true → r'.succ.right ≡ r.succ.right
  pub back : r.succ.mark ≡ true → r'.backlink ≡ r.backlink

pub grown_refl : {r : Row} → r.standing ≡ Linked → Grown r r
grown_refl l = record { linked = l; key = refl; element = refl; mark = λ h. h; right = λ h. refl; back = λ h. refl }

pub grown_trans : {r s t : Row} → Grown r s → Grown s t → Grown r t
grown_trans g h = record {
  linked = h.linked;
  key = cc;
  element = cc;
  mark = λ q. h.mark (g.mark q);
  right = λ q. h.right (g.mark q) ∙ g.right q;
  back = λ q. h.back (g.mark q) ∙ g.back q;
}

pub grow : {top w : ℕ} {R R' : Table} → Structure top R → Move top w R R' → (x : ℕ) → IsLinked R x → Grown (R x) (R' x)
grow {R = R} sound (nothing e) x l = subst (λ (S : Table). Grown (R x) (S x)) e (grown_refl l)
grow sound (links move) x l = record {
  linked = move.standing_other x (λ e. held_not_linked move.new_held (cc)) ∙ l;
  key = move.key= x;
  element = move.element= x;
  mark = λ h. move.mark= x ∙ h;
  right = λ h. move.right_other x (λ e. clash h (cc move.prev_regular.unmarked)) (λ e. clash h (cc move.new_unmarked));
  back = λ h. move.back= x;
}
grow sound (marks move) x l = record {
  linked = move.standing= x ∙ l;
  key = move.key= x;
  element = move.element= x;
  mark = λ h. move.mark_other x (λ e. clash h (cc move.del_unmarked)) ∙ h;
  right = λ h. move.right= x;
  back = λ h. move.back= x;
}
grow sound (unlinks {prev = prev} move) x l = record {
  linked = move.standing= x ∙ l;
  key = move.key= x;
  element = move.element= x;
  mark = λ h. move.mark= x ∙ h;
  right = λ h. move.right_other x (λ e. clash h (cc (sound.flag_regular prev move.prev_flagged).unmarked));
  back = λ h. move.back= x;
}
grow sound (flags move) x l = record {
  linked = move.standing= x ∙ l;
  key = move.key= x;
  element = move.element= x;
  mark = λ h. move.mark= x ∙ h;
  right = λ h. move.right= x;
  back = λ h. move.back= x;
}
grow {R = R} sound (backlinks {prev = prev} {del = del} move) x l = record {
  linked = move.standing= x ∙ l;
  key = move.key= x;
  element = move.element= x;
  mark = λ h. move.mark= x ∙ h;
  right = λ h. move.right= x;
  -- the backlink of a marked row is written again, with what it holds
  back = λ h. elim (ℕ_discrete x del) [
    | yes e ↦ let q : mark_of R del ≡ true = cc in cc (move.back_del, help_back sound prev del move.help q)
    | no e ↦ move.back_other x e
  ];
}
grow sound (private move) x l = rw (linked_unchanged sound move x l) (grown_refl l)

-- the rank of a linked row stays
pub grow_rank : {top w : ℕ} {R R' : Table} → Structure top R → Move top w R R' → (x : ℕ) → IsLinked R x → rank_of top R' x ≡ rank_of top R x
grow_rank {top = top} sound move x l = ap (rank top x) (grow sound move x l).key
