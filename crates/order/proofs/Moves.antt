-- The moves of the row table: each says what is known when it happens, and how the table after it differs from the one before.
use Rattle.std.specs.Prelude.{ℕ, ◌<◌, true, false, ◌≡◌, ◌≢◌, ◌⊎◌}
use Rattle.order.proofs.Table.{Table, right_of, mark_of, flag_of, back_of, standing_of, rank_of, Regular}
use Rattle.order.proofs.Structure.{Helpable}
use Rattle.model.specs.declared.Standing.TheVariants.{Free, Held, Linked}

abbrev pub SameKey : Table → Table → Type 0
SameKey R R' = (x : ℕ) → (R' x).key ≡ (R x).key

abbrev pub SameElement : Table → Table → Type 0
SameElement R R' = (x : ℕ) → (R' x).element ≡ (R x).element

abbrev pub SameRight : Table → Table → Type 0
SameRight R R' = (x : ℕ) → right_of R' x ≡ right_of R x

abbrev pub SameMark : Table → Table → Type 0
SameMark R R' = (x : ℕ) → mark_of R' x ≡ mark_of R x

abbrev pub SameFlag : Table → Table → Type 0
SameFlag R R' = (x : ℕ) → flag_of R' x ≡ flag_of R x

abbrev pub SameBack : Table → Table → Type 0
SameBack R R' = (x : ℕ) → back_of R' x ≡ back_of R x

abbrev pub SameStanding : Table → Table → Type 0
SameStanding R R' = (x : ℕ) → standing_of R' x ≡ standing_of R x

-- Insert's lines 10 and 11, C&S succeeded: the held row `new` is linked between `prev` and `next`.
pub record LinkMove (top w : ℕ) (R R' : Table) (prev new next : ℕ) : Type 0 where
  pub prev_regular : Regular R prev
  pub prev_not_tail : prev ≢ 1
  pub prev_right : right_of R prev ≡ next
  pub prev_unflagged : flag_of R prev ≡ false
  pub new_held : standing_of R new ≡ Held w
  pub new_unmarked : mark_of R new ≡ false
  pub new_unflagged : flag_of R new ≡ false
  pub new_back : back_of R new ≡ 0
  pub below : rank_of top R prev < rank_of top R new
  pub above : rank_of top R new < rank_of top R next
  pub key= : SameKey R R'
  pub element= : SameElement R R'
  pub mark= : SameMark R R'
  pub flag= : SameFlag R R'
  pub back= : SameBack R R'
  pub new_linked : standing_of R' new ≡ Linked
  pub standing_other : (x : ℕ) → x ≢ new → standing_of R' x ≡ standing_of R x
  pub right_prev : right_of R' prev ≡ new
  pub right_new : right_of R' new ≡ next
  pub right_other : (x : ℕ) → x ≢ prev → x ≢ new → right_of R' x ≡ right_of R x

-- TryMark's line 3, C&S succeeded: `del` is marked, whose predecessor `prev` is flagged for it.
pub record MarkMove (R R' : Table) (prev del : ℕ) : Type 0 where
  pub prev_flagged : flag_of R prev ≡ true
  pub prev_right : right_of R prev ≡ del
  pub del_unflagged : flag_of R del ≡ false
  pub del_unmarked : mark_of R del ≡ false
  pub del_back : back_of R del ≡ prev
  pub key= : SameKey R R'
  pub element= : SameElement R R'
  pub right= : SameRight R R'
  pub flag= : SameFlag R R'
  pub back= : SameBack R R'
  pub standing= : SameStanding R R'
  pub mark_del : mark_of R' del ≡ true
  pub mark_other : (x : ℕ) → x ≢ del → mark_of R' x ≡ mark_of R x

-- HelpMarked's line 2, C&S succeeded: `prev` swings past the marked `del` and is unflagged.
pub record UnlinkMove (R R' : Table) (prev del next : ℕ) : Type 0 where
  pub prev_flagged : flag_of R prev ≡ true
  pub prev_right : right_of R prev ≡ del
  pub del_marked : mark_of R del ≡ true
  pub del_right : right_of R del ≡ next
  pub key= : SameKey R R'
  pub element= : SameElement R R'
  pub mark= : SameMark R R'
  pub back= : SameBack R R'
  pub standing= : SameStanding R R'
  pub flag_prev : flag_of R' prev ≡ false
  pub flag_other : (x : ℕ) → x ≢ prev → flag_of R' x ≡ flag_of R x
  pub right_next : right_of R' prev ≡ next
  pub right_other : (x : ℕ) → x ≢ prev → right_of R' x ≡ right_of R x

-- TryFlag's line 4, C&S succeeded: `prev` is flagged for `target`.
pub record FlagMove (R R' : Table) (prev target : ℕ) : Type 0 where
  pub prev_regular : Regular R prev
  pub prev_not_tail : prev ≢ 1
  pub prev_unflagged : flag_of R prev ≡ false
  pub prev_right : right_of R prev ≡ target
  pub target_not_tail : target ≢ 1
  pub key= : SameKey R R'
  pub element= : SameElement R R'
  pub mark= : SameMark R R'
  pub right= : SameRight R R'
  pub back= : SameBack R R'
  pub standing= : SameStanding R R'
  pub flag_prev : flag_of R' prev ≡ true
  pub flag_other : (x : ℕ) → x ≢ prev → flag_of R' x ≡ flag_of R x

-- HelpFlagged's line 1: the backlink of `del` becomes `prev`.
pub record BacklinkMove (R R' : Table) (prev del : ℕ) : Type 0 where
  pub help : Helpable R prev del
  pub key= : SameKey R R'
  pub element= : SameElement R R'
  pub mark= : SameMark R R'
  pub right= : SameRight R R'
  pub flag= : SameFlag R R'
  pub standing= : SameStanding R R'
  pub back_del : back_of R' del ≡ prev
  pub back_other : (x : ℕ) → x ≢ del → back_of R' x ≡ back_of R x

-- A change of one row that is free or held by w, before and after: taken by Insert's line 4, given back at line 20, or prepared by
-- line 10 with a C&S that failed.
pub record PrivateMove (w : ℕ) (R R' : Table) (new : ℕ) : Type 0 where
  pub before : (standing_of R new ≡ Free) ⊎ (standing_of R new ≡ Held w)
  pub after : (standing_of R' new ≡ Free) ⊎ (standing_of R' new ≡ Held w)
  pub unflagged : flag_of R' new ≡ false
  pub unmarked : mark_of R' new ≡ false
  pub other : (x : ℕ) → x ≢ new → R' x ≡ R x

-- A step of worker w changes the table by one of these, or not at all.
pub data Move (top w : ℕ) (R R' : Table) : Type 0 where
  nothing : R ≡ R' → Move top w R R'
  links : {prev new next : ℕ} → LinkMove top w R R' prev new next → Move top w R R'
  marks : {prev del : ℕ} → MarkMove R R' prev del → Move top w R R'
  unlinks : {prev del next : ℕ} → UnlinkMove R R' prev del next → Move top w R R'
  flags : {prev target : ℕ} → FlagMove R R' prev target → Move top w R R'
  backlinks : {prev del : ℕ} → BacklinkMove R R' prev del → Move top w R R'
  private : {new : ℕ} → PrivateMove w R R' new → Move top w R R'
