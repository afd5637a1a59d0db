-- What a move keeps of a table because it leaves the fields concerned as they are: R before it, R' after it.
use Rattle.std.specs.Prelude.{ℕ, ◌≤◌, ◌<◌, ◌≡◌, ◌≢◌, true, false}
use Rattle.std.proofs.Common.{ap, ◌∙◌, arith}
use Rattle.order.proofs.Table.{Table, right_of, back_of, rank, rank_of, IsLinked, Regular, mark_of, flag_of}
use Rattle.order.proofs.Structure.{Structure}
use Rattle.order.proofs.Moves.{SameKey, SameRight, SameMark, SameBack, SameStanding}

pub same_rank : (top : ℕ) (R R' : Table) → SameKey R R' → (x : ℕ) → rank_of top R' x ≡ rank_of top R x
same_rank top R R' key= x = ap (rank top x) (key= x)

-- standings and marks unchanged
module _ (R R' : Table) (standing= : SameStanding R R') (mark= : SameMark R R') where
  pub same_regular_after : (x : ℕ) → Regular R x → Regular R' x
  same_regular_after x l = record { linked = standing= x ∙ l.linked; unmarked = mark= x ∙ l.unmarked }

  pub same_regular_before : (x : ℕ) → Regular R' x → Regular R x
  same_regular_before x l = record { linked = cc (standing= x, l.linked); unmarked = cc (mark= x, l.unmarked) }

-- keys and standings unchanged
module _ {top : ℕ} {R : Table} (R' : Table) (sound : Structure top R) (key= : SameKey R R') (standing= : SameStanding R R') where
  rank= : (x : ℕ) → rank_of top R' x ≡ rank_of top R x
  rank= = same_rank top R R' key=

  pub same_below_tail : (x : ℕ) → IsLinked R' x → rank_of top R' x ≤ rank_of top R' 1
  same_below_tail x l = omega (arith, rank= x, rank= 1, sound.below_tail x (cc (standing= x)))

  -- and backlinks
  module _ (back= : SameBack R R') where
    pub same_back_linked : (x : ℕ) → IsLinked R' x → IsLinked R' (back_of R' x)
    same_back_linked x l = rw (back= x) (standing= _ ∙ sound.back_linked x (cc (standing= x)))

    pub same_back_below : (x : ℕ) → IsLinked R' x → x ≢ 0 → rank_of top R' (back_of R' x) < rank_of top R' x
    same_back_below x l h = rw (back= x) (omega (arith, rank= x, rank= (back_of R x), sound.back_below x (cc (standing= x)) h))

  -- and right neighbours
  module _ (right= : SameRight R R') where
    pub same_right_linked : (x : ℕ) → IsLinked R' x → x ≢ 1 → IsLinked R' (right_of R' x)
    same_right_linked x l h = rw (right= x) (standing= _ ∙ sound.right_linked x (cc (standing= x)) h)

    pub same_right_above : (x : ℕ) → IsLinked R' x → x ≢ 1 → rank_of top R' x < rank_of top R' (right_of R' x)
    same_right_above x l h = rw (right= x) (omega (arith, rank= x, rank= (right_of R x), sound.right_above x (cc (standing= x)) h))

-- keys unchanged, and no row is regular that was not
module _ {top : ℕ} {R : Table} (R' : Table) (sound : Structure top R) (key= : SameKey R R')
    (regular_before : (x : ℕ) → Regular R' x → Regular R x) where
  rank=' : (x : ℕ) → rank_of top R' x ≡ rank_of top R x
  rank=' = same_rank top R R' key=

  pub same_same : (x y : ℕ) → Regular R' x → Regular R' y → rank_of top R' x ≡ rank_of top R' y → x ≡ y
  same_same x y l k e = sound.same x y (regular_before x l) (regular_before y k) (cc (rank=' x, rank=' y))

  pub same_gap : SameRight R R' → (x z : ℕ) → Regular R' x → Regular R' z → rank_of top R' x < rank_of top R' z
      → rank_of top R' (right_of R' x) ≤ rank_of top R' z
  same_gap right= x z l k b = rw (right= x) (omega (
    arith,
    rank=' z,
    rank=' (right_of R x),
    sound.gap x z (regular_before x l) (regular_before z k) (omega (arith, rank=' x, rank=' z)),
  ))

-- right neighbours unchanged
module _ (R R' : Table) (right= : SameRight R R') where
  pub same_past_right : (x : ℕ) → right_of R' (right_of R' x) ≡ right_of R (right_of R x)
  same_past_right x = cc (right= x, right= (right_of R x))

  pub same_right_marked : SameMark R R' → (x : ℕ) → mark_of R' (right_of R' x) ≡ true → mark_of R (right_of R x) ≡ true
  same_right_marked mark= x k = cc (right= x, mark= (right_of R x))

-- keys, standings, marks and right neighbours unchanged, and each flag for a marked row is an old one
module _ {top : ℕ} {R : Table} (R' : Table) (sound : Structure top R) (key= : SameKey R R') (standing= : SameStanding R R')
    (mark= : SameMark R R') (right= : SameRight R R')
    (flag_before : (x : ℕ) → flag_of R' x ≡ true → mark_of R' (right_of R' x) ≡ true → flag_of R x ≡ true) where
  rank='' : (x : ℕ) → rank_of top R' x ≡ rank_of top R x
  rank='' = same_rank top R R' key=

  pub same_gap_past_marked : (x z : ℕ) → flag_of R' x ≡ true → mark_of R' (right_of R' x) ≡ true → Regular R' z
      → rank_of top R' x < rank_of top R' z → rank_of top R' (right_of R' (right_of R' x)) ≤ rank_of top R' z
  same_gap_past_marked x z h k l b =
      let marked = same_right_marked R R' right= mark= x k in
      let regular = same_regular_before R R' standing= mark= z l in
      let gap = sound.gap_past_marked x z (flag_before x h k) marked regular (omega (arith, rank='' x, rank='' z)) in
      rw (same_past_right R R' right= x) (omega (arith, rank='' z, rank='' (right_of R (right_of R x)), gap))

  pub same_past_marked_unmarked : (x : ℕ) → flag_of R' x ≡ true → mark_of R' (right_of R' x) ≡ true
      → mark_of R' (right_of R' (right_of R' x)) ≡ false
  same_past_marked_unmarked x h k =
      let unmarked = sound.past_marked_unmarked x (flag_before x h k) (same_right_marked R R' right= mark= x k) in
      rw (same_past_right R R' right= x) (mark= _ ∙ unmarked)
