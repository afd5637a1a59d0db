-- What the conditions of the published lines say of the table: a key compared is a rank compared, a C&S that succeeds found the old value.
use Rattle.std.specs.Prelude.{if◌then◌else◌, ℕ, suc, ◌≤◌, ◌<◌, Bool, true, false, not, ◌&&◌, ◌≡◌, refl, ◌≢◌, List, eqb}
use Rattle.std.proofs.Common.{ap, sym, arith}
use borrow.Author.Tests.{ltb-true, ltb-false, leb-true, leb-false, eqb-true, eqb-false, eq-eqb, not-true}
use Rattle.order.proofs.Table.{rank, rank_of}
use Rattle.order.proofs.StructureFacts.{save_rank}
use Rattle.order.proofs.Facts.{reach}
use Rattle.kept.specs.Conditions.{clash}
use Rattle.std.proofs.lemmas.Bool.{and_parts}
use Rattle.model.specs.State.{row_at}
use Rattle.model.proofs.Choices.{if_known}
use Rattle.model.specs.Order.{key_at_most, key_below, has_key}
use Rattle.model.specs.Cas.{same_bit, same_succ, flagged_only}
use Rattle.model.specs.SearchFrom.{strict, reaches}
use Rattle.model.specs.declared.Row.{Row}
use Rattle.model.specs.declared.Succ.{Succ}
use Rattle.model.specs.declared.SearchFrame.{SearchFrame}

-- the test b decides between P and Q
pub record Decides (P Q : Type 0) (b : Bool) : Type 0 where
  pub if_true : b ≡ true → P
  pub if_false : b ≡ false → Q

says_yes : {P Q : Type 0} → P → Decides P Q true
says_yes p = record { if_true = λ _. p; if_false = λ e. absurd (clash refl e) }

says_no : {P Q : Type 0} → Q → Decides P Q false
says_no q = record { if_true = λ e. absurd (clash e refl); if_false = λ _. q }

-- A test by key is a test by rank: the ends are known by their number, and the key fits under the tail's rank.
module _ (top : ℕ) (rows : List Row) (i k : ℕ) where
  abbrev its_rank : ℕ
  its_rank = rank_of top (row_at rows) i

  -- a test that knows the ends by their number, by the rank of the row
  by_rank : (P : Bool → Type 0) {tail head save : Bool} → (its_rank ≡ top → P tail) → (its_rank ≡ 0 → P head)
      → (1 < i → its_rank ≡ suc (row_at rows i).key → P save) → P (if eqb i 1 then tail else if eqb i 0 then head else save)
  unfolding rank
  by_rank P at_tail at_head at_save =
      if_known P (eqb i 1) (λ e. at_tail (ap (λ (x : ℕ). rank top x (row_at rows i).key) (eqb-true i 1 e))) (λ n.
      if_known P (eqb i 0) (λ e. at_head (ap (λ (x : ℕ). rank top x (row_at rows i).key) (eqb-true i 0 e))) (λ m.
      let not_tail : i ≢ 1 = eqb-false i 1 n in
      let not_head : i ≢ 0 = eqb-false i 0 m in
      at_save (omega arith) (save_rank top i (row_at rows i).key not_head not_tail)))

  pub key_at_most_lem : suc k < top → Decides (its_rank ≤ suc k) (suc k < its_rank) (key_at_most rows i k)
  unfolding key_at_most
  key_at_most_lem fits = by_rank (Decides _ _) (λ r. says_no (omega arith)) (λ r. says_yes (omega arith)) (λ no_end r. record {
    if_true = λ t. omega (arith, leb-true (row_at rows i).key k t);
    if_false = λ t. omega (arith, leb-false (row_at rows i).key k t);
  })

  pub key_below_lem : suc k < top → Decides (its_rank ≤ k) (k < its_rank) (key_below rows i k)
  unfolding key_below
  key_below_lem fits = by_rank (Decides _ _) (λ r. says_no (omega arith)) (λ r. says_yes (omega arith)) (λ no_end r. record {
    if_true = λ t. omega (arith, ltb-true (row_at rows i).key k t);
    if_false = λ t. omega (arith, ltb-false (row_at rows i).key k t);
  })

  -- a row that has the key is a save
  pub record HasKey : Type 0 where
    pub no_end : 1 < i
    pub the_key : (row_at rows i).key ≡ k
    pub the_rank : its_rank ≡ suc k

  pub has_key_lem : suc k < top → Decides HasKey (its_rank ≢ suc k) (has_key rows i k)
  unfolding has_key
  has_key_lem fits = by_rank (Decides HasKey _) (λ r. says_no (λ q. omega arith)) (λ r. says_no (λ q. omega arith)) (λ no_end r. record {
    if_true = λ t. record { no_end = no_end; the_key = eqb-true _ _ t; the_rank = omega (arith, eqb-true (row_at rows i).key k t) };
    if_false = λ t q. eqb-false (row_at rows i).key k t (omega arith);
  })

-- the test of SearchFrom's lines 2 and 7
pub reaches_rank : (top : ℕ) (rows : List Row) (f : SearchFrame) (next : ℕ) → suc f.key < top
    → Decides (rank_of top (row_at rows) next ≤ reach f.caller f.key) (reach f.caller f.key < rank_of top (row_at rows) next)
    (reaches rows f next)
unfolding reaches
reaches_rank top rows f next fits = by_form (strict f.caller) refl
  where
    by_form : (b : Bool) → strict f.caller ≡ b
        → Decides (rank_of top (row_at rows) next ≤ reach f.caller f.key) (reach f.caller f.key < rank_of top (row_at rows) next)
        (reaches rows f next)
    by_form true e = rw (e, reaches) (key_below_lem top rows next f.key fits)
    by_form false e = rw (e, reaches) (key_at_most_lem top rows next f.key fits)

-- ---- Successors ----

same_bit_lem : (a b : Bool) → same_bit a b ≡ true → a ≡ b
same_bit_lem true b h = sym h
same_bit_lem false b h = sym (not-true b h)

-- C&S compares all three parts
pub same_succ_lem : (s t : Succ) → same_succ s t ≡ true → s ≡ t
unfolding same_succ
same_succ_lem s t h =
    let a = and_parts (eqb s.right t.right && same_bit s.mark t.mark) (same_bit s.flag t.flag) h in
    let b = and_parts (eqb s.right t.right) (same_bit s.mark t.mark) a.0 in
    let right = eqb-true s.right t.right b.0 in
    let mark = same_bit_lem s.mark t.mark b.1 in
    let flag = same_bit_lem s.flag t.flag a.1 in
    λ i. record { right = right i; mark = mark i; flag = flag i }

same_bit_refl : (a : Bool) → same_bit a a ≡ true
same_bit_refl true = refl
same_bit_refl false = refl

pub same_succ_refl : (s t : Succ) → s ≡ t → same_succ s t ≡ true
unfolding same_succ
same_succ_refl s t e =
    rw (ap (λ (u : Succ). same_succ s u) (sym e)) (rw (eq-eqb s.right s.right refl, same_bit_refl s.mark, same_bit_refl s.flag))

pub flagged_only_lem : (s : Succ) → flagged_only s ≡ true → s.flag ≡ true
unfolding flagged_only
flagged_only_lem s h = (and_parts (not s.mark) s.flag h).1
