-- The model's walk from the head: in a sound table of 128 rows it comes to the tail within 127 moves, so it is not cut off, and it meets
-- exactly the rows on the chain but the two ends, each once and in rising rank.
use Rattle.std.specs.Prelude.{ℕ, zero, suc, ◌≤◌, ◌<◌, ◌≡◌, refl, ◌≢◌, ◌⊎◌, List, [], ◌∷◌, length}
use Rattle.std.proofs.Common.{ap, ◌∙◌, inl, inr, arith, eq-eqb, ne_eqb}
use mathlib.Core.List.Memᴰ
use Rattle.std.proofs.Math.Decide.{ℕ_discrete}
use Rattle.model.specs.declared.Row.{Row}
use Rattle.model.specs.State.{row_at}
use Rattle.model.specs.Count.{walk}
use Rattle.order.proofs.Table.{Table, right_of, rank_of, IsLinked}
use Rattle.order.proofs.Structure.{Structure}
use Rattle.order.proofs.StructureFacts.{above_not_head}
use Rattle.order.proofs.Distinct.{Among, Distinct, no_number, one_more, distinct_below}
use Rattle.order.proofs.Chain.{OnChain, at_head, by_right}
use Rattle.kept.specs.Standing.{linked_inside}

-- the row that so many moves from row x come to
unfoldable pub moved : Table → ℕ → ℕ → ℕ
moved R zero x = x
moved R (suc n) x = moved R n (right_of R x)

-- the ranks rise along the list, from the rank of row x on
pub data Rising (top : ℕ) (R : Table) : ℕ → List ℕ → Type 0 where
  no_row : {x : ℕ} → Rising top R x []
  rises : {x y : ℕ} {ys : List ℕ} → rank_of top R x < rank_of top R y → Rising top R y ys → Rising top R x (y ∷ ys)

-- a walk from row x with at most so many moves, and the rows that it comes to
data Walked (R : Table) : ℕ → ℕ → List ℕ → Type 0 where
  cut_off : {x : ℕ} → Walked R 0 x []
  comes_to_tail : {n x : ℕ} → right_of R x ≡ 1 → Walked R (suc n) x []
  goes_on : {n x : ℕ} {xs : List ℕ} → right_of R x ≢ 1 → Walked R n (right_of R x) xs → Walked R (suc n) x (right_of R x ∷ xs)

walked : (rows : List Row) (n x : ℕ) → Walked (row_at rows) n x (walk n rows x)
unfolding walk
walked rows zero x = cut_off
walked rows (suc n) x = go (ℕ_discrete right 1) (walked rows n right)
  where
    right : ℕ
    right = right_of (row_at rows) x

    go : Dec (right ≡ 1) → Walked (row_at rows) n right (walk n rows right) → Walked (row_at rows) (suc n) x (walk (suc n) rows x)
    go (yes e) w = rw (eq-eqb right 1 e) (comes_to_tail e)
    go (no e) w = rw (ne_eqb right 1 e) (goes_on e w)

-- a walk that has come to the tail
data Whole (R : Table) : ℕ → List ℕ → Type 0 where
  ended : {x : ℕ} → right_of R x ≡ 1 → Whole R x []
  continued : {x : ℕ} {xs : List ℕ} → right_of R x ≢ 1 → Whole R (right_of R x) xs → Whole R x (right_of R x ∷ xs)

whole_or_cut : {R : Table} {n x : ℕ} {xs : List ℕ} → Walked R n x xs → Whole R x xs ⊎ (length xs ≡ n)
whole_or_cut cut_off = inr refl
whole_or_cut (comes_to_tail e) = inl (ended e)
whole_or_cut (goes_on h w) = elim (whole_or_cut w) [ inl c ↦ inl (continued h c) | inr e ↦ inr (ap suc e) ]

whole_moved : {R : Table} {x : ℕ} {xs : List ℕ} → Whole R x xs → moved R (suc (length xs)) x ≡ 1
unfolding moved
whole_moved (ended e) = e
whole_moved (continued h c) = whole_moved c

-- a whole walk goes on after each of its rows, or has come to the tail
whole_next : {R : Table} {x y : ℕ} {xs : List ℕ} → Whole R x xs → (y ≡ x) ⊎ Among y xs → (right_of R y ≡ 1) ⊎ Among (right_of R y) xs
whole_next {R} {x} {y} (ended e) at = inl (elim at [ inl f ↦ ap (right_of R) f ∙ e | inr m ↦ absurd (Memᴰ.not-nil m) ])
whole_next {R} {x} {y} (continued {xs = xs} h c) at = go at (λ further. whole_next c further)
  where
    later : (right_of R y ≡ 1) ⊎ Among (right_of R y) xs → (right_of R y ≡ 1) ⊎ Among (right_of R y) (right_of R x ∷ xs)
    later (inl e) = inl e
    later (inr m) = inr (Memᴰ.tail m)

    go : (y ≡ x) ⊎ Among y (right_of R x ∷ xs) → ((y ≡ right_of R x) ⊎ Among y xs → (right_of R y ≡ 1) ⊎ Among (right_of R y) xs)
        → (right_of R y ≡ 1) ⊎ Among (right_of R y) (right_of R x ∷ xs)
    go (inl e) further = inr (Memᴰ.head (ap (right_of R) e))
    go (inr m) further = later (further (Memᴰ.cases_cons m))

module _ {top : ℕ} {R : Table} (sound : Structure top R) where
  -- what is known of a row that a walk from row x comes to
  record Met (x y : ℕ) : Type 0 where
    linked : IsLinked R y
    above : rank_of top R x < rank_of top R y
    not_tail : y ≢ 1
    on_chain : OnChain R x → OnChain R y

  met : {n x y : ℕ} {xs : List ℕ} → Walked R n x xs → IsLinked R x → x ≢ 1 → Among y xs → Met x y
  met cut_off l h m = absurd (Memᴰ.not-nil m)
  met (comes_to_tail e) l h m = absurd (Memᴰ.not-nil m)
  met {x = x} {y = y} (goes_on {xs = xs} k w) l h m = go (Memᴰ.cases_cons m) (λ further. met w linked k further)
    where
      linked : IsLinked R (right_of R x)
      linked = sound.right_linked x l h

      up : rank_of top R x < rank_of top R (right_of R x)
      up = sound.right_above x l h

      go : (y ≡ right_of R x) ⊎ Among y xs → (Among y xs → Met (right_of R x) y) → Met x y
      go (inl e) further = rw e (record { linked = linked; above = up; not_tail = k; on_chain = λ c. by_right c h })
      go (inr q) further =
          let f = further q in
          record {
            linked = f.linked;
            above = omega (arith, f.above, up);
            not_tail = f.not_tail;
            on_chain = λ c. f.on_chain (by_right c h);
          }

  walked_distinct : {n x : ℕ} {xs : List ℕ} → Walked R n x xs → IsLinked R x → x ≢ 1 → Distinct xs
  walked_distinct cut_off l h = no_number
  walked_distinct (comes_to_tail e) l h = no_number
  walked_distinct {x = x} (goes_on {xs = xs} k w) l h =
      let r = sound.right_linked x l h in
      let new : Among (right_of R x) xs → ⊥ = λ m. omega (arith, (met w r k m).above) in
      one_more new (walked_distinct w r k)

  walked_rising : {n x : ℕ} {xs : List ℕ} → Walked R n x xs → IsLinked R x → x ≢ 1 → Rising top R x xs
  walked_rising cut_off l h = no_row
  walked_rising (comes_to_tail e) l h = no_row
  walked_rising {x = x} (goes_on k w) l h = rises (sound.right_above x l h) (walked_rising w (sound.right_linked x l h) k)

  -- every row on the chain is an end, or a whole walk from the head meets it
  whole_meets : {x : ℕ} {xs : List ℕ} → Whole R 0 xs → OnChain R x → (x ≡ 1) ⊎ ((x ≡ 0) ⊎ Among x xs)
  whole_meets c at_head = inr (inl refl)
  whole_meets {xs = xs} c (by_right {x = y} on h) = go (whole_meets c on)
    where
      next : (right_of R y ≡ 1) ⊎ Among (right_of R y) xs → (right_of R y ≡ 1) ⊎ ((right_of R y ≡ 0) ⊎ Among (right_of R y) xs)
      next (inl e) = inl e
      next (inr m) = inr (inr m)

      go : (y ≡ 1) ⊎ ((y ≡ 0) ⊎ Among y xs) → (right_of R y ≡ 1) ⊎ ((right_of R y ≡ 0) ⊎ Among (right_of R y) xs)
      go (inl e) = absurd (h e)
      go (inr at) = next (whole_next c at)

-- the model's walk from the head over these rows
pub record WalkMeetsChain (top : ℕ) (rows : List Row) : Type 0 where
  pub few : length (walk 128 rows 0) ≤ 126
  pub ends_at_tail : moved (row_at rows) (suc (length (walk 128 rows 0))) 0 ≡ 1
  pub met_on_chain : (x : ℕ) → Among x (walk 128 rows 0) → OnChain (row_at rows) x
  pub met_linked : (x : ℕ) → Among x (walk 128 rows 0) → IsLinked (row_at rows) x
  pub met_save : (x : ℕ) → Among x (walk 128 rows 0) → 1 < x
  pub chain_met : (x : ℕ) → OnChain (row_at rows) x → 1 < x → Among x (walk 128 rows 0)
  pub distinct : Distinct (walk 128 rows 0)
  pub rising : Rising top (row_at rows) 0 (walk 128 rows 0)

pub walk_meets_chain : {top : ℕ} (rows : List Row) → length rows ≤ 128 → Structure top (row_at rows) → WalkMeetsChain top rows
walk_meets_chain {top} rows small sound = record {
  few = few;
  ends_at_tail = whole_moved whole;
  met_on_chain = λ x m. (of x m).on_chain at_head;
  met_linked = λ x m. (of x m).linked;
  met_save = save;
  chain_met = λ x on h. elim (whole_meets sound whole on) [
    | inl e ↦ absurd (omega arith)
    | inr at ↦ elim at [ inl e ↦ absurd (omega arith) | inr m ↦ m ]
  ];
  distinct = different;
  rising = walked_rising sound way sound.head.linked (omega arith);
}
  where
    R : Table
    R = row_at rows

    xs : List ℕ
    xs = walk 128 rows 0

    way : Walked R 128 0 xs
    way = walked rows 128 0

    of : (x : ℕ) → Among x xs → Met sound 0 x
    of x m = met sound way sound.head.linked (omega arith) m

    save : (x : ℕ) → Among x xs → 1 < x
    save x m =
        let h = above_not_head top R 0 x (of x m).above in
        omega (arith, (of x m).not_tail)

    different : Distinct xs
    different = walked_distinct sound way sound.head.linked (omega arith)

    -- with the two ends, distinct numbers below 128
    with_ends : Distinct (0 ∷ 1 ∷ xs)
    with_ends =
        let no_tail : Among 1 xs → ⊥ = λ m. omega (arith, save 1 m) in
        let no_head : Among 0 (1 ∷ xs) → ⊥ = λ m. elim (Memᴰ.cases_cons m) [
          | inl e ↦ omega arith
          | inr k ↦ omega (arith, save 0 k)
        ] in
        one_more no_head (one_more no_tail different)

    inside : (x : ℕ) → Among x (0 ∷ 1 ∷ xs) → x < 128
    inside x m = elim (Memᴰ.cases_cons m) [
      | inl e ↦ omega arith
      | inr k ↦ elim (Memᴰ.cases_cons k) [
        | inl e ↦ omega arith
        | inr q ↦ omega (arith, linked_inside rows x (of x q).linked)
      ]
    ]

    few : length xs ≤ 126
    few = omega (arith, distinct_below 128 (0 ∷ 1 ∷ xs) with_ends inside)

    whole : Whole R 0 xs
    whole = elim (whole_or_cut way) [ inl c ↦ c | inr e ↦ absurd (omega (arith, few)) ]
