-- Hindsight over time: a run as a table for each moment, with a move from each to the next, and what the table at moment u says of the
-- moments from t on. The answers of the read-only requests have their moments from here.
use Rattle.std.specs.Prelude.{ℕ, zero, suc, ◌+◌, ◌-◌, ◌≤◌, ◌<◌, true, false, ◌≡◌, refl, ◌≢◌, ◌⊎◌}
use Rattle.std.proofs.Common.{ap, sym, ◌∙◌, subst, inl, inr, arith, add-zero, add-suc}
use Rattle.std.proofs.Math.Decide.{ℕ_discrete}
use Rattle.order.proofs.Table.{Table, right_of, mark_of, back_of, rank, rank_of, IsLinked, Regular}
use Rattle.order.proofs.Structure.{Structure}
use Rattle.order.proofs.Moves.{Move}
use Rattle.order.proofs.StructureFacts.{marked_not_head, marked_not_tail}
use Rattle.order.proofs.MovesKeep.{Grown, grown_refl, grown_trans, grow}
use Rattle.order.proofs.MarkOf.{mark_of_lem, marked_by}
use Rattle.order.proofs.TableMap.{Has, Lacks, rank_of_save, lacks_between, lacks_marked}
use Rattle.order.proofs.MapMoves.{mark_removes}
use Rattle.kept.specs.Conditions.{clash}
use Rattle.std.proofs.lemmas.Bool.{cases_Bool}

-- the step that marked row x
pub record MarkedWithin (R : ℕ → Table) (t u x : ℕ) : Type 0 where
  pub time : ℕ
  pub after : t ≤ time
  pub before : time < u
  pub regular : Regular (R time) x
  pub marked : mark_of (R (suc time)) x ≡ true
  pub right : right_of (R time) x ≡ right_of (R u) x
  pub right_unmarked : mark_of (R t) (right_of (R u) x) ≡ false
  pub back_unmarked : mark_of (R t) (back_of (R u) x) ≡ false

-- at a moment from t to u key k was absent
pub record LacksWithin (R : ℕ → Table) (t u k : ℕ) : Type 0 where
  pub time : ℕ
  pub after : t ≤ time
  pub before : time ≤ u
  pub lacks : Lacks (R time) k

-- at a moment from t to u key k had element e
pub record HasWithin (R : ℕ → Table) (t u k e : ℕ) : Type 0 where
  pub time : ℕ
  pub after : t ≤ time
  pub before : time ≤ u
  pub has : Has (R time) k e

-- at a moment from t to u row x was regular and row n its right neighbour
pub record RegularWithin (R : ℕ → Table) (t u x n : ℕ) : Type 0 where
  pub time : ℕ
  pub after : t ≤ time
  pub before : time ≤ u
  pub regular : Regular (R time) x
  pub right : right_of (R time) x ≡ n

module _ {top : ℕ} (R : ℕ → Table) (who : ℕ → ℕ) (sound : (t : ℕ) → Structure top (R t))
    (move : (t : ℕ) → Move top (who t) (R t) (R (suc t))) where
  grown_after : (t n x : ℕ) → IsLinked (R t) x → Grown (R t x) (R (t + n) x)
  grown_after t zero x l = rw add-zero (grown_refl l)
  grown_after t (suc n) x l = rw add-suc
      (let g = grown_after t n x l in grown_trans g (grow (sound (t + n)) (move (t + n)) x g.linked))

  -- what has become of a linked row
  pub grown_later : (t u x : ℕ) → t ≤ u → IsLinked (R t) x → Grown (R t x) (R u x)
  grown_later t u x h l =
      let e : t + (u - t) ≡ u = omega arith in
      subst (λ (s : ℕ). Grown (R t x) (R s x)) e (grown_after t (u - t) x l)

  pub rank_later : (t u x : ℕ) → t ≤ u → IsLinked (R t) x → rank_of top (R u) x ≡ rank_of top (R t) x
  rank_later t u x h l = ap (rank top x) (grown_later t u x h l).key

  -- no mark is taken back
  pub unmarked_earlier : (t u x : ℕ) → t ≤ u → mark_of (R u) x ≡ false → mark_of (R t) x ≡ false
  unmarked_earlier t u x h k = go (cases_Bool (mark_of (R t) x))
    where
      go : (mark_of (R t) x ≡ true) ⊎ (mark_of (R t) x ≡ false) → mark_of (R t) x ≡ false
      go (inl q) = absurd (clash ((grown_later t u x h ((sound t).mark_linked x q)).mark q) k)
      go (inr q) = q

  marked_after : (t n x : ℕ) → mark_of (R t) x ≡ false → mark_of (R (t + n)) x ≡ true → MarkedWithin R t (t + n) x
  marked_after t zero x h k = absurd (clash (rw add-zero at k) h)
  marked_after t (suc n) x h k =
      subst (λ (u : ℕ). MarkedWithin R t u x) (sym (add-suc t n)) (go (cases_Bool (mark_of (R (t + n)) x)) (λ q. marked_after t n x h q))
    where
      k' : mark_of (R (suc (t + n))) x ≡ true
      k' = rw add-suc at k

      go : (mark_of (R (t + n)) x ≡ true) ⊎ (mark_of (R (t + n)) x ≡ false) → (mark_of (R (t + n)) x ≡ true → MarkedWithin R t (t + n) x)
          → MarkedWithin R t (suc (t + n)) x
      go (inl q) earlier =
          let m = earlier q in
          let g = grow (sound (t + n)) (move (t + n)) x ((sound (t + n)).mark_linked x q) in
          record {
            time = m.time;
            after = m.after;
            before = omega (arith, m.before);
            regular = m.regular;
            marked = m.marked;
            right = m.right ∙ sym (g.right q);
            right_unmarked = rw (g.right q) m.right_unmarked;
            back_unmarked = rw (g.back q) m.back_unmarked;
          }
      go (inr q) earlier =
          let m = marked_by (sound (t + n)) (mark_of_lem (move (t + n)) q k').move in
          record {
            time = t + n;
            after = omega arith;
            before = omega arith;
            regular = m.regular;
            marked = k';
            right = m.right;
            right_unmarked = unmarked_earlier t (t + n) _ (omega arith) m.right_unmarked;
            back_unmarked = unmarked_earlier t (t + n) _ (omega arith) m.back_unmarked;
          }

  pub marked_within : (t u x : ℕ) → t ≤ u → mark_of (R t) x ≡ false → mark_of (R u) x ≡ true → MarkedWithin R t u x
  marked_within t u x h k q =
      let e : t + (u - t) ≡ u = omega arith in
      subst (λ (s : ℕ). MarkedWithin R t s x) e (marked_after t (u - t) x k (subst (λ (s : ℕ). mark_of (R s) x ≡ true) (sym e) q))

  -- A row of key k was marked since t: k is absent right after that.
  pub lacks_since_marked : (t u x k : ℕ) → t ≤ u → mark_of (R t) x ≡ false → mark_of (R u) x ≡ true → (R u x).key ≡ k → LacksWithin R t u k
  lacks_since_marked t u x k h unmarked marked key =
      let m = marked_within t u x h unmarked marked in
      let j = m.time in
      let g = grown_later j u x (omega (arith, m.before)) m.regular.linked in
      let e : (R j x).key ≡ k = sym g.key ∙ key in
      let gone = mark_removes (sound j) (mark_of_lem (move j) m.regular.unmarked m.marked).move in
      record { time = suc j; after = omega (arith, m.after); before = m.before; lacks = subst (Lacks (R (suc j))) e gone.lacks }

  -- A linked row that was not marked at t was regular since, with the right neighbour that it has now.
  pub regular_within : (t u x : ℕ) → t ≤ u → mark_of (R t) x ≡ false → IsLinked (R u) x → RegularWithin R t u x (right_of (R u) x)
  regular_within t u x h f l = go (cases_Bool (mark_of (R u) x))
    where
      go : (mark_of (R u) x ≡ true) ⊎ (mark_of (R u) x ≡ false) → RegularWithin R t u x (right_of (R u) x)
      go (inl q) =
          let m = marked_within t u x h f q in
          record { time = m.time; after = m.after; before = omega (arith, m.before); regular = m.regular; right = m.right }
      go (inr q) = record { time = u; after = h; before = omega arith; regular = record { linked = l; unmarked = q }; right = refl }

  -- A save x was regular: its key had its element.
  pub has_within : (t u x n k : ℕ) → RegularWithin R t u x n → 1 < x → (R u x).key ≡ k → HasWithin R t u k (R u x).element
  has_within t u x n k was save key =
      let j = was.time in
      let g = grown_later j u x was.before was.regular.linked in
      record {
        time = j;
        after = was.after;
        before = was.before;
        has = record { row = x; regular = was.regular; save = save; key = sym g.key ∙ key; element = sym g.element };
      }

  -- x was regular below key k, and its right neighbour above: k was absent.
  pub lacks_within : (t u x n k : ℕ) → RegularWithin R t u x n → x ≢ 1 → rank_of top (R u) x < suc k → suc k < rank_of top (R u) n
      → LacksWithin R t u k
  lacks_within t u x n k was not_tail below above =
      let j = was.time in
      let ex = rank_later j u x was.before was.regular.linked in
      let er = rank_later j u (right_of (R j) x) was.before ((sound j).right_linked x was.regular.linked not_tail) in
      let en = ap (rank_of top (R u)) was.right in
      record {
        time = j;
        after = was.after;
        before = was.before;
        lacks = lacks_between (sound j) x k was.regular (omega (arith, ex, below)) (omega (arith, er, en, above));
      }

  -- x was regular below key k, and its right neighbour n a save of key k: n was unmarked at t, or k was absent.
  pub unmarked_or_lacks : (t u x n k : ℕ) → RegularWithin R t u x n → x ≢ 1 → rank_of top (R u) x < suc k → 1 < n → (R u n).key ≡ k
      → (mark_of (R t) n ≡ false) ⊎ LacksWithin R t u k
  unmarked_or_lacks t u x n k was not_tail below save key = go (cases_Bool (mark_of (R j) n))
    where
      j : ℕ
      j = was.time

      linked : IsLinked (R j) n
      linked = rw was.right at ((sound j).right_linked x was.regular.linked not_tail)

      go : (mark_of (R j) n ≡ true) ⊎ (mark_of (R j) n ≡ false) → (mark_of (R t) n ≡ false) ⊎ LacksWithin R t u k
      go (inr q) = inl (unmarked_earlier t j n was.after q)
      go (inl q) =
          let m : mark_of (R j) (right_of (R j) x) ≡ true = rw was.right q in
          let f = (sound j).marked_is_flagged x was.regular not_tail m in
          let en = ap (rank_of top (R j)) was.right in
          let at = rank_of_save top (R u) n save in
          inr (record {
            time = j;
            after = was.after;
            before = was.before;
            lacks = lacks_marked (sound j) x k f m
                (omega (arith, rank_later j u x was.before was.regular.linked, below))
                (omega (arith, en, rank_later j u n was.before linked, at, key));
          })

  -- x was regular below key k, and its right neighbour n, not below k, is another row than the save y of key k: k was absent. For y was
  -- marked since t; or it is not, and then n is no regular row of key k.
  pub lacks_past_other : (t u x n y k : ℕ) → t ≤ u → RegularWithin R t u x n → x ≢ 1 → rank_of top (R u) x < suc k
      → suc k ≤ rank_of top (R u) n → n ≢ y → IsLinked (R u) y → 1 < y → (R u y).key ≡ k → mark_of (R t) y ≡ false → LacksWithin R t u k
  lacks_past_other t u x n y k h was not_tail below above other linked save key unmarked =
      go (ℕ_discrete (rank_of top (R u) n) (suc k)) (cases_Bool (mark_of (R u) y)) (cases_Bool (mark_of (R u) n))
    where
      n_linked : IsLinked (R u) n
      n_linked =
          let l = (sound was.time).right_linked x was.regular.linked not_tail in
          rw was.right at (grown_later was.time u _ was.before l).linked

      y_rank : rank_of top (R u) y ≡ suc k
      y_rank = rank_of_save top (R u) y save ∙ ap suc key

      -- n is marked and of key k
      n_marked : rank_of top (R u) n ≡ suc k → mark_of (R u) n ≡ true → LacksWithin R t u k
      n_marked q m =
          let not_head = marked_not_head (sound u) n m in
          let n_save : 1 < n = omega (arith, marked_not_tail (sound u) n m) in
          let n_key : (R u n).key ≡ k = omega (arith, q, rank_of_save top (R u) n n_save) in
          elim (unmarked_or_lacks t u x n k was not_tail below n_save n_key) [
            | inl g ↦ lacks_since_marked t u n k h g m n_key
            | inr g ↦ g
          ]

      go : Dec (rank_of top (R u) n ≡ suc k) → (mark_of (R u) y ≡ true) ⊎ (mark_of (R u) y ≡ false)
          → (mark_of (R u) n ≡ true) ⊎ (mark_of (R u) n ≡ false) → LacksWithin R t u k
      go (no q) b c = lacks_within t u x n k was not_tail below (omega arith)
      go (yes q) (inl b) c = lacks_since_marked t u y k h unmarked b key
      go (yes q) (inr b) (inl c) = n_marked q c
      go (yes q) (inr b) (inr c) =
          let l : Regular (R u) n = record { linked = n_linked; unmarked = c } in
          let m : Regular (R u) y = record { linked = linked; unmarked = b } in
          absurd (other ((sound u).same n y l m (q ∙ sym y_rank)))
