-- Eight pending helps are enough: at a push every pending help is a live flag, their rows have rising ranks, and each flag has an owner of
-- its own among the eight workers.
use Rattle.std.specs.Prelude.{ℕ, suc, ◌≤◌, ◌<◌, true, false, ◌≡◌, refl, ◌≢◌, List, [], ◌∷◌, length}
use Rattle.std.proofs.Common.{ap, sym, ◌∙◌, subst, inl, inr, arith}
use mathlib.Core.List.Memᴰ
use Rattle.std.proofs.lemmas.Bool.{lt-leb}
use Rattle.order.proofs.Table.{Table, right_of, mark_of, flag_of, rank_of, table_of}
use Rattle.order.proofs.Structure.{Helpable, flagged_for, already_marked}
use Rattle.order.proofs.StructureFacts.{above_not_head, flagged_right_above}
use Rattle.order.proofs.Facts.{Helping}
use Rattle.order.proofs.Distinct.{Among, Distinct, no_number, one_more, distinct_below}
use Rattle.order.proofs.Stack.{newest_length, stack_in}
use Rattle.order.proofs.Lawful.{Chained, Pushable, no_row_removed}
use Rattle.order.proofs.EveryLine.{effect_lawful}
use Rattle.order.proofs.Owners.{Owner, removed_by}
use Rattle.order.proofs.Reached.{Reached, removes_inside}
use Rattle.kept.specs.Conditions.{clash}
use Rattle.kept.specs.Ways.{line_of, effect_in, worker_in}
use Rattle.model.specs.State.{idle}
use Rattle.model.specs.Step.{ninth_help}
use Rattle.model.specs.declared.Catalogue.{Catalogue}
use Rattle.model.specs.declared.Pending.{Pending}
use Rattle.model.specs.declared.Stack.{Stack}
use Rattle.model.specs.declared.Stack.TheVariants.{Keep, Push, Pop}

-- a help of an unmarked row is a live flag
pub record LiveFlag (R : Table) (prev del : ℕ) : Type 0 where
  pub flagged : flag_of R prev ≡ true
  pub right_is : right_of R prev ≡ del

pub live_flag : {R : Table} {prev del : ℕ} → Helpable R prev del → mark_of R del ≡ false → LiveFlag R prev del
live_flag (flagged_for h e) unmarked = record { flagged = h; right_is = e }
live_flag (already_marked h e) unmarked = absurd (clash h unmarked)

abbrev pub AllLive : Table → List Pending → Type 0
AllLive R [] = Unit {0}
AllLive R (h ∷ hs) = LiveFlag R h.prev h.del × AllLive R hs

keeps : (count : ℕ) → ninth_help count Keep ≡ false
unfolding ninth_help
keeps count = refl

pops : (count : ℕ) → ninth_help count Pop ≡ false
unfolding ninth_help
pops count = refl

pushes : (count : ℕ) (h : Pending) → count ≤ 6 → ninth_help count (Push h) ≡ false
unfolding ninth_help
pushes count h few = lt-leb 8 count (omega arith)

module _ {top : ℕ} {c : Catalogue} (r : Reached top c) where
  -- n workers, each of which removes a row of at most this rank
  record Owners (n bound : ℕ) : Type 0 where
    workers : List ℕ
    many : length workers ≡ n
    removes : (w : ℕ) → Among w workers → removed_by c w ≢ no_row_removed
    low : (w : ℕ) → Among w workers → rank_of top (table_of c) (removed_by c w) ≤ bound
    distinct : Distinct workers

  -- one more flag, for a row above
  one_owner_more : (n bound p : ℕ) → Owners n bound → flag_of (table_of c) p ≡ true
      → bound < rank_of top (table_of c) (right_of (table_of c) p)
      → Owners (suc n) (rank_of top (table_of c) (right_of (table_of c) p))
  one_owner_more n bound p os flagged higher = record {
    workers = o.worker ∷ os.workers;
    many = ap suc os.many;
    removes = λ w m. elim (Memᴰ.cases_cons m) [
      | inl e ↦ λ none. above_not_head top (table_of c) p _ (flagged_right_above r.sound.structure p flagged)
          (sym o.removes ∙ ap (removed_by c) (sym e) ∙ none)
      | inr k ↦ os.removes w k
    ];
    low = λ w m. elim (Memᴰ.cases_cons m) [
      | inl e ↦ omega (arith, ap (rank_of top (table_of c)) (ap (removed_by c) e ∙ o.removes))
      | inr k ↦ omega (arith, os.low w k)
    ];
    distinct = one_more {x = o.worker} {xs = os.workers} new os.distinct;
  }
    where
      o : Owner c (right_of (table_of c) p)
      o = r.owned.owner p flagged

      -- it removes a row above all of theirs
      new : Among o.worker os.workers → ⊥
      new m = omega (arith, os.low o.worker m, ap (rank_of top (table_of c)) o.removes)

  no_owner : Owners 0 0
  no_owner = record {
    workers = [];
    many = refl;
    removes = λ w m. absurd (Memᴰ.not-nil m);
    low = λ w m. absurd (Memᴰ.not-nil m);
    distinct = no_number;
  }

  -- the help under a live flag is a live flag
  live_below : (h : Pending) (p : ℕ) → flag_of (table_of c) p ≡ true → p ≡ h.del → Helping (table_of c) h.prev h.del
      → LiveFlag (table_of c) h.prev p
  live_below h p flagged same helping =
      live_flag (rw same helping.help) (r.sound.structure.flag_regular p flagged).unmarked

  -- the flag at p, and under it the pending helps: each has an owner
  owners : (hs : List Pending) (p : ℕ) → flag_of (table_of c) p ≡ true → Chained (table_of c) hs p
      → Owners (suc (length hs)) (rank_of top (table_of c) (right_of (table_of c) p))
  owners [] p flagged waiting =
      one_owner_more 0 0 p no_owner flagged (omega (arith, flagged_right_above r.sound.structure p flagged))
  owners (h ∷ hs) p flagged (same, helping, rest) = above_it (owners hs h.prev live.flagged rest)
    where
      live : LiveFlag (table_of c) h.prev p
      live = live_below h p flagged same helping

      above_it : Owners (suc (length hs)) (rank_of top (table_of c) (right_of (table_of c) h.prev))
          → Owners (suc (suc (length hs))) (rank_of top (table_of c) (right_of (table_of c) p))
      above_it os = one_owner_more (suc (length hs)) _ p os flagged
          (omega (arith, ap (rank_of top (table_of c)) live.right_is, flagged_right_above r.sound.structure p flagged))

  -- every help that is pending at a push is a live flag
  all_live : (hs : List Pending) (p : ℕ) → flag_of (table_of c) p ≡ true → Chained (table_of c) hs p → AllLive (table_of c) hs
  all_live [] p flagged waiting = tt
  all_live (h ∷ hs) p flagged (same, helping, rest) =
      (record { flagged = live.flagged; right_is = live.right_is ∙ same }, all_live hs h.prev live.flagged rest)
    where
      live : LiveFlag (table_of c) h.prev p
      live = live_below h p flagged same helping

  module _ (w : ℕ) (busy : idle (line_of c w) ≡ false) where
    pushable : Pushable (table_of c) (stack_in c w) (effect_in c w).stack
    pushable =
        let sound = r.sound in
        (effect_lawful top w c.rows (worker_in c w) sound.structure sound.sizes.rows busy (sound.known w)).pushable

    pub pushed_live : (h : Pending) → (effect_in c w).stack ≡ Push h → AllLive (table_of c) (h ∷ stack_in c w)
    pushed_live h push =
        let now : Pushable (table_of c) (stack_in c w) (Push h) =
        subst (Pushable (table_of c) (stack_in c w)) push pushable in
        all_live (h ∷ stack_in c w) h.del now.0 now.1

    -- at most six are pending before a push, and so seven after it
    pub six_pending : (h : Pending) → (effect_in c w).stack ≡ Push h → (worker_in c w).count ≤ 6
    six_pending h push =
        let now : Pushable (table_of c) (stack_in c w) (Push h) =
        subst (Pushable (table_of c) (stack_in c w)) push pushable in
        let os = owners (h ∷ stack_in c w) h.del now.0 now.1 in
        let few = distinct_below 8 os.workers os.distinct
        (λ v m. omega (arith, removes_inside c.workers v (os.removes v m), r.sound.sizes.workers)) in
        omega (arith, few, os.many, newest_length (worker_in c w).helps (worker_in c w).count)

    pub no_ninth : ninth_help (worker_in c w).count (effect_in c w).stack ≡ false
    no_ninth = by_stack (effect_in c w).stack refl
      where
        by_stack : (s : Stack) → (effect_in c w).stack ≡ s → ninth_help (worker_in c w).count (effect_in c w).stack ≡ false
        by_stack Keep e = rw e (keeps (worker_in c w).count)
        by_stack (Push h) e = rw e (pushes (worker_in c w).count h (six_pending h e))
        by_stack Pop e = rw e (pops (worker_in c w).count)
