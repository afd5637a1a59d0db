-- What a well-formed state is, clause by clause and index by index, in place of the test.
use Rattle.std.specs.Prelude.{ℕ, ◌≤◌, ◌<◌, true, false, ◌&&◌, ◌≡◌, ◌≢◌, List, ltb, eqb}
use Rattle.std.proofs.Math.Path.{refl}
use borrow.Author.Tests.{ltb-true, lt-ltb, leb-true, le-leb, eqb-true, eq-eqb, ne_eqb}
use Rattle.model.specs.State.{row_at, worker_at, idle_worker, free_row}
use Rattle.model.specs.WellFormed.{all_from, is_row, row_numbers, not_both, ends_linked, holder_names, named_is_held, held_row, no_row_held, line_numbers, pending_numbers, few_helps, helps_inside, inside_help_flagged, row_well, worker_well, well_formed}
use Rattle.model.proofs.Choices.{if_known}
use Rattle.model.specs.declared.Row.{Row}
use Rattle.model.specs.declared.Worker.{Worker}
use Rattle.model.specs.declared.Catalogue.{Catalogue}
use Rattle.model.specs.declared.Standing.{Standing}
use Rattle.model.specs.declared.Standing.TheVariants.{Free, Held, Linked}
use Rattle.model.specs.declared.Answer.TheVariants.{NoAnswer}
use Rattle.kept.specs.Sized.{Sized}
use Rattle.kept.specs.Conditions.{clash, every, if_every}
use Rattle.std.proofs.lemmas.Bool.{and_parts, and_from}
use Rattle.kept.specs.Standing.{is_linked_lem, is_held, free_not_held, held_not_linked, one_holder}

-- ---- The clauses ----

pub record RowNumbers (r : Row) : Type 0 where
  pub right : is_row r.succ.right ≡ true
  pub backlink : is_row r.backlink ≡ true
  pub apart : not_both r.succ ≡ true

pub free_row_numbers : RowNumbers free_row
free_row_numbers = record { right = refl; backlink = refl; apart = refl }

pub record RowWell (workers : List Worker) (i : ℕ) (r : Row) : Type 0 where
  pub numbers : RowNumbers r
  pub ends : i < 2 → r.standing ≡ Linked
  pub holder : (v : ℕ) → r.standing ≡ Held v → (v < 8) × (held_row (worker_at workers v).line ≡ i)

pub record HelpsWell (k : Worker) : Type 0 where
  pub slots : all_from pending_numbers 0 k.helps ≡ true
  pub few : k.count ≤ 8
  pub inside : inside_help_flagged k.line ≡ false → k.count ≡ 0

pub record WorkerWell (rows : List Row) (w : ℕ) (k : Worker) : Type 0 where
  pub numbers : line_numbers k.line ≡ true
  pub helps : HelpsWell k
  pub named : held_row k.line ≢ no_row_held → (row_at rows (held_row k.line)).standing ≡ Held w

pub record WellFormed (c : Catalogue) : Type 0 where
  pub rows : (i : ℕ) → i < 128 → RowWell c.workers i (row_at c.rows i)
  pub workers : (w : ℕ) → w < 8 → WorkerWell c.rows w (worker_at c.workers w)

-- ---- A row ----

module _ (workers : List Worker) (i : ℕ) where
  holder_named : (s : Standing) → holder_names workers i s ≡ true → (v : ℕ) → s ≡ Held v
      → (v < 8) × (held_row (worker_at workers v).line ≡ i)
  unfolding holder_names
  holder_named Free h v e = absurd (free_not_held refl e)
  holder_named (Held u) h v e =
      let same : u ≡ v = one_holder {s = Held u} refl e in
      let parts = and_parts (ltb u 8) _ h in
      (rw same at (ltb-true u 8 parts.0), rw same at (eqb-true (held_row (worker_at workers u).line) i parts.1))
  holder_named Linked h v e = absurd (held_not_linked e refl)

  if_holder_named : (s : Standing) → ((v : ℕ) → s ≡ Held v → (v < 8) × (held_row (worker_at workers v).line ≡ i))
      → holder_names workers i s ≡ true
  unfolding holder_names
  if_holder_named Free h = refl
  if_holder_named (Held v) h = and_from (ltb v 8) _ (lt-ltb v 8 (h v refl).0) (eq-eqb _ _ (h v refl).1)
  if_holder_named Linked h = refl

  pub row_facts : (r : Row) → row_well workers i r ≡ true → RowWell workers i r
  unfolding row_well
  row_facts r h =
      let s = r.standing in
      let held = and_parts (row_numbers r && not_both r.succ && ends_linked i s) _ h in
      let ended = and_parts (row_numbers r && not_both r.succ) _ held.0 in
      let parted = and_parts (row_numbers r) _ ended.0 in
      let numbered = and_parts (is_row r.succ.right) _ parted.0 in
      record {
        numbers = record { right = numbered.0; backlink = numbered.1; apart = parted.1 };
        ends = λ l. is_linked_lem s (rw (lt-ltb i 2 l) at ended.1);
        holder = holder_named s held.1;
      }

  row_test : (r : Row) → RowWell workers i r → row_well workers i r ≡ true
  unfolding row_well
  row_test r h =
      let s = r.standing in
      and_from (row_numbers r && not_both r.succ && ends_linked i s) _
      (and_from (row_numbers r && not_both r.succ) _
      (and_from (row_numbers r) _ (and_from (is_row r.succ.right) _ h.numbers.right h.numbers.backlink) h.numbers.apart)
      (if_known (λ b. b ≡ true) (ltb i 2) (λ l. rw (h.ends (ltb-true i 2 l))) (λ l. refl)))
      (if_holder_named s h.holder)

-- ---- A worker ----

module _ (rows : List Row) (w : ℕ) where
  worker_facts : (k : Worker) → worker_well rows w k ≡ true → WorkerWell rows w k
  unfolding worker_well named_is_held
  worker_facts k h =
      let numbers = line_numbers k.line in
      let slots = all_from pending_numbers 0 k.helps in
      let held = and_parts (numbers && slots && few_helps k && helps_inside k) _ h in
      let outside = and_parts (numbers && slots && few_helps k) _ held.0 in
      let counted = and_parts (numbers && slots) _ outside.0 in
      let numbered = and_parts numbers _ counted.0 in
      record {
        numbers = numbered.0;
        helps = record {
          slots = numbered.1;
          few = leb-true _ _ counted.1;
          inside = λ out. eqb-true _ _ (rw out at outside.1);
        };
        named = λ n. is_held w _ (rw (ne_eqb _ _ n) at held.1);
      }

  worker_test : (k : Worker) → WorkerWell rows w k → worker_well rows w k ≡ true
  unfolding worker_well named_is_held
  worker_test k h =
      let numbers = line_numbers k.line in
      let slots = all_from pending_numbers 0 k.helps in
      and_from (numbers && slots && few_helps k && helps_inside k) _
      (and_from (numbers && slots && few_helps k) _
      (and_from (numbers && slots) _ (and_from numbers _ h.numbers h.helps.slots) (le-leb _ _ h.helps.few))
      (if_known (λ b. b ≡ true) (inside_help_flagged k.line) (λ _. refl) (λ out. eq-eqb _ _ (h.helps.inside out))))
      (if_known (λ b. b ≡ true) (eqb (held_row k.line) no_row_held) (λ _. refl)
      (λ n. rw (h.named (λ e. clash (eq-eqb _ _ e) n)) (eq-eqb w w refl)))

-- ---- A state ----

module _ (c : Catalogue) (sized : Sized c) where
  pub well_formed_facts : well_formed c ≡ true → WellFormed c
  unfolding well_formed
  well_formed_facts h =
      let parts = and_parts (all_from (row_well c.workers) 0 c.rows) _ h in
      record {
        rows = λ i l. row_facts c.workers i _ (every _ c.rows free_row parts.0 i (rw sized.rows l));
        workers = λ w l. worker_facts c.rows w _ (every _ c.workers (idle_worker NoAnswer) parts.1 w (rw sized.workers l));
      }

  pub well_formed_test : WellFormed c → well_formed c ≡ true
  unfolding well_formed
  well_formed_test h =
      and_from (all_from (row_well c.workers) 0 c.rows) _
      (if_every _ c.rows free_row (λ i l. row_test c.workers i _ (h.rows i (rw sized.rows at l))))
      (if_every _ c.workers (idle_worker NoAnswer) (λ w l. worker_test c.rows w _ (h.workers w (rw sized.workers at l))))
