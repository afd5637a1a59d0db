-- A worker's record replaced, and rows written, as a sound effect says: a well-formed state stays well formed, and its saves stay.
use Rattle.std.specs.Prelude.{ℕ, ◌<◌, ◌≡◌, refl, ◌≢◌, List, set}
use Rattle.std.proofs.Common.{sym, ◌∙◌, ap, arith}
use Rattle.model.specs.State.{row_at, worker_at, idle_worker}
use Rattle.model.specs.Step.{written}
use Rattle.model.specs.WellFormed.{held_row, no_row_held}
use Rattle.model.specs.declared.Row.{Row}
use Rattle.model.specs.declared.Worker.{Worker}
use Rattle.model.specs.declared.Catalogue.{Catalogue}
use Rattle.model.specs.declared.Answer.TheVariants.{NoAnswer}
use Rattle.model.specs.declared.Standing.TheVariants.{Held, Linked}
use Rattle.model.specs.declared.Effect.{Effect}
use Rattle.kept.specs.Ways.{worker_in, line_of}
use Rattle.kept.specs.Sized.{Sized}
use Rattle.kept.specs.WellFormedFacts.{RowWell, HelpsWell, WorkerWell, WellFormed}
use Rattle.kept.specs.Sound.{SameSave, Standings, kept, taken, given_up, Sound}
use Rattle.kept.specs.Stores.{after_store}
use Rattle.kept.specs.Standing.{held_not_linked, free_not_held, free_not_linked, one_holder}

module _ (c : Catalogue) (sized : Sized c) (well : WellFormed c) (w : ℕ) (inside : w < 8) (e : Effect)
    (sound : Sound c.rows w (held_row (line_of c w)) (worker_in c w).count e) where
  abbrev named_now : ℕ
  named_now = held_row (line_of c w)

  abbrev rows_then : List Row
  rows_then = written c.rows e.write

  abbrev Change : ℕ → Type 0
  Change i = Standings w named_now (held_row e.line) i (row_at c.rows i) (row_at rows_then i)

  -- the row that worker w names is held by it
  mine : (i : ℕ) → i ≢ no_row_held → named_now ≡ i → (row_at c.rows i).standing ≡ Held w
  mine i in_range names = rw names at ((well.workers w inside).named (λ q. in_range (sym names ∙ q)))

  -- a linked row stays linked, with its key and its element
  pub linked_kept : (i : ℕ) → i ≢ no_row_held → (row_at c.rows i).standing ≡ Linked → SameSave (row_at c.rows i) (row_at rows_then i)
  linked_kept i in_range linked = go (sound.steps i in_range).standings
    where
      go : Change i → SameSave (row_at c.rows i) (row_at rows_then i)
      go (kept same there back) = same
      go (taken free held names) = absurd (free_not_linked free linked)
      go (given_up names after gone) = absurd (held_not_linked (mine i in_range names) linked)

  -- a row that another worker holds is still held by it
  others_keep : (v i : ℕ) → v ≢ w → i ≢ no_row_held → (row_at c.rows i).standing ≡ Held v → (row_at rows_then i).standing ≡ Held v
  others_keep v i other in_range held = go (sound.steps i in_range).standings
    where
      go : Change i → (row_at rows_then i).standing ≡ Held v
      go (kept same there back) = same.standing ∙ held
      go (taken free mine_now names) = absurd (free_not_held free held)
      go (given_up names after gone) = absurd (other (one_holder held (mine i in_range names)))

  -- the row that w's next line names is held by w
  mine_then : (i : ℕ) → i ≢ no_row_held → held_row e.line ≡ i → (row_at rows_then i).standing ≡ Held w
  mine_then i in_range named = go (sound.steps i in_range).standings
    where
      go : Change i → (row_at rows_then i).standing ≡ Held w
      go (kept same there back) = same.standing ∙ mine i in_range (back named)
      go (taken free mine_now names) = mine_now
      go (given_up names after gone) = absurd (after named)

  module _ (k : Worker) (next : k.line ≡ e.line) (helps : HelpsWell k) where
    abbrev workers_then : List Worker
    workers_then = set c.workers w k

    -- who names row i, once w's line is the next one
    names_then : (i v : ℕ) → (v ≡ w → held_row e.line ≡ i) → (v ≢ w → held_row (worker_at c.workers v).line ≡ i)
        → held_row (worker_at workers_then v).line ≡ i
    names_then i v here there =
        after_store c.workers w k (idle_worker NoAnswer) (omega (arith, sized.workers)) (λ j. held_row j.line ≡ i) v
        (λ q. ap held_row next ∙ here q)
        there

    holder_then : (i : ℕ) → i < 128 → (v : ℕ) → (row_at rows_then i).standing ≡ Held v
        → (v < 8) × (held_row (worker_at workers_then v).line ≡ i)
    holder_then i l v held = go (sound.steps i (omega arith)).standings
      where
        go : Change i → (v < 8) × (held_row (worker_at workers_then v).line ≡ i)
        go (kept same there back) =
            let before = (well.rows i l).holder v (sym same.standing ∙ held) in
            (before.0, names_then i v (λ q. there (rw q at before.1)) (λ _. before.1))
        go (taken free mine_now names) =
            let same : v ≡ w = one_holder held mine_now in
            (rw same inside, names_then i v (λ _. names) (λ other. absurd (other same)))
        go (given_up names after gone) = absurd (gone v held)

    row_then : (i : ℕ) → i < 128 → RowWell workers_then i (row_at rows_then i)
    row_then i l = record {
      numbers = (sound.steps i (omega arith)).numbers;
      ends = λ end. let linked = (well.rows i l).ends end in (linked_kept i (omega arith) linked).standing ∙ linked;
      holder = holder_then i l;
    }

    worker_then : (v : ℕ) → v < 8 → WorkerWell rows_then v (worker_at workers_then v)
    worker_then v l =
        after_store c.workers w k (idle_worker NoAnswer) (omega (arith, sized.workers)) (WorkerWell rows_then v) v
        (λ q. rw q (record {
          numbers = rw next sound.numbers;
          helps = helps;
          named = rw next (λ n. mine_then (held_row e.line) n refl);
        }))
        (λ other. let old = well.workers v l in record {
          numbers = old.numbers;
          helps = old.helps;
          named = λ n. others_keep v _ other n (old.named n);
        })

    pub replaced_well_formed : WellFormed (record { rows = rows_then; workers = workers_then })
    replaced_well_formed = record { rows = row_then; workers = worker_then }
