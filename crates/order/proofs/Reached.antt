-- Every state that is reached from the empty catalogue is sound, and its flags have owners, whatever the calls and their numbers: the
-- owner of a flag, the holder of a row, and the key of a delete's target.
use Rattle.std.specs.Prelude.{ℕ, ◌≤◌, ◌<◌, true, ◌≡◌, refl, ◌≢◌, ◌↔◌, List, length}
use Rattle.std.proofs.Common.{ap, sym, ◌∙◌, subst, arith}
use Rattle.std.proofs.Math.Decide.{dec_lt}
use Rattle.std.proofs.Math.ListN.{get_or-eq_default}
use Rattle.order.proofs.Table.{right_of, flag_of, standing_of, table_of}
use Rattle.order.proofs.Structure.{Helpable, flagged_for}
use Rattle.order.proofs.StructureFacts.{above_not_head, flagged_right_above, help_unique}
use Rattle.order.proofs.Facts.{SaveOf}
use Rattle.order.proofs.Lawful.{no_row_removed, removed_row}
use Rattle.order.proofs.Memory.{operation_of}
use Rattle.order.proofs.LineKnows.{HoldingFor, Targets, named_is_held_lem, target_known}
use Rattle.order.proofs.Sound.{Sound, empty_sound, all_fresh}
use Rattle.order.proofs.SoundKept.{top_over, keys_fit, top_positive}
use Rattle.order.proofs.Owners.{Owned, removed_by, helped_from, removed_helpable, empty_owned}
use Rattle.order.proofs.Time.{Ready, state_end, sound_at, owned_at}
use Rattle.order.proofs.Stack.{stack_in}
use Rattle.kept.specs.Standing.{held_inside}
use Rattle.kept.specs.Ways.{line_of}
use Rattle.model.specs.State.{worker_at, idle_worker, idle, empty_catalogue}
use Rattle.model.specs.WellFormed.{held_row, no_row_held}
use Rattle.model.specs.Run.{run}
use Rattle.model.specs.declared.Answer.TheVariants.{NoAnswer}
use Rattle.model.specs.declared.Standing.TheVariants.{Held}
use Rattle.model.specs.declared.Worker.{Worker}
use Rattle.model.specs.declared.Catalogue.{Catalogue}
use Rattle.model.specs.declared.Call.{Call}

pub record Reached (top : ℕ) (c : Catalogue) : Type 0 where
  pub sound : Sound top c
  pub owned : Owned c

pub empty_ready : (calls : List Call) → Ready (top_over calls) empty_catalogue calls
empty_ready calls = record {
  sound = empty_sound (top_over calls) (top_positive calls);
  owned = empty_owned;
  at_rest = λ w. ap (λ (k : Worker). idle k.line) (all_fresh w);
  fits = keys_fit (top_over calls) calls (omega arith);
}

pub reached : (calls : List Call) → Reached (top_over calls) (run empty_catalogue calls)
reached calls = subst (Reached (top_over calls)) (state_end empty_catalogue calls)
    (record { sound = sound_at (empty_ready calls) (length calls); owned = owned_at (empty_ready calls) (length calls) })

-- ---- The owner of a flag ----

-- a worker that removes a row is one of the eight
pub removes_inside : (workers : List Worker) (w : ℕ) → removed_row (worker_at workers w).line ≢ no_row_removed → w < length workers
removes_inside workers w some = elim (dec_lt w (length workers)) [
  | yes h ↦ h
  | no h ↦
      let past : length workers ≤ w = omega arith in
      absurd (some (ap (λ (k : Worker). removed_row k.line) (get_or-eq_default workers (idle_worker NoAnswer) past)))
]

-- the one unfinished delete whose flag is set at p: its target is the row on the right of p, its outermost help starts at p
pub record FlagOwner (c : Catalogue) (p : ℕ) : Type 0 where
  pub worker : ℕ
  pub one_of_eight : worker < 8
  pub removes : removed_by c worker ≡ right_of (table_of c) p
  pub outermost : helped_from (line_of c worker) (stack_in c worker) ≡ p
  pub only : (v : ℕ) → removed_by c v ≡ right_of (table_of c) p → v ≡ worker

pub flag_owner : {top : ℕ} {c : Catalogue} → Reached top c → (p : ℕ) → flag_of (table_of c) p ≡ true → FlagOwner c p
flag_owner {top} {c} r p flagged = record {
  worker = u;
  one_of_eight = omega (arith, removes_inside c.workers u some, r.sound.sizes.workers);
  removes = (r.owned.owner p flagged).removes;
  outermost = help_unique r.sound.structure _ p (right_of (table_of c) p) help (flagged_for flagged refl);
  only = λ v removes. r.owned.only v u (right_of (table_of c) p) not_head removes (r.owned.owner p flagged).removes;
}
  where
    u : ℕ
    u = (r.owned.owner p flagged).worker

    not_head : right_of (table_of c) p ≢ no_row_removed
    not_head = above_not_head top (table_of c) p _ (flagged_right_above r.sound.structure p flagged)

    some : removed_by c u ≢ no_row_removed
    some e = not_head (sym (r.owned.owner p flagged).removes ∙ e)

    help : Helpable (table_of c) (helped_from (line_of c u) (stack_in c u)) (right_of (table_of c) p)
    help = rw (r.owned.owner p flagged).removes at
        (removed_helpable top u (table_of c) (line_of c u) (stack_in c u) (r.sound.known u) some)

pub reached_flag_owner : (calls : List Call) (p : ℕ) → flag_of (table_of (run empty_catalogue calls)) p ≡ true
    → FlagOwner (run empty_catalogue calls) p
reached_flag_owner calls p flagged = flag_owner (reached calls) p flagged

-- ---- The rows that a worker names ----

-- worker w is in an unfinished insert past line 4 and names row x
pub record Names (c : Catalogue) (w x : ℕ) : Type 0 where
  pub is_row : x < 128
  pub names : held_row (line_of c w) ≡ x

module _ {top : ℕ} {c : Catalogue} (sound : Sound top c) where
  -- the row is held, for an insert of its key and element
  pub named_for_insert : (w x : ℕ) → Names c w x → HoldingFor w (table_of c) x (operation_of (line_of c w))
  named_for_insert w x n =
      let some : held_row (line_of c w) ≢ no_row_held = λ e. omega (arith, n.is_row, n.names, e) in
      rw n.names at (named_is_held_lem top w (table_of c) (line_of c w) (stack_in c w) (sound.known w) some)

  pub held_exactly : (w x : ℕ) → (standing_of (table_of c) x ≡ Held w) ↔ Names c w x
  held_exactly w x = (only_if, λ n. (named_for_insert w x n).holding.held)
    where
      only_if : standing_of (table_of c) x ≡ Held w → Names c w x
      only_if held = record { is_row = omega (arith, held_inside c.rows x w held, sound.sizes.rows); names = sound.named w x held }

  -- no other worker names it
  pub one_holder : (v w x : ℕ) → Names c v x → Names c w x → v ≡ w
  one_holder v w x mine theirs =
      let held = (held_exactly v x).1 mine in
      let held_too = (held_exactly w x).1 theirs in
      cc

  pub target_has_key : (w target key : ℕ) → Targets (line_of c w) target key → SaveOf (table_of c) target key
  target_has_key w target key targets = target_known top w (table_of c) (stack_in c w) targets (sound.known w)

pub reached_held_exactly : (calls : List Call) (w x : ℕ)
    → (standing_of (table_of (run empty_catalogue calls)) x ≡ Held w) ↔ Names (run empty_catalogue calls) w x
reached_held_exactly calls w x = held_exactly (reached calls).sound w x

-- in every reached state TryFlag's target has the key of the request
pub reached_target_has_key : (calls : List Call) (w target key : ℕ) → Targets (line_of (run empty_catalogue calls) w) target key
    → SaveOf (table_of (run empty_catalogue calls)) target key
reached_target_has_key calls w target key targets = target_has_key (reached calls).sound w target key targets
