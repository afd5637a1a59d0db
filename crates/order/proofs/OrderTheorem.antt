-- Demand 3, proved: for any calls from the empty catalogue; and from any state in which no worker is busy, the rows have their structure
-- and no flag is without an owner, with the map of its chain.
use Rattle.std.specs.Prelude.{ℕ, ◌+◌, ◌≤◌, ◌<◌, true, false, ◌≡◌, refl, length}
use Rattle.std.proofs.Common.{sym, ◌∙◌, subst, arith}
use mathlib.Core.List.{List, Memᴰ}
use Rattle.std.proofs.Math.Option.{Option, none, some}
use Rattle.order.proofs.Table.{flag_of, table_of}
use Rattle.order.proofs.Structure.{Structure}
use Rattle.order.proofs.TableMap.{Has, shown_has, has_shown}
use Rattle.order.proofs.Walk.{walk_meets_chain}
use Rattle.order.specs.PlainMap.{PlainMap, empty_map}
use Rattle.order.proofs.MapOfTable.{Entry, IsMapOf, empty_map_lem, map_has}
use Rattle.order.proofs.Sound.{Sound, empty_sound}
use Rattle.order.proofs.SoundKept.{KeysFit}
use Rattle.order.proofs.Owners.{Owned}
use Rattle.order.proofs.Reached.{empty_ready}
use Rattle.order.specs.Demand.{state_at, Placed, Ordered, FullExactly, UnmarkedSave, HoldsTheChain, DemandThree}
use Rattle.order.proofs.Time.{Ready, state_end, sound_at, owned_at, structure_at, RowsAt}
use Rattle.order.proofs.MapAt.{map_at, is_map_at, is_the_map}
use Rattle.order.proofs.Placing.{once_at}
use Rattle.order.proofs.OrderOfRun.{order_from, HasPlace, has_place, stands, in_order_from, order_sorted, order_once, entry_of, moment_of}
use Rattle.order.proofs.Replay.{order_replays}
use Rattle.order.proofs.FullAnswer.{full_exactly}
use Rattle.order.proofs.Lawful.{idle_removes_none}
use Rattle.kept.specs.Conditions.{clash, contradiction}
use Rattle.kept.specs.Ways.{line_of}
use Rattle.model.specs.State.{row_at, idle, empty_catalogue}
use Rattle.model.specs.Run.{run}
use Rattle.model.specs.declared.Row.{Row}
use Rattle.model.specs.declared.Catalogue.{Catalogue}
use Rattle.model.specs.declared.Call.{Call}

-- ---- The map of the chain ----

module _ {top : ℕ} (rows : List Row) (small : length rows ≤ 128) (sound : Structure top (row_at rows)) where
  saved : (k e : ℕ) → Has (row_at rows) k e → UnmarkedSave rows k e
  saved k e h =
      let s = has_shown rows small sound k e h in
      record {
        row = s.row;
        met = s.met;
        save = (walk_meets_chain rows small sound).met_save s.row s.met;
        linked = (walk_meets_chain rows small sound).met_linked s.row s.met;
        unmarked = s.unmarked;
        has_key = s.key;
        has_element = s.element;
      }

  was_saved : (k e : ℕ) → UnmarkedSave rows k e → Has (row_at rows) k e
  was_saved k e u =
      shown_has rows small sound k e
      (record { row = u.row; met = u.met; unmarked = u.unmarked; key = u.has_key; element = u.has_element })

  -- the map of the table holds exactly the unmarked saves on the chain
  pub map_holds_chain : (m : PlainMap) → IsMapOf (row_at rows) m → HoldsTheChain m rows
  map_holds_chain m is key element =
      (λ q. saved key element (go (m key) refl (is.entry key) q), λ u. map_has sound is key element (was_saved key element u))
    where
      go : (o : Option ℕ) → m key ≡ o → Entry (row_at rows) key o → m key ≡ some element → Has (row_at rows) key element
      go none e h q = contradiction (cc)
      go (some x) e h q =
          let same : x ≡ element = cc in
          rw same at h

  -- and a map that does is the map of the table
  pub chain_held_is_map : (m : PlainMap) → HoldsTheChain m rows → IsMapOf (row_at rows) m
  chain_held_is_map m holds = record { entry = λ k. go k (m k) refl }
    where
      go : (k : ℕ) (o : Option ℕ) → m k ≡ o → Entry (row_at rows) k o
      go k (some e) is = was_saved k e ((holds k e).0 is)
      go k none is = record {
        none = λ row regular save key.
            let has : Has (row_at rows) k (row_at rows row).element =
            record { row = row; regular = regular; save = save; key = key; element = refl } in
            let held = (holds k (row_at rows row).element).1 (saved k (row_at rows row).element has) in
            contradiction (cc);
      }

-- ---- Any run that may begin ----

module _ {top : ℕ} {start : Catalogue} {calls : List Call} (ready : Ready top start calls) where
  in_it : (s : ℕ) → s < length calls → HasPlace ready s
      → (p : Placed start calls) × (p.request ≡ s) × Memᴰ p (order_from ready (length calls) 0)
  in_it s inside h = (
    record { request = s; moment = h.moment },
    refl,
    in_order_from ready (length calls) 0 s h.moment (omega arith) (omega (arith, h.inside)) inside h.belongs,
  )

  pub run_ordered : Ordered start calls (map_at ready 0) (map_at ready (length calls))
  run_ordered = record {
    order = order_from ready (length calls) 0;
    finished_in = λ s w code key element f a r x. in_it s r.inside (has_place ready s (λ n. n.not_finished w code key element f a r x));
    removing_in = λ s w m. in_it s m.request.inside (has_place ready s (λ n. n.not_removing w m));
    nothing_else = λ p m. entry_of ready p (stands ready (length calls) 0 p m).belongs;
    each_once = once_at start calls (order_once ready (length calls) 0);
    moments = λ p m. moment_of ready p (stands ready (length calls) 0 p m).belongs;
    in_order = order_sorted ready (length calls) 0;
    replays =
        let e : 0 + length calls ≡ length calls = omega arith in
        rw e at (order_replays ready (length calls) 0);
  }

-- Demand 3 from any state, whose chain the map `before` holds.
pub record DemandFrom (start : Catalogue) (calls : List Call) (before : PlainMap) : Type 0 where
  pub after : PlainMap
  pub ordered : Ordered start calls before after
  pub ends : HoldsTheChain after (run start calls).rows
  pub full : FullExactly start calls

pub demand_from : {top : ℕ} (start : Catalogue) (calls : List Call) (before : PlainMap) → Ready top start calls
    → HoldsTheChain before start.rows
    → DemandFrom start calls before
unfolding state_at run
demand_from start calls before ready holds = record {
  after = map_at ready (length calls);
  ordered = rw first (run_ordered ready);
  ends = subst (λ (c : Catalogue). HoldsTheChain (map_at ready (length calls)) c.rows) (state_end start calls)
      (map_holds_chain (RowsAt ready (length calls)) (omega (arith, (sound_at ready (length calls)).sizes.rows))
      (structure_at ready (length calls)) (map_at ready (length calls)) (is_map_at ready (length calls)));
  full = full_exactly ready;
}
  where
    first : before ≡ map_at ready 0
    first = is_the_map ready 0 before
        (chain_held_is_map start.rows (omega (arith, ready.sound.sizes.rows)) ready.sound.structure before holds)

-- ---- States at rest ----

abbrev pub AllIdle : Catalogue → Type 0
AllIdle c = (w : ℕ) → idle (line_of c w) ≡ true

abbrev pub NoneFlagged : Catalogue → Type 0
NoneFlagged c = (x : ℕ) → flag_of (table_of c) x ≡ false

-- a sound state at rest, in which no flag is set
pub rest_ready : {top : ℕ} {start : Catalogue} {calls : List Call} → Sound top start → AllIdle start → NoneFlagged start → KeysFit top calls
    → Ready top start calls
rest_ready {start = start} sound at_rest unflagged fits = record {
  sound = sound;
  owned = record {
    owner = λ p h. absurd (clash h (unflagged p));
    only = λ u v row some mine theirs.
        absurd (some (sym mine ∙ idle_removes_none (line_of start u) (at_rest u)));
  };
  at_rest = at_rest;
  fits = fits;
}

pub demand_at_rest : {top : ℕ} (start : Catalogue) (calls : List Call) (before : PlainMap) → Sound top start → AllIdle start
    → NoneFlagged start
    → KeysFit top calls → HoldsTheChain before start.rows → DemandFrom start calls before
demand_at_rest start calls before sound at_rest unflagged fits holds =
    demand_from start calls before (rest_ready sound at_rest unflagged fits) holds

-- A run that ends with all workers idle leaves such a state: the next run may begin there.
pub ready_again : {top : ℕ} {start : Catalogue} {calls : List Call} (more : List Call) → Ready top start calls → AllIdle (run start calls)
    → KeysFit top more → Ready top (run start calls) more
ready_again {top} {start} {calls} more ready at_rest fits = record {
  sound = rw (state_end start calls) at (sound_at ready (length calls));
  owned = subst Owned (state_end start calls) (owned_at ready (length calls));
  at_rest = at_rest;
  fits = fits;
}

-- ---- The empty catalogue ----

empty_holds : HoldsTheChain empty_map empty_catalogue.rows
empty_holds = map_holds_chain empty_catalogue.rows (omega arith) (empty_sound 1 (omega arith)).structure empty_map empty_map_lem

-- For any calls from the empty catalogue, with no premise.
pub demand_three : (calls : List Call) → DemandThree calls
demand_three calls =
    let d = demand_from empty_catalogue calls empty_map (empty_ready calls) empty_holds in
    record { after = d.after; ordered = d.ordered; ends = d.ends; full = d.full }
