-- Demand 3, as a statement without proofs, over the model's own `call` and `run`. A run is any list of calls from a start state, refused
-- ones among them; a position is the number of calls made before.
use Rattle.std.specs.Prelude.{ℕ, suc, ◌≤◌, ◌<◌, true, false, ◌≡◌, ◌≢◌, ◌⊎◌, ◌↔◌, length, take, get_or}
use mathlib.Core.List.{List, [], ◌∷◌, Memᴰ}
use Rattle.std.proofs.Math.Option.{some}
use Rattle.model.specs.State.{row_at, worker_at, idle, succ_of, empty_catalogue}
use Rattle.model.specs.Order.{head}
use Rattle.model.specs.Cas.{succ_at}
use Rattle.model.specs.Count.{walk}
use Rattle.model.specs.WellFormed.{held_row}
use Rattle.model.specs.Run.{call, run}
use Rattle.model.specs.declared.Row.{Row}
use Rattle.model.specs.declared.Catalogue.{Catalogue}
use Rattle.model.specs.declared.Call.{Call}
use Rattle.model.specs.declared.Call.TheVariants.{Submit, Step}
use Rattle.model.specs.declared.Answer.{Answer}
use Rattle.model.specs.declared.Answer.TheVariants.{Full, Removed}
use Rattle.std.specs.Prelude.{Ok}
use Rattle.model.specs.declared.Standing.TheVariants.{Held, Linked}
use Rattle.model.specs.declared.Line.{Line}
use Rattle.model.specs.declared.Line.TheVariants.{Idle, Insert}
use Rattle.model.specs.declared.InsertFrame.{InsertFrame}
use Rattle.model.specs.declared.InsertLine.TheVariants.{Insert4}
use Rattle.order.specs.PlainMap.{PlainMap, empty_map, operation, answer_of, after_asking}

module _ (start : Catalogue) (calls : List Call) where
  -- ---- The run ----

  -- the state before the call at a position
  unfoldable pub state_at : ℕ → Catalogue
  state_at i = run start (take i calls)

  abbrev pub end : ℕ
  end = length calls

  abbrev pub line_at : ℕ → ℕ → Line
  line_at i w = (worker_at (state_at i).workers w).line

  -- the call at position i is x, and it is accepted
  pub record Accepts (i : ℕ) (x : Call) : Type 0 where
    pub inside : i < end
    pub made : get_or calls i x ≡ x
    pub accepted : (call (state_at i) x).verdict ≡ Ok tt

  -- ---- Requests ----

  -- An accepted submit, named by its position.
  abbrev pub Request : ℕ → ℕ → ℕ → ℕ → ℕ → Type 0
  Request s w code key element = Accepts s (Submit w code key element)

  -- worker w has been busy at every position after s, up to position i
  abbrev pub BusySince : ℕ → ℕ → ℕ → Type 0
  BusySince s w i = (j : ℕ) → s < j → j ≤ i → idle (line_at j w) ≡ false

  -- The request that worker w submitted at s is finished by the step at f, with answer a.
  pub record Finished (s w f : ℕ) (a : Answer) : Type 0 where
    pub later : s < f
    pub step : Accepts f (Step w)
    pub busy : BusySince s w f
    pub answered : line_at (suc f) w ≡ Idle a

  abbrev pub Unfinished : ℕ → ℕ → Type 0
  Unfinished s w = BusySince s w end

  -- The request of worker w made at s has set the flag for row t: a step of that worker took a successor from (t,0,0) to (t,0,1).
  pub record SetFlag (s w t : ℕ) : Type 0 where
    pub at : ℕ
    pub prev : ℕ
    pub later : s < at
    pub step : Accepts at (Step w)
    pub before : succ_at (state_at at).rows prev ≡ succ_of t false false
    pub after : succ_at (state_at (suc at)).rows prev ≡ succ_of t false true

  -- An unfinished removal that set the flag for a row now marked.
  pub record Removing (s w : ℕ) : Type 0 where
    pub key : ℕ
    pub element : ℕ
    pub request : Request s w 3 key element
    pub unfinished : Unfinished s w
    pub row : ℕ
    pub flagged : SetFlag s w row
    pub marked : (succ_at (state_at end).rows row).mark ≡ true

  -- ---- The order ----

  -- A request in the order, by the position of its submit, with the position of the step that is its moment.
  pub record Placed : Type 0 where
    pub request : ℕ
    pub moment : ℕ

  -- what the order says of one request
  pub data Entry (p : Placed) : Type 0 where
    -- It is finished, after its moment or at it.
    is_finished : (w code key element f : ℕ) (a : Answer) → Request p.request w code key element → Finished p.request w f a
        → p.moment ≤ f → Entry p
    -- It is an unfinished removal that set the flag for a row now marked.
    is_removing : (w : ℕ) → Removing p.request w → Entry p

  -- The moment is an accepted step of some worker, after the submit.
  pub record Moment (p : Placed) : Type 0 where
    pub worker : ℕ
    pub later : p.request < p.moment
    pub step : Accepts p.moment (Step worker)

  -- The moments never fall along the list.
  pub data InOrder : List Placed → Type 0 where
    no_entry : InOrder []
    one_entry : {p : Placed} → InOrder (p ∷ [])
    next_entry : {p q : Placed} {ps : List Placed} → p.moment ≤ q.moment → InOrder (q ∷ ps) → InOrder (p ∷ q ∷ ps)

  -- A plain map, asked the operation of each request one after another, gives every answer that was given, and goes from one content to
  -- another. The answer Full is not asked for and changes nothing; an unfinished removal is answered Removed by the map.
  pub data Replays : PlainMap → List Placed → PlainMap → Type 0 where
    at_end : {m : PlainMap} → Replays m [] m
    answers : {m n : PlainMap} {p : Placed} {ps : List Placed} (w code key element f : ℕ) (a : Answer)
        → Request p.request w code key element → Finished p.request w f a → a ≢ Full
        → answer_of m (operation code key element) ≡ a
        → Replays (after_asking m (operation code key element)) ps n → Replays m (p ∷ ps) n
    is_full : {m n : PlainMap} {p : Placed} {ps : List Placed} (w code key element f : ℕ)
        → Request p.request w code key element → Finished p.request w f Full
        → Replays m ps n → Replays m (p ∷ ps) n
    removes : {m n : PlainMap} {p : Placed} {ps : List Placed} (w : ℕ) (r : Removing p.request w) (e : ℕ)
        → answer_of m (operation 3 r.key r.element) ≡ Removed e
        → Replays (after_asking m (operation 3 r.key r.element)) ps n → Replays m (p ∷ ps) n

  pub record Ordered (before after : PlainMap) : Type 0 where
    pub order : List Placed
    -- It holds exactly the finished requests and those removals, each once.
    pub finished_in : (s w code key element f : ℕ) (a : Answer) → Request s w code key element → Finished s w f a
        → (p : Placed) × (p.request ≡ s) × Memᴰ p order
    pub removing_in : (s w : ℕ) → Removing s w → (p : Placed) × (p.request ≡ s) × Memᴰ p order
    pub nothing_else : (p : Placed) → Memᴰ p order → Entry p
    pub each_once : (i j : ℕ) (d : Placed) → i < length order → j < length order → (get_or order i d).request ≡ (get_or order j d).request → i ≡ j
    pub moments : (p : Placed) → Memᴰ p order → Moment p
    pub in_order : InOrder order
    pub replays : Replays before order after

  -- ---- Full ----

  -- row r has been linked, in the start state or by a step before position i
  abbrev pub HasBeenLinked : ℕ → ℕ → Type 0
  HasBeenLinked i r = (j : ℕ) × (j ≤ i) × ((row_at (state_at j).rows r).standing ≡ Linked)

  -- row r is held by an unfinished add
  abbrev pub IsHeld : ℕ → ℕ → Type 0
  IsHeld i r = (v : ℕ) × ((row_at (state_at i).rows r).standing ≡ Held v) × (held_row (line_at i v) ≡ r)

  abbrev pub NoRowLeft : ℕ → Type 0
  NoRowLeft i = (r : ℕ) → 2 ≤ r → r < 128 → HasBeenLinked i r ⊎ IsHeld i r

  -- an add looks for a row: its worker w is at Insert's line 4
  abbrev pub LooksForRow : ℕ → ℕ → Type 0
  LooksForRow i w = (next : ℕ) × (f : InsertFrame) × (line_at i w ≡ Insert (Insert4 next) f)

  -- Full is given exactly when an add looks for a row and no row is left.
  abbrev pub FullExactly : Type 0
  FullExactly = (i w : ℕ) → Accepts i (Step w) → (line_at (suc i) w ≡ Idle Full) ↔ (LooksForRow i w × NoRowLeft i)

-- A save on the chain: the count's walk from the head comes to it, it is linked and unmarked.
pub record UnmarkedSave (rows : List Row) (key element : ℕ) : Type 0 where
  pub row : ℕ
  pub met : Memᴰ row (walk 128 rows head)
  pub save : 1 < row
  pub linked : (row_at rows row).standing ≡ Linked
  pub unmarked : (succ_at rows row).mark ≡ false
  pub has_key : (row_at rows row).key ≡ key
  pub has_element : (row_at rows row).element ≡ element

-- A map holds exactly the unmarked saves on the chain: those that the count's walk from the head comes to.
abbrev pub HoldsTheChain : PlainMap → List Row → Type 0
HoldsTheChain m rows = (key element : ℕ) → (m key ≡ some element) ↔ UnmarkedSave rows key element

-- Demand 3, from the empty catalogue: for any calls.
pub record DemandThree (calls : List Call) : Type 0 where
  pub after : PlainMap
  pub ordered : Ordered empty_catalogue calls empty_map after
  pub ends : HoldsTheChain after (run empty_catalogue calls).rows
  pub full : FullExactly empty_catalogue calls
