-- The pending helps of a worker as a list, the newest first, and what a push, a pop and a finish do to it.
use Rattle.std.specs.Prelude.{ℕ, zero, suc, ◌+◌, ◌-◌, ◌≤◌, ◌<◌, false, ◌≡◌, ◌≢◌, List, [], ◌∷◌, length, set}
use Rattle.std.proofs.Math.Path.{refl}
use Rattle.std.proofs.Common.{ap, sym, arith, add-one, get_or-set_same, get_or-set_other}
use borrow.Author.Tests.{leb-false}
use Rattle.kept.specs.Ways.{worker_in}
use Rattle.model.specs.State.{help_at, no_help}
use Rattle.model.specs.Step.{stacked, ninth_help}
use Rattle.model.specs.declared.Pending.{Pending}
use Rattle.model.specs.declared.Worker.{Worker}
use Rattle.model.specs.declared.Line.{Line}
use Rattle.model.specs.declared.Stack.{Stack}
use Rattle.model.specs.declared.Stack.TheVariants.{Keep, Push, Pop}
use Rattle.model.specs.declared.Catalogue.{Catalogue}

-- the first n helps, the last of them first
unfoldable pub newest_first : List Pending → ℕ → List Pending
newest_first helps zero = []
newest_first helps (suc n) = help_at helps n ∷ newest_first helps n

abbrev pub stack_of : Worker → List Pending
stack_of k = newest_first k.helps k.count

-- the pending helps of worker w
abbrev pub stack_in : Catalogue → ℕ → List Pending
stack_in c w = stack_of (worker_in c w)

abbrev pub without_newest : List Pending → List Pending
without_newest [] = []
without_newest (h ∷ hs) = hs

-- what a line makes of the stack
abbrev pub stack_after : List Pending → Stack → List Pending
stack_after hs Keep = hs
stack_after hs (Push h) = h ∷ hs
stack_after hs Pop = without_newest hs

pub newest_length : (helps : List Pending) (n : ℕ) → length (newest_first helps n) ≡ n
unfolding newest_first
newest_length helps zero = refl
newest_length helps (suc n) = ap suc (newest_length helps n)

-- a slot above the helps in use is none of them
pub newest_set : (helps : List Pending) (i n : ℕ) (h : Pending) → n ≤ i → newest_first (set helps i h) n ≡ newest_first helps n
unfolding newest_first
newest_set helps i zero h below = refl
newest_set helps i (suc n) h below =
    let other : n ≢ i = λ e. omega arith in
    cc (get_or-set_other helps i n h no_help other, newest_set helps i n h (omega arith))

-- The stack of a worker that goes on is the stack that the line made of it.

pub pushed : (helps : List Pending) (n : ℕ) (h : Pending) → n < length helps
    → newest_first (set helps n h) (n + 1) ≡ h ∷ newest_first helps n
unfolding newest_first
pushed helps n h inside =
    rw add-one (cc (get_or-set_same helps n h no_help inside, newest_set helps n n h (omega arith)))

popped : (helps : List Pending) (n : ℕ) → newest_first (set helps (n - 1) no_help) (n - 1) ≡ without_newest (newest_first helps n)
unfolding newest_first
popped helps zero = refl
popped helps (suc n) =
    let one_less : suc n - 1 ≡ n = omega arith in
    rw one_less (newest_set helps n n no_help (omega arith))

module _ (k : Worker) (line : Line) where
  pub stacked_stack : (s : Stack) → ninth_help k.count s ≡ false → length k.helps ≡ 8
      → stack_of (stacked k line s) ≡ stack_after (stack_of k) s
  unfolding stacked ninth_help
  stacked_stack Keep few size = refl
  stacked_stack (Push h) few size = pushed k.helps k.count h (omega (arith, leb-false 8 k.count few))
  stacked_stack Pop few size = popped k.helps k.count

-- what a line that returns from a help finds: nothing is pending, or the newest help
pub data Newest (count : ℕ) (last : Pending) (hs : List Pending) : Type 0 where
  nothing_pending : count ≡ 0 → hs ≡ [] → Newest count last hs
  pending : {rest : List Pending} → count ≢ 0 → hs ≡ last ∷ rest → Newest count last hs

pub newest : (helps : List Pending) (n : ℕ) → Newest n (help_at helps (n - 1)) (newest_first helps n)
unfolding newest_first
newest helps zero = nothing_pending refl refl
newest helps (suc n) =
    let one_less : suc n - 1 ≡ n = omega arith in
    pending (λ e. omega arith) (ap (λ (i : ℕ). help_at helps i ∷ newest_first helps n) (sym one_less))
