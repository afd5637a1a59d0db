-- The lost-save schedule, P8 of document 01, as an instance: keys 10 and 30 are there; B inserts 20 for 5 steps; A deletes 10 for 7; B
-- goes on and is Added; A ends Removed. Whatever is called afterwards, as long as no delete of save 20 sets its flag, every search of 20
-- finds it.
use Rattle.std.specs.Prelude.{ℕ, zero, suc, ◌+◌, ◌-◌, ◌≤◌, ◌<◌, Bool, true, false, not, ◌&&◌, ◌≡◌, refl, List, ◌∷◌, ◌++◌, eqb, length, get_or, replicate}
use Rattle.std.proofs.Math.Path.{ap}
use Rattle.std.proofs.Common.{sym, ◌∙◌, subst, arith, length-append, get_or-append-add}
use Rattle.std.proofs.Math.Decide.{ℕ_discrete, dec_lt}
use Rattle.std.proofs.Math.ListN.{get_or-append}
use Rattle.std.proofs.lemmas.List.{take-append-le}
use Rattle.std.proofs.lemmas.Bool.{not-true}
use Rattle.order.specs.Demand.{state_at, line_at, Accepts, Request, Finished}
use Rattle.order.proofs.OneRequest.{any_default}
use Rattle.order.proofs.SavesFound.{NoDeleteFlags, stored_save_found}
use Rattle.kept.specs.Conditions.{clash}
use Rattle.std.proofs.lemmas.Bool.{and_parts}
use Rattle.kept.specs.Ways.{line_of}
use Rattle.model.specs.State.{idle, empty_catalogue}
use Rattle.model.proofs.Computed.{computed}
use Rattle.model.specs.Run.{run}
use Rattle.model.specs.declared.Catalogue.{Catalogue}
use Rattle.model.specs.declared.Answer.{Answer}
use Rattle.model.specs.declared.Answer.TheVariants.{Found, Added}
use Rattle.model.specs.declared.Line.TheVariants.{Idle}
use Rattle.model.specs.declared.Call.{Call}
use Rattle.model.specs.declared.Call.TheVariants.{Submit, Step}

-- A is worker 0, B worker 1; worker 7 adds the first two saves.
abbrev pub p8 : List Call
p8 =
    (Submit 7 2 10 100 ∷ replicate 4 (Step 7)) ++ (Submit 7 2 30 300 ∷ replicate 6 (Step 7)) ++ (Submit 1 2 20 200 ∷ replicate 5 (Step 1))
    ++ (Submit 0 3 10 0 ∷ replicate 7 (Step 0)) ++ replicate 14 (Step 1) ++ replicate 3 (Step 0)

-- ---- A test of each of n positions from i on ----

through : (ℕ → Bool) → ℕ → ℕ → Bool
through p i zero = true
through p i (suc n) = p i && through p (suc i) n

through_each : (p : ℕ → Bool) (i n : ℕ) → through p i n ≡ true → (j : ℕ) → i ≤ j → j < i + n → p j ≡ true
unfolding through
through_each p i zero h j low high = absurd (omega arith)
through_each p i (suc n) h j low high =
    let parts = and_parts (p i) (through p (suc i) n) h in
    elim (ℕ_discrete j i) [
      | yes e ↦ ap p e ∙ parts.0
      | no e ↦ through_each p (suc i) n parts.1 j (omega arith) (omega arith)
    ]

-- ---- A run goes on ----

module _ (start : Catalogue) (xs ys : List Call) where
  same_state : (i : ℕ) → i ≤ length xs → state_at start (xs ++ ys) i ≡ state_at start xs i
  unfolding state_at
  same_state i h = ap (run start) (take-append-le i xs ys h)

  accepts_still : (i : ℕ) (x : Call) → Accepts start xs i x → Accepts start (xs ++ ys) i x
  accepts_still i x a = record {
    inside = omega (arith, a.inside, length-append xs ys);
    made = get_or-append xs ys x i a.inside ∙ a.made;
    accepted = rw (same_state i (omega (arith, a.inside))) a.accepted;
  }

  finished_still : (s w f : ℕ) (a : Answer) → Finished start xs s w f a → Finished start (xs ++ ys) s w f a
  finished_still s w f a x = record {
    later = x.later;
    step = accepts_still f (Step w) x.step;
    busy = λ j low high.
        subst (λ (c : Catalogue). idle (line_of c w) ≡ false) (sym (same_state j (omega (arith, x.step.inside)))) (x.busy j low high);
    answered = subst (λ (c : Catalogue). line_of c w ≡ Idle a) (sym (same_state (suc f) x.step.inside)) x.answered;
  }

-- ---- B's add ----

b_busy : ℕ → Bool
b_busy j = not (idle (line_at empty_catalogue p8 j 1))

b_adds : Request empty_catalogue p8 12 1 2 20 200
unfolding state_at run computed
b_adds = record { inside = omega arith; made = refl; accepted = refl }

b_added : Finished empty_catalogue p8 12 1 39 Added
unfolding state_at run computed through b_busy
b_added = record {
  later = omega arith;
  step = record { inside = omega arith; made = refl; accepted = refl };
  busy = λ j low high. not-true (idle (line_at empty_catalogue p8 j 1)) (through_each b_busy 13 27 refl j low (omega arith));
  answered = refl;
}

-- ---- The save is never lost ----

-- B's add finishes at position 39.
pub save_kept : (more : List Call) (q v x h : ℕ) (a : Answer) → Request empty_catalogue (p8 ++ more) q v 1 20 x → length p8 ≤ q
    → Finished empty_catalogue (p8 ++ more) q v h a
    → NoDeleteFlags empty_catalogue (p8 ++ more) 20 39 h
    → a ≡ Found 200
save_kept more q v x h a asked later finished no_flags =
    stored_save_found (p8 ++ more) 12 1 20 200 39 (accepts_still empty_catalogue p8 more 12 _ b_adds)
    (finished_still empty_catalogue p8 more 12 1 39 Added b_added)
    q v x h a asked (omega arith) finished no_flags

-- ---- No delete of 20 at all ----

abbrev deletes_key : ℕ → Call → Bool
deletes_key k (Submit w code key element) = eqb code 3 && eqb key k
deletes_key k (Step w) = false

-- none of the calls deletes key k
abbrev pub DeletesNone : ℕ → List Call → Type 0
DeletesNone k calls = (i : ℕ) → i < length calls → deletes_key k (get_or calls i (Step 0)) ≡ false

p8_deletes_none : DeletesNone 20 p8
unfolding through
p8_deletes_none i inside =
    not-true (deletes_key 20 (get_or p8 i (Step 0)))
    (through_each (λ j. not (deletes_key 20 (get_or p8 j (Step 0)))) 0 43 refl i (omega arith) (omega arith))

module _ (more : List Call) (harmless : DeletesNone 20 more) where
  none_deletes : (d v x : ℕ) → Request empty_catalogue (p8 ++ more) d v 3 20 x → ⊥
  none_deletes d v x r = go (dec_lt d (length p8))
    where
      is : get_or (p8 ++ more) d (Step 0) ≡ Submit v 3 20 x
      is = any_default (p8 ++ more) d (Step 0) (Submit v 3 20 x) r.inside ∙ r.made

      go : Dec (d < length p8) → ⊥
      go (yes h) = clash (ap (deletes_key 20) (sym (get_or-append p8 more (Step 0) d h) ∙ is)) (p8_deletes_none d h)
      go (no h) =
          let e : length p8 + (d - length p8) ≡ d = omega arith in
          let in_more : d - length p8 < length more = omega (arith, r.inside, length-append p8 more) in
          let same = ap (λ (i : ℕ). get_or (p8 ++ more) i (Step 0)) (sym e) ∙ get_or-append-add p8 more (d - length p8) (Step 0) in
          clash (ap (deletes_key 20) (sym same ∙ is)) (harmless (d - length p8) in_more)

  -- none is deleted, so no delete of 20 sets a flag
  pub save_kept_undeleted : (q v x h : ℕ) (a : Answer) → Request empty_catalogue (p8 ++ more) q v 1 20 x → length p8 ≤ q
      → Finished empty_catalogue (p8 ++ more) q v h a → a ≡ Found 200
  save_kept_undeleted q v x h a asked later finished =
      save_kept more q v x h a asked later finished (λ d w y t r sets busy low high. none_deletes d w y r)
