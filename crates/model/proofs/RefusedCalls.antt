-- The refusals of submit and step come in document 01's order.
use Rattle.std.specs.Prelude.{if◌then◌else◌, ℕ, zero, suc, ◌≤◌, ◌<◌, Bool, true, false, not, ◌≡◌, refl, List, ◌∷◌, ltb}
use Rattle.std.proofs.Common.{arith, ltb-true, ltb-false, leb-true, leb-false, ne_eqb}
use Rattle.std.proofs.lemmas.Bool.{not-true, not-false}
use Rattle.model.specs.State.{worker_at, idle}
use Rattle.model.specs.WellFormed.{well_formed}
use Rattle.model.specs.Step.{submit, step, step_worker, applied, ninth_help, effect_of, is_request}
use Rattle.model.proofs.RefusalOrder.{Ground, ◌given_when◌, First, no_ground, this_one, a_later, NoRequest, submit_grounds, busy_grounds, step_grounds}
use Rattle.model.specs.declared.Pending.{Pending}
use Rattle.model.specs.declared.Catalogue.{Catalogue}
use Rattle.model.specs.declared.Stack.{Stack}
use Rattle.model.specs.declared.Stack.TheVariants.{Keep, Push, Pop}
use Rattle.model.specs.declared.Stepped.{Stepped}
use Rattle.model.specs.Verdict.{Verdict}
use Rattle.std.specs.Prelude.{Err}
use Rattle.model.specs.declared.Refusal.{Refusal}

-- a choice, each branch of which knows how the test came out
pub by_test : {A : Type 0} (P : A → Type 1) (b : Bool) {x y : A} → (b ≡ true → P x) → (b ≡ false → P y) → P (if b then x else y)
by_test P true p q = p refl
by_test P false p q = q refl

-- a choice by a test that decides whether the condition holds
module _ {A : Type 0} (verdict : A → Verdict) where
  pub test : (b : Bool) {r : Refusal} {P : Type 0} {rest : List Ground} {x y : A} → (b ≡ true → P) → (b ≡ false → ¬ P)
      → verdict x ≡ Err r → First rest (verdict y) → First (r given_when P ∷ rest) (verdict (if b then x else y))
  test true holds fails e later = rw e (this_one (holds refl))
  test false holds fails e later = a_later (fails refl) later

pub clash : {b : Bool} → b ≡ true → b ≡ false → ⊥
clash holds fails = let z : ◌≡◌ {A = ℕ} 0 1 = cc in omega arith

pub above : (n w : ℕ) → ltb n w ≡ true → n < w
above n w = ltb-true n w

pub not_above : (n w : ℕ) → ltb n w ≡ false → ¬ (n < w)
not_above n w h p = omega (arith, ltb-false n w h)

-- a list gives one verdict
pub first_once : {grounds : List Ground} {v u : Verdict} → First grounds v → First grounds u → v ≡ u
first_once no_ground no_ground = refl
first_once (this_one p) (this_one q) = refl
first_once (this_one p) (a_later fails _) = absurd (fails p)
first_once (a_later fails _) (this_one q) = absurd (fails q)
first_once (a_later _ one) (a_later _ other) = first_once one other

-- ---- Submit ----

stepped_verdict : Stepped → Verdict
stepped_verdict s = s.verdict

no_request : (code : ℕ) → is_request code ≡ false → NoRequest code
no_request zero h = ((λ e. omega arith), (λ e. omega arith), (λ e. omega arith))
no_request (suc n) h =
    let far = leb-false (suc n) 3 (rw (ne_eqb (suc n) 0 (λ e. omega arith)) at h) in
    ((λ e. omega arith), (λ e. omega arith), (λ e. omega arith))

a_request : (code : ℕ) → is_request code ≡ true → ¬ NoRequest code
a_request zero h p = clash h refl
a_request (suc n) h p = omega (arith, leb-true (suc n) 3 (rw (ne_eqb (suc n) 0 (λ e. omega arith)) at h), p.0, p.1, p.2)

pub submit_order : (c : Catalogue) (w code key element : ℕ) → First (submit_grounds c w code) (submit c w code key element).verdict
unfolding submit stepped_verdict
submit_order c w code key element =
    test stepped_verdict (ltb 7 w) (above 7 w) (not_above 7 w) refl
    (test stepped_verdict (not (well_formed c)) (not-true _) (λ h. clash (not-false _ h)) refl
    (test stepped_verdict (not (is_request code)) (λ h. no_request code (not-true _ h)) (λ h. a_request code (not-false _ h)) refl
    (test stepped_verdict (not (idle (worker_at c.workers w).line)) (not-true _) (λ h. clash (not-false _ h)) refl no_ground)))

-- ---- Step ----

needs_ninth : (count : ℕ) (s : Stack) → ninth_help count s ≡ true → (h : Pending) × (s ≡ Push h) × (8 ≤ count)
unfolding ninth_help
needs_ninth count Keep e = absurd (clash e refl)
needs_ninth count (Push h) e = (h, refl, leb-true 8 count e)
needs_ninth count Pop e = absurd (clash e refl)

no_ninth : (count : ℕ) (s : Stack) → ninth_help count s ≡ false → ¬ ((h : Pending) × (s ≡ Push h) × (8 ≤ count))
unfolding ninth_help
no_ninth count Keep e p = let pushed = p.1 in let z : ◌≡◌ {A = ℕ} 0 1 = cc in omega arith
no_ninth count (Push h) e p = omega (arith, leb-false 8 count e, p.2)
no_ninth count Pop e p = let pushed = p.1 in let z : ◌≡◌ {A = ℕ} 0 1 = cc in omega arith

pub step_worker_order : (c : Catalogue) (w : ℕ) → First (busy_grounds c w) (step_worker c w).verdict
unfolding step_worker applied stepped_verdict
step_worker_order c w =
    test stepped_verdict (idle (worker_at c.workers w).line) (λ h. h) (λ h g. clash g h) refl
    (test stepped_verdict (ninth_help (worker_at c.workers w).count (effect_of c.rows w (worker_at c.workers w)).stack)
    (needs_ninth _ _) (no_ninth _ _) refl no_ground)

pub step_order : (c : Catalogue) (w : ℕ) → First (step_grounds c w) (step c w).verdict
unfolding step stepped_verdict
step_order c w =
    test stepped_verdict (ltb 7 w) (above 7 w) (not_above 7 w) refl
    (test stepped_verdict (not (well_formed c)) (not-true _) (λ h. clash (not-false _ h)) refl (step_worker_order c w))
