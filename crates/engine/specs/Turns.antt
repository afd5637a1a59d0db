-- What the loop of a turn needs to know of the definition, with the steps that are left of the budget b written b - n.
use Rattle.std.specs.Prelude.{ℕ, suc, ◌+◌, ◌-◌, ◌≤◌, ◌<◌, ◌≡◌, refl, true, false, Ok, Err}
use Rattle.std.proofs.Common.{◌∙◌, sym, ap}
use Rattle.std.proofs.Math.Nat.{sub-zero}
use native.Mathlib.Omega.{arith}
use Rattle.model.specs.State.{worker_at, idle}
use Rattle.model.specs.Step.{step_worker}
use Rattle.model.specs.Turn.{turn_ends, turn_from}
use Rattle.model.specs.declared.Catalogue.{Catalogue}
use Rattle.model.specs.declared.Stepped.{Stepped}
use Rattle.model.specs.declared.Refusal.{Refusal}
use Rattle.model.specs.Verdict.{Verdict}
use Rattle.model.proofs.Refusals.{step_worker_unchanged}

-- the turn of a budget is that of the budget less 0
pub turn_start : (w b : ℕ) (c : Catalogue) → turn_from w b 0 c ≡ turn_from w (b - 0) 0 c
turn_start w b c = rw sub-zero

module _ (w b n : ℕ) (c : Catalogue) where
  left : n < b → b - n ≡ suc (b - (n + 1))
  left h = omega arith

  pub turn_idle : n < b → idle (worker_at c.workers w).line ≡ true → turn_ends w (Ok tt) n c ≡ turn_from w (b - n) n c
  unfolding turn_from
  turn_idle h i = rw (left h) (simp i)

  module _ (v : Verdict) (d : Catalogue) (taken : record { verdict = v; state = d } ≡ step_worker c w) (h : n < b) (busy : idle (worker_at c.workers w).line ≡ false) where
    pub turn_stops : (r : Refusal) → v ≡ Err r → turn_ends w (Err r) n d ≡ turn_from w (b - n) n c
    unfolding turn_from
    turn_stops r a =
        let why : (step_worker c w).verdict ≡ Err r = ap (λ (s : Stepped). s.verdict) (sym taken) ∙ a in
        let stays : d ≡ c = ap (λ (s : Stepped). s.state) taken ∙ (step_worker_unchanged c w).kept r why in
        rw (left h) (simp (busy, why, stays))

    pub turn_goes : v ≡ Ok tt → turn_from w (b - n) n c ≡ turn_from w (b - (n + 1)) (n + 1) d
    unfolding turn_from
    turn_goes a = rw (left h) (simp (busy, ← taken, a))

  pub turn_spent : b ≤ n → turn_ends w (Ok tt) n c ≡ turn_from w (b - n) n c
  unfolding turn_from
  turn_spent h = let z : b - n ≡ 0 = omega arith in rw z refl
