-- At a position there is one call, so a request is the same by every account of it; and it has one finish.
use Rattle.std.specs.Prelude.{ℕ, zero, suc, ◌<◌, false, ◌≡◌, refl, List, [], ◌∷◌, length, get_or}
use Rattle.std.proofs.Common.{ap, sym, ◌∙◌, subst, arith}
use Rattle.order.specs.Demand.{line_at, Accepts, Request, Finished}
use Rattle.order.proofs.Compared.{Compared, less, equal, more, compared}
use Rattle.kept.specs.Conditions.{clash}
use Rattle.model.specs.State.{idle}
use Rattle.model.specs.declared.Catalogue.{Catalogue}
use Rattle.model.specs.declared.Answer.{Answer}
use Rattle.model.specs.declared.Line.{Line}
use Rattle.model.specs.declared.Line.TheVariants.{Idle}
use Rattle.model.specs.declared.Call.{Call}
use Rattle.model.specs.declared.Call.TheVariants.{Submit, Step}

pub any_default : (calls : List Call) (i : ℕ) (x y : Call) → i < length calls → get_or calls i x ≡ get_or calls i y
any_default [] i x y inside = absurd (omega arith)
any_default (c ∷ cs) zero x y inside = refl
any_default (c ∷ cs) (suc i) x y inside = any_default cs i x y (omega arith)

-- two accounts of the request submitted at one position
pub record SameRequest (w code key element w' code' key' element' : ℕ) : Type 0 where
  pub worker : w' ≡ w
  pub code_same : code' ≡ code
  pub key_same : key' ≡ key
  pub element_same : element' ≡ element

-- a worker that is idle is not busy
pub idle_not_busy : {l : Line} {a : Answer} → l ≡ Idle a → idle l ≡ false → ⊥
idle_not_busy is busy = clash (ap idle is) busy

module _ {start : Catalogue} {calls : List Call} where
  pub same_call : (i : ℕ) (x y : Call) → Accepts start calls i x → Accepts start calls i y → x ≡ y
  same_call i x y a b = sym a.made ∙ any_default calls i x y a.inside ∙ b.made

  pub same_stepper : (i v w : ℕ) → Accepts start calls i (Step v) → Accepts start calls i (Step w) → v ≡ w
  same_stepper i v w a b = let e = same_call i (Step v) (Step w) a b in cc

  pub same_request : (s w code key element w' code' key' element' : ℕ) → Request start calls s w code key element
      → Request start calls s w' code' key' element' → SameRequest w code key element w' code' key' element'
  same_request s w code key element w' code' key' element' a b =
      let e = same_call s (Submit w code key element) (Submit w' code' key' element') a b in
      record { worker = cc; code_same = cc; key_same = cc; element_same = cc }

  pub same_finish : (s w f g : ℕ) (a b : Answer) → Finished start calls s w f a → Finished start calls s w g b → (f ≡ g) × (a ≡ b)
  same_finish s w f g a b x y = go (compared f g)
    where
      go : Compared f g → (f ≡ g) × (a ≡ b)
      go (less h) = absurd (idle_not_busy x.answered (y.busy (suc f) (omega (arith, x.later)) (omega arith)))
      go (more h) = absurd (idle_not_busy y.answered (x.busy (suc g) (omega (arith, y.later)) (omega arith)))
      go (equal e) =
          let same : line_at start calls (suc g) w ≡ Idle a = subst (λ (i : ℕ). line_at start calls (suc i) w ≡ Idle a) e x.answered in
          (e, cc y.answered)
