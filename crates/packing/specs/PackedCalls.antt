-- Submit and step on packed rows: where the words pack the rows of a state, a call gives the packing of what it gives by value, refusals
-- too; where they pack no rows, or a state that is not well formed, it is refused with 1 or 4; and what is refused leaves every word.
use Rattle.std.specs.Prelude.{if◌then◌else◌, ℕ, ◌≡◌, Bool, List, length}
use Rattle.std.proofs.Math.Path.{refl, ap}
use Rattle.std.proofs.Common.{sym, ◌∙◌, eq-eqb}
use Rattle.std.proofs.Math.Bool.{true, false}
use Rattle.std.proofs.Math.Logic.{inl, inr}
use Rattle.std.proofs.Math.Dec.{ltb}
use Rattle.model.specs.State.{empty_catalogue}
use Rattle.model.specs.Step.{refuse, accept, step, submit}
use Rattle.model.specs.Run.{call, run}
use Rattle.model.specs.Printed.{call_worker}
use Rattle.model.specs.WellFormed.{well_formed}
use Rattle.model.proofs.Empty.{empty_well_formed}
use Rattle.model.proofs.Refusals.{refused_changes_nothing}
use Rattle.model.specs.Packed.{packed, unpacked, packs_rows, state_of, packed_well, OnWords, packed_stepped, refused_on, packed_call, pack_into, unpack}
use Rattle.model.specs.declared.Row.{Row}
use Rattle.model.specs.declared.Worker.{Worker}
use Rattle.model.specs.declared.Catalogue.{Catalogue}
use Rattle.model.specs.declared.Call.{Call}
use Rattle.model.specs.declared.Call.TheVariants.{Submit, Step}
use Rattle.std.specs.Prelude.{Ok, Err}
use Rattle.model.specs.declared.Refusal.{Refusal}
use Rattle.model.specs.declared.Refusal.TheVariants.{NoSuchWorker, NotWellFormed}
use Rattle.kept.specs.Conditions.{contradiction}
use Rattle.std.proofs.lemmas.Bool.{cases_Bool}
use Rattle.kept.specs.Sized.{Sized, empty_sized}
use Rattle.kept.specs.Ways.{submit_ways}
use Rattle.kept.specs.WellFormedKept.{call_keeps, run_keeps}
use Rattle.packing.specs.Tables.{PackingOf, packs_rows_lem, told_packing, packing_told}
use Rattle.packing.specs.WellFormedWords.{state_back, packed_well_lem, packed_well_told, well_formed_packs}

-- refusal 1 comes before 4
abbrev pub one_or_four : Call → Refusal
one_or_four x = if ltb 7 (call_worker x) then NoSuchWorker else NotWellFormed

-- ---- A call on the packing of a state ----

-- a worker that is not there is refused with 1 in every state
no_such_worker : (c : Catalogue) (x : Call) → ltb 7 (call_worker x) ≡ true → call c x ≡ refuse NoSuchWorker c
unfolding call submit step
no_such_worker c (Submit w code key element) h = rw h
no_such_worker c (Step w) h = rw h

module _ (c : Catalogue) {words : List ℕ} (p : PackingOf words c.rows) where
  -- The words pack the rows of c: every call on them gives the packing of what the call by value gives, refusals too.
  pub call_packs : (x : Call) → packed_call words c.workers x ≡ packed_stepped (call c x)
  unfolding packed_call
  call_packs x = rw (packing_told words p, state_back c p) (go (ltb 7 (call_worker x)) refl)
    where
      go : (b : Bool) → ltb 7 (call_worker x) ≡ b
          → (if b then refused_on NoSuchWorker words c.workers else packed_stepped (call c x)) ≡ packed_stepped (call c x)
      go true h = rw (no_such_worker c x h, p.packing)
      go false h = refl

  -- A whole catalogue, packed and unpacked, is the same.
  pub unpack_gives_back : unpack words c.workers ≡ accept c
  unfolding unpack
  unpack_gives_back = rw (packing_told words p, state_back c p)

-- ---- Words that pack no rows ----

-- refusal 1 or 4 is one refusal
one_refusal : {A : Type 0} (made : Refusal → A) (b : Bool) → (if b then made NoSuchWorker else made NotWellFormed) ≡ made (if b then NoSuchWorker else NotWellFormed)
one_refusal made true = refl
one_refusal made false = refl

module _ (words : List ℕ) (nothing : (rows : List Row) → PackingOf words rows → ⊥) (workers : List Worker) where
  packs_none : packs_rows words ≡ false
  packs_none = elim (cases_Bool (packs_rows words)) [
    | inl h ↦ absurd (nothing (unpacked words) (told_packing words h))
    | inr h ↦ h
  ]

  pub no_rows_refused : (x : Call) → packed_call words workers x ≡ refused_on (one_or_four x) words workers
  unfolding packed_call
  no_rows_refused x = rw packs_none (one_refusal (λ r. refused_on r words workers) (ltb 7 (call_worker x)))

  pub no_rows_unpacked : unpack words workers ≡ refuse NotWellFormed empty_catalogue
  unfolding unpack
  no_rows_unpacked = rw packs_none

-- ---- A state that is not well formed ----

ill_call : (c : Catalogue) (x : Call) → well_formed c ≡ false → call c x ≡ refuse (one_or_four x) c
unfolding call step submit
ill_call c (Submit w code key element) ill = rw ill (one_refusal (λ r. refuse r c) (ltb 7 w))
ill_call c (Step w) ill = rw ill (one_refusal (λ r. refuse r c) (ltb 7 w))

module _ (words : List ℕ) (workers : List Worker) where
  pub ill_refused : packed_well words workers ≡ false → (x : Call) → packed_call words workers x ≡ refused_on (one_or_four x) words workers
  ill_refused ill x = elim (cases_Bool (packs_rows words)) [
    | inl h ↦
        let c = state_of words workers in
        let p = told_packing words h in
        call_packs c p x ∙ ap packed_stepped (ill_call c x (sym (packed_well_lem c p) ∙ ill))
        ∙ ap (λ (l : List ℕ). refused_on (one_or_four x) l workers) p.packing
    | inr h ↦ no_rows_refused words (λ rows p. contradiction (cc (packing_told words p, h))) workers x
  ]

  -- ---- What is refused leaves every word, and every worker's record ----

  pub refused_leaves_words : (x : Call) (r : Refusal) → (packed_call words workers x).called.verdict ≡ Err r
      → packed_call words workers x ≡ refused_on r words workers
  refused_leaves_words x r h = elim (cases_Bool (packs_rows words)) [
    | inl packs ↦
        let c = state_of words workers in
        let p = told_packing words packs in
        let made = call_packs c p x in
        let refused : (call c x).verdict ≡ Err r = sym (ap (λ (s : OnWords). s.called.verdict) made) ∙ h in
        let stays = refused_changes_nothing c x r refused in
        made ∙ rw (refused, stays, p.packing)
    | inr none ↦
        let made = no_rows_refused words (λ rows p. contradiction (cc (packing_told words p, none))) workers x in
        let which : Err (one_or_four x) ≡ Err r = sym (ap (λ (s : OnWords). s.called.verdict) made) ∙ h in
        made ∙ ap (λ (q : Refusal). refused_on q words workers) (cc)
  ]

  -- a submit writes no row, whether it is refused or not
  pub submit_leaves_words : (w code key element : ℕ) → (packed_call words workers (Submit w code key element)).words ≡ words
  unfolding call
  submit_leaves_words w code key element = elim (cases_Bool (packs_rows words)) [
    | inl packs ↦
        let c = state_of words workers in
        let p = told_packing words packs in
        let rows = submit_ways c w code key element (λ s. s.state.rows ≡ c.rows) (λ _ _. refl) (λ _ _ _ _. refl) in
        ap (λ (s : OnWords). s.words) (call_packs c p (Submit w code key element)) ∙ ap packed rows ∙ p.packing
    | inr none ↦
        ap (λ (s : OnWords). s.words)
        (no_rows_refused words (λ rows p. contradiction (cc (packing_told words p, none))) workers (Submit w code key element))
  ]

  -- ---- Between two calls ----

  -- The words and workers are the packing of a well-formed state, and they still are after any call.
  pub packed_kept : Sized (state_of words workers) → packed_well words workers ≡ true → (x : Call)
      → let s = packed_call words workers x in packed_well s.words s.called.workers ≡ true
  packed_kept sized well x =
      let c = state_of words workers in
      let told = packed_well_told words workers well in
      let kept = call_keeps c x sized told.1 in
      let after = well_formed_packs (call c x).state kept.1 kept.0.rows in
      rw (call_packs c (told_packing words told.0) x) (packed_well_lem (call c x).state after ∙ kept.1)

-- Every state reached from the empty catalogue is packed without loss, so the above is said of every call on its packing.
pub reached_packs : (calls : List Call) → let c = run empty_catalogue calls in PackingOf (packed c.rows) c.rows
reached_packs calls =
    let kept = run_keeps calls empty_catalogue empty_sized empty_well_formed in
    well_formed_packs (run empty_catalogue calls) kept.1 kept.0.rows

pub reached_call_packs : (calls : List Call) (x : Call)
    → let c = run empty_catalogue calls in packed_call (packed c.rows) c.workers x ≡ packed_stepped (call c x)
reached_call_packs calls x = call_packs (run empty_catalogue calls) (reached_packs calls) x

-- ---- A whole catalogue ----

-- What was unpacked from words, packed into 512 words, is those words.
pub pack_gives_back : (words : List ℕ) (workers : List Worker) → (unpack words workers).verdict ≡ Ok tt → (others : List ℕ) → length others ≡ 512
    → pack_into (unpack words workers).state others ≡ words
unfolding unpack pack_into
pack_gives_back words workers h others size = rw (eq-eqb (length others) 512 size) (go (packs_rows words) refl h)
  where
    go : (b : Bool) → packs_rows words ≡ b → (if b then accept (state_of words workers) else refuse NotWellFormed empty_catalogue).verdict ≡ Ok tt
        → packed (if b then accept (state_of words workers) else refuse NotWellFormed empty_catalogue).state.rows ≡ words
    go true packs h = (packs_rows_lem words packs).again
    go false none h = contradiction (cc)
