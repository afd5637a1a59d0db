-- 4 for words that pack no rows, else the submit by value on the state for which they stand.
use Rattle.std.proofs.Common.{◌≡◌, ◌∙◌, ap, true, rules, ℕ, List}
use Rattle.model.specs.Packed.{OnWords, packs_rows, packed_stepped, state_of}
use Rattle.model.specs.Step.{submit}
use Rattle.model.specs.declared.Catalogue.{Catalogue}
use Rattle.model.specs.declared.Stepped.{Stepped}
use Rattle.packed.specs.Calls.{submitted}
use Rattle.packed.proofs.calls.begin.Goals as goal

pub returns : goal.returns
returns c =
    let a = c.args in
    let table : (packs_rows a.words.now ≡ true) × (c.in_ok-table.table.now ≡ a.words.now) = search rules in
    let state = c.state_of.ensures ∙ ap (λ (words : List ℕ). state_of words a.workers.now) table.1 in
    let made = c.submit-stepped.ensures ∙ ap (λ (s : Catalogue). submit s a.worker a.code a.key a.element) state in
    ap (λ (s : Stepped). (packed_stepped s).called) made
    ∙ ap (λ (o : OnWords). o.called) (submitted a.words.now a.workers.now a.worker a.code a.key a.element c.if-worker-gt7.false table.0)
