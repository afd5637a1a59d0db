-- What a plain map answers, and what it is afterwards, for each kind of answer.
use Rattle.std.specs.Prelude.{ℕ, ◌≡◌}
use Rattle.std.proofs.Math.Path.{refl, ap, fun_ext}
use Rattle.std.proofs.Common.{sym, ◌∙◌}
use Rattle.std.proofs.Math.Option.{Option, none, some}
use Rattle.std.proofs.Math.Decide.{ℕ_discrete}
use Rattle.order.proofs.Table.{Table}
use Rattle.order.proofs.Structure.{Structure}
use Rattle.order.specs.PlainMap.{PlainMap, Operation, search, insert, delete, setting, answer_holding, holding_after, answer_of, after_asking}
use Rattle.order.proofs.MapOfTable.{Entry, IsMapOf, setting_same, setting_other, map_has, map_lacks}
use Rattle.kept.specs.Conditions.{contradiction}
use Rattle.model.specs.declared.Answer.{Answer}
use Rattle.model.specs.declared.Answer.TheVariants.{Found, Absent, Added, Duplicate, Removed}

-- the map m, asked o, answers a and becomes m'
pub record Agrees (m : PlainMap) (o : Operation) (a : Answer) (m' : PlainMap) : Type 0 where
  pub answer : answer_of m o ≡ a
  pub after : after_asking m o ≡ m'

-- an entry set as it is changes nothing
setting_as_is : (m : PlainMap) (k : ℕ) (entry : Option ℕ) → m k ≡ entry → setting m k entry ≡ m
setting_as_is m k entry is = fun_ext (λ j. elim (ℕ_discrete j k) [
  | yes e ↦ ap (setting m k entry) e ∙ setting_same m k entry ∙ sym is ∙ ap m (sym e)
  | no e ↦ setting_other m k j entry e
])

module _ (m : PlainMap) (k : ℕ) where
  pub found_agrees : (e : ℕ) → m k ≡ some e → Agrees m (search k) (Found e) m
  unfolding answer_of after_asking
  found_agrees e is = record { answer = rw is; after = setting_as_is m k (m k) refl }

  pub absent_agrees : m k ≡ none → Agrees m (search k) Absent m
  unfolding answer_of after_asking
  absent_agrees is = record { answer = rw is; after = setting_as_is m k (m k) refl }

  pub duplicate_agrees : (e x : ℕ) → m k ≡ some e → Agrees m (insert k x) Duplicate m
  unfolding answer_of after_asking
  duplicate_agrees e x is = record { answer = rw is; after = rw is (setting_as_is m k (some e) is) }

  pub no_delete_agrees : m k ≡ none → Agrees m (delete k) Absent m
  unfolding answer_of after_asking
  no_delete_agrees is = record { answer = rw is; after = setting_as_is m k none is }

  pub added_agrees : (e : ℕ) (m' : PlainMap) → m k ≡ none → setting m k (some e) ≡ m' → Agrees m (insert k e) Added m'
  unfolding answer_of after_asking
  added_agrees e m' is becomes = record { answer = rw is; after = rw is becomes }

  pub removed_agrees : (e : ℕ) (m' : PlainMap) → m k ≡ some e → setting m k none ≡ m' → Agrees m (delete k) (Removed e) m'
  unfolding answer_of after_asking
  removed_agrees e m' is becomes = record { answer = rw is; after = becomes }

module _ (m m' : PlainMap) (k e : ℕ) where
  -- after the answer Added the map holds the element
  pub added_holds : Agrees m (insert k e) Added m' → m' k ≡ some e
  unfolding answer_of after_asking
  added_holds a = go (m k) refl
    where
      go : (held : Option ℕ) → m k ≡ held → m' k ≡ some e
      go none is = ap (λ (n : PlainMap). n k) (sym a.after) ∙ setting_same m k _ ∙ ap (holding_after (insert k e)) is
      go (some x) is = let z : Duplicate ≡ Added = ap (answer_holding (insert k e)) (sym is) ∙ a.answer in contradiction (cc)

-- a table has one map
pub map_unique : {top : ℕ} {R : Table} {M N : PlainMap} → Structure top R → IsMapOf R M → IsMapOf R N → M ≡ N
map_unique {R = R} {M = M} {N = N} sound m n = fun_ext (λ k. go k (N k) refl (n.entry k))
  where
    go : (k : ℕ) (o : Option ℕ) → N k ≡ o → Entry R k o → M k ≡ N k
    go k none is h = map_lacks sound m k h ∙ sym is
    go k (some e) is h = map_has sound m k e h ∙ sym is
