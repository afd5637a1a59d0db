-- A schedule that is long to compute, under the statement of the model's tables: 126 keys, and then Full.
use Rattle.std.specs.Prelude.{refl, List, [], ◌∷◌}
use Rattle.model.proofs.Worked.{Worked, in_turns, Right, outcomes, claims, outcome_of, inserts, deletes, takes, finishes, answered, descending, rising}
use Rattle.model.specs.declared.Answer.TheVariants.{Added, Duplicate, Removed, Full}

-- The full catalogue. Of the last two rows one insert holds one and another links one: a new key is Full. The held row is
-- given back at line 20 and taken by a new key. Then a new key is Full, a key that is there is Duplicate, and a new key
-- stays Full after a delete.
abbrev full : Worked
full = record {
  start = descending 124 3;
  script = inserts 0 1 10 ∷ takes 0 2 ∷ inserts 1 1 11 ∷ finishes 1 ∷ inserts 2 2 20 ∷ finishes 2 ∷ finishes 0
      ∷ inserts 2 2 20 ∷ finishes 2 ∷ inserts 0 0 5 ∷ finishes 0 ∷ inserts 0 1 12 ∷ finishes 0 ∷ deletes 0 1 ∷ finishes 0
      ∷ inserts 0 1 13 ∷ finishes 0 ∷ [];
  events = answered 1 4 Added ∷ answered 2 4 Full ∷ answered 0 8 Duplicate ∷ answered 2 6 Added ∷ answered 0 2 Full
      ∷ answered 0 3 Duplicate ∷ answered 0 10 (Removed 11) ∷ answered 0 2 Full ∷ [];
  taken = 126;
  saves = 125;
  chain = rising 125 2;
}

pub full_table : List Worked
full_table = full ∷ []

pub full_table_right : Right in_turns full_table
unfolding outcomes claims outcome_of full_table
full_table_right = refl
