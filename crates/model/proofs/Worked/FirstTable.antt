-- P1 to P10 of document 01 as one table, and the single statement over it. A is worker 0, B worker 1, C worker 2.
use Rattle.std.specs.Prelude.{refl, List, [], ◌∷◌}
use Rattle.model.proofs.Worked.{Worked, in_steps, Right, outcomes, claims, outcome_of, save, searches, inserts, deletes, takes, finishes, answered, at}
use Rattle.model.specs.declared.Answer.TheVariants.{Found, Absent, Added, Duplicate, Removed}

-- P1. Insert 5 with element 50: Added after 4 steps.
abbrev p1 : Worked
p1 = record {
  start = [];
  script = inserts 0 5 50 ∷ finishes 0 ∷ [];
  events = answered 0 4 Added ∷ [];
  taken = 1;
  saves = 1;
  chain = at 2 5 ∷ [];
}

-- P2. Then search 5: Found 50 after 3.
abbrev p2 : Worked
p2 = record {
  start = save 5 50 ∷ [];
  script = searches 0 5 ∷ finishes 0 ∷ [];
  events = answered 0 3 (Found 50) ∷ [];
  taken = 1;
  saves = 1;
  chain = at 2 5 ∷ [];
}

-- P3. Instead delete 5 after P1: Removed 50 after 10.
abbrev p3 : Worked
p3 = record {
  start = save 5 50 ∷ [];
  script = deletes 0 5 ∷ finishes 0 ∷ [];
  events = answered 0 10 (Removed 50) ∷ [];
  taken = 1;
  saves = 0;
  chain = [];
}

-- P4. Delete 5 when empty: Absent after 1.
abbrev p4 : Worked
p4 = record {
  start = [];
  script = deletes 0 5 ∷ finishes 0 ∷ [];
  events = answered 0 1 Absent ∷ [];
  taken = 0;
  saves = 0;
  chain = [];
}

-- P5. Insert 5 after P1: Duplicate after 3, no row taken.
abbrev p5 : Worked
p5 = record {
  start = save 5 50 ∷ [];
  script = inserts 0 5 51 ∷ finishes 0 ∷ [];
  events = answered 0 3 Duplicate ∷ [];
  taken = 1;
  saves = 1;
  chain = at 2 5 ∷ [];
}

-- P6. Insert 4,294,967,295: Added after 4.
abbrev p6 : Worked
p6 = record {
  start = [];
  script = inserts 0 4294967295 7 ∷ finishes 0 ∷ [];
  events = answered 0 4 Added ∷ [];
  taken = 1;
  saves = 1;
  chain = at 2 4294967295 ∷ [];
}

-- P7. Keys 10, 30 held. A deletes 10 for 6 steps; B inserts 20: Added after 6. A ends Removed after 13 in all. Chain 20,
-- 30.
abbrev p7 : Worked
p7 = record {
  start = save 10 100 ∷ save 30 300 ∷ [];
  script = deletes 0 10 ∷ takes 0 6 ∷ inserts 1 20 200 ∷ finishes 1 ∷ finishes 0 ∷ [];
  events = answered 1 6 Added ∷ answered 0 13 (Removed 100) ∷ [];
  taken = 3;
  saves = 2;
  chain = at 4 20 ∷ at 3 30 ∷ [];
}

-- P8. Same keys. B inserts 20 for 5 steps; A deletes 10 for 7; B goes on and is Added after 19; A ends Removed after 10.
-- Chain 20, 30.
abbrev p8 : Worked
p8 = record {
  start = save 10 100 ∷ save 30 300 ∷ [];
  script = inserts 1 20 200 ∷ takes 1 5 ∷ deletes 0 10 ∷ takes 0 7 ∷ finishes 1 ∷ finishes 0 ∷ [];
  events = answered 1 19 Added ∷ answered 0 10 (Removed 100) ∷ [];
  taken = 3;
  saves = 2;
  chain = at 4 20 ∷ at 3 30 ∷ [];
}

-- P9. Key 10 only. A deletes for 3 steps; B deletes 10 alone: Absent after 9; A ends Removed after 7.
abbrev p9 : Worked
p9 = record {
  start = save 10 100 ∷ [];
  script = deletes 0 10 ∷ takes 0 3 ∷ deletes 1 10 ∷ finishes 1 ∷ finishes 0 ∷ [];
  events = answered 1 9 Absent ∷ answered 0 7 (Removed 100) ∷ [];
  taken = 1;
  saves = 0;
  chain = [];
}

-- P10. Key 10 only. A deletes for 7 steps; C searches 10: Absent after 8.
abbrev p10 : Worked
p10 = record {
  start = save 10 100 ∷ [];
  script = deletes 0 10 ∷ takes 0 7 ∷ searches 2 10 ∷ finishes 2 ∷ [];
  events = answered 2 8 Absent ∷ [];
  taken = 1;
  saves = 0;
  chain = [];
}

pub first_table : List Worked
first_table = p1 ∷ p2 ∷ p3 ∷ p4 ∷ p5 ∷ p6 ∷ p7 ∷ p8 ∷ p9 ∷ p10 ∷ []

pub first_table_right : Right in_steps first_table
unfolding outcomes claims outcome_of first_table
first_table_right = refl
