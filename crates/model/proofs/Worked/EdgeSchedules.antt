-- Schedules at the edges: key 0, the largest key, the lowest free row, a marked row that is still counted, refused calls.
use Rattle.std.specs.Prelude.{List, [], ◌∷◌}
use Rattle.model.proofs.Worked.{Worked, save, searches, inserts, deletes, takes, finishes, answered, refused, at}
use Rattle.model.specs.declared.Answer.TheVariants.{Found, Absent, Added, Duplicate, Removed}

-- Key 0: nothing is taken for the head, and the tail does not have key 0.
abbrev key_zero : Worked
key_zero = record {
  start = [];
  script = searches 0 0 ∷ finishes 0 ∷ deletes 0 0 ∷ finishes 0 ∷ inserts 0 0 7 ∷ finishes 0 ∷ searches 0 0 ∷ finishes 0
      ∷ inserts 0 0 8 ∷ finishes 0 ∷ deletes 0 0 ∷ finishes 0 ∷ searches 0 0 ∷ finishes 0 ∷ [];
  events = answered 0 1 Absent ∷ answered 0 1 Absent ∷ answered 0 4 Added ∷ answered 0 3 (Found 7) ∷ answered 0 3 Duplicate
      ∷ answered 0 10 (Removed 7) ∷ answered 0 1 Absent ∷ [];
  taken = 1;
  saves = 0;
  chain = [];
}

-- The largest key: nothing is taken for the tail.
abbrev largest_key : Worked
largest_key = record {
  start = [];
  script = searches 0 4294967295 ∷ finishes 0 ∷ deletes 0 4294967295 ∷ finishes 0 ∷ inserts 0 4294967295 7 ∷ finishes 0
      ∷ searches 0 4294967295 ∷ finishes 0 ∷ inserts 0 4294967295 8 ∷ finishes 0 ∷ deletes 0 4294967295 ∷ finishes 0
      ∷ searches 0 4294967295 ∷ finishes 0 ∷ [];
  events = answered 0 1 Absent ∷ answered 0 1 Absent ∷ answered 0 4 Added ∷ answered 0 3 (Found 7) ∷ answered 0 3 Duplicate
      ∷ answered 0 10 (Removed 7) ∷ answered 0 1 Absent ∷ [];
  taken = 1;
  saves = 0;
  chain = [];
}

-- Key 0 and the largest key when only another key is there, then put at both ends of it.
abbrev both_ends : Worked
both_ends = record {
  start = save 5 50 ∷ [];
  script = searches 0 0 ∷ finishes 0 ∷ deletes 0 0 ∷ finishes 0 ∷ searches 0 4294967295 ∷ finishes 0 ∷ deletes 0 4294967295
      ∷ finishes 0 ∷ inserts 0 0 1 ∷ finishes 0 ∷ inserts 0 4294967295 2 ∷ finishes 0 ∷ deletes 0 5 ∷ finishes 0
      ∷ searches 0 0 ∷ finishes 0 ∷ searches 0 4294967295 ∷ finishes 0 ∷ [];
  events = answered 0 1 Absent ∷ answered 0 1 Absent ∷ answered 0 3 Absent ∷ answered 0 3 Absent ∷ answered 0 4 Added
      ∷ answered 0 8 Added ∷ answered 0 12 (Removed 50) ∷ answered 0 3 (Found 1) ∷ answered 0 5 (Found 2) ∷ [];
  taken = 3;
  saves = 2;
  chain = at 3 0 ∷ at 4 4294967295 ∷ [];
}

-- P8 with key 0 as the predecessor and the largest key behind: the row with key 0 is marked, the backlink leads to the
-- head.
abbrev lost_save_at_the_ends : Worked
lost_save_at_the_ends = record {
  start = save 4294967295 9 ∷ save 0 7 ∷ [];
  script = inserts 1 20 200 ∷ takes 1 5 ∷ deletes 0 0 ∷ takes 0 7 ∷ finishes 1 ∷ finishes 0 ∷ [];
  events = answered 1 19 Added ∷ answered 0 10 (Removed 7) ∷ [];
  taken = 3;
  saves = 2;
  chain = at 4 20 ∷ at 2 4294967295 ∷ [];
}

-- The lowest free row is taken: of three held rows the first is given back, and the next insert takes that one.
abbrev lowest_free_row : Worked
lowest_free_row = record {
  start = [];
  script = inserts 0 1 10 ∷ takes 0 2 ∷ inserts 1 2 20 ∷ takes 1 2 ∷ inserts 2 3 30 ∷ takes 2 2 ∷ inserts 3 1 11 ∷ finishes 3
      ∷ finishes 0 ∷ inserts 4 9 90 ∷ finishes 4 ∷ [];
  events = answered 3 4 Added ∷ answered 0 8 Duplicate ∷ answered 4 6 Added ∷ [];
  taken = 4;
  saves = 2;
  chain = at 5 1 ∷ at 2 9 ∷ [];
}

-- A marked row that is still on the chain is counted: the first 7 steps of A in P10.
abbrev marked_row_counted : Worked
marked_row_counted = record {
  start = save 10 100 ∷ [];
  script = deletes 0 10 ∷ takes 0 7 ∷ [];
  events = [];
  taken = 1;
  saves = 1;
  chain = at 2 10 ∷ [];
}

-- Refused calls (unknown worker 1, busy 2, idle 3) change nothing.
abbrev refused_calls : Worked
refused_calls = record {
  start = [];
  script = takes 0 1 ∷ inserts 0 5 50 ∷ deletes 0 5 ∷ takes 0 2 ∷ searches 0 5 ∷ takes 1 1 ∷ searches 8 5 ∷ takes 8 1
      ∷ inserts 255 6 60 ∷ finishes 0 ∷ takes 0 1 ∷ searches 0 5 ∷ finishes 0 ∷ [];
  events = refused 0 3 ∷ refused 0 2 ∷ refused 0 2 ∷ refused 1 3 ∷ refused 8 1 ∷ refused 8 1 ∷ refused 255 1
      ∷ answered 0 4 Added ∷ refused 0 3 ∷ answered 0 3 (Found 50) ∷ [];
  taken = 1;
  saves = 1;
  chain = at 2 5 ∷ [];
}

unfoldable pub edge_schedules : List Worked
edge_schedules = key_zero ∷ largest_key ∷ both_ends ∷ lost_save_at_the_ends ∷ lowest_free_row ∷ marked_row_counted
    ∷ refused_calls ∷ []
