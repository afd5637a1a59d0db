-- Schedules that take Insert through its failures: lines 8, 16 to 19 and 20.
use Rattle.std.specs.Prelude.{List, [], ◌∷◌}
use Rattle.model.proofs.Worked.{Worked, save, searches, inserts, deletes, takes, finishes, answered, at}
use Rattle.model.specs.declared.Answer.TheVariants.{Found, Added, Duplicate, Removed}

-- An insert walks two backlinks and stops at a row that is not the head; the second delete stops right after its mark.
abbrev two_backlinks : Worked
two_backlinks = record {
  start = save 10 100 ∷ save 20 200 ∷ save 30 300 ∷ save 40 400 ∷ [];
  script = inserts 0 50 500 ∷ takes 0 11 ∷ deletes 1 40 ∷ finishes 1 ∷ deletes 1 30 ∷ takes 1 11 ∷ finishes 0 ∷ finishes 1
      ∷ [];
  events = answered 1 16 (Removed 400) ∷ answered 0 27 Added ∷ answered 1 14 (Removed 300) ∷ [];
  taken = 5;
  saves = 3;
  chain = at 2 10 ∷ at 3 20 ∷ at 6 50 ∷ [];
}

-- An insert walks one backlink to a row that is not the head, and helps the unfinished delete.
abbrev one_backlink : Worked
one_backlink = record {
  start = save 10 100 ∷ save 20 200 ∷ [];
  script = inserts 0 30 300 ∷ takes 0 7 ∷ deletes 1 20 ∷ takes 1 9 ∷ finishes 0 ∷ finishes 1 ∷ [];
  events = answered 0 21 Added ∷ answered 1 12 (Removed 200) ∷ [];
  taken = 3;
  saves = 2;
  chain = at 2 10 ∷ at 4 30 ∷ [];
}

-- A flag set between lines 6 and 11 of an insert: line 11 fails, line 16 helps, 17, 19, and the second try succeeds.
abbrev flag_between_6_and_11 : Worked
flag_between_6_and_11 = record {
  start = save 10 100 ∷ [];
  script = inserts 0 5 50 ∷ takes 0 3 ∷ deletes 1 10 ∷ takes 1 3 ∷ finishes 0 ∷ finishes 1 ∷ [];
  events = answered 0 15 Added ∷ answered 1 7 (Removed 100) ∷ [];
  taken = 2;
  saves = 1;
  chain = at 3 5 ∷ [];
}

-- Line 11 fails on a flag that stands for another row than the one expected.
abbrev flag_for_another_row : Worked
flag_for_another_row = record {
  start = [];
  script = inserts 0 20 200 ∷ takes 0 3 ∷ inserts 1 10 100 ∷ finishes 1 ∷ deletes 1 10 ∷ takes 1 3 ∷ finishes 0 ∷ finishes 1
      ∷ [];
  events = answered 1 4 Added ∷ answered 0 15 Added ∷ answered 1 7 (Removed 100) ∷ [];
  taken = 2;
  saves = 1;
  chain = at 2 20 ∷ [];
}

-- Line 6 of an insert meets a flag: line 8 helps, then line 19 at once (no line 17).
abbrev flag_at_6 : Worked
flag_at_6 = record {
  start = save 10 100 ∷ [];
  script = deletes 1 10 ∷ takes 1 3 ∷ inserts 0 5 50 ∷ finishes 0 ∷ finishes 1 ∷ [];
  events = answered 0 13 Added ∷ answered 1 7 (Removed 100) ∷ [];
  taken = 2;
  saves = 1;
  chain = at 3 5 ∷ [];
}

-- Line 6 of an insert meets a flag that stands for another row than the one that its search found: line 8 helps that row.
abbrev flag_at_6_for_another_row : Worked
flag_at_6_for_another_row = record {
  start = [];
  script = inserts 0 20 200 ∷ takes 0 2 ∷ inserts 1 10 100 ∷ finishes 1 ∷ deletes 1 10 ∷ takes 1 3 ∷ finishes 0 ∷ finishes 1
      ∷ [];
  events = answered 1 4 Added ∷ answered 0 13 Added ∷ answered 1 7 (Removed 100) ∷ [];
  taken = 2;
  saves = 1;
  chain = at 2 20 ∷ [];
}

-- Duplicate at line 20: the held row is given back, and the next insert takes it.
abbrev duplicate_at_20 : Worked
duplicate_at_20 = record {
  start = [];
  script = inserts 0 5 50 ∷ takes 0 3 ∷ inserts 1 5 51 ∷ finishes 1 ∷ finishes 0 ∷ inserts 1 7 70 ∷ finishes 1 ∷ searches 0 5
      ∷ finishes 0 ∷ [];
  events = answered 1 4 Added ∷ answered 0 8 Duplicate ∷ answered 1 6 Added ∷ answered 0 3 (Found 51) ∷ [];
  taken = 2;
  saves = 2;
  chain = at 3 5 ∷ at 2 7 ∷ [];
}

-- A row held by an unfinished insert counts as not free and is not on the chain.
abbrev held_row_off_the_chain : Worked
held_row_off_the_chain = record {
  start = [];
  script = inserts 0 5 50 ∷ takes 0 2 ∷ [];
  events = [];
  taken = 1;
  saves = 0;
  chain = [];
}

-- Two inserts at one place: line 11 fails, line 17 reads 0, line 19, and the second try succeeds.
abbrev insert_between : Worked
insert_between = record {
  start = [];
  script = inserts 0 20 200 ∷ takes 0 3 ∷ inserts 1 10 100 ∷ finishes 1 ∷ finishes 0 ∷ [];
  events = answered 1 4 Added ∷ answered 0 10 Added ∷ [];
  taken = 2;
  saves = 2;
  chain = at 3 10 ∷ at 2 20 ∷ [];
}

-- Line 19 starts at prev and not at the head.
abbrev line_19_from_prev : Worked
line_19_from_prev = record {
  start = save 10 100 ∷ [];
  script = inserts 0 20 200 ∷ takes 0 5 ∷ inserts 1 30 300 ∷ finishes 1 ∷ finishes 0 ∷ [];
  events = answered 1 6 Added ∷ answered 0 10 Added ∷ [];
  taken = 3;
  saves = 3;
  chain = at 2 10 ∷ at 3 20 ∷ at 4 30 ∷ [];
}

-- Line 6 of an insert reads a marked predecessor: line 11 is tried and fails all the same.
abbrev marked_at_6 : Worked
marked_at_6 = record {
  start = save 10 100 ∷ [];
  script = inserts 0 20 200 ∷ takes 0 4 ∷ deletes 1 10 ∷ finishes 1 ∷ finishes 0 ∷ [];
  events = answered 1 10 (Removed 100) ∷ answered 0 12 Added ∷ [];
  taken = 2;
  saves = 1;
  chain = at 3 20 ∷ [];
}

-- The first search of an insert takes a marked row off the chain; the same key is Added in a new row.
abbrev marked_on_the_way : Worked
marked_on_the_way = record {
  start = save 10 100 ∷ [];
  script = deletes 1 10 ∷ takes 1 7 ∷ inserts 0 10 101 ∷ finishes 0 ∷ finishes 1 ∷ [];
  events = answered 0 11 Added ∷ answered 1 10 (Removed 100) ∷ [];
  taken = 2;
  saves = 1;
  chain = at 3 10 ∷ [];
}

-- Line 11 fails on a predecessor marked with another right; line 19 walks over the row come in between.
abbrev marked_with_another_right : Worked
marked_with_another_right = record {
  start = save 10 100 ∷ [];
  script = inserts 0 30 300 ∷ takes 0 5 ∷ inserts 1 20 200 ∷ finishes 1 ∷ deletes 1 10 ∷ finishes 1 ∷ finishes 0 ∷ [];
  events = answered 1 6 Added ∷ answered 1 10 (Removed 100) ∷ answered 0 14 Added ∷ [];
  taken = 3;
  saves = 2;
  chain = at 4 20 ∷ at 3 30 ∷ [];
}

unfoldable pub insert_schedules : List Worked
insert_schedules = two_backlinks ∷ one_backlink ∷ flag_between_6_and_11 ∷ flag_for_another_row ∷ flag_at_6
    ∷ flag_at_6_for_another_row ∷ duplicate_at_20 ∷ held_row_off_the_chain ∷ insert_between ∷ line_19_from_prev ∷ marked_at_6
    ∷ marked_on_the_way ∷ marked_with_another_right ∷ []
