-- Schedules that take TryFlag through lines 2 to 13.
use Rattle.std.specs.Prelude.{List, [], ◌∷◌}
use Rattle.model.proofs.Worked.{Worked, save, searches, inserts, deletes, takes, finishes, answered, at}
use Rattle.model.specs.declared.Answer.TheVariants.{Found, Absent, Added, Removed}

-- TryFlag 4 fails with (target,0,1): false with prev, the second delete helps and is Absent.
abbrev try_flag_7 : Worked
try_flag_7 = record {
  start = save 10 100 ∷ [];
  script = deletes 0 10 ∷ takes 0 2 ∷ deletes 1 10 ∷ takes 1 3 ∷ finishes 0 ∷ finishes 1 ∷ [];
  events = answered 0 10 Absent ∷ answered 1 7 (Removed 100) ∷ [];
  taken = 1;
  saves = 0;
  chain = [];
}

-- TryFlag 2 finds (target,0,1) in its second round, on another predecessor.
abbrev try_flag_2_second_round : Worked
try_flag_2_second_round = record {
  start = save 20 200 ∷ [];
  script = deletes 0 20 ∷ takes 0 2 ∷ inserts 1 10 100 ∷ finishes 1 ∷ deletes 1 20 ∷ takes 1 5 ∷ finishes 0 ∷ finishes 1 ∷ [];
  events = answered 1 4 Added ∷ answered 0 15 Absent ∷ answered 1 9 (Removed 200) ∷ [];
  taken = 2;
  saves = 1;
  chain = at 3 10 ∷ [];
}

-- TryFlag 2 reads a flag that stands for another row than the target: line 4 is tried.
abbrev try_flag_2_another_row : Worked
try_flag_2_another_row = record {
  start = save 20 200 ∷ [];
  script = deletes 0 20 ∷ takes 0 1 ∷ inserts 1 10 100 ∷ finishes 1 ∷ deletes 1 10 ∷ takes 1 3 ∷ finishes 0 ∷ finishes 1 ∷ [];
  events = answered 1 4 Added ∷ answered 0 16 (Removed 200) ∷ answered 1 10 (Removed 100) ∷ [];
  taken = 2;
  saves = 0;
  chain = [];
}

-- TryFlag 9, 10: the predecessor is marked, its backlink leads to the head, the target is found again and Removed.
abbrev try_flag_10_walked : Worked
try_flag_10_walked = record {
  start = save 10 100 ∷ save 20 200 ∷ [];
  script = deletes 0 20 ∷ takes 0 4 ∷ deletes 1 10 ∷ finishes 1 ∷ finishes 0 ∷ [];
  events = answered 1 10 (Removed 100) ∷ answered 0 18 (Removed 200) ∷ [];
  taken = 2;
  saves = 0;
  chain = [];
}

-- TryFlag 10 leads to a row that is not the head; the other delete has just marked and is helped by the search of line 11.
abbrev try_flag_10_not_the_head : Worked
try_flag_10_not_the_head = record {
  start = save 10 100 ∷ save 20 200 ∷ save 30 300 ∷ [];
  script = deletes 0 30 ∷ takes 0 6 ∷ deletes 1 20 ∷ takes 1 9 ∷ finishes 0 ∷ finishes 1 ∷ [];
  events = answered 0 27 (Removed 300) ∷ answered 1 12 (Removed 200) ∷ [];
  taken = 3;
  saves = 1;
  chain = at 2 10 ∷ [];
}

-- TryFlag 9, 10 with two backlinks that stop at a row that is not the head.
abbrev try_flag_10_twice : Worked
try_flag_10_twice = record {
  start = save 10 100 ∷ save 20 200 ∷ save 30 300 ∷ save 40 400 ∷ save 50 500 ∷ [];
  script = deletes 0 50 ∷ takes 0 10 ∷ deletes 1 40 ∷ finishes 1 ∷ deletes 1 30 ∷ finishes 1 ∷ finishes 0 ∷ [];
  events = answered 1 16 (Removed 400) ∷ answered 1 14 (Removed 300) ∷ answered 0 26 (Removed 500) ∷ [];
  taken = 5;
  saves = 2;
  chain = at 2 10 ∷ at 3 20 ∷ [];
}

-- TryFlag 11 to 13: the target is gone, Absent with no row to help.
abbrev try_flag_13 : Worked
try_flag_13 = record {
  start = save 10 100 ∷ [];
  script = deletes 0 10 ∷ takes 0 1 ∷ deletes 1 10 ∷ finishes 1 ∷ finishes 0 ∷ [];
  events = answered 1 10 (Removed 100) ∷ answered 0 5 Absent ∷ [];
  taken = 1;
  saves = 0;
  chain = [];
}

-- TryFlag 11 to 13: a new row with the same key stands there; Absent, and the new row stays.
abbrev try_flag_13_same_key : Worked
try_flag_13_same_key = record {
  start = save 10 100 ∷ [];
  script = deletes 0 10 ∷ takes 0 1 ∷ deletes 1 10 ∷ finishes 1 ∷ inserts 1 10 101 ∷ finishes 1 ∷ finishes 0 ∷ searches 0 10
      ∷ finishes 0 ∷ [];
  events = answered 1 10 (Removed 100) ∷ answered 1 4 Added ∷ answered 0 5 Absent ∷ answered 0 3 (Found 101) ∷ [];
  taken = 2;
  saves = 1;
  chain = at 3 10 ∷ [];
}

-- TryFlag 11 starts at prev and not at the head.
abbrev line_11_from_prev : Worked
line_11_from_prev = record {
  start = save 10 100 ∷ save 30 300 ∷ [];
  script = deletes 0 30 ∷ takes 0 4 ∷ inserts 1 20 200 ∷ finishes 1 ∷ finishes 0 ∷ [];
  events = answered 1 6 Added ∷ answered 0 18 (Removed 300) ∷ [];
  taken = 3;
  saves = 2;
  chain = at 2 10 ∷ at 4 20 ∷ [];
}

-- TryFlag 4 fails on a predecessor flagged for another row; line 11 finds the new predecessor.
abbrev flagged_for_another_row : Worked
flagged_for_another_row = record {
  start = save 20 200 ∷ [];
  script = deletes 0 20 ∷ takes 0 2 ∷ inserts 1 10 100 ∷ finishes 1 ∷ deletes 1 10 ∷ takes 1 3 ∷ finishes 0 ∷ finishes 1 ∷ [];
  events = answered 1 4 Added ∷ answered 0 16 (Removed 200) ∷ answered 1 10 (Removed 100) ∷ [];
  taken = 2;
  saves = 0;
  chain = [];
}

-- The search of TryFlag 11 takes a marked row off the chain and ends with line 7 false at the target.
abbrev line_11_helps_marked : Worked
line_11_helps_marked = record {
  start = save 20 200 ∷ [];
  script = deletes 0 20 ∷ takes 0 2 ∷ inserts 1 10 100 ∷ finishes 1 ∷ deletes 1 10 ∷ takes 1 7 ∷ finishes 0 ∷ finishes 1 ∷ [];
  events = answered 1 4 Added ∷ answered 0 21 (Removed 200) ∷ answered 1 10 (Removed 100) ∷ [];
  taken = 2;
  saves = 0;
  chain = [];
}

-- The search of a delete takes a marked row off the chain and ends with line 7 false at the target.
abbrev line_1_helps_marked : Worked
line_1_helps_marked = record {
  start = save 10 100 ∷ save 20 200 ∷ [];
  script = deletes 1 10 ∷ takes 1 7 ∷ deletes 0 20 ∷ finishes 0 ∷ finishes 1 ∷ [];
  events = answered 0 17 (Removed 200) ∷ answered 1 10 (Removed 100) ∷ [];
  taken = 2;
  saves = 0;
  chain = [];
}

-- TryFlag 4 fails on a predecessor marked with another right; line 11 finds the new predecessor.
abbrev marked_with_another_right : Worked
marked_with_another_right = record {
  start = save 10 100 ∷ save 30 300 ∷ [];
  script = deletes 0 30 ∷ takes 0 4 ∷ inserts 1 20 200 ∷ finishes 1 ∷ deletes 1 10 ∷ finishes 1 ∷ finishes 0 ∷ [];
  events = answered 1 6 Added ∷ answered 1 10 (Removed 100) ∷ answered 0 20 (Removed 300) ∷ [];
  taken = 3;
  saves = 1;
  chain = at 4 20 ∷ [];
}

unfoldable pub delete_schedules : List Worked
delete_schedules = try_flag_7 ∷ try_flag_2_second_round ∷ try_flag_2_another_row ∷ try_flag_10_walked ∷ try_flag_10_not_the_head
    ∷ try_flag_10_twice ∷ try_flag_13 ∷ try_flag_13_same_key ∷ line_11_from_prev ∷ flagged_for_another_row
    ∷ line_11_helps_marked ∷ line_1_helps_marked ∷ marked_with_another_right ∷ []
