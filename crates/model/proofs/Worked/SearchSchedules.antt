-- Schedules that take SearchFrom through its lines 3 to 6.
use Rattle.std.specs.Prelude.{List, [], ◌∷◌}
use Rattle.model.proofs.Worked.{Worked, save, searches, deletes, takes, finishes, answered, at}
use Rattle.model.specs.declared.Answer.TheVariants.{Found, Absent, Removed}

-- A search on a removed row walks on through marked rows (SearchFrom 3, third read equal): Found, as it was there.
abbrev third_read_equal : Worked
third_read_equal = record {
  start = save 10 100 ∷ save 20 200 ∷ [];
  script = searches 0 20 ∷ takes 0 3 ∷ deletes 1 10 ∷ finishes 1 ∷ deletes 1 20 ∷ finishes 1 ∷ finishes 0 ∷ [];
  events = answered 1 10 (Removed 100) ∷ answered 1 10 (Removed 200) ∷ answered 0 7 (Found 200) ∷ [];
  taken = 2;
  saves = 0;
  chain = [];
}

-- SearchFrom 3, third read different: the row was unlinked before curr was marked, so line 4 and line 6 follow.
abbrev third_read_other : Worked
third_read_other = record {
  start = save 10 100 ∷ save 20 200 ∷ [];
  script = searches 0 20 ∷ takes 0 3 ∷ deletes 1 20 ∷ finishes 1 ∷ deletes 1 10 ∷ finishes 1 ∷ finishes 0 ∷ [];
  events = answered 1 12 (Removed 200) ∷ answered 1 10 (Removed 100) ∷ answered 0 9 Absent ∷ [];
  taken = 2;
  saves = 0;
  chain = [];
}

-- SearchFrom 4 reads another row: no help, straight to line 6; line 3 reads the tail and line 7 is false.
abbrev line_4_other_then_tail : Worked
line_4_other_then_tail = record {
  start = save 10 100 ∷ [];
  script = searches 0 10 ∷ takes 0 1 ∷ deletes 1 10 ∷ finishes 1 ∷ finishes 0 ∷ [];
  events = answered 1 10 (Removed 100) ∷ answered 0 6 Absent ∷ [];
  taken = 1;
  saves = 0;
  chain = [];
}

-- SearchFrom 4 reads another row and the walk goes on from line 6 (line 7 true).
abbrev line_4_other_then_on : Worked
line_4_other_then_on = record {
  start = save 10 100 ∷ save 20 200 ∷ [];
  script = searches 0 20 ∷ takes 0 1 ∷ deletes 1 10 ∷ finishes 1 ∷ finishes 0 ∷ [];
  events = answered 1 10 (Removed 100) ∷ answered 0 7 (Found 200) ∷ [];
  taken = 2;
  saves = 1;
  chain = at 3 20 ∷ [];
}

-- SearchFrom goes round lines 3 to 6 twice: the row read at line 6 is marked too.
abbrev inner_loop_twice : Worked
inner_loop_twice = record {
  start = save 10 100 ∷ save 20 200 ∷ [];
  script = searches 0 20 ∷ takes 0 1 ∷ deletes 1 10 ∷ finishes 1 ∷ deletes 1 20 ∷ takes 1 7 ∷ finishes 0 ∷ finishes 1 ∷ [];
  events = answered 1 10 (Removed 100) ∷ answered 0 12 Absent ∷ answered 1 10 (Removed 200) ∷ [];
  taken = 2;
  saves = 0;
  chain = [];
}

-- HelpMarked inside a search comes too late: its C&S fails and the search goes on at line 6.
abbrev help_marked_too_late : Worked
help_marked_too_late = record {
  start = save 10 100 ∷ [];
  script = deletes 1 10 ∷ takes 1 7 ∷ searches 0 10 ∷ takes 0 4 ∷ finishes 1 ∷ finishes 0 ∷ [];
  events = answered 1 10 (Removed 100) ∷ answered 0 8 Absent ∷ [];
  taken = 1;
  saves = 0;
  chain = [];
}

-- HelpMarked inside a search fails because curr itself was marked meanwhile; the search goes on from the removed row.
abbrev help_marked_curr_marked : Worked
help_marked_curr_marked = record {
  start = save 10 100 ∷ save 20 200 ∷ [];
  script = deletes 1 20 ∷ takes 1 9 ∷ searches 0 20 ∷ takes 0 6 ∷ finishes 1 ∷ deletes 1 10 ∷ finishes 1 ∷ finishes 0 ∷ [];
  events = answered 1 12 (Removed 200) ∷ answered 1 10 (Removed 100) ∷ answered 0 10 Absent ∷ [];
  taken = 2;
  saves = 0;
  chain = [];
}

-- HelpMarked inside a search fails because curr is flagged for another row by now; that flag stays.
abbrev help_marked_curr_flagged : Worked
help_marked_curr_flagged = record {
  start = save 10 100 ∷ save 20 200 ∷ [];
  script = deletes 1 10 ∷ takes 1 7 ∷ searches 0 10 ∷ takes 0 5 ∷ finishes 1 ∷ deletes 1 20 ∷ takes 1 3 ∷ finishes 0
      ∷ finishes 1 ∷ [];
  events = answered 1 10 (Removed 100) ∷ answered 0 8 Absent ∷ answered 1 10 (Removed 200) ∷ [];
  taken = 2;
  saves = 0;
  chain = [];
}

unfoldable pub search_schedules : List Worked
search_schedules = third_read_equal ∷ third_read_other ∷ line_4_other_then_tail ∷ line_4_other_then_on ∷ inner_loop_twice
    ∷ help_marked_too_late ∷ help_marked_curr_marked ∷ help_marked_curr_flagged ∷ []
