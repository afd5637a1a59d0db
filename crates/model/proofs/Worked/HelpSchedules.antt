-- Schedules that take TryMark and HelpMarked through their failures, and the pending helps.
use Rattle.std.specs.Prelude.{List, [], ◌∷◌}
use Rattle.model.proofs.Worked.{Worked, save, searches, inserts, deletes, takes, finishes, answered, at}
use Rattle.model.specs.declared.Answer.TheVariants.{Absent, Added, Removed}

-- TryMark 3 fails because the row to be marked is flagged: one pending help, taken up again at line 6.
abbrev one_pending_help : Worked
one_pending_help = record {
  start = save 10 100 ∷ save 20 200 ∷ [];
  script = deletes 1 20 ∷ takes 1 5 ∷ deletes 0 10 ∷ finishes 0 ∷ finishes 1 ∷ [];
  events = answered 0 20 (Removed 100) ∷ answered 1 9 (Removed 200) ∷ [];
  taken = 2;
  saves = 0;
  chain = [];
}

-- Eight deletes on eight neighbours, all flagged: the last worker's help pushes seven pending helps.
abbrev seven_pending_helps : Worked
seven_pending_helps = record {
  start = save 80 800 ∷ save 70 700 ∷ save 60 600 ∷ save 50 500 ∷ save 40 400 ∷ save 30 300 ∷ save 20 200 ∷ save 10 100 ∷ [];
  script = deletes 0 80 ∷ takes 0 17 ∷ deletes 1 70 ∷ takes 1 15 ∷ deletes 2 60 ∷ takes 2 13 ∷ deletes 3 50 ∷ takes 3 11
      ∷ deletes 4 40 ∷ takes 4 9 ∷ deletes 5 30 ∷ takes 5 7 ∷ deletes 6 20 ∷ takes 6 5 ∷ deletes 7 10 ∷ takes 7 3 ∷ finishes 7
      ∷ finishes 6 ∷ finishes 5 ∷ finishes 4 ∷ finishes 3 ∷ finishes 2 ∷ finishes 1 ∷ finishes 0 ∷ [];
  events = answered 7 80 (Removed 100) ∷ answered 6 9 (Removed 200) ∷ answered 5 11 (Removed 300)
      ∷ answered 4 13 (Removed 400) ∷ answered 3 15 (Removed 500) ∷ answered 2 17 (Removed 600) ∷ answered 1 19 (Removed 700)
      ∷ answered 0 21 (Removed 800) ∷ [];
  taken = 8;
  saves = 0;
  chain = [];
}

-- After the pending help is taken up again at line 6 the row is already marked by another.
abbrev pending_help_already_marked : Worked
pending_help_already_marked = record {
  start = save 10 100 ∷ save 20 200 ∷ [];
  script = deletes 1 20 ∷ takes 1 5 ∷ deletes 0 10 ∷ takes 0 7 ∷ finishes 1 ∷ deletes 1 10 ∷ finishes 1 ∷ finishes 0 ∷ [];
  events = answered 1 12 (Removed 200) ∷ answered 1 9 Absent ∷ answered 0 14 (Removed 100) ∷ [];
  taken = 2;
  saves = 0;
  chain = [];
}

-- TryMark 3 fails on a flag that stands for a row come in between lines 2 and 3.
abbrev flag_for_a_new_row : Worked
flag_for_a_new_row = record {
  start = save 10 100 ∷ [];
  script = deletes 0 10 ∷ takes 0 6 ∷ inserts 1 20 200 ∷ finishes 1 ∷ deletes 1 20 ∷ takes 1 5 ∷ finishes 0 ∷ finishes 1 ∷ [];
  events = answered 1 6 Added ∷ answered 0 20 (Removed 100) ∷ answered 1 9 (Removed 200) ∷ [];
  taken = 2;
  saves = 0;
  chain = [];
}

-- TryMark 3 fails because an insert changed the right: line 6 reads 0 and it goes round again.
abbrev right_changed : Worked
right_changed = record {
  start = save 10 100 ∷ [];
  script = deletes 0 10 ∷ takes 0 6 ∷ inserts 1 20 200 ∷ finishes 1 ∷ finishes 0 ∷ [];
  events = answered 1 6 Added ∷ answered 0 13 (Removed 100) ∷ [];
  taken = 2;
  saves = 1;
  chain = at 3 20 ∷ [];
}

-- An insert changed the right, and another worker marks the row before line 6, which reads 1.
abbrev marked_before_line_6 : Worked
marked_before_line_6 = record {
  start = save 10 100 ∷ [];
  script = deletes 0 10 ∷ takes 0 6 ∷ inserts 1 20 200 ∷ finishes 1 ∷ takes 0 1 ∷ deletes 1 10 ∷ finishes 1 ∷ finishes 0 ∷ [];
  events = answered 1 6 Added ∷ answered 1 9 Absent ∷ answered 0 10 (Removed 100) ∷ [];
  taken = 2;
  saves = 1;
  chain = at 3 20 ∷ [];
}

-- TryMark 3 fails because the row is already marked: line 6 reads 1.
abbrev marked_at_line_3 : Worked
marked_at_line_3 = record {
  start = save 10 100 ∷ [];
  script = deletes 0 10 ∷ takes 0 6 ∷ deletes 1 10 ∷ finishes 1 ∷ finishes 0 ∷ [];
  events = answered 1 9 Absent ∷ answered 0 10 (Removed 100) ∷ [];
  taken = 1;
  saves = 0;
  chain = [];
}

-- HelpMarked at the end of a delete fails because prev itself was marked meanwhile.
abbrev help_marked_prev_marked : Worked
help_marked_prev_marked = record {
  start = save 10 100 ∷ save 20 200 ∷ [];
  script = deletes 0 20 ∷ takes 0 10 ∷ deletes 1 10 ∷ finishes 1 ∷ finishes 0 ∷ [];
  events = answered 1 17 (Removed 100) ∷ answered 0 12 (Removed 200) ∷ [];
  taken = 2;
  saves = 0;
  chain = [];
}

-- HelpMarked at the end of a delete fails because prev is flagged for another row by now; that flag stays.
abbrev help_marked_prev_flagged : Worked
help_marked_prev_flagged = record {
  start = save 10 100 ∷ save 20 200 ∷ [];
  script = deletes 0 10 ∷ takes 0 9 ∷ searches 1 10 ∷ finishes 1 ∷ deletes 1 20 ∷ takes 1 3 ∷ finishes 0 ∷ finishes 1 ∷ [];
  events = answered 1 8 Absent ∷ answered 0 10 (Removed 100) ∷ answered 1 10 (Removed 200) ∷ [];
  taken = 2;
  saves = 0;
  chain = [];
}

-- Line 8 of an insert with a pending help: after the help comes line 19.
abbrev pending_help_at_line_8 : Worked
pending_help_at_line_8 = record {
  start = save 10 100 ∷ save 20 200 ∷ [];
  script = deletes 1 20 ∷ takes 1 5 ∷ deletes 2 10 ∷ takes 2 3 ∷ inserts 0 5 50 ∷ finishes 0 ∷ finishes 1 ∷ finishes 2 ∷ [];
  events = answered 0 23 Added ∷ answered 1 9 (Removed 200) ∷ answered 2 7 (Removed 100) ∷ [];
  taken = 3;
  saves = 1;
  chain = at 4 5 ∷ [];
}

-- Line 16 of an insert with a pending help: after the help comes line 17.
abbrev pending_help_at_line_16 : Worked
pending_help_at_line_16 = record {
  start = save 10 100 ∷ save 20 200 ∷ [];
  script = inserts 0 5 50 ∷ takes 0 3 ∷ deletes 1 20 ∷ takes 1 5 ∷ deletes 2 10 ∷ takes 2 3 ∷ finishes 0 ∷ finishes 1
      ∷ finishes 2 ∷ [];
  events = answered 0 25 Added ∷ answered 1 9 (Removed 200) ∷ answered 2 7 (Removed 100) ∷ [];
  taken = 3;
  saves = 1;
  chain = at 4 5 ∷ [];
}

-- A second delete with a pending help: it helps both rows out and is Absent.
abbrev pending_help_of_a_second_delete : Worked
pending_help_of_a_second_delete = record {
  start = save 10 100 ∷ save 20 200 ∷ [];
  script = deletes 1 20 ∷ takes 1 5 ∷ deletes 2 10 ∷ takes 2 3 ∷ deletes 0 10 ∷ finishes 0 ∷ finishes 1 ∷ finishes 2 ∷ [];
  events = answered 0 19 Absent ∷ answered 1 9 (Removed 200) ∷ answered 2 7 (Removed 100) ∷ [];
  taken = 2;
  saves = 0;
  chain = [];
}

unfoldable pub help_schedules : List Worked
help_schedules = one_pending_help ∷ seven_pending_helps ∷ pending_help_already_marked ∷ flag_for_a_new_row ∷ right_changed
    ∷ marked_before_line_6 ∷ marked_at_line_3 ∷ help_marked_prev_marked ∷ help_marked_prev_flagged ∷ pending_help_at_line_8
    ∷ pending_help_at_line_16 ∷ pending_help_of_a_second_delete ∷ []
