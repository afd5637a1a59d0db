-- What P1 to P10 never run, as a second table under the same statement. A request that runs to its finish alone does so in one turn.
use Rattle.std.specs.Prelude.{refl, List, ◌++◌}
use Rattle.model.proofs.Worked.{Worked, in_turns, Right, outcomes, claims, outcome_of}
use Rattle.model.proofs.Worked.SearchSchedules.{search_schedules}
use Rattle.model.proofs.Worked.InsertSchedules.{insert_schedules}
use Rattle.model.proofs.Worked.DeleteSchedules.{delete_schedules}
use Rattle.model.proofs.Worked.HelpSchedules.{help_schedules}
use Rattle.model.proofs.Worked.EdgeSchedules.{edge_schedules}

pub second_table : List Worked
second_table = search_schedules ++ insert_schedules ++ delete_schedules ++ help_schedules ++ edge_schedules

pub second_table_right : Right in_turns second_table
unfolding outcomes claims outcome_of second_table search_schedules insert_schedules delete_schedules help_schedules edge_schedules
second_table_right = refl
