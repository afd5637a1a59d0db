-- A call, and a turn, with every definition of the machine open, so that a closed one computes.
use Rattle.std.specs.Prelude.{ℕ}
use Rattle.model.specs.Step.{submit, step, step_worker, applied, ninth_help, worker_after, stacked, written, effect_of, line_effect, first_line}
use Rattle.model.specs.WellFormed.{well_formed, row_well, worker_well, named_is_held, holder_names, held_row, line_numbers, all_from}
use Rattle.model.specs.SearchFrom.{search_line, search_from_1, search_from_2, search_from_3_next_mark, search_from_3_curr_mark, search_from_3_curr_right, search_from_4, search_from_6, search_from_7, search_from_9, search_from_10, search_from_returns, reaches, search_2}
use Rattle.model.specs.Insert.{insert_line, insert_2, insert_4, insert_6, insert_10_11, insert_15, insert_17, insert_18, insert_20, lowest_free, lowest_free_from}
use Rattle.model.specs.Delete.{flag_line, delete_2, delete_7, try_flag_2, try_flag_4, try_flag_5, try_flag_9, try_flag_10, try_flag_12}
use Rattle.model.specs.HelpFlagged.{help_line, help_flagged_1, help_flagged_2, help_flagged_4_help_marked_2, help_flagged_returns, try_mark_2, try_mark_3, try_mark_6}
use Rattle.model.specs.HelpMarked.{help_marked_1, help_marked_2}
use Rattle.model.specs.Cas.{cas, same_succ, flagged_only}
use Rattle.model.specs.Order.{key_at_most, key_below, has_key}
use Rattle.model.specs.Run.{call}
use Rattle.model.specs.Turn.{turn, turn_of, turn_from}
use Rattle.model.specs.declared.Worker.{Worker}
use Rattle.model.specs.declared.Catalogue.{Catalogue}
use Rattle.model.specs.declared.Stepped.{Stepped}
use Rattle.model.specs.declared.Turned.{Turned}
use Rattle.model.specs.declared.Call.{Call}

unfoldable pub computed : Catalogue → Call → Stepped
unfolding call submit step step_worker applied ninth_help worker_after stacked written effect_of line_effect first_line well_formed row_well worker_well named_is_held holder_names held_row line_numbers all_from search_line search_from_1 search_from_2 search_from_3_next_mark search_from_3_curr_mark search_from_3_curr_right search_from_4 search_from_6 search_from_7 search_from_9 search_from_10 search_from_returns reaches search_2 insert_line insert_2 insert_4 insert_6 insert_10_11 insert_15 insert_17 insert_18 insert_20 lowest_free lowest_free_from flag_line delete_2 delete_7 try_flag_2 try_flag_4 try_flag_5 try_flag_9 try_flag_10 try_flag_12 help_line help_flagged_1 help_flagged_2 help_flagged_4_help_marked_2 help_flagged_returns try_mark_2 try_mark_3 try_mark_6 help_marked_1 help_marked_2 cas same_succ flagged_only key_at_most key_below has_key
computed c x = call c x

unfoldable pub computed_turn : Catalogue → ℕ → ℕ → Worker → Turned
unfolding turn turn_of turn_from step_worker applied ninth_help worker_after stacked written effect_of line_effect well_formed row_well worker_well named_is_held holder_names held_row line_numbers all_from search_line search_from_1 search_from_2 search_from_3_next_mark search_from_3_curr_mark search_from_3_curr_right search_from_4 search_from_6 search_from_7 search_from_9 search_from_10 search_from_returns reaches search_2 insert_line insert_2 insert_4 insert_6 insert_10_11 insert_15 insert_17 insert_18 insert_20 lowest_free lowest_free_from flag_line delete_2 delete_7 try_flag_2 try_flag_4 try_flag_5 try_flag_9 try_flag_10 try_flag_12 help_line help_flagged_1 help_flagged_2 help_flagged_4_help_marked_2 help_flagged_returns try_mark_2 try_mark_3 try_mark_6 help_marked_1 help_marked_2 cas same_succ flagged_only key_at_most key_below has_key
computed_turn c w budget lent = turn c w budget lent
