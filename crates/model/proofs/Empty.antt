-- The empty catalogue is well formed, by computation.
use Rattle.std.specs.Prelude.{true, ◌≡◌, refl}
use Rattle.model.specs.State.{empty_catalogue}
use Rattle.model.specs.WellFormed.{all_from, line_numbers, held_row, holder_names, named_is_held, row_well, worker_well, well_formed}

pub empty_well_formed : well_formed empty_catalogue ≡ true
unfolding all_from line_numbers held_row holder_names named_is_held row_well worker_well well_formed
empty_well_formed = refl
