-- In a reached state no call is refused with 4 or 5: the state is well formed, and no line would push a ninth pending help.
use Rattle.std.specs.Prelude.{◌≢◌, List}
use Rattle.order.proofs.Reached.{reached}
use Rattle.order.proofs.EightHelps.{no_ninth}
use Rattle.kept.specs.WellFormedKept.{reached_well_formed}
use Rattle.kept.specs.Conditions.{clash}
use Rattle.kept.specs.Ways.{refused_because}
use Rattle.model.specs.State.{empty_catalogue}
use Rattle.model.specs.Run.{call, run}
use Rattle.model.specs.declared.Refusal.TheVariants.{NotWellFormed, NinthHelp}
use Rattle.std.specs.Prelude.{Err}
use Rattle.model.specs.declared.Call.{Call}

pub never_ninth_help : (calls : List Call) (x : Call) → (call (run empty_catalogue calls) x).verdict ≢ Err NinthHelp
never_ninth_help calls x refused =
    let pushes = refused_because (run empty_catalogue calls) x NinthHelp refused in
    clash pushes.ninth (no_ninth (reached calls) pushes.worker pushes.busy)

pub never_not_well_formed : (calls : List Call) (x : Call) → (call (run empty_catalogue calls) x).verdict ≢ Err NotWellFormed
never_not_well_formed calls x refused =
    clash (reached_well_formed calls) (refused_because (run empty_catalogue calls) x NotWellFormed refused)
