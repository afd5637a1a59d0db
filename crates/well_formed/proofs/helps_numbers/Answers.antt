use Rattle.std.proofs.Common.{◌∙◌, rules, tests}
use Rattle.std.proofs.lemmas.Iterator.{YieldsList-from_slice}
use Rattle.std.proofs.lemmas.Iterator.Consumers.{YieldsList-from_copied}
use Rattle.std.proofs.lemmas.Iterator.Search.{all_from_yields_List}
use Rattle.model.specs.WellFormed.{pending_numbers}
use Rattle.well_formed.proofs.Tests.{all_alike}
use Rattle.well_formed.proofs.helps_numbers.Goals as goal

pub returns : goal.returns
returns c =
    all_from_yields_List (pending_numbers 0) _ _ _ c.all.ensures.ran (YieldsList-from_copied (YieldsList-from_slice c.args.helps cc)) (λ x b q k. search (rules, tests)) ∙ all_alike (pending_numbers 0) 0 c.args.helps
