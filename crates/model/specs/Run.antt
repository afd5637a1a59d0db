-- A run of calls: submits and steps with any numbers, refused ones among them, one after another.
use Rattle.std.specs.Prelude.{List, [], ◌∷◌}
use Rattle.model.specs.Step.{submit, step}
use Rattle.model.specs.declared.Catalogue.{Catalogue}
use Rattle.model.specs.declared.Stepped.{Stepped}
use Rattle.model.specs.declared.Call.{Call}
use Rattle.model.specs.declared.Call.TheVariants.{Submit, Step}

unfoldable pub call : Catalogue → Call → Stepped
call c (Submit worker code key element) = submit c worker code key element
call c (Step worker) = step c worker

-- the state after the calls, the first of the list made first
unfoldable pub run : Catalogue → List Call → Catalogue
run c [] = c
run c (x ∷ xs) = run (call c x).state xs
