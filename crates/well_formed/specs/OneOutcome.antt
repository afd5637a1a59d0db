-- The contract of the public function determines its result: two outcomes that it allows are the same.
use Rattle.std.specs.Prelude.{Bool, ◌≡◌}
use Rattle.model.specs.WellFormed.{well_formed}
use Rattle.model.specs.declared.Catalogue.{Catalogue}

pub well_formed_once : (c : Catalogue) (r q : Bool) → r ≡ well_formed c → q ≡ well_formed c → r ≡ q
well_formed_once c r q one other = cc
