-- What holds on every path holds on Err.
use Rattle.std.specs.Prelude.{Result, Ok, Err, OnErr}

pub held : {T E P : Type 0} (r : Result T E) → P → OnErr r P
held (Ok x) p = tt
held (Err e) p = p
