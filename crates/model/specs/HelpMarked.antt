-- HelpMarked(prev, del), figure 3, which SearchFrom calls at its line 5 and HelpFlagged at its line 4.
use Rattle.std.specs.Prelude.{ℕ, true, false, List}
use Rattle.model.specs.State.{succ_of}
use Rattle.model.specs.Cas.{succ_at, cas}
use Rattle.model.specs.declared.Row.{Row}
use Rattle.model.specs.declared.Write.{Write}

-- Line 1 reads del.right.
unfoldable pub help_marked_1 : List Row → ℕ → ℕ
help_marked_1 rows del = (succ_at rows del).right

-- Line 2: C&S prev from (del,0,1) to (right,0,0).
unfoldable pub help_marked_2 : List Row → ℕ → ℕ → ℕ → Write
help_marked_2 rows prev del right = cas rows prev (succ_of del false true) (succ_of right false false)
