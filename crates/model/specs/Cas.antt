-- C&S on a row's successor. It compares all three parts, and its result is the old value.
use Rattle.std.specs.Prelude.{if◌then◌else◌, ℕ, Bool, true, false, not, ◌&&◌, List, eqb}
use Rattle.model.specs.State.{row_at}
use Rattle.model.specs.declared.Row.{Row}
use Rattle.model.specs.declared.Succ.{Succ}
use Rattle.model.specs.declared.Write.{Write}
use Rattle.model.specs.declared.Write.TheVariants.{NoRow, OneRow}

abbrev pub same_bit : Bool → Bool → Bool
same_bit true b = b
same_bit false b = not b

unfoldable pub same_succ : Succ → Succ → Bool
same_succ a b = eqb a.right b.right && same_bit a.mark b.mark && same_bit a.flag b.flag

-- an unmarked, flagged result: "(*, 0, 1)"
unfoldable pub flagged_only : Succ → Bool
flagged_only s = not s.mark && s.flag

abbrev pub with_succ : Row → Succ → Row
with_succ r s = record { key = r.key; element = r.element; backlink = r.backlink; succ = s; standing = r.standing }

-- the value that C&S at row i finds: its result
abbrev pub succ_at : List Row → ℕ → Succ
succ_at rows i = (row_at rows i).succ

-- what C&S at row i from `old` to `new` writes
unfoldable pub cas : List Row → ℕ → Succ → Succ → Write
cas rows i old new = if same_succ (succ_at rows i) old then OneRow i (with_succ (row_at rows i) new) else NoRow
