-- What a line does, as an effect: the next line, the rows written, and what becomes of the pending helps. And the calls that the
-- routines make of each other, each as the line at which the called routine begins.
use Rattle.std.specs.Prelude.{ℕ}
use Rattle.model.specs.declared.Answer.{Answer}
use Rattle.model.specs.declared.Effect.{Effect}
use Rattle.model.specs.declared.Write.{Write}
use Rattle.model.specs.declared.Write.TheVariants.{NoRow}
use Rattle.model.specs.declared.Stack.TheVariants.{Keep}
use Rattle.model.specs.declared.SearchCaller.{SearchCaller}
use Rattle.model.specs.declared.SearchLine.TheVariants.{SearchFrom1}
use Rattle.model.specs.declared.FlagLine.TheVariants.{TryFlag2}
use Rattle.model.specs.declared.HelpCaller.{HelpCaller}
use Rattle.model.specs.declared.HelpLine.TheVariants.{HelpFlagged1}
use Rattle.model.specs.declared.Line.{Line}
use Rattle.model.specs.declared.Line.TheVariants.{Idle, Search, Flag, Help}

-- a read: nothing is written
abbrev pub go : Line → Effect
go line = record { line = line; write = NoRow; stack = Keep }

abbrev pub go_writing : Write → Line → Effect
go_writing write line = record { line = line; write = write; stack = Keep }

-- the request is finished
abbrev pub finish : Answer → Effect
finish a = go (Idle a)

-- SearchFrom(key, curr)
abbrev pub call_search_from : ℕ → ℕ → ℕ → SearchCaller → Line
call_search_from key element curr caller =
    Search SearchFrom1 (record { key = key; element = element; curr = curr; caller = caller })

-- TryFlag(prev, target)
abbrev pub call_try_flag : ℕ → ℕ → ℕ → Line
call_try_flag key prev target = Flag TryFlag2 (record { key = key; prev = prev; target = target })

-- HelpFlagged(prev, del)
abbrev pub call_help_flagged : ℕ → ℕ → ℕ → ℕ → HelpCaller → Line
call_help_flagged key element prev del caller =
    Help HelpFlagged1 (record { key = key; element = element; prev = prev; del = del; caller = caller })
