-- What a read gives stands behind what was read before.
use Rattle.std.proofs.Common.{◌≡◌, ℕ, ◌+◌, ◌≤◌, ◌++◌, List, length, take, ◌∙◌, sym, subst, arith, rules, length-take-le}
use Rattle.std.proofs.Math.Seq.{take-add}
use Rattle.std.proofs.lemmas.List.{take_at, drop_at, take-append-le}
use Rattle.std.specs.Io.KnownBytes.{Consumes}
use Rattle.std.proofs.KnownBytes.{Consumes-trans}
use Rattle.printer.proofs.input.read_full.Goals as goal

-- the first `done` bytes of old, and behind them n of those that were read, before whatever
joined : (done n : ℕ) (old read rest : List ℕ) → done ≤ length old → n ≤ length read
    → take done old ++ take n read ≡ take (done + n) (take done old ++ (read ++ rest))
joined done n old read rest inside some =
    let size : length (take done old) ≡ done = length-take-le done old inside in
    sym (
    take-add done n (take done old ++ (read ++ rest))
    ∙ rw (take_at (take done old) (read ++ rest) done size, drop_at (take done old) (read ++ rest) done size, take-append-le n read rest some)
    )

pub loop-done-preserved : goal.loop-done-preserved
loop-done-preserved g c =
    let before = c.loop-done.invariant in
    let read = c.in_ok-n.ensures in (
      search rules,
      search rules,
      subst (Consumes _ _) (joined c.loop-done.done c.in_ok-n.n c.loop-done.buffer c.read.new.buf _ before.0 (omega (arith, read.bound)))
          (Consumes-trans _ _ _ _ _ before.2 read.bytes.0),
    )
