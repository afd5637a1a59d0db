-- One row more is packed, and at the end all are.
use Rattle.std.proofs.Common.{◌≡◌, length, refl, arith}
use Rattle.packed.specs.Tables.{none_yet, more_packed, all_packed, none_packed}
use Rattle.packed.proofs.whole.pack.Goals as goal

pub returns-then-words-ne512 : goal.returns-then-words-ne512
returns-then-words-ne512 c = none_packed c.args.state c.args.words.now c.if-words-ne512.true

pub loop-i-init : goal.loop-i-init
loop-i-init c = none_yet _ _ c.if-words-ne512.false

pub loop-i-preserved : goal.loop-i-preserved
loop-i-preserved c =
    let before = c.loop-i.invariant in
    let number : length c.args.state.rows ≡ 128 = omega arith in
    more_packed c.loop-i.words c.loop-i.i _ c.loop-i-test.true before.size c.args.state.rows _ _ number refl before
    c.store_row.ensures.0 c.store_row.ensures.1

pub returns : goal.returns
returns c =
    let number : length c.args.state.rows ≡ 128 = omega arith in
    all_packed c.args.state c.args.words.now c.loop-i.words c.if-words-ne512.false number c.loop-i.i (omega arith) c.loop-i.invariant
