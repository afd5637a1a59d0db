-- The loop stops at the first row that is free, or past the last.
use Rattle.std.proofs.Common.{◌≡◌, ◌∙◌, sym, ap, refl, arith, rules, true, false}
use Rattle.accesses.specs.LowestFree.{free_more, free_stop, free_done}
use Rattle.model.specs.Insert.{lowest_free, is_free}
use Rattle.model.specs.declared.Row.{Row}
use Rattle.accesses.proofs.free_rows.lowest_free.Goals as goal

pub loop-i-init : goal.loop-i-init
unfolding lowest_free
loop-i-init g c = refl

pub returns-then-eq : goal.returns-then-eq
returns-then-eq g c =
    let free : is_free c.row.result.standing ≡ true = search rules in
    sym (c.loop-i.invariant ∙ free_stop (g.T.Table.rows c.args.table.now) c.loop-i.i (omega arith) (ap (λ (r : Row). is_free r.standing) (sym c.row.ensures.row) ∙ free))

pub loop-i-preserved : goal.loop-i-preserved
loop-i-preserved g c =
    let taken : is_free c.row.result.standing ≡ false = search rules in
    c.loop-i.invariant ∙ free_more (g.T.Table.rows c.args.table.now) c.loop-i.i (omega arith) (ap (λ (r : Row). is_free r.standing) (sym c.row.ensures.row) ∙ taken)

pub returns : goal.returns
returns g c =
    let rows = g.T.Table.rows c.args.table.now in
    let end : c.loop-i.i ≡ 128 = omega arith in
    sym (c.loop-i.invariant ∙ free_done rows c.loop-i.i (omega arith) ∙ end)
