-- Each four words of the table are those of a row.
use Rattle.std.proofs.Common.{◌∙◌, rules, tests, arith}
use Rattle.std.proofs.lemmas.Iterator.{YieldsList-from_slice}
use Rattle.std.proofs.lemmas.Iterator.Search.{all_from_yields_List}
use Rattle.packed.specs.Tables.{packs_four, all_pack}
use Rattle.packed.proofs.whole.packs_rows.Goals as goal

pub returns : goal.returns
returns c =
    all_from_yields_List packs_four _ _ _ c.all.ensures.ran (YieldsList-from_slice c.as_chunks.result.0.now cc) (λ x b q k. search (rules, tests))
    ∙ all_pack c.args.words.now _ (omega arith) c.as_chunks.ensures.front
