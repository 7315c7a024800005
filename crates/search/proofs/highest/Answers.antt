-- `highest` meets its contract: the library's fold over a slice goes from byte to byte.
-- Assumes nothing.
use Rattle.std.proofs.Common.{◌∙◌, max, rules, tests}
use Rattle.std.proofs.lemmas.Iterator.{YieldsList-from_slice}
use Rattle.std.proofs.lemmas.Iterator.Consumers.{fold_from_yields_List}
use Rattle.search.specs.Places.Laws.{highest_fold}
use Rattle.search.proofs.highest.Goals as goal

pub returns : goal.returns
returns c =
    let s = c.args.bytes.now in
    fold_from_yields_List _ max 0 _ c.fold.ensures.ran (YieldsList-from_slice s c.iter.ensures.rest) (λ a x b q k. search (rules, tests)) ∙ highest_fold s
