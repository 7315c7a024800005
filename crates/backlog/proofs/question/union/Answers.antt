-- `union` meets its contract: what is or'ed only grows.
-- Assumes nothing.
use Rattle.std.proofs.Common.{rules, tests, bit_or}
use Rattle.std.proofs.lemmas.Iterator.{YieldsList-from_slice}
use Rattle.std.proofs.lemmas.Iterator.Consumers.{fold_from_yields_List}
use Rattle.backlog.proofs.Union.{each_le}
use Rattle.backlog.proofs.question.union.Goals as goal

pub returns : goal.returns
returns c =
    let s = c.args.numbers.now in
    let is = fold_from_yields_List _ bit_or 0 _ c.fold.ensures.ran (YieldsList-from_slice s c.iter.ensures.rest) (λ a x b q k. search (rules, tests)) in
    λ i l. rw is (each_le 0 s i l)
