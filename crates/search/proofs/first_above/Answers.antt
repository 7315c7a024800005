-- `first_above` meets its contract: the place at which it stops is the first whose byte is above the limit.
-- Assumes nothing.
use Rattle.std.proofs.Common.{rules, arith, tests, sym, ap}
use Rattle.std.proofs.lemmas.List.{get_or_read}
use Rattle.search.specs.Places.{first}
use Rattle.search.specs.Places.Laws.{free_none, free_more, places_none, places_first}
use Rattle.search.proofs.first_above.Goals as goal

pub loop-i-init : goal.loop-i-init
loop-i-init c = (search rules, free_none)

pub returns-then-limit-bytes : goal.returns-then-limit-bytes
returns-then-limit-bytes c =
    let l = c.loop-i in
    sym (ap first (places_first l.invariant.1 l.invariant.0 (search rules) (grind (arith, tests, get_or_read))))

pub loop-i-preserved : goal.loop-i-preserved
loop-i-preserved c =
    let l = c.loop-i in
    (omega arith, free_more l.invariant.1 (grind (arith, tests, get_or_read)))

pub returns : goal.returns
returns c = sym (ap first (places_none c.loop-i.invariant.1 (search rules)))
