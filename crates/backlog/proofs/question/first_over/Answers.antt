-- `first_over` meets its contract: the first of a range at which the sum is above the most is the first such place.
-- Assumes nothing.
use Rattle.std.proofs.Common.{◌≡◌, true, false, ltb, get_or, arith, rules, tests}
use Rattle.std.proofs.lemmas.Iterator.{first_from_Range}
use Rattle.std.proofs.lemmas.List.{get_or_read}
use Rattle.search.specs.Places.Laws.{first_place}
use Rattle.backlog.specs.Calls.{arrived, max_waiting}
use Rattle.backlog.specs.Calls.Laws.{arrived_length, arrived_at}
use Rattle.backlog.proofs.question.first_over.Goals as goal

pub returns : goal.returns
returns c =
    let a = c.args in
    let numbers = arrived a.waiting.now a.arrivals.now in
    let over = ltb max_waiting in
    first_place over 0 numbers _ (rw (← arrived_length a.waiting.now a.arrivals.now) at (first_from_Range _ _ _ c.find.result (λ i. over (get_or numbers i 0) ≡ true) (λ i. over (get_or numbers i 0) ≡ false) c.find.ensures.ran
    (λ x q k. grind (arith, tests, get_or_read, arrived_at a.waiting.now a.arrivals.now c.requires x))
    (λ x q k. (search rules, grind (arith, tests, get_or_read, arrived_at a.waiting.now a.arrivals.now c.requires x)))))
