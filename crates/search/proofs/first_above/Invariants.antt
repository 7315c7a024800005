-- `first_above`: every byte that it passed is within the limit.
-- Assumes nothing.
use Rattle.std.proofs.Common.{◌≤◌, ltb}
use Rattle.search.specs.Places.Laws.{Free}
use Rattle.search.proofs.first_above.Given as goal

abbrev pub invariant-loop-i : goal.invariant-loop-i
invariant-loop-i l = (l.from ≤ l.i) × Free (ltb l.limit) l.from l.i l.bytes
