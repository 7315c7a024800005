-- `first_nonzero` meets its contract: every byte that it passed is 0, whether alone or with seven others.
-- Assumes nothing.
use Prim.Native.Nat.{◌+◌, ◌-◌, ◌≤◌}
use lib.Dec.{ltb}
use Rattle.search.specs.Places.Laws.{Free}
use Rattle.search.proofs.first_nonzero.Given as goal

abbrev pub invariant-loop-i : goal.invariant-loop-i
invariant-loop-i l = (l.from ≤ l.i) × Free (ltb 0) l.from l.i l.bytes

abbrev pub decreases-loop-i : goal.decreases-loop-i
decreases-loop-i l = l.last + 8 - l.i
