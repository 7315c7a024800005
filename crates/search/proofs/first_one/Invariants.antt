-- `first_one` meets its contract: no byte that it passed is 1.
-- Assumes nothing.
use Prim.Native.Nat.{◌-◌, ◌≤◌}
use lib.Dec.{eqb}
use lib.ListN.{length}
use Rattle.search.specs.Places.Laws.{Free}
use Rattle.search.proofs.first_one.Given as goal

abbrev pub invariant-loop-place : goal.invariant-loop-place
invariant-loop-place l = (l.from ≤ l.i) × Free (λ b. eqb b 1) l.from l.i l.bytes

abbrev pub decreases-loop-place : goal.decreases-loop-place
decreases-loop-place l = length l.bytes - l.i
