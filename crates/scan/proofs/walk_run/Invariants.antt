-- `walk_run` meets its contract: up to the station found last the run is done.
-- Assumes nothing.
use Prim.Native.Nat.{◌≤◌}
use mathlib.Core.Path.{◌≡◌}
use lib.ListN.{length}
use Rattle.rules.specs.Walk.{Ran}
use Rattle.arbiter.specs.Decisions.{requested}
use Rattle.scan.proofs.walk_run.Given as goal

abbrev pub invariant-loop-count : goal.invariant-loop-count
invariant-loop-count l =
    (l.from ≤ l.i) × (l.i ≤ l.to) × (l.walk.count ≡ l.count) × (length l.grants ≡ length l.initial.grants)
    × Ran l.picks (requested l.requests) l.from l.i l.initial.walk.count l.initial.walk.last l.initial.grants l.walk.count l.walk.last l.grants
