-- `join_all` meets its contract: what is left of the network gives what the whole of it gives.
-- Assumes nothing.
use Prim.Native.Nat.{◌-◌, ◌≤◌}
use mathlib.Core.Path.{◌≡◌}
use lib.Count.{ones}
use lib.ListN.{length}
use Rattle.rules.specs.KoggeStone.{distances, levels, levels_cut}
use Rattle.rules.proofs.KoggeStone.Laws.{Left}
use Rattle.kogge_stone.specs.Steps.{Codes}
use Rattle.kogge_stone.proofs.network.join_all.Given as goal

abbrev pub invariant-loop-distance : goal.invariant-loop-distance
invariant-loop-distance l =
    (1 ≤ l.distance) × (length l.codes ≡ length l.initial.codes) × (length l.before ≡ length l.initial.codes) × Codes (ones l.picks.code) l.codes
    × Left (ones l.picks.code) (length l.initial.codes) l.distance l.codes (levels (ones l.picks.code) (distances (length l.initial.codes)) l.initial.codes)
    l.cut (levels_cut (ones l.picks.code) (distances (length l.initial.codes)) l.initial.codes)

abbrev pub decreases-loop-distance : goal.decreases-loop-distance
decreases-loop-distance l = length l.initial.codes - l.distance
