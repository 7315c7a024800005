-- `join_at` meets its contract: up to position p the codes are joined, from there on they are as before.
-- Assumes nothing.
use lib.Count.{ones}
use Rattle.std.proofs.Common.{◌≡◌, ℕ, ◌-◌, ◌<◌, ◌≤◌, length, get_or}
use Rattle.std.specs.List.{list_any}
use Rattle.rules.specs.Lists.{range}
use Rattle.rules.specs.Thermometer.{cuts}
use Rattle.rules.specs.KoggeStone.{joined}
use Rattle.rules.proofs.Thermometer.Cuts.{Reach}
use Rattle.kogge_stone.proofs.network.join_at.Given as goal

abbrev pub invariant-loop-p : goal.invariant-loop-p
invariant-loop-p l = record {
  done : (k : ℕ) → k < l.p → k < length l.before → get_or l.codes k 0 ≡ get_or (joined (ones l.picks.code) l.distance l.before) k 0;
  kept : (k : ℕ) → l.p ≤ k → get_or l.codes k 0 ≡ get_or l.before k 0;
  within : l.p - l.distance ≤ length l.before - l.distance;
  reaches : Reach (ones l.picks.code) (list_any (λ p. cuts (ones l.picks.code) (get_or l.before (p - l.distance) 0) (get_or l.before p 0)) (range l.distance (l.p - l.distance))) l.reach;
}
