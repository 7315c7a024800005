-- `join_levels` meets its contract: the buffer is done from node `low` on.
-- Assumes nothing.
use Rattle.std.proofs.Common.{◌≡◌, ◌-◌, length, drop}
use Rattle.rules.specs.Tree.{joined}
use Rattle.tree.specs.Steps.{max_pairs, DoneFrom}
use Rattle.tree.proofs.nodes.Nodes.join_levels.Given as goal

abbrev pub invariant-loop-low : goal.invariant-loop-low
invariant-loop-low l =
    (length l.pairs ≡ max_pairs)
    × (l.self.width ≡ l.initial.self.width) × (l.self.bytes.ghost_name ≡ l.initial.self.bytes.ghost_name)
    × DoneFrom l.low l.self.width (joined (l.initial.self.width - 1) (drop l.initial.self.width l.initial.self.bytes.now)) l.self.bytes.now

abbrev pub decreases-loop-low : goal.decreases-loop-low
decreases-loop-low l = l.low
