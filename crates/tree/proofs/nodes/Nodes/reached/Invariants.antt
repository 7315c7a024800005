-- `reached` meets its contract: each node that it comes to is on the way down.
-- Assumes nothing.
use Rattle.std.proofs.Common.{◌-◌, ◌*◌}
use Rattle.rules.proofs.Tree.Laws.{OnWay}
use Rattle.tree.proofs.nodes.Nodes.reached.Given as goal

abbrev pub invariant-loop-u : goal.invariant-loop-u
invariant-loop-u l = OnWay l.self.width l.self.bytes.now l.u

abbrev pub decreases-loop-u : goal.decreases-loop-u
decreases-loop-u l = 2 * l.self.width - l.u
