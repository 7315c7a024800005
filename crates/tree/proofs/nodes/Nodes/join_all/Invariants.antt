-- `join_all` meets its contract: the buffer is done from node u on.
-- Assumes nothing.
use Rattle.std.proofs.Common.{◌≡◌, ◌-◌, drop}
use Rattle.rules.specs.Tree.{joined}
use Rattle.tree.specs.Steps.{DoneFrom}
use Rattle.tree.proofs.nodes.Nodes.join_all.Given as goal

abbrev pub invariant-loop-u : goal.invariant-loop-u
invariant-loop-u l =
    (l.self.width ≡ l.initial.self.width) × (l.self.bytes.ghost_name ≡ l.initial.self.bytes.ghost_name)
    × DoneFrom l.u l.self.width (joined (l.low - 1) (drop l.low l.initial.self.bytes.now)) l.self.bytes.now
