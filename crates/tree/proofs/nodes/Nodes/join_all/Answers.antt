-- `join_all` meets its contract: one more node is joined.
-- Assumes nothing.
use Rattle.std.proofs.Common.{arith}
use Rattle.tree.proofs.Buffer.{done_node}
use Rattle.tree.proofs.nodes.Nodes.join_all.Goals as goal

pub loop-u-preserved : goal.loop-u-preserved
loop-u-preserved c =
    let i = c.loop-u.invariant in (i.0, i.1, done_node _ _ _ _ _ (omega arith) c.loop-u.self.long c.join.ensures i.2)
