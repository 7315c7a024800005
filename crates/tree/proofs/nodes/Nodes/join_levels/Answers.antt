-- `join_levels` meets its contract: one more level is joined.
-- Assumes nothing.
use Rattle.std.proofs.Common.{◌∙◌, arith}
use Rattle.tree.proofs.Buffer.{done_level}
use Rattle.tree.proofs.nodes.Nodes.join_levels.Goals as goal

pub loop-low-preserved : goal.loop-low-preserved
loop-low-preserved c =
    let i = c.loop-low.invariant in
    let long = c.join_pairs.auto.nodes ∙ c.loop-low.self.long in (
      c.read_pairs.ensures.room,
      i.1,
      i.2,
      done_level _ _ _ _ _ _ (omega arith) (omega arith) (omega arith) long c.join_pairs.ensures i.3,
    )
