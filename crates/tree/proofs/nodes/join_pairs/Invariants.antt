-- `join_pairs` meets its contract: the nodes up to u are joined.
-- Assumes nothing.
use Rattle.tree.specs.Steps.{Level}
use Rattle.tree.proofs.nodes.join_pairs.Given as goal

abbrev pub invariant-loop-u : goal.invariant-loop-u
invariant-loop-u l = Level l.from l.u l.initial.nodes l.nodes
