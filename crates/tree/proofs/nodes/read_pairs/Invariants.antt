-- `read_pairs` meets its contract: the pairs of the nodes up to u are written.
-- Assumes nothing.
use Rattle.tree.specs.Steps.{Pairs}
use Rattle.tree.proofs.nodes.read_pairs.Given as goal

abbrev pub invariant-loop-u : goal.invariant-loop-u
invariant-loop-u l = Pairs l.from l.u l.nodes l.pairs
