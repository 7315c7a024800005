-- The theorem is the contract.
-- Assumes nothing.
use Rattle.rules.proofs.Tree.Laws.{nodes_hold_tree}
use Rattle.rules.proofs.theorems.nodes_hold_tree.Goals as goal

pub returns : goal.returns
returns c = nodes_hold_tree
