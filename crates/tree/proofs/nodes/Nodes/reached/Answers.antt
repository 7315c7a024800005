-- The descent makes one choice at each node.
-- Assumes nothing.
use Rattle.std.specs.Prelude.{◌≡◌, refl}
use Rattle.tracer.specs.Trace.{trace, end, computes, runs, leaves, either, repeats}
use Rattle.tree.proofs.nodes.Nodes.reached.Code as code

-- Read off the code: a step of the descent is one choice
one_choice : trace (code.function).body end ≡ repeats (computes (either end (leaves end) (runs "tree::descent::child" end))) (computes (leaves end))
one_choice = refl
