-- A cycle by value advances once.
-- Assumes nothing.
use Rattle.std.specs.Prelude.{◌≡◌, refl}
use Rattle.tracer.specs.Trace.{trace, end, runs, leaves}
use Rattle.tree.proofs.Tree.cycle.Code as code

-- Read off the code: a cycle by value advances once
one_advance : trace (code.function).body end ≡ runs "tree::Tree::advance" (leaves end)
one_advance = refl
