-- A cycle by value advances once.
-- Assumes nothing.
use mathlib.Core.Path.{refl, ◌≡◌}
use Rattle.tracer.specs.Trace.{bound, trace, end, calls, runs, leaves}
use Rattle.arbiter.proofs.engine.RoundRobin.cycle.Code as code

-- Read off the code: a cycle by value advances once, and reads the state that is left
one_advance : trace (code.function).body end
    ≡ runs "arbiter::engine::RoundRobin::advance" (calls (bound 0 0) (leaves end))
one_advance = refl
