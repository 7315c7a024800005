-- A cycle of the thermometer arbiter takes what is decided, and counts nothing again.
-- Assumes nothing.
use Rattle.std.specs.Prelude.{◌≡◌, refl}
use Rattle.tracer.specs.Trace.{trace, end, runs, leaves}
use Rattle.thermometer.proofs.ThermometerRoundRobin.settle.Code as code

-- Read off the code: the state settles what is decided, and nothing else
one_settling : trace (code.function).body end ≡ runs "arbiter::State::settle" (leaves end)
one_settling = refl
