-- The thermometer arbiter lends its state, and counts nothing.
-- Assumes nothing.
use Rattle.std.specs.Prelude.{◌≡◌, refl}
use Rattle.tracer.specs.Trace.{trace, end, leaves}
use Rattle.thermometer.proofs.ThermometerRoundRobin.state.Code as code

-- Read off the code: the state is lent, and nothing else
state_lent : trace (code.function).body end ≡ leaves end
state_lent = refl
