-- A cycle decides once.
-- Assumes nothing.
use Rattle.std.specs.Prelude.{◌≡◌, refl}
use Rattle.tracer.specs.Trace.{trace, end, runs, leaves}
use Rattle.token_bus.proofs.TokenBus.advance.Code as code

-- Read off the code: a cycle decides once
one_arbitration : trace (code.function).body end ≡ runs "token_bus::TokenBus::arbitrate" (runs "arbiter::State::settle" (leaves end))
one_arbitration = refl
