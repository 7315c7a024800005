-- The dispatcher decides once, and takes what is decided.
-- Assumes nothing.
use Rattle.std.specs.Prelude.{◌≡◌, refl}
use Rattle.tracer.specs.Trace.{trace, end, runs, leaves}
use Rattle.engines.proofs.Dispatch.advance.Code as code

-- Read off the code: one arbitration, and one state settled
one_arbitration : trace (code.function).body end ≡ runs "engines::Engine::arbitrate" (runs "arbiter::State::settle" (leaves end))
one_arbitration = refl
