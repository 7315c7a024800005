-- A refused reading goes on as its refusal, and nothing else is done.
-- Assumes nothing.
use Rattle.std.specs.Prelude.{◌≡◌, refl}
use Rattle.tracer.specs.Trace.{trace, end, leaves}
use Rattle.arbiter.proofs.question.RefusalFromRefusedReading.from.Code as code

-- Read off the code: the refusal is handed on, and nothing else
refusal_handed_on : trace (code.function).body end ≡ leaves end
refusal_handed_on = refl
