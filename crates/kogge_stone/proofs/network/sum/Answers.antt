-- `sum` takes no loop.
-- Assumes nothing.
use Rattle.std.specs.Prelude.{◌≡◌, refl}
use Rattle.tracer.specs.Trace.{trace, end, computes, runs, leaves}
use Rattle.kogge_stone.proofs.network.sum.Code as code

-- Read off the code: a sum is a product and two sums, of the two codes widened, without a loop or a condition
no_loop : trace (code.function).body end
    ≡ runs "core::convert::U16FromU8::from"
    (runs "core::convert::U16FromU8::from"
    (computes (runs "core::convert::U16FromU8::from" (computes (runs "core::convert::U16FromU8::from" (computes (leaves end)))))))
no_loop = refl
