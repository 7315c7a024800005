-- `grant` takes no loop.
-- Assumes nothing.
use Rattle.std.specs.Prelude.{◌≡◌, refl}
use Rattle.tracer.specs.Trace.{trace, end, computes, runs, leaves}
use Rattle.kogge_stone.proofs.grant.Code as code

-- Read off the code: two comparisons and an and
no_loop : trace (code.function).body end ≡ computes (computes (computes (runs "core::convert::others::U8FromBool::from" (leaves end))))
no_loop = refl
