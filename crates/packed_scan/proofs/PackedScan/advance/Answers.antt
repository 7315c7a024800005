-- A cycle decides once.
-- Assumes nothing.
use Rattle.std.specs.Prelude.{◌≡◌, refl}
use Rattle.tracer.specs.Trace.{trace, end, runs, leaves}
use Rattle.packed_scan.proofs.PackedScan.advance.Code as code

-- Read off the code: a cycle decides once
one_arbitration : trace (code.function).body end ≡ runs "packed_scan::PackedScan::arbitrate" (runs "arbiter::State::settle" (leaves end))
one_arbitration = refl
