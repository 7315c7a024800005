-- A cycle by value advances once.
-- Assumes nothing.
use Rattle.std.specs.Prelude.{◌≡◌, refl}
use Rattle.tracer.specs.Trace.{trace, end, runs, leaves}
use Rattle.packed_scan.proofs.PackedScan.cycle.Code as code

-- Read off the code: a cycle by value advances once
one_advance : trace (code.function).body end ≡ runs "packed_scan::PackedScan::advance" (leaves end)
one_advance = refl
