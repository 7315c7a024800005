-- A cycle that is not refused grants once.
-- Assumes nothing.
use Rattle.std.specs.Prelude.{◌≡◌, refl, List}
use mir.Syntax.{Symbol, Opd}
use Rattle.tracer.specs.Trace.{named, trace, end, calls, runs, leaves, tries_result}
use Rattle.packed_scan.proofs.PackedScan.arbitrate.Code as code

-- Read off the code: where no question refuses, the grants are cleared and one is looked for
one_grant : (on : Opd) × (drops : List Symbol)
    × (trace (code.function).body end
    ≡ runs "packed_scan::question::cycle"
    (tries_result on (calls (named "core::slice::edits::slice+T::fill" drops) (runs "packed_scan::grant" (leaves end)))))
one_grant = (_, _, refl)
