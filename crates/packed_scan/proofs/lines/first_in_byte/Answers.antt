-- A look into a byte asks for its first line.
-- Assumes nothing.
use Rattle.std.specs.Prelude.{◌≡◌, refl}
use mir.Syntax.{Opd}
use Rattle.tracer.specs.Trace.{trace, end, computes, runs, leaves, tries_option}
use Rattle.packed_scan.proofs.lines.first_in_byte.Code as code

-- Read off the code: a look into a byte asks for its first line, once
one_line : (on : Opd)
    × (trace (code.function).body end
    ≡ computes (computes (computes (runs "packed_scan::lines::first_line" (tries_option on (computes (computes (leaves end))))))))
one_line = (_, refl)
