-- The search goes by bytes.
-- Assumes nothing.
use Rattle.std.specs.Prelude.{◌≡◌, refl, [], ◌∷◌}
use mir.Syntax.{Opd}
use Rattle.tracer.specs.Trace.{trace, end, computes, runs, leaves, either, chooses, case, tries_option}
use Rattle.packed_scan.proofs.first_request.Code as code

-- Read off the code: it looks into the byte of the first station, and where that has none, into the next byte that is not 0
by_bytes : (on : Opd) × (on₂ : Opd)
    × (trace (code.function).body end
    ≡ runs "packed_scan::lines::first_in_byte"
    (chooses on (case (1 ∷ []) (leaves end) end)
    (runs "search::highest"
    (computes
    (either (leaves end) end
    (computes
    (runs "packed_scan::lines::next_byte"
    (tries_option on₂ (computes (runs "packed_scan::lines::first_in_byte" (leaves end)))))))))))
by_bytes = (_, _, refl)
