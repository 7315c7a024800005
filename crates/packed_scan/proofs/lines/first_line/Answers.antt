-- An entry of the table tells the first line of a byte.
-- Assumes nothing.
use Rattle.std.specs.Prelude.{◌≡◌, refl, [], ◌∷◌}
use mir.Syntax.{Opd}
use Rattle.tracer.specs.Trace.{trace, end, computes, runs, leaves, either, chooses, case}
use Rattle.packed_scan.proofs.lines.first_line.Code as code

-- Read off the code: where no line from the start on is set there is none, where the start's own is, it is that; else an entry of the
-- table tells, once, and 8 is none
one_entry : (on : Opd)
    × (trace (code.function).body end
    ≡ computes
    (computes
    (computes
    (either (leaves end) end
    (computes
    (computes
    (either (leaves end) end
    (runs "packed_scan::lines::entry"
    (chooses on (case (8 ∷ []) end (case [] (runs "core::convert::UsizeFromU8::from" end) end)) (leaves end))))))))))
one_entry = (_, refl)
