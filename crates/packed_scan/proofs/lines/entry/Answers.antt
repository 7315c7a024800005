-- `entry` meets its contract: the rows of the table are the definition's, which antt computes, so each of its entries is right.
-- Assumes nothing.
use Rattle.std.proofs.Common.{◌∙◌, refl, ap, arith}
use Rattle.rules.specs.Packing.{first_line, entries}
use Rattle.packed_scan.specs.Lines.Laws.{table_entry}
use Rattle.std.specs.Prelude.{◌≡◌}
use mir.Syntax.{ty_array, ty_int, w8}
use Rattle.tracer.specs.Trace.{trace, end, computes, runs, reads, leaves}
use Rattle.packed_scan.proofs.lines.entry.Code as code
use Rattle.packed_scan.proofs.lines.entry.Goals as goal

-- Read off the code: an entry is read from a table in memory, of eight rows of 256 bytes
one_read : trace (code.function).body end
    ≡ reads (ty_array (ty_array (ty_int w8) 256) 8)
    (runs "core::convert::UsizeFromU8::from" (computes (computes (computes (leaves end)))))
one_read = refl

pub returns : goal.returns
unfolding entries first_line
returns c = table_entry _ _ refl (omega arith) c.requires ∙ ap (λ byte. first_line byte c.args.start) c.from.ensures
