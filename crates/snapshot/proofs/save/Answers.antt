-- `save` meets its contract: six bytes are written, each within a byte's range by the questions asked.
-- Assumes nothing.
use Rattle.std.proofs.Common.{◌∙◌, sym, refl, arith, length}
use Rattle.arbiter.specs.Questions.Laws.{writable}
use Rattle.snapshot.specs.Calls.{size}
use Rattle.snapshot.specs.Calls.Laws.{six_saved, mark_bit}
use Rattle.snapshot.proofs.save.Goals as goal

pub returns-clause-snapshot_after : goal.returns-clause-snapshot_after
returns-clause-snapshot_after c =
    let s = c.args.state.now in
    let passes = sym c.write.ensures ∙ c.in_ok-write.was in
    let known = writable s size (length c.args.snapshot.now) passes in
    rw (passes, c.copy_from_slice.ensures.after, c.to_le_bytes.ensures, c.to_le_bytes-2.ensures)
    (six_saved s (omega (arith, known.allows.most)) (omega (arith, known.allows.most)) c.first_station.ensures
    refl (omega (arith, c.first_station.ensures, known.allows.station, known.allows.most)) (rw (c.from.ensures, c.is_some.ensures) (mark_bit s.head)))
