-- `read_full`: what was read is within the buffer, and is what the input has lost.
-- Assumes nothing.
use Rattle.std.proofs.Common.{◌≤◌, length, take}
use Rattle.std.specs.Io.KnownBytes.{Consumes}
use Rattle.console.proofs.read_full.Given as goal

abbrev pub invariant-loop : goal.invariant-loop
invariant-loop g l =
    (l.done ≤ length l.buffer) × Consumes (g.R.Read.remaining l.initial.input) (g.R.Read.remaining l.input) (take l.done l.buffer)
