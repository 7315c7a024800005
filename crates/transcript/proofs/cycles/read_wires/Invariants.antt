-- `read_wires` meets its contract: the bytes are written up to the i-th.
-- Assumes nothing.
use Rattle.std.proofs.Common.{◌≡◌, ℕ, ◌<◌, get_or}
use Rattle.transcript.specs.Cycles.{wire}
use Rattle.transcript.proofs.cycles.read_wires.Given as goal

abbrev pub invariant-loop-i : goal.invariant-loop-i
invariant-loop-i l = (k : ℕ) → k < l.i → get_or l.requests k 0 ≡ wire (get_or l.line k 0)
