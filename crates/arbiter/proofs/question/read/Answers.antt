-- `read` meets its contract: where the highest byte is at most 1, no place is looked for.
-- Assumes nothing.
use Prim.Native.Nat.{◌≤◌}
use native.Mathlib.Omega.{arith}
use Rattle.search.specs.Places.{highest}
use Rattle.arbiter.specs.Questions.Laws.{highest_passes}
use Rattle.arbiter.proofs.question.read.Goals as goal

pub returns-else-high-gt1 : goal.returns-else-high-gt1
returns-else-high-gt1 c =
    let bytes = c.args.bytes.now in
    let low : highest bytes ≤ 1 = omega (arith, c.highest-high.ensures) in
    rw (highest_passes c.args.buffer bytes low, c.highest-high.ensures)
