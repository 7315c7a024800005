-- `grant_run` meets its contract: up to station i of the run the grants are written.
-- Assumes nothing.
use Rattle.std.proofs.Common.{◌≡◌, ℕ, ◌<◌, get_or}
use Rattle.kogge_stone.specs.Steps.{grant_of}
use Rattle.kogge_stone.proofs.grant_run.Given as goal

abbrev pub invariant-loop-i : goal.invariant-loop-i
invariant-loop-i l = (k : ℕ) → k < l.i → get_or l.grants k 0 ≡ grant_of l.full l.requests (get_or l.counts k 0) k
