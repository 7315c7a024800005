-- The theorem is the contract.
-- Assumes nothing.
use Rattle.fairness.proofs.Waiting.{picks_bounded}
use Rattle.fairness.proofs.theorems.picks_bounded.Goals as goal

pub returns : goal.returns
returns c = picks_bounded
