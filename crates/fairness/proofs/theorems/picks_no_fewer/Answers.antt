-- The theorem is the contract.
-- Assumes nothing.
use Rattle.fairness.proofs.Waiting.{picks_no_fewer}
use Rattle.fairness.proofs.theorems.picks_no_fewer.Goals as goal

pub returns : goal.returns
returns c = picks_no_fewer
