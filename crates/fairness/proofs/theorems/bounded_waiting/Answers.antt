-- The theorem is the contract.
-- Assumes nothing.
use Rattle.fairness.proofs.Waiting.{bounded_waiting}
use Rattle.fairness.proofs.theorems.bounded_waiting.Goals as goal

pub returns : goal.returns
returns c = bounded_waiting
